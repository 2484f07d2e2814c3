-- `text::read_list` meets its contract: the numbers of the fields passed so far stand in the list.
-- Assumes nothing.
use Rattle.std.specs.Prelude.{◌++◌, ◌≡◌, ◌+◌, ◌*◌, ◌≤◌, drop}
use Rattle.lists.specs.Search.{tab}
use Rattle.text.specs.Form.{place, the_number}
use Rattle.text.proofs.read_list.Given as goal

abbrev pub invariant-loop-i : goal.invariant-loop-i
invariant-loop-i l =
    (l.at ≤ 9 * l.i + 18) × (l.at ≡ place l.text (l.i + 2)) × (l.list ≡ tab l.i (the_number l.text) ++ drop l.i l.initial.list)
