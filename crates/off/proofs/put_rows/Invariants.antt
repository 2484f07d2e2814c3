-- `off::put_rows` meets its contract: the rows of f faces are written, the other entries stand as they came.
-- Assumes nothing.
use Rattle.std.specs.Prelude.{◌≡◌, ◌++◌, ◌*◌, drop}
use Rattle.lists.specs.Search.{tab}
use Rattle.off_rules.specs.Off.{items, corner_entry}
use Rattle.off.specs.Writing.{At}
use Rattle.off.proofs.put_rows.Given as goal

abbrev pub invariant-loop-f : goal.invariant-loop-f
invariant-loop-f l =
    (l.list ≡ tab (4 * l.f) (corner_entry (items l.text)) ++ drop (4 * l.f) l.initial.list) × At l.text l.f l.at
