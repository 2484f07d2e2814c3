-- `text::go_over` meets its contract: the fields passed so far are good.
-- Assumes nothing.
use Rattle.std.specs.Prelude.{not, ◌≡◌, ◌*◌, ◌≤◌}
use Rattle.lists.specs.Steps.{None}
use Rattle.text.specs.Form.{good_field, place}
use Rattle.text.proofs.go_over.Given as goal

abbrev pub invariant-loop-i : goal.invariant-loop-i
invariant-loop-i l = (l.at ≤ 9 * l.i) × (l.at ≡ place l.text l.i) × None (λ i. not (good_field l.text i)) l.i
