-- `off_items::item_from` meets its contract: only blanks and comments were passed.
-- Assumes nothing.
use Rattle.std.specs.Prelude.{◌≡◌, ◌-◌, ◌≤◌, length}
use Rattle.off_items.specs.Parting.{rest}
use Rattle.off_items.proofs.item_from.Given as goal

abbrev pub invariant-loop-at : goal.invariant-loop-at
invariant-loop-at l = (l.p ≤ l.at) × (l.at ≤ length l.text) × (rest l.text l.p ≡ rest l.text l.at)

abbrev pub decreases-loop-at : goal.decreases-loop-at
decreases-loop-at l = length l.text - l.at
