-- `holes::read_nexts`: next of the first b border half-edges stands in the work.
-- Assumes nothing.
use Rattle.std.proofs.Common.{◌≡◌, ◌≤◌, ℕ, length}
use Rattle.holes.specs.Marks.{Pending}
use Rattle.holes.proofs.read_nexts.Given as goal

abbrev pub invariant-loop-b : goal.invariant-loop-b
invariant-loop-b l =
    ((z : ℕ) → 1 ≤ z → z ≤ l.b → Pending l.fn.fitting l.work z) × (length l.work ≡ length l.fn.work)
