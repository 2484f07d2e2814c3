-- `ordered::is_ordered` meets its contract: the sides met about the vertices before v are counted.
-- Assumes nothing.
use Rattle.std.proofs.Common.{◌+◌, ◌-◌, ◌≤◌}
use Rattle.ordered.specs.Standing.{MetBy}
use Rattle.ordered.proofs.is_ordered.Given as goal

abbrev pub invariant-loop-v : goal.invariant-loop-v
invariant-loop-v l = (l.v ≤ l.n + 1) × MetBy l.n l.list (l.v - 1) l.met
