-- `walk::walk_empty` meets its contract: the vertices before v are walked about.
-- Assumes nothing.
use Rattle.std.proofs.Common.{◌+◌, ◌-◌, ◌≤◌}
use Rattle.walk.specs.Walks.{Walks}
use Rattle.walk.proofs.walk_empty.Given as goal

abbrev pub invariant-loop-v : goal.invariant-loop-v
invariant-loop-v l = (l.v ≤ l.n + 1) × Walks l.n l.m (l.v - 1) l.initial.work l.work
