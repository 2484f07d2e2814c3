-- `checks::first_sides` meets its contract: the rows from f on are done.
-- Assumes nothing.
use Rattle.std.proofs.Common.{◌*◌}
use Rattle.checks.proofs.Putting.{Sofar}
use Rattle.checks.proofs.first_sides.Given as goal

abbrev pub invariant-loop-f : goal.invariant-loop-f
invariant-loop-f l = Sofar l.n l.list l.initial.work l.work (4 * l.f)
