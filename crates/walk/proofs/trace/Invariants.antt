-- `walk::trace` meets its contract: what is still to come is what is to come from s.
-- Assumes nothing.
use Rattle.lists.specs.Search.{zeros}
use Rattle.walk.specs.Layout.{written}
use Rattle.walk.specs.Traces.{Tracing}
use Rattle.walk.proofs.trace.Given as goal

abbrev pub invariant-loop-p : goal.invariant-loop-p
invariant-loop-p l = Tracing l.n l.m l.v l.s l.initial.work l.work l.t

abbrev pub decreases-loop-p : goal.decreases-loop-p
decreases-loop-p l = zeros (written l.n l.m l.work)
