-- `unordered::unordered_vertex` meets its contract: the least missed entry below p.
-- Assumes nothing.
use Rattle.std.proofs.Common.{drop}
use Rattle.unordered.specs.Missed.{LeastBelow}
use Rattle.unordered.proofs.unordered_vertex.Given as goal

abbrev pub invariant-loop-p : goal.invariant-loop-p
invariant-loop-p l = LeastBelow l.list (drop l.o l.work) l.p l.best
