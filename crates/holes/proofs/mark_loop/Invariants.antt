-- `holes::mark_loop`: a walk from b, whose steps are marked.
-- Assumes nothing.
use Rattle.std.proofs.Common.{◌-◌}
use Rattle.rules.specs.Queries.{Mesh}
use Rattle.holes.specs.Marks.{Of, Open}
use Rattle.holes.proofs.Marking.{Walk}
use Rattle.holes.proofs.mark_loop.Given as goal

abbrev pub invariant-loop-work : goal.invariant-loop-work
invariant-loop-work l =
    (M : Mesh) → Of M l.fn.k → Open M l.fn.b l.fn.h l.fn.work → Walk M l.fn.b l.fn.h l.fn.work l.work l.x l.count

abbrev pub decreases-loop-work : goal.decreases-loop-work
decreases-loop-work l = l.fn.k - l.count
