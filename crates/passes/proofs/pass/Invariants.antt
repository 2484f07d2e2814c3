-- `passes::pass`: what holds after some of its steps, and how many may be left.
-- Assumes nothing.
use Rattle.std.proofs.Common.{◌-◌}
use Rattle.passes.proofs.Passes.{Passing}
use Rattle.passes.proofs.pass.Given as goal

abbrev pub invariant-loop-x : goal.invariant-loop-x
invariant-loop-x g l =
    let w = l.fn.walk in
    Passing (g.W.Walk.stands w) (g.W.Walk.shows w) (g.W.Walk.goes w) l.fn.limit l.fn.start l.fn.out l.count l.x l.out

abbrev pub decreases-loop-x : goal.decreases-loop-x
decreases-loop-x g l = l.fn.limit - l.count
