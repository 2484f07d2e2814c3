-- `ordered::is_ordered` meets its contract: the sides met about the vertices before v are counted.
-- Assumes nothing.
use Rattle.std.proofs.Common.{◌≡◌, ◌-◌, arith}
use Rattle.ordered.specs.Standing.{MetBy}
use Rattle.ordered.specs.Fans.{none_met, means_all_met}
use Rattle.ordered.proofs.is_ordered.Goals as goal
use Rattle.ordered.proofs.is_ordered.Goals.{else-loop-v-test, then-loop-v-test+else-v-n}

pub loop-v-init : goal.loop-v-init
loop-v-init c = (omega arith, none_met _ _)

pub returns : goal.returns
returns c =
    let n = c.args.n in
    let L = c.args.list.now in
    let all : MetBy n L n c.loop-v-test.met =
    elim c.loop-v-test.branch [
      | else-loop-v-test w ↦
          let e : c.loop-v.v - 1 ≡ n = omega (arith, c.loop-v.invariant.0) in rw w.met-is (rw e at c.loop-v.invariant.1)
      | then-loop-v-test+else-v-n w ↦ let e : c.loop-v.v ≡ n = omega arith in rw w.met-is (rw e at w.count_about-met.ensures)
    ] in
    means_all_met c.requires.0 c.requires.1 all
