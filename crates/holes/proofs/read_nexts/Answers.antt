-- `holes::read_nexts` meets its contract.
-- Assumes nothing.
use mathlib.Core.Path.{sym, ◌∙◌}
use native.Mathlib.Omega.{arith}
use lib.ListN.{length-set}
use Rattle.theory.specs.Reaching.{next_in}
use Rattle.holes.proofs.Reading.{put_next}
use Rattle.holes.proofs.read_nexts.Goals as goal

pub overflow_add-work : goal.overflow_add-work
overflow_add-work c =
    omega (arith, c.border_count-k.ensures.count, c.border_count-k.ensures.most, next_in c.args.fitting.now _ _ (sym c.in_ok-work.ensures))

pub loop-b-preserved : goal.loop-b-preserved
loop-b-preserved c =
    let (before, long) = c.loop-b.invariant in
    let size = c.border_count-k.ensures.count in (
      put_next c.args.fitting.now _ _ _ size c.wide.ensures (omega (arith, size, c.loop-b-test.true, c.requires, long)) (sym c.in_ok-work.ensures) before,
      length-set c.loop-b.work _ _ ∙ long,
    )
