-- `print::put_items` meets its contract.
-- Assumes nothing.
use Rattle.std.specs.Prelude.{refl}
use Rattle.std.proofs.Common.{arith}
use Rattle.print.specs.Lines.{joined, item}
use Rattle.print.specs.LineLaws.{joined_next}
use Rattle.print.proofs.put_items.Goals as goal

pub loop-i-init : goal.loop-i-init
unfolding joined
loop-i-init c = (omega arith, (omega arith, refl))

pub loop-i-preserved : goal.loop-i-preserved
loop-i-preserved c = (
  omega (arith, c.put_item-p.ensures.upper_bound),
  joined_next (item c.args.numbers.now) c.loop-i.i _ _ c.loop-i.invariant.1 c.put_item-p.ensures.written,
)
