-- `print::put_rows` meets its contract.
-- Assumes nothing.
use Rattle.std.specs.Prelude.{refl}
use Rattle.std.proofs.Common.{arith}
use Rattle.print.specs.Lines.{joined, row_line}
use Rattle.print.specs.LineLaws.{joined_next}
use Rattle.print.proofs.put_rows.Goals as goal

pub loop-k-init : goal.loop-k-init
unfolding joined
loop-k-init c = (omega arith, (omega arith, refl))

pub loop-k-preserved : goal.loop-k-preserved
loop-k-preserved c = (
  omega (arith, c.put_row-p.ensures.upper_bound),
  joined_next (row_line c.args.c c.args.e2e.now) c.loop-k.k _ _ c.loop-k.invariant.1 c.put_row-p.ensures.written,
)
