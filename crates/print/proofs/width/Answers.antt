-- `print::width` meets its contract.
-- Assumes nothing.
use Rattle.std.proofs.Common.{sym}
use Rattle.print.specs.LineLaws.{width_three, width_four}
use Rattle.print.proofs.width.Goals as goal

pub returns-then-columns-eq3 : goal.returns-then-columns-eq3
returns-then-columns-eq3 c = sym (width_three c.if-columns-eq3.true)

pub returns-else-columns-eq3 : goal.returns-else-columns-eq3
returns-else-columns-eq3 c = sym (width_four c.if-columns-eq3.false)
