-- `split::by_border` meets its contract.
-- Assumes nothing.
use mathlib.Core.Path.{sym}
use Rattle.halfedge.specs.Codes.{of_border, of_side}
use Rattle.split.specs.NewRows.{for_border, for_inner}
use Rattle.split.proofs.by_border.Goals as goal

pub returns-then-is_border : goal.returns-then-is_border
returns-then-is_border c = let a = c.args in sym (for_border a.t a.border a.inner (of_border _ c.is_border.ensures c.if-is_border.true))

pub returns-else-is_border : goal.returns-else-is_border
returns-else-is_border c = let a = c.args in sym (for_inner a.t a.border a.inner (of_side _ c.is_border.ensures c.if-is_border.false))
