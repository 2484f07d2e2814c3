-- `gaps::fewer` meets its contract.
-- Assumes nothing.
use mathlib.Core.Path.{sym}
use Rattle.halfedge.specs.Codes.{of_border, of_side}
use Rattle.gaps.specs.Closing.{one_fewer, two_fewer}
use Rattle.gaps.proofs.fewer.Goals as goal

pub returns-then-is_border : goal.returns-then-is_border
returns-then-is_border c = let a = c.args in sym (one_fewer a.m a.t (of_border _ c.is_border.ensures c.if-is_border.true))

pub overflow_sub-result-2 : goal.overflow_sub-result-2
overflow_sub-result-2 c = c.requires.1 (of_side _ c.is_border.ensures c.if-is_border.false)

pub returns : goal.returns
returns c = let a = c.args in sym (two_fewer a.m a.t (of_side _ c.is_border.ensures c.if-is_border.false))
