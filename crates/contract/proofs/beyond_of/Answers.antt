-- `contract::beyond_of` meets its contract.
-- Assumes nothing.
use Rattle.halfedge.specs.Codes.{of_border, of_side}
use Rattle.contract.specs.Edges.{at_border, partner_there, at_inner}
use Rattle.contract.proofs.beyond_of.Goals as goal

pub returns-then-is_border : goal.returns-then-is_border
returns-then-is_border c =
    at_border c.args.list.now c.args.s c.requires.0 c.requires.1 (of_border _ c.is_border.ensures c.if-is_border.true)
    c.third_of.ensures

pub third_of-requires-else-is_border : goal.third_of-requires-else-is_border
third_of-requires-else-is_border c =
    partner_there c.args.list.now c.args.s c.requires.0 c.requires.1 (of_side _ c.is_border.ensures c.if-is_border.false)

pub returns-else-is_border : goal.returns-else-is_border
returns-else-is_border c =
    at_inner c.args.list.now c.args.s c.requires.0 c.requires.1 (of_side _ c.is_border.ensures c.if-is_border.false)
    c.third_of-else-is_border.ensures
