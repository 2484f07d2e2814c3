-- `checks::is_crowded` meets its contract. What the entry tells is in Maps.
-- Assumes nothing.
use Rattle.std.proofs.Common.{arith, eq-eqb}
use Rattle.theory.specs.Sides.{side_from}
use Rattle.checks.specs.Maps.{none_crowded, sibling_there, sibling_below, crowded_by}
use Rattle.checks.proofs.is_crowded.Goals as goal

pub slot_of-requires : goal.slot_of-requires
slot_of-requires c = side_from _ _ (sibling_there _ c.requires c.if-t-ne0.true)

pub overflow_add-result : goal.overflow_add-result
overflow_add-result c = omega (arith, sibling_below _ c.requires c.if-t-ne0.true c.slot_of.ensures)

pub offset_bounds-work-n-then-t-ne0 : goal.offset_bounds-work-n-then-t-ne0
offset_bounds-work-n-then-t-ne0 c = omega (arith, sibling_below _ c.requires c.if-t-ne0.true c.slot_of.ensures)

pub bounds-work-n-then-t-ne0 : goal.bounds-work-n-then-t-ne0
bounds-work-n-then-t-ne0 c = sibling_below _ c.requires c.if-t-ne0.true c.slot_of.ensures

pub returns-then-t-ne0 : goal.returns-then-t-ne0
returns-then-t-ne0 c = crowded_by _ c.requires c.if-t-ne0.true c.slot_of.ensures c.code_at.ensures

pub returns-else-t-ne0 : goal.returns-else-t-ne0
returns-else-t-ne0 c = rw (eq-eqb _ _ c.if-t-ne0.false) (none_crowded _ c.requires c.if-t-ne0.false)
