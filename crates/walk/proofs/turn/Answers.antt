-- `walk::turn` meets its contract.
-- Assumes nothing.
use Rattle.std.proofs.Common.{arith}
use Rattle.theory.specs.Sides.{side_from, slot_below}
use Rattle.walk.specs.Sides.{turn_none, turn_next}
use Rattle.walk.proofs.turn.Goals as goal

pub slot_of-requires : goal.slot_of-requires
slot_of-requires c = side_from _ _ c.requires

pub offset_bounds-e2e-slot_of : goal.offset_bounds-e2e-slot_of
offset_bounds-e2e-slot_of c = omega (arith, c.slot_of.ensures, slot_below c.args.e2e.now _ c.requires)

pub bounds-e2e-slot_of : goal.bounds-e2e-slot_of
bounds-e2e-slot_of c = rw c.slot_of.ensures (slot_below c.args.e2e.now _ c.requires)

pub returns-then-is_side : goal.returns-then-is_side
returns-then-is_side c = turn_next _ _ c.slot_of.ensures c.is_side.ensures c.if-is_side.true c.next_by_row.ensures

pub returns-else-is_side : goal.returns-else-is_side
returns-else-is_side c = turn_none _ _ c.slot_of.ensures c.is_side.ensures c.if-is_side.false
