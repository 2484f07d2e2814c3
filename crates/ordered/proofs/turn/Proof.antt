-- `ordered::turn` meets its contract.
-- Assumes nothing.
use Prim.Native.Nat.{◌<◌}
use native.Mathlib.Omega.{arith}
use borrow.Author.Rules.{rules}
use lib.ListN.{length}
use Rattle.theory.specs.Sides.{side_from, slot_below}
use Rattle.ordered.specs.Fans.{turn_over, turn_on, on_side}
use Rattle.ordered.proofs.turn.Statement.{statement}
use Rattle.ordered.proofs.turn.Tie as tie

-- the place of s is in E2e
place : (c : tie.After-slot_of) → c.slot_of.result < length c.args.e2e.now
place c = rw c.slot_of.ensures (slot_below c.args.e2e.now _ c.requires.side)

slot_of_requires : tie.Need-slot_of-requires
slot_of_requires c κs = side_from _ _ c.requires.side

mul_t : tie.Need-offset_bounds-e2e-slot_of
mul_t c = omega (arith, place c)

shared_slice_read_t : tie.Need-bounds-e2e-slot_of
shared_slice_read_t c = place c.before

is_border_requires : tie.Need-is_border-requires
is_border_requires c κs = search rules

returns : tie.Need-returns-then-is_border
returns c =
    turn_over c.requires c.slot_of.ensures c.is_border.ensures c.if-is_border.true

next_by_row_requires : tie.Need-next_by_row-requires
next_by_row_requires c κs =
    on_side c.requires c.slot_of.ensures c.is_border.ensures c.if-is_border.false

returns_2 : tie.Need-returns
returns_2 c =
    turn_on c.requires c.slot_of.ensures c.is_border.ensures c.if-is_border.false c.next_by_row.ensures

pub turn_spec : {M : Type 1} → statement M
turn_spec =
    tie.close
    (tie.spec
    slot_of_requires
    mul_t
    shared_slice_read_t
    is_border_requires
    returns
    next_by_row_requires
    returns_2)
