-- `walk::is_open` meets its contract.
-- Assumes nothing.
use Rattle.std.proofs.Common.{◌≡◌, sym, ◌∙◌, ◌+◌, ◌*◌, ◌-◌, ◌<◌, ℕ, List, Bool, true, T, arith}
use Rattle.lists.specs.Parts.{part}
use Rattle.rules.specs.Elements.{is_side, Side, slot}
use Rattle.theory.specs.Sides.{side_from}
use Rattle.walk.specs.Layout.{Sizes, e2e_in}
use Rattle.walk.specs.Sides.{lent, slot_in}
use Rattle.walk.proofs.is_open.Goals as goal

-- what the test says of s, and the place of s
module _ (n m s : ℕ) (w : List ℕ) {b : Bool} (tested : b ≡ is_side (part n (n + 4 * m - n) w) s) (passed : b ≡ true) where
  a_side : Side (e2e_in n m w) s
  a_side = let t : T (is_side (part n (n + 4 * m - n) w) s) = rw (sym tested ∙ passed) tt in rw lent at t

  place : Sizes n m w → {p : ℕ} → p ≡ slot s → p < 4 * m
  place z e = rw e (slot_in n m w z s a_side)

pub slot_of-requires : goal.slot_of-requires
slot_of-requires c = side_from _ _ (a_side c.args.n c.args.m c.args.s c.args.work.now c.is_side.ensures c.if-is_side.true)

pub overflow_add-result-then-is_side : goal.overflow_add-result-then-is_side
overflow_add-result-then-is_side c = omega (arith, place c.args.n c.args.m c.args.s c.args.work.now c.is_side.ensures c.if-is_side.true c.requires c.slot_of.ensures)

pub offset_bounds-work-n-then-is_side : goal.offset_bounds-work-n-then-is_side
offset_bounds-work-n-then-is_side c = omega (arith, place c.args.n c.args.m c.args.s c.args.work.now c.is_side.ensures c.if-is_side.true c.requires c.slot_of.ensures)

pub bounds-work-n : goal.bounds-work-n
bounds-work-n c = omega (arith, place c.args.n c.args.m c.args.s c.args.work.now c.is_side.ensures c.if-is_side.true c.requires c.slot_of.ensures)
