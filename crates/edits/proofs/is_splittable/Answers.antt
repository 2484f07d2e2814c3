-- `edits::is_splittable` meets its contract: each way out goes by the tests before it.
-- Assumes nothing.
use mathlib.Core.Path.{◌≡◌, ap, sym, ◌∙◌}
use mathlib.Core.List.{List}
use mathlib.Core.Bool.{Bool, true}
use Prim.Native.Nat.{ℕ, ◌/◌}
use native.Mathlib.Omega.{arith}
use lib.Dec.{eqb}
use Rattle.rules.specs.Elements.{Side, is_side, sides}
use Rattle.rules.specs.Tables.{partner}
use Rattle.theory.specs.Pairings.{partner_opposed}
use Rattle.halfedge.specs.Codes.{of_border, of_side}
use Rattle.edits.specs.Trying.{entry_border, entry_partner, row_inside}
use Rattle.edits.specs.Splittable.{not_side, not_triangle, nothing_across, by_across}
use Rattle.edits.proofs.is_splittable.Goals as goal
use Rattle.edits.proofs.is_splittable.Goals.{then-not-is_side-via-then-not-is_side, then-not-is_side-via-else-not-is_side+then-not-is_triangle}

side_told : (L : List ℕ) (s : ℕ) → true ≡ is_side L s → Side L s
side_told L s e = rw (sym e) tt

-- f, the element of s, is a triangle or not
own : (L : List ℕ) (s : ℕ) {f : ℕ} {b : Bool} → f ≡ s / 8 → b ≡ eqb (sides L f) 3 → eqb (sides L (s / 8)) 3 ≡ b
own L s e h = ap (λ (f : ℕ). eqb (sides L f) 3) (sym e) ∙ sym h

pub is_triangle-requires : goal.is_triangle-requires
is_triangle-requires c =
    let a = c.args in
    omega (arith, row_inside a.list.now a.s (side_told a.list.now a.s c.if-not-is_side.ensures), c.element_of.ensures)

pub returns-then-not-is_side : goal.returns-then-not-is_side
returns-then-not-is_side c =
    let a = c.args in
    let L = a.list.now in
    elim c.then-not-is_side.branch [
      | then-not-is_side-via-then-not-is_side w ↦ not_side L a.s (sym w.if-not-is_side.ensures)
      | then-not-is_side-via-else-not-is_side+then-not-is_triangle w ↦
          not_triangle L a.s (side_told L a.s w.if-not-is_side.ensures) (own L a.s w.element_of.ensures w.if-not-is_triangle.ensures)
    ]

pub entry_of-t-requires : goal.entry_of-t-requires
entry_of-t-requires c = (c.requires, side_told c.args.list.now c.args.s c.if-not-is_side.ensures)

pub is_triangle-requires-else-is_border : goal.is_triangle-requires-else-is_border
is_triangle-requires-else-is_border c =
    let a = c.args in
    let L = a.list.now in
    let (e, d) = entry_partner L a.s (side_told L a.s c.if-not-is_side.ensures) c.entry_of-t.ensures (of_side _ c.is_border.ensures c.if-is_border.false) in
    omega (arith, row_inside L (partner L a.s) (partner_opposed L a.s d).0, c.element_of-else-is_border.ensures, ap (λ (t : ℕ). t / 8) e)

pub returns-then-is_border : goal.returns-then-is_border
returns-then-is_border c =
    let a = c.args in
    let L = a.list.now in
    let side = side_told L a.s c.if-not-is_side.ensures in
    c.if-is_border.true
    ∙ nothing_across L a.s side (own L a.s c.element_of.ensures c.if-not-is_triangle.ensures)
    (entry_border L a.s side c.entry_of-t.ensures (of_border _ c.is_border.ensures c.if-is_border.true))

pub returns-else-is_border : goal.returns-else-is_border
returns-else-is_border c =
    let a = c.args in
    let L = a.list.now in
    let side = side_told L a.s c.if-not-is_side.ensures in
    let (e, d) = entry_partner L a.s side c.entry_of-t.ensures (of_side _ c.is_border.ensures c.if-is_border.false) in
    c.is_triangle-else-is_border.ensures
    ∙ ap (λ (g : ℕ). eqb (sides L g) 3) (c.element_of-else-is_border.ensures ∙ ap (λ (t : ℕ). t / 8) e)
    ∙ sym (by_across L a.s side (own L a.s c.element_of.ensures c.if-not-is_triangle.ensures) d)
