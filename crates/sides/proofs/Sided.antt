-- What the row of a side's element says of the side.
-- Assumes nothing.
use mathlib.Core.Bool.{Bool, true, false}
use mathlib.Core.Logic.{◌⊎◌, inl, inr}
use mathlib.Core.Path.{◌≡◌, refl, ap, sym, subst, ◌∙◌}
use mathlib.Core.List.{List}
use Prim.Native.Nat.{ℕ, ◌+◌, ◌*◌, ◌/◌, ◌%◌, ◌≤◌, ◌<◌}
use native.Mathlib.Omega.{arith}
use lib.Dec.{leb}
use lib.ListN.{length}
use borrow.Author.Tests.{le-leb, lt-leb}
use Rattle.lists.specs.Tests.{both, within}
use Rattle.rules.specs.Elements.{elements, sides, is_side, Side, row, slot, origin, destination, next_number, next}
use Rattle.halfedge.specs.Rows.{row_of, sides_of, corner_of, turned, next_side, next_early, three_sides, row_sides, part_corner, row_corner, row_turned}
use Rattle.theory.specs.Sides.{side_facts}
use Rattle.theory.specs.Steps.{Numbered, next_numbered}

-- the tests of a code by its element f and its number i
pub side_by : (L : List ℕ) (s : ℕ) {f i : ℕ} → f ≡ s / 8 → i ≡ s % 8 → is_side L s ≡ both (within 1 (elements L) f) (within 1 (sides L f) i)
unfolding is_side
side_by L s e d = rw (e, d)

-- an element has three sides at least
pub element_sides : (L : List ℕ) (f : ℕ) → 3 ≤ sides L f
element_sides L f = subst (λ (k : ℕ). 3 ≤ k) (row_sides L f) (three_sides (row_of (row L f)))

-- the same for an element f that is there: no number, a number that every element has, and one by the row of f
module _ (L : List ℕ) (s f i : ℕ) (e : f ≡ s / 8) (d : i ≡ s % 8) where
  module _ (from : 1 ≤ f) (to : f ≤ elements L) where
    by_number : is_side L s ≡ within 1 (sides L f) i
    by_number = side_by L s e d ∙ simp (le-leb 1 _ from, le-leb _ _ to)

    pub no_number : i < 1 → false ≡ is_side L s
    no_number h = sym (by_number ∙ simp (lt-leb 1 _ h))

    pub early_side : 1 ≤ i → i < 4 → true ≡ is_side L s
    early_side a b = let h : i ≤ sides L f = omega (arith, element_sides L f) in sym (by_number ∙ simp (le-leb 1 _ a, le-leb _ _ h))

    pub by_count : 1 ≤ i → {r : List ℕ} {k : ℕ} → r ≡ row_of (row L f) → k ≡ sides_of r → leb i k ≡ is_side L s
    by_count a er ek = let h : _ ≡ sides L f = ek ∙ ap sides_of er ∙ row_sides L f in sym (by_number ∙ simp (le-leb 1 _ a, sym h))

  pub no_element : (f < 1) ⊎ (elements L < f) → false ≡ is_side L s
  no_element (inl h) = sym (side_by L s e d ∙ simp (lt-leb 1 _ h))
  no_element (inr h) = sym (side_by L s e d ∙ none (leb 1 f))
    where
      none : (b : Bool) → both (both b (leb f (elements L))) (within 1 (sides L f) i) ≡ false
      none true = simp (lt-leb _ _ h)
      none false = refl

-- the side s, read by its element f, its number i and the row r of that element
module _ (L : List ℕ) (s : ℕ) (a : Side L s) {f : ℕ} (ef : f ≡ s / 8) where
  pub row_there : (1 ≤ f) × (4 * f ≤ length L)
  row_there = omega (arith, side_facts L s a)

  -- the corner where it begins, read from the element's part p
  pub origin_read : {i x : ℕ} {p : List ℕ} → i ≡ s % 8 → p ≡ row L f → x ≡ corner_of p i → x ≡ origin L s
  unfolding origin slot
  origin_read {i} {p = p} ei ep q =
      let x = side_facts L s a in
      q ∙ ap (corner_of p) ei ∙ ap (λ (t : List ℕ). corner_of t (s % 8)) (ep ∙ ap (row L) ef)
      ∙ part_corner L (s / 8) (s % 8) x.number_from x.number_four

  -- sides 1 and 2 are followed alike by every row
  pub early_read : {i : ℕ} → i ≡ s % 8 → i < 3 → (r : List ℕ) {j : ℕ} → j ≡ next_side r i → j ≡ next_number (sides L (s / 8)) (s % 8)
  early_read {i} ei h r q =
      let x = side_facts L s a in
      let l : 1 ≤ i = omega (arith, x.number_from) in
      q ∙ next_early r i l h ∙ sym (next_early (row_of (row L (s / 8))) i l h)
      ∙ ap (next_side (row_of (row L (s / 8)))) ei ∙ row_turned L (s / 8) next_number (s % 8) x.number_from x.number_to

  -- the number that was stepped to is at most 4
  pub step_four : {j r : ℕ} (turn : ℕ → ℕ → ℕ) → j ≡ turn (sides L (s / 8)) (s % 8) → Numbered L s (turn (sides L (s / 8)) (s % 8)) r → j ≤ 4
  step_four {r = r} turn e x = omega (arith, e, x.index, (side_facts L r x.side).number_four)

  -- what was stepped to is side j of the element
  pub step_read : {j c : ℕ} (turn : ℕ → ℕ → ℕ) → j ≡ turn (sides L (s / 8)) (s % 8) → c ≡ 8 * f + j → c ≡ 8 * (s / 8) + turn (sides L (s / 8)) (s % 8)
  step_read {j} turn e q = q ∙ ap (λ (g : ℕ). 8 * g + j) ef ∙ ap (λ (k : ℕ). 8 * (s / 8) + k) e

  module _ {i : ℕ} {r : List ℕ} (ei : i ≡ s % 8) (er : r ≡ row_of (row L f)) where
    row_is : r ≡ row_of (row L (s / 8))
    row_is = er ∙ ap (λ (g : ℕ). row_of (row L g)) ef

    -- a step within the element
    pub turn_read : (turn : ℕ → ℕ → ℕ) {j : ℕ} → j ≡ turned turn r i → j ≡ turn (sides L (s / 8)) (s % 8)
    turn_read turn q =
        let x = side_facts L s a in
        q ∙ ap (turned turn r) ei ∙ ap (λ (p : List ℕ). turned turn p (s % 8)) row_is
        ∙ row_turned L (s / 8) turn (s % 8) x.number_from x.number_to

    pub destination_read : {j x : ℕ} → j ≡ next_side r i → x ≡ corner_of r j → x ≡ destination L s
    unfolding origin slot
    destination_read {j} d q =
        let x = next_numbered L s a in
        let g = side_facts L (next L s) x.side in
        let e : j ≡ next L s % 8 = turn_read next_number d ∙ sym x.index in
        q ∙ ap (corner_of r) e ∙ ap (λ (p : List ℕ). corner_of p (next L s % 8)) (row_is ∙ ap (λ (h : ℕ). row_of (row L h)) (sym x.same))
        ∙ row_corner L (next L s / 8) (next L s % 8) g.number_from g.number_four
