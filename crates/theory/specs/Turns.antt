-- The tables of a list, read as the walk reads them, in four columns: E2e speaks of the list's sides, and gives each side's turn and each walk's start.
-- Assumes nothing.
use Rattle.std.specs.Prelude.{◌≡◌, Bool, not, ◌⊎◌, ◌↔◌, List, ℕ, ◌+◌, ◌*◌, ◌-◌, ◌/◌, ◌%◌, ◌≤◌, T, eqb}
use Rattle.std.proofs.Math.Path.{refl}
use Rattle.std.proofs.Common.{ap, sym, subst, ◌∙◌, inl, inr, T_not}
use native.Mathlib.Omega.{arith}
use Rattle.std.proofs.Math.Dec.{not_T}
use Rattle.std.proofs.Math.ListN.{length}
use Rattle.lists.specs.TestLaws.{true_of, false_of, means_not, means_eq, means_within, zero_or}
use Rattle.lists.specs.Tests.{within}
use Rattle.lists.specs.Search.{at}
use Rattle.rules.specs.Elements.{elements, corner, sides, is_side, Side, slot, next, side_at, first_side}
use Rattle.rules.specs.Tables.{partner, border_number, columns, wide}
use Rattle.rules.specs.Recovery.{side_of_border, walk_start, turn_by}
use Rattle.theory.specs.Sides.{SidesBy, three, four, sides_by_lem, side_facts, side_of_lem, side_positive, slot_side_at}
use Rattle.theory.specs.Least.{First, nobody, somebody, first_side_lem}
use Rattle.theory.specs.Pairings.{partner_opposed}
use Rattle.theory.specs.Columns.{Columns, columns_are_lem, three_or_four}
use Rattle.theory.specs.Entries.{length_wide, wide_paired, wide_border, wide_empty, wide_nonzero, border_no_side, number_from, number_le, number_inj}

module _ (L : List ℕ) where
  pub elements_wide : elements (wide L) ≡ elements L
  elements_wide = omega (arith, length_wide L)

  -- the side whose corner is the fourth of element f
  pub fourth : (f : ℕ) → 1 ≤ f → side_at (4 * (f - 1) + 3) ≡ 8 * f + 4
  unfolding side_at
  fourth f h = omega arith

  fourth_side : (f : ℕ) → 1 ≤ f → f ≤ elements L → (corner L f 4 ≡ 0 → ⊥) → Side L (8 * f + 4)
  fourth_side f a b c =
      let e : (8 * f + 4) / 8 ≡ f = omega arith in
      let g : (8 * f + 4) % 8 ≡ 4 = omega arith in
      side_of_lem L (8 * f + 4) (rw e a) (rw e b) (omega arith) (rw (g, e) (go (sides_by_lem (corner L f 4))))
    where
      go : {k : ℕ} → SidesBy (corner L f 4) k → 4 ≤ k
      go (three z e) = absurd (c z)
      go (four z e) = omega arith

  pub fourth_none : (f : ℕ) → corner L f 4 ≡ 0 → T (not (is_side L (8 * f + 4)))
  fourth_none f c =
      not_T (is_side L (8 * f + 4))
      (λ a.
      let e : (8 * f + 4) / 8 ≡ f = omega arith in
      let g : (8 * f + 4) % 8 ≡ 4 = omega arith in
      go (sides_by_lem (corner L f 4)) (rw (e, g) at (side_facts L (8 * f + 4) a).number_to))
    where
      go : {k : ℕ} → SidesBy (corner L f 4) k → 4 ≤ k → ⊥
      go (three z e) h = omega arith
      go (four z e) h = z c

  -- no element has a fourth corner exactly in three columns, and some one exactly in four
  pub triangles : (columns L ≡ 3) ↔ ((f : ℕ) → 1 ≤ f → f ≤ elements L → corner L f 4 ≡ 0)
  triangles = go (columns_are_lem L)
    where
      go : Columns L (columns L) → (columns L ≡ 3) ↔ ((f : ℕ) → 1 ≤ f → f ≤ elements L → corner L f 4 ≡ 0)
      go (Columns.three e none) = ((λ z f a b. no_fourth none f a b (zero_or (corner L f 4))), (λ h. e))
        where
          no_fourth : ((s : ℕ) → Side L s → s % 8 ≤ 3) → (f : ℕ) → 1 ≤ f → f ≤ elements L → (corner L f 4 ≡ 0) ⊎ (corner L f 4 ≡ 0 → ⊥) → corner L f 4 ≡ 0
          no_fourth none f a b (inl z) = z
          no_fourth none f a b (inr d) = absurd (omega (arith, none (8 * f + 4) (fourth_side f a b d)))
      go (Columns.four e s a i) =
          let x = side_facts L s a in
          ((λ z. absurd (omega arith)), (λ h. absurd (no_side s a i (h (s / 8) x.element_from x.element_to))))
        where
          no_side : (s : ℕ) → Side L s → s % 8 ≡ 4 → corner L (s / 8) 4 ≡ 0 → ⊥
          no_side s a i z =
              let e : 8 * (s / 8) + 4 ≡ s = omega arith in T_not (is_side L s) (rw e at (fourth_none (s / 8) z)) a

  pub quadrilateral : (columns L ≡ 4) ↔ ((f : ℕ) × (1 ≤ f) × (f ≤ elements L) × (corner L f 4 ≡ 0 → ⊥))
  quadrilateral = (
    λ e. go e (columns_are_lem L),
    λ (f, a, b, d). elim (three_or_four L) [ inl e ↦ absurd (d (triangles.0 e f a b)) | inr e ↦ e ],
  )
    where
      go : columns L ≡ 4 → Columns L (columns L) → (f : ℕ) × (1 ≤ f) × (f ≤ elements L) × (corner L f 4 ≡ 0 → ⊥)
      go e (Columns.three z none) = absurd (omega arith)
      go e (Columns.four z s a i) =
          let x = side_facts L s a in
          (s / 8, x.element_from, x.element_to, λ c. T_not (is_side L s) (subst (λ (t : ℕ). T (not (is_side L t))) (omega arith) (fourth_none (s / 8) c)) a)

  -- E2e marks triangles as the list does
  pub sides_wide : (f : ℕ) → 1 ≤ f → f ≤ elements L → sides (wide L) f ≡ sides L f
  sides_wide f a b = go (sides_by_lem (corner L f 4)) (sides_by_lem (corner (wide L) f 4))
    where
      go : {k j : ℕ} → SidesBy (corner L f 4) k → SidesBy (corner (wide L) f 4) j → j ≡ k
      go (three z e) (three y d) = omega arith
      go (four z e) (four y d) = omega arith
      go (three z e) (four y d) =
          absurd (y (wide_empty L (4 * (f - 1) + 3) (rw (fourth f a) (fourth_none f z))))
      go (four z e) (three y d) =
          let w = fourth_side f a b z in
          absurd (wide_nonzero L (8 * f + 4) w (ap (at (wide L)) (slot_fourth f a) ∙ y))
        where
          slot_fourth : (f : ℕ) → 1 ≤ f → slot (8 * f + 4) ≡ 4 * (f - 1) + 3
          slot_fourth f a = sym (ap slot (fourth f a)) ∙ slot_side_at (4 * (f - 1) + 3)

  pub side_wide : (s : ℕ) → Side (wide L) s → Side L s
  side_wide s a =
      let f = side_facts (wide L) s a in
      let h : s / 8 ≤ elements L = rw elements_wide at f.element_to in
      side_of_lem L s f.element_from h f.number_from (rw (sides_wide (s / 8) f.element_from h) at f.number_to)

  pub wide_side : (s : ℕ) → Side L s → Side (wide L) s
  wide_side s a =
      let f = side_facts L s a in
      side_of_lem (wide L) s f.element_from (rw elements_wide f.element_to) f.number_from
      (rw (sides_wide (s / 8) f.element_from f.element_to) f.number_to)

  pub next_wide : (s : ℕ) → Side L s → next (wide L) s ≡ next L s
  unfolding next
  next_wide s a =
      let f = side_facts L s a in rw (sides_wide (s / 8) f.element_from f.element_to)

  -- the turn of a paired side, and of a border side
  pub turn_paired : (s : ℕ) → Side L s → (partner L s ≡ 0 → ⊥) → turn_by (wide L) s ≡ next L (partner L s)
  unfolding turn_by
  turn_paired s a z =
      let b = (partner_opposed L s z).0 in
      let e = wide_paired L s a z in
      rw (true_of (is_side (wide L) (at (wide L) (slot s))) (rw e (wide_side (partner L s) b)), turn_by)
      (ap (next (wide L)) e ∙ next_wide (partner L s) b)

  pub turn_border : (s : ℕ) → Side L s → partner L s ≡ 0 → turn_by (wide L) s ≡ 0
  unfolding turn_by
  turn_border s a z =
      rw (false_of (is_side (wide L) (at (wide L) (slot s))) (rw (wide_border L s a z) (not_T (is_side (wide L) (8 * border_number L s)) (border_no_side L (wide L) (border_number L s)))), turn_by)

  -- the walk about a rim vertex begins at the side following its border side, and about any other at its V2e entry
  entry_is : ℕ → ℕ → Bool
  entry_is c t = eqb (at (wide L) (slot t)) c

  rim_found : (s r : ℕ) → Side L s → partner L s ≡ 0 → First (wide L) (entry_is (8 * border_number L s)) r → r ≡ s
  unfolding entry_is
  rim_found s r a z (nobody e f) =
      absurd (T_not (entry_is (8 * border_number L s) s) (f s (wide_side s a)) ((means_eq _ _).shows (wide_border L s a z)))
  rim_found s r a z (somebody b t f) =
      let e : at (wide L) (slot r) ≡ 8 * border_number L s = (means_eq _ _).says t in go e (zero_or (partner L r))
    where
      go : at (wide L) (slot r) ≡ 8 * border_number L s → (partner L r ≡ 0) ⊎ (partner L r ≡ 0 → ⊥) → r ≡ s
      go e (inl w) =
          let c = side_wide r b in
          number_inj L r s c w a z (omega (arith, wide_border L r c w))
      go e (inr w) =
          let c = side_wide r b in
          absurd (border_no_side L L (border_number L s) (rw (sym (wide_paired L r c w) ∙ e) at (partner_opposed L r w).0))

  pub rim_side : (s : ℕ) → Side L s → partner L s ≡ 0 → side_of_border (wide L) (8 * border_number L s) ≡ s
  unfolding side_of_border entry_is
  rim_side s a z =
      let c = 8 * border_number L s in
      let h : (1 ≤ c / 8) × (c / 8 ≤ length (wide L)) = omega (arith, length_wide L, number_from L s, number_le L s a) in
      rw (true_of (within 1 (length (wide L)) (c / 8)) ((means_within 1 (length (wide L)) (c / 8)).shows h), side_of_border)
      (rim_found s (first_side (wide L) (entry_is c)) a z (first_side_lem (wide L) (entry_is c)))

  pub start_rim : (s : ℕ) → Side L s → partner L s ≡ 0 → walk_start (wide L) (8 * border_number L s) ≡ next L s
  unfolding walk_start
  start_rim s a z =
      let c = 8 * border_number L s in
      let e = rim_side s a z in
      let m : c % 8 ≡ 0 = omega arith in
      rw (true_of (eqb (c % 8) 0) ((means_eq (c % 8) 0).shows m), walk_start)
      (rw (e, false_of (eqb s 0) ((means_not (means_eq s 0)).shows (side_positive L s a))) (ap (next (wide L)) e ∙ next_wide s a))

  pub start_side_lem : (s : ℕ) → Side L s → walk_start (wide L) s ≡ s
  unfolding walk_start
  start_side_lem s a =
      rw (false_of (eqb (s % 8) 0) ((means_not (means_eq (s % 8) 0)).shows (λ e. omega (arith, side_facts L s a))), walk_start)

  pub start_none : walk_start (wide L) 0 ≡ 0
  unfolding walk_start side_of_border
  start_none = refl
