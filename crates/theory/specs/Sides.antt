-- Laws of sides: what it is to be one, and where they stand in the list.
-- Assumes nothing.
use Rattle.std.specs.Prelude.{◌≡◌, refl, not, ◌⊎◌, List, ℕ, ◌+◌, ◌*◌, ◌-◌, ◌/◌, ◌%◌, ◌≤◌, ◌<◌, T, eqb, length}
use Rattle.std.proofs.Common.{ap, sym, ◌∙◌, inl, inr, arith, T_not}
use Rattle.lists.specs.TestLaws.{Test, pass, fail, test, Means, decide, means_both, means_not, means_eq, means_lt, means_within}
use Rattle.lists.specs.Search.{at}
use Rattle.lists.specs.SearchLaws.{le_not_lt}
use Rattle.rules.specs.Elements.{elements, corner, sides_by, sides, is_side, Side, slot, side_at}

-- an element has three or four sides
pub data SidesBy (fourth k : ℕ) : Type 0 where
  three : fourth ≡ 0 → k ≡ 3 → SidesBy fourth k
  four : (fourth ≡ 0 → ⊥) → k ≡ 4 → SidesBy fourth k

pub sides_by_lem : (fourth : ℕ) → SidesBy fourth (sides_by fourth)
unfolding sides_by
sides_by_lem fourth = go (test (eqb fourth 0))
  where
    go : Test (eqb fourth 0) → SidesBy fourth (sides_by fourth)
    go (pass t e) = three ((means_eq fourth 0).says t) (rw (e, sides_by))
    go (fail t e) = four ((means_not (means_eq fourth 0)).says t) (rw (e, sides_by))

-- what it is to be a side
pub record SideFacts (L : List ℕ) (s : ℕ) : Type 0 where
  pub element_from : 1 ≤ s / 8
  pub element_to : s / 8 ≤ elements L
  pub number_from : 1 ≤ s % 8
  pub number_to : s % 8 ≤ sides L (s / 8)
  pub number_four : s % 8 ≤ 4

-- the code of a side and the place of its corner say each other
pub slot_side_at : (p : ℕ) → slot (side_at p) ≡ p
unfolding slot side_at
slot_side_at p = omega arith

module _ (L : List ℕ) where
  means_side : (s : ℕ) → Means (is_side L s) (((1 ≤ s / 8) × (s / 8 ≤ elements L)) × ((1 ≤ s % 8) × (s % 8 ≤ sides L (s / 8))))
  unfolding is_side
  means_side s = means_both (means_within 1 (elements L) (s / 8)) (means_within 1 (sides L (s / 8)) (s % 8))

  pub side_facts : (s : ℕ) → Side L s → SideFacts L s
  side_facts s t =
      let x = (means_side s).says t in
      record {
        element_from = x.0.0;
        element_to = x.0.1;
        number_from = x.1.0;
        number_to = x.1.1;
        number_four = go (sides_by_lem (corner L (s / 8) 4)) x.1.1;
      }
    where
      go : {k : ℕ} → SidesBy (corner L (s / 8) 4) k → s % 8 ≤ k → s % 8 ≤ 4
      go (three z e) h = omega arith
      go (four z e) h = omega arith

  -- its element and its number count from 1
  pub side_from : (s : ℕ) → Side L s → (1 ≤ s / 8) × (1 ≤ s % 8)
  side_from s t = let x = side_facts s t in (x.element_from, x.number_from)

  pub side_of_lem : (s : ℕ) → 1 ≤ s / 8 → s / 8 ≤ elements L → 1 ≤ s % 8 → s % 8 ≤ sides L (s / 8) → Side L s
  side_of_lem s a b c d = (means_side s).shows ((a, b), (c, d))

  pub side_positive : (s : ℕ) → Side L s → s ≡ 0 → ⊥
  side_positive s t e = omega (arith, side_facts s t)

  pub side_at_slot : (s : ℕ) → Side L s → side_at (slot s) ≡ s
  unfolding slot side_at
  side_at_slot s t = omega (arith, side_facts s t)

  pub slot_below : (s : ℕ) → Side L s → slot s < length L
  unfolding slot
  slot_below s t = omega (arith, side_facts s t)

  pub slot_inj : (s t : ℕ) → Side L s → Side L t → slot s ≡ slot t → s ≡ t
  slot_inj s t a b e = sym (side_at_slot s a) ∙ ap side_at e ∙ side_at_slot t b

  pub slot_less : (s t : ℕ) → Side L s → Side L t → s < t → slot s < slot t
  unfolding slot
  slot_less s t a b h = omega (arith, side_facts s a, side_facts t b)

  pub less_slot : (s t : ℕ) → Side L s → Side L t → slot s < slot t → s < t
  unfolding slot
  less_slot s t a b h = omega (arith, side_facts s a, side_facts t b)

-- a place of the list where no side stands is a triangle's fourth, and holds 0
pub no_side_zero : (L : List ℕ) (q : ℕ) → q < 4 * elements L → T (not (is_side L (side_at q))) → at L q ≡ 0
unfolding side_at
no_side_zero L q h t = go (sides_by_lem (corner L (q / 4 + 1) 4)) refl
  where
    s : ℕ
    s = 8 * (q / 4 + 1) + (q % 4 + 1)

    e : s / 8 ≡ q / 4 + 1
    e = omega arith

    i : s % 8 ≡ q % 4 + 1
    i = omega arith

    -- within its element's sides it would be one
    side_there : q % 4 + 1 ≤ sides L (q / 4 + 1) → ⊥
    side_there l = T_not (is_side L s) t (side_of_lem L s (omega arith) (omega arith) (omega arith) (rw (e, i) l))

    go : {k : ℕ} → SidesBy (corner L (q / 4 + 1) 4) k → sides L (q / 4 + 1) ≡ k → at L q ≡ 0
    go (four z d) g = absurd (side_there (omega arith))
    go (three z d) g = third (decide (means_lt (q % 4) 3))
      where
        third : (q % 4 < 3) ⊎ (q % 4 < 3 → ⊥) → at L q ≡ 0
        third (inl l) = absurd (side_there (omega arith))
        third (inr l) =
            let w : q % 4 ≡ 3 = omega (arith, le_not_lt 3 (q % 4) l) in
            let c : q ≡ 4 * (q / 4 + 1 - 1) + 3 = omega arith in
            ap (at L) c ∙ z
