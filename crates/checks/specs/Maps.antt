-- What the sibling map in the work buffer tells at each place.
-- Assumes nothing.
use Rattle.std.specs.Prelude.{◌≡◌, false, ◌⊎◌, List, ℕ, ◌+◌, ◌≤◌, ◌<◌, T, eqb, length}
use Rattle.std.proofs.Common.{ap, ◌∙◌, inl, inr, arith, T_not}
use Rattle.std.proofs.Math.Path.{sym}
use Rattle.std.proofs.Math.Bool.{not}
use Rattle.std.proofs.Math.Dec.{leb, not_T}
use Rattle.lists.specs.Tests.{both}
use Rattle.lists.specs.TestLaws.{Test, pass, fail, test, Means, decide, means_eq, means_not}
use Rattle.lists.specs.Search.{at}
use Rattle.rules.specs.Elements.{is_side, Side, slot, origin, side_at, first_side, count_sides}
use Rattle.rules.specs.Pairing.{alike, joins}
use Rattle.rules.specs.Refusals.{crowded_side, alike_side}
use Rattle.rules.specs.Siblings.{sibling}
use Rattle.theory.specs.Sides.{side_positive, slot_side_at, slot_below}
use Rattle.theory.specs.Least.{found_at, found_nowhere, found_later, means_none}
use Rattle.theory.specs.FitRows.{Fit}
use Rattle.theory.specs.SiblingUses.{sibling_side, means_crowded, means_sibling_alike}

-- from place n on the sibling of each side, and 0 where no side stands
pub record Mapped (n : ℕ) (L w : List ℕ) : Type 0 where
  pub fit : Fit n L
  pub room : n + length L ≤ length w
  pub siblings : (s : ℕ) → Side L s → at w (n + slot s) ≡ sibling L s
  pub empty : (p : ℕ) → p < length L → (Side L (side_at p) → ⊥) → at w (n + p) ≡ 0

-- three or more sides join the vertices of the side at p; another side runs alike with it
abbrev pub CrowdedAt : List ℕ → ℕ → Type 0
CrowdedAt L p = Side L (side_at p) × (sibling L (sibling L (side_at p)) ≡ side_at p → ⊥)

abbrev pub AlikeAt : List ℕ → ℕ → Type 0
AlikeAt L p = Side L (side_at p) × (sibling L (side_at p) ≡ side_at p → ⊥) × (origin L (sibling L (side_at p)) ≡ origin L (side_at p))

-- what the entry for place p tells
module _ {n : ℕ} {L w : List ℕ} (p : ℕ) (here : Mapped n L w × (p < length L)) where
  -- a side stands at p exactly where the entry isn't 0, and the entry is its sibling
  sibling_at : Side L (side_at p) → at w (n + p) ≡ sibling L (side_at p)
  sibling_at a = ap (λ (i : ℕ). at w (n + i)) (sym (slot_side_at p)) ∙ here.0.siblings (side_at p) a

  pub side_there : (at w (n + p) ≡ 0 → ⊥) → Side L (side_at p)
  side_there d = go (test (is_side L (side_at p)))
    where
      go : Test (is_side L (side_at p)) → Side L (side_at p)
      go (pass t e) = t
      go (fail t e) = absurd (d (here.0.empty p here.1 (T_not (is_side L (side_at p)) t)))

  none_there : at w (n + p) ≡ 0 → Side L (side_at p) → ⊥
  none_there e a = side_positive L (sibling L (side_at p)) (sibling_side L (side_at p) a) (sym (sibling_at a) ∙ e)

  pub none_crowded : at w (n + p) ≡ 0 → Means false (CrowdedAt L p)
  none_crowded e = record { says = λ t. absurd t; shows = λ (a, d). none_there e a }

  pub none_alike : at w (n + p) ≡ 0 → Means false (AlikeAt L p)
  none_alike e = record { says = λ t. absurd t; shows = λ (a, d, o). none_there e a }

  module _ (some : at w (n + p) ≡ 0 → ⊥) where
    pub sibling_there : Side L (at w (n + p))
    sibling_there = let a = side_there some in rw (sibling_at a) (sibling_side L (side_at p) a)

    -- check 6 by the sibling's sibling, at place i
    pub sibling_below : {i : ℕ} → i ≡ slot (at w (n + p)) → n + i < length w
    sibling_below q = omega (arith, slot_below L (at w (n + p)) sibling_there, here.0.room)

    pub crowded_by : {i s : ℕ} → i ≡ slot (at w (n + p)) → s ≡ side_at p → Means (not (eqb (at w (n + i)) s)) (CrowdedAt L p)
    crowded_by {i} {s} q e =
        let a = side_there some in
        let twice : at w (n + i) ≡ sibling L (sibling L (side_at p)) =
        ap (λ (j : ℕ). at w (n + j)) q ∙ here.0.siblings _ sibling_there ∙ ap (sibling L) (sibling_at a) in
        let m = means_not (means_eq (at w (n + i)) s) in
        record { says = λ t. (a, λ z. m.says t (twice ∙ z ∙ sym e)); shows = λ (b, d). m.shows (λ z. d (sym twice ∙ z ∙ e)) }

  -- check 7 by the sibling
  pub lone_alike : {s : ℕ} → s ≡ side_at p → at w (n + p) ≡ s → Means false (AlikeAt L p)
  lone_alike e q = record { says = λ t. absurd t; shows = λ (a, d, o). d (sym (sibling_at a) ∙ q ∙ e) }

  pub alike_by : (at w (n + p) ≡ 0 → ⊥) → {s x y : ℕ} → s ≡ side_at p → (at w (n + p) ≡ s → ⊥) → x ≡ origin L (at w (n + p)) → y ≡ origin L s → Means (eqb x y) (AlikeAt L p)
  alike_by some {s} {x} {y} e other from-it from-s =
      let a = side_there some in
      let first : x ≡ origin L (sibling L (side_at p)) = from-it ∙ ap (origin L) (sibling_at a) in
      let second : y ≡ origin L (side_at p) = from-s ∙ ap (origin L) e in
      record {
        says = λ t. (a, (λ z. other (sibling_at a ∙ z ∙ sym e)), sym first ∙ (means_eq x y).says t ∙ second);
        shows = λ (b, d, o). (means_eq x y).shows (first ∙ o ∙ sym second);
      }

-- below p no crowded side begins; no side that another runs alike with
abbrev pub NotCrowded : List ℕ → ℕ → Type 0
NotCrowded L p = (s : ℕ) → Side L s → slot s < p → T (not (leb 3 (count_sides L (joins L s))))

abbrev pub NotAlike : List ℕ → ℕ → Type 0
NotAlike L p = (s : ℕ) → Side L s → slot s < p → T (not (not (eqb (first_side L (λ t. both (not (eqb s t)) (alike L s t))) 0)))

-- check 6 from place to place
module _ (n : ℕ) (L : List ℕ) (fit : Fit n L) where
  full_is : (p : ℕ) → CrowdedAt L p → T (leb 3 (count_sides L (joins L (side_at p))))
  full_is p (a, d) = (means_crowded L (side_at p) a).shows d

  full_not : (p : ℕ) → (CrowdedAt L p → ⊥) → Side L (side_at p) → T (not (leb 3 (count_sides L (joins L (side_at p)))))
  full_not p f a = (means_not (means_crowded L (side_at p) a)).shows (λ d. f (a, d))

  pub crowded_found : (p : ℕ) → NotCrowded L p → CrowdedAt L p → side_at p ≡ crowded_side L
  unfolding crowded_side
  crowded_found p f x = sym (found_at L (λ s. leb 3 (count_sides L (joins L s))) p x.0 (full_is p x) f)

  pub crowded_nowhere : (p : ℕ) → length L ≤ p → NotCrowded L p → 0 ≡ crowded_side L
  unfolding crowded_side
  crowded_nowhere p h f = sym (found_nowhere L (λ s. leb 3 (count_sides L (joins L s))) p h f)

  pub crowded_later : (p : ℕ) → NotCrowded L p → (CrowdedAt L p → ⊥) → NotCrowded L (p + 1)
  crowded_later p f g = found_later L (λ s. leb 3 (count_sides L (joins L s))) p f (full_not p g)

  -- where no side is crowded, siblings are so of each other
  pub two_by_two : crowded_side L ≡ 0 → (s : ℕ) → Side L s → sibling L (sibling L s) ≡ s
  unfolding crowded_side
  two_by_two e s a = go (decide (means_eq (sibling L (sibling L s)) s))
    where
      go : (sibling L (sibling L s) ≡ s) ⊎ (sibling L (sibling L s) ≡ s → ⊥) → sibling L (sibling L s) ≡ s
      go (inl q) = q
      go (inr d) =
          absurd
          ((means_none L (λ s. leb 3 (count_sides L (joins L s)))).says ((means_eq _ 0).shows e) s a
          ((means_crowded L s a).shows d))

-- check 7 from place to place, where siblings are so of each other
module _ (L : List ℕ) (two : (s : ℕ) → Side L s → sibling L (sibling L s) ≡ s) where
  -- the test of check 7, by the sibling
  alike_is : (p : ℕ) → AlikeAt L p → T (not (eqb (first_side L (λ t. both (not (eqb (side_at p) t)) (alike L (side_at p) t))) 0))
  alike_is p (a, d, o) = (means_sibling_alike L (side_at p) a (two (side_at p) a)).shows (d, o)

  alike_not : (p : ℕ) → (AlikeAt L p → ⊥) → Side L (side_at p) → T (not (not (eqb (first_side L (λ t. both (not (eqb (side_at p) t)) (alike L (side_at p) t))) 0)))
  alike_not p f a =
      not_T (not (eqb (first_side L (λ t. both (not (eqb (side_at p) t)) (alike L (side_at p) t))) 0))
      (λ t. let (d, o) = (means_sibling_alike L (side_at p) a (two (side_at p) a)).says t in f (a, d, o))

  pub alike_found : (p : ℕ) → NotAlike L p → AlikeAt L p → side_at p ≡ alike_side L
  unfolding alike_side
  alike_found p f x = sym (found_at L (λ s. not (eqb (first_side L (λ t. both (not (eqb s t)) (alike L s t))) 0)) p x.0 (alike_is p x) f)

  pub alike_nowhere : (p : ℕ) → length L ≤ p → NotAlike L p → 0 ≡ alike_side L
  unfolding alike_side
  alike_nowhere p h f = sym (found_nowhere L (λ s. not (eqb (first_side L (λ t. both (not (eqb s t)) (alike L s t))) 0)) p h f)

  pub alike_later : (p : ℕ) → NotAlike L p → (AlikeAt L p → ⊥) → NotAlike L (p + 1)
  alike_later p f g = found_later L (λ s. not (eqb (first_side L (λ t. both (not (eqb s t)) (alike L s t))) 0)) p f (alike_not p g)
