-- The numbering begins: what the checks say of the list, and the work with B2e's places cleared.
-- Assumes nothing.
use mathlib.Core.Path.{◌≡◌, refl, ap, ◌∙◌}
use mathlib.Core.Bool.{not}
use mathlib.Core.List.{List, ◌++◌}
use Prim.Native.Nat.{ℕ, ◌+◌, ◌-◌, ◌≤◌, ◌<◌}
use native.Mathlib.Omega.{arith}
use lib.Dec.{eqb}
use lib.ListN.{length, take, drop, replicate}
use Rattle.lists.specs.Tests.{both}
use Rattle.lists.specs.TestLaws.{means_eq}
use Rattle.lists.specs.Search.{at, count, upto}
use Rattle.lists.specs.Changes.{blank_length, blank_before, blank_here}
use Rattle.lists.specs.Parts.{part, length_part}
use Rattle.rules.specs.Elements.{slot, first_side}
use Rattle.rules.specs.Pairing.{alike}
use Rattle.rules.specs.Refusals.{alike_side}
use Rattle.theory.specs.Sides.{slot_below}
use Rattle.theory.specs.Least.{means_none}
use Rattle.theory.specs.SiblingUses.{means_sibling_alike, partner_sibling, partner_none}
use Rattle.checks.specs.Maps.{two_by_two}
use Rattle.borders.specs.Numbers.{Ready, Matched, inner, Numbering}

module _ (n : ℕ) (L w : List ℕ) (r : Ready n L w) where
  pub matched : Matched n L
  unfolding alike_side
  matched =
      record {
        fit = r.mapped.fit;
        lone = λ s a e. partner_none L s a n r.mapped.fit e;
        other = λ s a d.
            let two = two_by_two n L r.mapped.fit r.uncrowded s a in
            partner_sibling L s a two n r.mapped.fit
            (λ o.
            (means_none L (λ s. not (eqb (first_side L (λ t. both (not (eqb s t)) (alike L s t))) 0))).says ((means_eq _ 0).shows r.apart) s a
            ((means_sibling_alike L s a two).shows (d, o)));
      }

  -- w' is w with B2e's places cleared
  module _ (w' : List ℕ) (same : length w' ≡ length w) (kept : (i : ℕ) → i < n + length L → at w' i ≡ at w i) (clear : (j : ℕ) → j < length L → at w' (n + length L + j) ≡ 0) where
    unnumbered : Numbering n L 0 0 0 w'
    unfolding count upto
    unnumbered =
        record {
          number = refl;
          sides = refl;
          done = λ q h. absurd (omega arith);
          ahead = λ s a h. kept (n + slot s) (omega (arith, slot_below L s a)) ∙ r.mapped.siblings s a;
          empty = λ q h i f. kept (n + q) (omega arith) ∙ r.mapped.empty q i f;
          border = clear;
          vertices = λ v a b. inner (λ s i h. omega arith) (kept (v - 1) (omega arith) ∙ r.firsts v a b);
          long = same ∙ r.long;
        }

  pub cleared : (k : ℕ) (ys : List ℕ) → k ≡ length L → ys ≡ replicate (length (part (n + length L) k w)) 0 → Numbering n L 0 0 0 (take (n + length L) w ++ (ys ++ drop k (drop (n + length L) w)))
  cleared k ys e b =
      let a = n + length L in
      let inside : a + k ≤ length w = omega (arith, r.long, r.mapped.fit.fours) in
      let blank : ys ≡ replicate k 0 = b ∙ ap (λ (i : ℕ). replicate i 0) (length_part a k w inside) in
      unnumbered (take a w ++ (ys ++ drop k (drop a w))) (blank_length a k w ys inside blank) (blank_before a k w ys inside blank)
      (λ j h. blank_here a k w ys inside blank j (omega arith))
