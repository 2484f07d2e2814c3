-- A pairing is unique, and with fit rows it exists exactly when neither refusal 6 nor refusal 7 applies.
-- Assumes nothing.
use Rattle.std.specs.Prelude.{◌≡◌, ◌⊎◌, ◌↔◌, List, eqb, length}
use Rattle.std.proofs.Common.{ap, sym, ◌∙◌, inl, inr}
use Rattle.std.proofs.Math.Bool.{Bool, not}
use Prim.Native.Nat.{ℕ, ◌≤◌}
use native.Mathlib.Omega.{arith}
use Rattle.std.proofs.Math.Dec.{T, leb}
use Rattle.lists.specs.Tests.{both}
use Rattle.lists.specs.TestLaws.{Test, pass, fail, test, Means, means_itself, decide, passes, both_pass, means_both, means_either, means_not, means_eq, means_le}
use Rattle.lists.specs.SearchLaws.{count_last}
use Rattle.rules.specs.Elements.{is_side, Side, slot, origin, destination, side_at, side_with, first_side, count_sides}
use Rattle.rules.specs.Pairing.{alike, opposed, joins, Pairing}
use Rattle.rules.specs.Tables.{partner}
use Rattle.rules.specs.Refusals.{crowded_side, alike_side}
use Rattle.theory.specs.Sides.{side_positive, slot_side_at}
use Rattle.theory.specs.Least.{First, nobody, somebody, first_side_lem, first_found, means_none, means_some}
use Rattle.theory.specs.FitRows.{Fit, ends_differ}

module _ (L : List ℕ) (s t : ℕ) where
  pub means_alike : Means (alike L s t) ((origin L s ≡ origin L t) × (destination L s ≡ destination L t))
  unfolding alike
  means_alike = means_both (means_eq (origin L s) (origin L t)) (means_eq (destination L s) (destination L t))

  pub means_opposed : Means (opposed L s t) ((origin L s ≡ destination L t) × (destination L s ≡ origin L t))
  unfolding opposed
  means_opposed = means_both (means_eq (origin L s) (destination L t)) (means_eq (destination L s) (origin L t))

  pub means_joins : Means (joins L s t) (T (alike L s t) ⊎ T (opposed L s t))
  unfolding joins
  means_joins = means_either (means_itself (alike L s t)) (means_itself (opposed L s t))

module _ (L : List ℕ) where
  pub opposed_sym : (s t : ℕ) → T (opposed L s t) → T (opposed L t s)
  opposed_sym s t x = let (a, b) = (means_opposed L s t).says x in (means_opposed L t s).shows (sym b, sym a)

  -- two sides opposed to one run alike
  pub opposed_alike : (s t u : ℕ) → T (opposed L s t) → T (opposed L s u) → T (alike L t u)
  opposed_alike s t u x y =
      let (a, b) = (means_opposed L s t).says x in
      let (c, d) = (means_opposed L s u).says y in
      (means_alike L t u).shows (sym b ∙ d, sym a ∙ c)

  pub partner_opposed : (s : ℕ) → (partner L s ≡ 0 → ⊥) → Side L (partner L s) × T (opposed L s (partner L s))
  unfolding partner
  partner_opposed s z = go (first_side_lem L (opposed L s))
    where
      go : First L (opposed L s) (first_side L (opposed L s)) → Side L (first_side L (opposed L s)) × T (opposed L s (first_side L (opposed L s)))
      go (nobody e f) = absurd (z e)
      go (somebody b w f) = (b, w)

  -- theorem 1: a pairing is unique
  pub pairing_unique : (π ρ : ℕ → ℕ) → Pairing L π → Pairing L ρ → (s : ℕ) → Side L s → π s ≡ ρ s
  pairing_unique π ρ p q s a = go (decide (means_eq (π s) 0)) (decide (means_eq (ρ s) 0))
    where
      -- the partner by one pairing is the partner by the other, since the two sides join the same vertices
      carried : (π ρ : ℕ → ℕ) → Pairing L π → Pairing L ρ → (π s ≡ 0 → ⊥) → ρ s ≡ π s
      carried π ρ p q z =
          let (d, o) = p.opposite s a z in
          q.paired s (π s) a (p.mutually s a z).0 (λ e. d (sym e)) ((means_joins L s (π s)).shows (inr o))

      go : (π s ≡ 0) ⊎ (π s ≡ 0 → ⊥) → (ρ s ≡ 0) ⊎ (ρ s ≡ 0 → ⊥) → π s ≡ ρ s
      go (inl x) (inl y) = x ∙ sym y
      go (inl x) (inr y) = carried ρ π q p y
      go (inr x) y = sym (carried π ρ p q x)

  -- the test of refusal 7 at s
  alike_to : ℕ → ℕ → Bool
  alike_to s t = both (not (eqb s t)) (alike L s t)

  pub means_no_alike : Means (eqb (alike_side L) 0) ((s t : ℕ) → Side L s → Side L t → T (alike L s t) → s ≡ t)
  unfolding alike_side alike_to
  means_no_alike = record { says = says; shows = shows }
    where
      has_alike : ℕ → Bool
      has_alike s = not (eqb (first_side L (alike_to s)) 0)

      says : T (eqb (alike_side L) 0) → (s t : ℕ) → Side L s → Side L t → T (alike L s t) → s ≡ t
      says z s t a b x = go (test (eqb s t))
        where
          go : Test (eqb s t) → s ≡ t
          go (pass u e) = (means_eq s t).says u
          go (fail u e) =
              absurd
              ((means_none L has_alike).says z s a
              ((means_some L (alike_to s)).shows (t, b, both_pass (not (eqb s t)) (alike L s t) u x)))

      shows : ((s t : ℕ) → Side L s → Side L t → T (alike L s t) → s ≡ t) → T (eqb (alike_side L) 0)
      shows f =
          (means_none L has_alike).shows
          (λ s a h.
          let (t, b, u) = (means_some L (alike_to s)).says h in
          let (d, x) = passes (not (eqb s t)) (alike L s t) u in
          (means_not (means_eq s t)).says d (f s t a b x))

  -- a side that joins the vertices of s, by a pairing, is s or its partner
  joined : (π : ℕ → ℕ) → Pairing L π → (s t : ℕ) → Side L s → Side L t → T (joins L s t) → (t ≡ s) ⊎ (t ≡ π s)
  joined π p s t a b x = go (decide (means_eq s t))
    where
      go : (s ≡ t) ⊎ (s ≡ t → ⊥) → (t ≡ s) ⊎ (t ≡ π s)
      go (inl e) = inl (sym e)
      go (inr d) = inr (sym (p.paired s t a b d x))

  -- of three places that pass two are different sides that are both s, or both its partner
  three_places : (π : ℕ → ℕ) → Pairing L π → (s : ℕ) → Side L s → 3 ≤ count_sides L (joins L s) → ⊥
  unfolding count_sides
  three_places π p s a h =
      let c = side_with L (joins L s) in
      let (i, i_below, x, e) = count_last c (length L) (omega arith) in
      let (j, j_below, y, f) = count_last c i (omega arith) in
      let (k, k_below, z, g) = count_last c j (omega arith) in
      let d : i ≡ j → ⊥ = λ q. omega arith in
      let d' : i ≡ k → ⊥ = λ q. omega arith in
      let d'' : j ≡ k → ⊥ = λ q. omega arith in
      go i j k (of i x) (of j y) (of k z) d d' d''
    where
      of : (i : ℕ) → T (side_with L (joins L s) i) → (side_at i ≡ s) ⊎ (side_at i ≡ π s)
      of i x = let (b, w) = passes (is_side L (side_at i)) (joins L s (side_at i)) x in joined π p s (side_at i) a b w

      one : (i j u : ℕ) → side_at i ≡ u → side_at j ≡ u → i ≡ j
      one i j u e f = sym (slot_side_at i) ∙ ap slot (e ∙ sym f) ∙ slot_side_at j

      go : (i j k : ℕ) → (side_at i ≡ s) ⊎ (side_at i ≡ π s) → (side_at j ≡ s) ⊎ (side_at j ≡ π s) → (side_at k ≡ s) ⊎ (side_at k ≡ π s) → (i ≡ j → ⊥) → (i ≡ k → ⊥) → (j ≡ k → ⊥) → ⊥
      go i j k (inl e) (inl f) g d d' d'' = d (one i j s e f)
      go i j k (inr e) (inr f) g d d' d'' = d (one i j (π s) e f)
      go i j k (inl e) (inr f) (inl g) d d' d'' = d' (one i k s e g)
      go i j k (inl e) (inr f) (inr g) d d' d'' = d'' (one j k (π s) f g)
      go i j k (inr e) (inl f) (inr g) d d' d'' = d' (one i k (π s) e g)
      go i j k (inr e) (inl f) (inl g) d d' d'' = d'' (one j k s f g)

  not_crowded : (π : ℕ → ℕ) → Pairing L π → T (eqb (crowded_side L) 0)
  unfolding crowded_side
  not_crowded π p =
      (means_none L (λ s. leb 3 (count_sides L (joins L s)))).shows
      (λ s a h. three_places π p s a ((means_le 3 (count_sides L (joins L s))).says h))

module _ (n : ℕ) (L : List ℕ) (fit : Fit n L) where
  not_alike : (π : ℕ → ℕ) → Pairing L π → (s t : ℕ) → Side L s → Side L t → T (alike L s t) → s ≡ t
  not_alike π p s t a b x = go (decide (means_eq s t))
    where
      go : (s ≡ t) ⊎ (s ≡ t → ⊥) → s ≡ t
      go (inl e) = e
      go (inr d) =
          let e : π s ≡ t = p.paired s t a b d ((means_joins L s t).shows (inl x)) in
          let o : T (opposed L s t) = rw e at (p.opposite s a (λ z. side_positive L t b (sym e ∙ z))).1 in
          absurd (ends_differ n L fit s a (((means_opposed L s t).says o).0 ∙ sym ((means_alike L s t).says x).1))

  module _ (lone : (s t : ℕ) → Side L s → Side L t → T (alike L s t) → s ≡ t) where
    -- the least opposed side is the only one
    partner_is : (s t : ℕ) → Side L s → Side L t → T (opposed L s t) → partner L s ≡ t
    unfolding partner
    partner_is s t a b o =
        let (c, w) = first_found L (opposed L s) t b o in
        lone (first_side L (opposed L s)) t c b (opposed_alike L s (first_side L (opposed L s)) t w o)

    -- with no two sides alike the computed partners are a pairing
    partner_pairs : Pairing L (partner L)
    partner_pairs =
        record {
          mutually = λ s a z.
              let (b, o) = partner_opposed L s z in (b, partner_is (partner L s) s b a (opposed_sym L s (partner L s) o));
          opposite = λ s a z.
              let (b, o) = partner_opposed L s z in
              ((λ e. ends_differ n L fit s a ((means_opposed L s s).says (rw e at o)).0), o);
          paired = λ s t a b d x.
              elim ((means_joins L s t).says x) [ inl y ↦ absurd (d (lone s t a b y)) | inr o ↦ partner_is s t a b o ];
        }

  -- theorem 1: with fit rows a pairing exists exactly when neither refusal 6 nor refusal 7 applies; it is then the computed one
  pub pairing_exists : ((π : ℕ → ℕ) × Pairing L π) ↔ ((crowded_side L ≡ 0) × (alike_side L ≡ 0))
  pairing_exists = (
    (λ (π, p). (
      (means_eq (crowded_side L) 0).says (not_crowded L π p),
      (means_eq (alike_side L) 0).says ((means_no_alike L).shows (not_alike π p)),
    )),
    (λ (c, a). (partner L, partner_pairs ((means_no_alike L).says ((means_eq (alike_side L) 0).shows a)))),
  )

  pub the_pairing : alike_side L ≡ 0 → Pairing L (partner L)
  the_pairing a = partner_pairs ((means_no_alike L).says ((means_eq (alike_side L) 0).shows a))
