-- What the sibling of a side tells: whether other sides join its vertices, whether three do, whether another runs alike, and its partner.
-- Assumes nothing.
use Rattle.std.specs.Prelude.{◌≡◌, not, ◌⊎◌, ◌↔◌, List, leb, eqb}
use Rattle.std.proofs.Math.Path.{refl, ap, sym}
use Rattle.std.proofs.Common.{subst, ◌∙◌, inl, inr}
use Prim.Native.Nat.{ℕ, zero, suc, ◌+◌, ◌≤◌, ◌<◌}
use native.Mathlib.Omega.{arith}
use Rattle.std.proofs.Math.Dec.{T}
use Rattle.lists.specs.Tests.{both}
use Rattle.lists.specs.TestLaws.{Means, means_le, means_not, decide, passes, both_pass, means_eq, zero_or}
use Rattle.lists.specs.SearchLaws.{le_not_lt}
use Rattle.rules.specs.Elements.{Side, origin, first_side, count_sides}
use Rattle.rules.specs.Pairing.{alike, opposed, joins, Pairing}
use Rattle.rules.specs.Tables.{partner}
use Rattle.rules.specs.Refusals.{crowded_side}
use Rattle.rules.specs.Siblings.{sibling}
use Rattle.theory.specs.Sides.{side_positive}
use Rattle.theory.specs.Least.{first_found, means_none, means_some}
use Rattle.theory.specs.FitRows.{Fit, ends_differ}
use Rattle.theory.specs.Pairings.{means_alike, means_opposed, means_joins, partner_opposed}
use Rattle.theory.specs.Rounds.{joining, Rounds, rounds}

module _ (L : List ℕ) (s : ℕ) (a : Side L s) where
  -- s, its sibling, and so on
  on : ℕ → ℕ
  on zero = s
  on (suc j) = sibling L (on j)

  goes_round : Rounds L s on
  unfolding on
  goes_round = rounds L s a on refl (λ j b. refl)

  -- the first round
  met : (t : ℕ) → Side L t → T (joins L s t) → (j : ℕ) × (j < joining L s) × (on j ≡ t)
  met t b x = let (j, h, m) = goes_round.each 0 t (b, x) in let e : j ≡ 0 + j = omega arith in (j, h, ap on e ∙ m)

  back : on (joining L s) ≡ s
  unfolding on
  back = let e : joining L s ≡ 0 + joining L s = omega arith in ap on e ∙ goes_round.back 0

  -- the sibling is a side that joins the same two vertices
  pub sibling_side : Side L (sibling L s)
  unfolding on
  sibling_side = (goes_round.only 1).0

  pub sibling_joins : T (joins L s (sibling L s))
  unfolding on
  sibling_joins = (goes_round.only 1).1

  -- the sibling is the side itself exactly where no other side joins its vertices
  pub sibling_lone : (sibling L s ≡ s) ↔ ((t : ℕ) → Side L t → T (joins L s t) → t ≡ s)
  unfolding on
  sibling_lone = ((λ e t b x. let (j, h, m) = met t b x in go e t j h m), (λ f. f (sibling L s) sibling_side sibling_joins))
    where
      go : sibling L s ≡ s → (t j : ℕ) → j < joining L s → on j ≡ t → t ≡ s
      go e t zero h m = sym m
      go e t (suc j) h m = absurd (omega (arith, goes_round.once 0 0 1 (omega arith) (omega arith) (sym e)))

  -- where siblings are so of each other, a round has no third step
  no_third : sibling L (sibling L s) ≡ s → 3 ≤ joining L s → ⊥
  unfolding on
  no_third e h = omega (arith, goes_round.once 0 0 2 (omega arith) (omega arith) (sym e))

  -- so only the two join their vertices
  pub sibling_other : sibling L (sibling L s) ≡ s → (t : ℕ) → Side L t → T (joins L s t) → (t ≡ s → ⊥) → t ≡ sibling L s
  unfolding on
  sibling_other e t b x d = let (j, h, m) = met t b x in go j h m
    where
      go : (j : ℕ) → j < joining L s → on j ≡ t → t ≡ sibling L s
      go zero h m = absurd (d (sym m))
      go (suc zero) h m = sym m
      go (suc (suc j)) h m = absurd (no_third e (omega arith))

  -- refusal 6 at s: three or more sides join its two vertices exactly where the sibling's sibling is another side
  pub crowded : (3 ≤ count_sides L (joins L s)) ↔ (sibling L (sibling L s) ≡ s → ⊥)
  unfolding on
  crowded = ((λ h e. no_third e h), (λ d. le_not_lt 3 (joining L s) (λ l. d (go (joining L s) l some back))))
    where
      some : 0 < joining L s
      some = let (j, h, m) = met (sibling L s) sibling_side sibling_joins in omega arith

      go : (k : ℕ) → k < 3 → 0 < k → on k ≡ s → sibling L (sibling L s) ≡ s
      go zero l h e = absurd (omega arith)
      go (suc zero) l h e = ap (sibling L) e ∙ e
      go (suc (suc zero)) l h e = e
      go (suc (suc (suc k))) l h e = absurd (omega arith)

  pub means_crowded : Means (leb 3 (count_sides L (joins L s))) (sibling L (sibling L s) ≡ s → ⊥)
  means_crowded =
      let m = means_le 3 (count_sides L (joins L s)) in
      record { says = λ t. crowded.0 (m.says t); shows = λ d. m.shows (crowded.1 d) }

  -- no side of fit rows runs opposed to itself
  not_opposed : (n : ℕ) → Fit n L → T (opposed L s s) → ⊥
  not_opposed n f o = ends_differ n L f s a ((means_opposed L s s).says o).0

  module _ (two : sibling L (sibling L s) ≡ s) where
    -- refusal 7 at s, where at most two sides join its vertices: another side runs alike with it exactly where the sibling does
    pub sibling_alike : ((t : ℕ) × Side L t × (t ≡ s → ⊥) × T (alike L s t)) ↔ ((sibling L s ≡ s → ⊥) × (origin L (sibling L s) ≡ origin L s))
    sibling_alike = (
      (λ (t, b, d, x).
          let e : t ≡ sibling L s = sibling_other two t b ((means_joins L s t).shows (inl x)) d in
          ((λ z. d (e ∙ z)), ap (origin L) (sym e) ∙ sym ((means_alike L s t).says x).0)),
      (λ (d, o). (sibling L s, sibling_side, d, runs (sym o) ((means_joins L s (sibling L s)).says sibling_joins))),
    )
      where
        runs : origin L s ≡ origin L (sibling L s) → T (alike L s (sibling L s)) ⊎ T (opposed L s (sibling L s)) → T (alike L s (sibling L s))
        runs o (inl x) = x
        runs o (inr x) =
            let (p, q) = (means_opposed L s (sibling L s)).says x in
            (means_alike L s (sibling L s)).shows (o, q ∙ sym o ∙ p)

    pub means_sibling_alike :
        Means (not (eqb (first_side L (λ t. both (not (eqb s t)) (alike L s t))) 0)) ((sibling L s ≡ s → ⊥) × (origin L (sibling L s) ≡ origin L s))
    means_sibling_alike =
        let m = means_some L (λ t. both (not (eqb s t)) (alike L s t)) in
        record {
          says = λ z.
              let (t, b, x) = m.says z in
              let (d, y) = passes (not (eqb s t)) (alike L s t) x in
              sibling_alike.0 (t, b, (λ e. (means_not (means_eq s t)).says d (sym e)), y);
          shows = λ x.
              let (t, b, d, y) = sibling_alike.1 x in
              m.shows (t, b, both_pass (not (eqb s t)) (alike L s t) ((means_not (means_eq s t)).shows (λ e. d (sym e))) y);
        }

    -- a sibling that does not run alike is the partner
    pub partner_sibling : (n : ℕ) → Fit n L → (origin L (sibling L s) ≡ origin L s → ⊥) → partner L s ≡ sibling L s
    unfolding partner
    partner_sibling n f d = go ((means_joins L s (sibling L s)).says sibling_joins)
      where
        go : T (alike L s (sibling L s)) ⊎ T (opposed L s (sibling L s)) → first_side L (opposed L s) ≡ sibling L s
        go (inl x) = absurd (d (sym ((means_alike L s (sibling L s)).says x).0))
        go (inr x) =
            let (b, o) = first_found L (opposed L s) (sibling L s) sibling_side x in
            sibling_other two (first_side L (opposed L s)) b ((means_joins L s (first_side L (opposed L s))).shows (inr o))
            (λ e. not_opposed n f (subst (λ (t : ℕ). T (opposed L s t)) e o))

  -- a side that is its own sibling has no partner
  pub partner_none : (n : ℕ) → Fit n L → sibling L s ≡ s → partner L s ≡ 0
  partner_none n f e = go (zero_or (partner L s))
    where
      go : (partner L s ≡ 0) ⊎ (partner L s ≡ 0 → ⊥) → partner L s ≡ 0
      go (inl z) = z
      go (inr d) =
          let (b, o) = partner_opposed L s d in
          let z = sibling_lone.0 e (partner L s) b ((means_joins L s (partner L s)).shows (inr o)) in
          absurd (not_opposed n f (subst (λ (t : ℕ). T (opposed L s t)) z o))

-- where no three sides join the same two vertices, only one other joins those of s
pub two_join : (L : List ℕ) → crowded_side L ≡ 0 → (s t q : ℕ) → Side L s → Side L t → Side L q → T (joins L s t) → T (joins L s q)
    → (t ≡ s → ⊥) → (q ≡ s → ⊥) → t ≡ q
unfolding crowded_side
two_join L c s t q a b d x y i j = sibling_other L s a two t b x i ∙ sym (sibling_other L s a two q d y j)
  where
    two : sibling L (sibling L s) ≡ s
    two = elim (decide (means_eq (sibling L (sibling L s)) s)) [
      | inl e ↦ e
      | inr e ↦ absurd ((means_none L (λ r. leb 3 (count_sides L (joins L r)))).says ((means_eq _ 0).shows c) s a ((means_crowded L s a).shows e))
    ]

-- where sides are paired, the sibling of a paired side is its partner, and a border side is its own
module _ (L : List ℕ) (p : Pairing L (partner L)) (s : ℕ) (a : Side L s) where
  other_paired : (sibling L s ≡ s → ⊥) → partner L s ≡ sibling L s
  other_paired d = p.paired s (sibling L s) a (sibling_side L s a) (λ e. d (sym e)) (sibling_joins L s a)

  pub paired_sibling : (partner L s ≡ 0 → ⊥) → partner L s ≡ sibling L s
  paired_sibling d =
      let (b, e) = p.mutually s a d in
      let (other, o) = p.opposite s a d in
      other_paired (λ z. other ((sibling_lone L s a).0 z (partner L s) b ((means_joins L s (partner L s)).shows (inr o))))

  pub own_border : (n : ℕ) → Fit n L → (sibling L s ≡ s) ↔ (partner L s ≡ 0)
  own_border n f = (partner_none L s a n f, lone)
    where
      lone : partner L s ≡ 0 → sibling L s ≡ s
      lone z =
          elim (decide (means_eq (sibling L s) s))
          [ inl e ↦ e | inr d ↦ absurd (side_positive L (sibling L s) (sibling_side L s a) (sym (other_paired d) ∙ z)) ]
