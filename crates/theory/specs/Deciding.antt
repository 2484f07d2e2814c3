-- `accepted` is decided by a function that computes: checks 6 to 8 and 18 find nothing exactly when a pairing of the sides with a turn order
-- about every vertex exists and every two different elements meet well.
-- Assumes nothing.
use Rattle.std.specs.Prelude.{◌≡◌, ◌⊎◌, ltb, eqb}
use Rattle.std.proofs.Math.Bool.{Bool, not}
use Rattle.std.proofs.Common.{inl, inr, arith, T_not}
use mathlib.Core.List.{List}
use Prim.Native.Nat.{ℕ, ◌≤◌, ◌<◌}
use Rattle.std.proofs.Math.Dec.{T, not_T}
use Rattle.lists.specs.Tests.{both}
use Rattle.lists.specs.TestLaws.{Test, pass, fail, test, Means, decide, passes, both_pass, means_both, means_not, means_eq, means_lt}
use Rattle.lists.specs.Search.{at}
use Rattle.lists.specs.SearchLaws.{le_or_lt}
use Rattle.rules.specs.Elements.{elements, slot, origin, first_side, first_number}
use Rattle.rules.specs.Pairing.{Pairing, TurnOrder, rows_fit, meet_well, Element, Conformal, Accepted}
use Rattle.rules.specs.Tables.{partner, wide, v2e}
use Rattle.rules.specs.Recovery.{walk}
use Rattle.rules.specs.Refusals.{crowded_side, alike_side, missed, unordered_vertex, clash_of, clashing, accepts}
use Rattle.theory.specs.Least.{means_some, means_none, means_no_number, FirstNumber, nobody, somebody, first_number_lem}
use Rattle.theory.specs.FitRows.{Fit, means_fit}
use Rattle.theory.specs.Pairings.{pairing_exists, the_pairing}
use Rattle.theory.specs.Meeting.{meet_either_way}
use Rattle.theory.specs.Orders.{good, accepted_of}
use Rattle.theory.specs.Covering.{Covered, order_covered, covered_order}

module _ (n : ℕ) (L : List ℕ) where
  -- a vertex is missed exactly where the walk doesn't write every side
  means_missed : (W : List ℕ) (v : ℕ) → Means (missed L W v) (Covered L W v → ⊥)
  unfolding missed
  means_missed W v = record { says = says; shows = shows }
    where
      left : ℕ → Bool
      left s = both (eqb (origin L s) v) (not (eqb (at W (slot s)) v))

      means_left : (s : ℕ) → Means (left s) ((origin L s ≡ v) × (at W (slot s) ≡ v → ⊥))
      means_left s = means_both (means_eq (origin L s) v) (means_not (means_eq (at W (slot s)) v))

      says : T (not (eqb (first_side L left) 0)) → Covered L W v → ⊥
      says t f = let (s, a, u) = (means_some L left).says t in let (o, d) = (means_left s).says u in d (f s (a, o))

      shows : (Covered L W v → ⊥) → T (not (eqb (first_side L left) 0))
      shows f = go (test (eqb (first_side L left) 0))
        where
          go : Test (eqb (first_side L left) 0) → T (not (eqb (first_side L left) 0))
          go (fail t e) = t
          go (pass t e) =
              absurd
              (f
              (λ s (a, o).
              elim (decide (means_eq (at W (slot s)) v))
              [ inl w ↦ w | inr d ↦ absurd ((means_none L left).says t s a ((means_left s).shows (o, d))) ]))

  covered_or : (W : List ℕ) (v : ℕ) → T (not (missed L W v)) → Covered L W v
  unfolding missed
  covered_or W v t s (a, o) = go (decide (means_eq (at W (slot s)) v))
    where
      go : (at W (slot s) ≡ v) ⊎ (at W (slot s) ≡ v → ⊥) → at W (slot s) ≡ v
      go (inl w) = w
      go (inr d) = absurd (T_not (missed L W v) t ((means_missed W v).shows (λ f. d (f s (a, o)))))

  -- check 8 finds nothing exactly when the walk writes every side
  pub means_covered : Means (eqb (unordered_vertex n L) 0) ((v : ℕ) → 1 ≤ v → v ≤ n → Covered L (walk (v2e n L) (wide L)) v)
  unfolding unordered_vertex
  means_covered =
      let W = walk (v2e n L) (wide L) in
      record {
        says = λ z v a b. covered_or W v (not_T (missed L W v) ((means_no_number n (missed L W)).says z v a b));
        shows = λ f. (means_no_number n (missed L W)).shows (λ v a b t. (means_missed W v).says t (f v a b));
      }

  module _ (p : Pairing L (partner L)) where
    -- ... which is that every vertex has a turn order
    pub means_ordered : Means (eqb (unordered_vertex n L) 0) ((v : ℕ) → 1 ≤ v → v ≤ n → (o : List ℕ) × TurnOrder L (partner L) v o)
    means_ordered =
        record {
          says = λ z v a b. covered_order n L p v a b (means_covered.says z v a b);
          shows = λ f. means_covered.shows (λ v a b. let (o, x) = f v a b in order_covered n L p v a b o x);
        }

    -- else its place is the least vertex with none
    pub unordered_least : (unordered_vertex n L ≡ 0 → ⊥)
        → ((o : List ℕ) → TurnOrder L (partner L) (unordered_vertex n L) o → ⊥) × ((v : ℕ) → 1 ≤ v → v < unordered_vertex n L → (o : List ℕ) × TurnOrder L (partner L) v o)
    unfolding unordered_vertex
    unordered_least d = go (first_number_lem n (missed L (walk (v2e n L) (wide L))))
      where
        W : List ℕ
        W = walk (v2e n L) (wide L)

        u : ℕ
        u = first_number n (missed L W)

        go : FirstNumber n (missed L W) u → ((o : List ℕ) → TurnOrder L (partner L) u o → ⊥) × ((v : ℕ) → 1 ≤ v → v < u → (o : List ℕ) × TurnOrder L (partner L) v o)
        go (nobody e f) = absurd (d e)
        go (somebody a b t f) = (
          (λ o x. (means_missed W u).says t (order_covered n L p u a b o x)),
          (λ v c h. covered_order n L p v c (omega arith) (covered_or W v (f v c h))),
        )

  -- no element above f clashes with f
  means_unclashed : (f : ℕ) → Means (eqb (clash_of L f) 0) ((g : ℕ) → Element L g → f < g → T (meet_well L f g))
  unfolding clash_of
  means_unclashed f = record { says = λ z g (a, b) h. says z g a b h; shows = λ x. none.shows (λ g a b t. shows x g a b t) }
    where
      clashes : ℕ → Bool
      clashes g = both (ltb f g) (not (meet_well L f g))

      none : Means (eqb (first_number (elements L) clashes) 0) ((g : ℕ) → 1 ≤ g → g ≤ elements L → T (clashes g) → ⊥)
      none = means_no_number (elements L) clashes

      says : T (eqb (first_number (elements L) clashes) 0) → (g : ℕ) → 1 ≤ g → g ≤ elements L → f < g → T (meet_well L f g)
      says z g a b h = go (test (meet_well L f g))
        where
          go : Test (meet_well L f g) → T (meet_well L f g)
          go (pass t e) = t
          go (fail t e) = absurd (none.says z g a b (both_pass (ltb f g) (not (meet_well L f g)) ((means_lt f g).shows h) t))

      shows : ((g : ℕ) → Element L g → f < g → T (meet_well L f g)) → (g : ℕ) → 1 ≤ g → g ≤ elements L → T (clashes g) → ⊥
      shows x g a b t =
          let (h, c) = passes (ltb f g) (not (meet_well L f g)) t in T_not (meet_well L f g) c (x g (a, b) ((means_lt f g).says h))

  -- check 18 finds nothing exactly when every two different elements meet well
  pub means_conformal : Fit n L → Means (eqb (clashing L) 0) (Conformal L)
  unfolding clashing
  means_conformal fit = record { says = says; shows = shows }
    where
      clashed : ℕ → Bool
      clashed f = not (eqb (clash_of L f) 0)

      none : Means (eqb (first_number (elements L) clashed) 0) ((f : ℕ) → 1 ≤ f → f ≤ elements L → T (clashed f) → ⊥)
      none = means_no_number (elements L) clashed

      -- the lower of two elements first
      rising : T (eqb (first_number (elements L) clashed) 0) → (f g : ℕ) → Element L f → Element L g → f < g → T (meet_well L f g)
      rising z f g (a, b) c h = go (test (eqb (clash_of L f) 0))
        where
          go : Test (eqb (clash_of L f) 0) → T (meet_well L f g)
          go (pass t e) = (means_unclashed f).says t g c h
          go (fail t e) = absurd (none.says z f a b t)

      says : T (eqb (first_number (elements L) clashed) 0) → Conformal L
      says z f g a b d = go (le_or_lt f g)
        where
          go : (f ≤ g) ⊎ (g < f) → T (meet_well L f g)
          go (inl h) = rising z f g a b (omega arith)
          go (inr h) = meet_either_way n L fit g f b a (rising z g f b a h)

      shows : Conformal L → T (eqb (first_number (elements L) clashed) 0)
      shows x =
          none.shows
          (λ f a b t. T_not (eqb (clash_of L f) 0) t ((means_unclashed f).shows (λ g c h. x f g (a, b) c (λ e. omega arith))))

  -- theorem 2: "accepted" is decided by a function that computes
  pub means_accepted : Means (accepts n L) (Accepted n L)
  unfolding accepts
  means_accepted = record { says = says; shows = shows }
    where
      says : T (accepts n L) → Accepted n L
      says t =
          let (a, t₁) = passes (rows_fit n L) _ t in
          let (c, t₂) = passes (eqb (crowded_side L) 0) _ t₁ in
          let (d, t₃) = passes (eqb (alike_side L) 0) _ t₂ in
          let (e, f) = passes (eqb (unordered_vertex n L) 0) (eqb (clashing L) 0) t₃ in
          let fit = (means_fit n L).says a in
          let p = the_pairing n L fit ((means_eq (alike_side L) 0).says d) in
          accepted_of n L (record { fit = fit; pairing = p; orders = (means_ordered p).says e }) ((means_conformal fit).says f)

      shows : Accepted n L → T (accepts n L)
      shows x =
          let g = good n L x in
          let (c, d) = (pairing_exists n L g.fit).0 (partner L, g.pairing) in
          (means_both (means_fit n L)
          (means_both (means_eq (crowded_side L) 0)
          (means_both (means_eq (alike_side L) 0)
          (means_both (means_ordered g.pairing) (means_conformal g.fit))))).shows
          (g.fit, (c, (d, (g.orders, x.meeting))))
