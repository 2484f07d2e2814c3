-- The first fault of a row, by the tests of its corners one after another.
-- Assumes nothing.
use Rattle.std.specs.Prelude.{◌≡◌, refl, Bool, true, false, not, ◌⊎◌, List, ℕ, suc, ◌-◌, ◌≤◌, ◌<◌, T}
use Rattle.std.proofs.Common.{sym, subst, inl, inr, arith}
use Rattle.std.proofs.Math.Dec.{eqb, not_T}
use Rattle.lists.specs.TestLaws.{Means, means_either, means_eq, means_lt}
use Rattle.lists.specs.Search.{at}
use Rattle.lists.specs.SearchLaws.{lt_or_eq}
use Rattle.rules.specs.Elements.{sides_by}
use Rattle.theory.specs.Sides.{SidesBy, three, four, sides_by_lem}
use Rattle.theory.specs.Least.{FirstNumber, nobody, somebody, means_some_number}
use Rattle.corners.specs.Faults.{no_vertex, repeats, UnfitIn, RepeatedIn}

-- numbers from 1 on
pub none_yet : (P : ℕ → Type 0) (v : ℕ) → 1 ≤ v → v < 1 → P v
none_yet P v a b = absurd (omega arith)

pub one_more : (P : ℕ → Type 0) (k : ℕ) → ((v : ℕ) → 1 ≤ v → v < k → P v) → P k → (v : ℕ) → 1 ≤ v → v < suc k → P v
one_more P k f x v a b = elim (lt_or_eq v k b) [ inl h ↦ f v a h | inr e ↦ subst P (sym e) x ]

pub means_no_vertex : (n x : ℕ) → Means (no_vertex n x) ((x ≡ 0) ⊎ (n < x))
means_no_vertex n x = means_either (means_eq x 0) (means_lt n x)

module _ (t : ℕ → Bool) (fourth : ℕ) where
  at_least : 3 ≤ sides_by fourth
  at_least = go (sides_by_lem fourth)
    where
      go : {k : ℕ} → SidesBy fourth k → 3 ≤ k
      go (three z e) = omega arith
      go (four z e) = omega arith

  all_four : (fourth ≡ 0 → ⊥) → sides_by fourth ≡ 4
  all_four d = go (sides_by_lem fourth)
    where
      go : {k : ℕ} → SidesBy fourth k → k ≡ 4
      go (three z e) = absurd (d z)
      go (four z e) = e

  pub first_one : T (t 1) → FirstNumber (sides_by fourth) t 1
  first_one a = somebody (omega arith) (omega (arith, at_least)) a (none_yet (λ v. T (not (t v))))

  pub first_two : T (not (t 1)) → T (t 2) → FirstNumber (sides_by fourth) t 2
  first_two x a = somebody (omega arith) (omega (arith, at_least)) a (one_more (λ v. T (not (t v))) 1 (none_yet (λ v. T (not (t v)))) x)

  before_three : T (not (t 1)) → T (not (t 2)) → (v : ℕ) → 1 ≤ v → v < 3 → T (not (t v))
  before_three x y = one_more (λ v. T (not (t v))) 2 (one_more (λ v. T (not (t v))) 1 (none_yet (λ v. T (not (t v)))) x) y

  pub first_three : T (not (t 1)) → T (not (t 2)) → T (t 3) → FirstNumber (sides_by fourth) t 3
  first_three x y a = somebody (omega arith) (omega (arith, at_least)) a (before_three x y)

  before_four : T (not (t 1)) → T (not (t 2)) → T (not (t 3)) → (v : ℕ) → 1 ≤ v → v < 4 → T (not (t v))
  before_four x y z = one_more (λ v. T (not (t v))) 3 (before_three x y) z

  pub first_four : (fourth ≡ 0 → ⊥) → T (not (t 1)) → T (not (t 2)) → T (not (t 3)) → T (t 4) → FirstNumber (sides_by fourth) t 4
  first_four d x y z a = somebody (omega arith) (omega (arith, all_four d)) a (before_four x y z)

  pub first_none : T (not (t 1)) → T (not (t 2)) → T (not (t 3)) → ((fourth ≡ 0 → ⊥) → T (not (t 4))) → FirstNumber (sides_by fourth) t 0
  first_none x y z w = nobody refl (λ v a b. go (sides_by_lem fourth) v a b)
    where
      go : {k : ℕ} → SidesBy fourth k → (v : ℕ) → 1 ≤ v → v ≤ k → T (not (t v))
      go (three q e) v a b = before_four x y z v a (omega arith)
      go (four q e) v a b = one_more (λ v. T (not (t v))) 4 (before_four x y z) (w q) v a (omega arith)

-- the first corner that is no vertex
module _ (n : ℕ) (row : List ℕ) where
  is : (x : ℕ) → no_vertex n x ≡ true → T (no_vertex n x)
  is x e = rw e tt

  isn't : (x : ℕ) → no_vertex n x ≡ false → T (not (no_vertex n x))
  isn't x e = rw e tt

  pub unfit_one : no_vertex n (at row 0) ≡ true → UnfitIn n row 1
  unfit_one a = first_one (λ i. no_vertex n (at row (i - 1))) (at row 3) (is (at row 0) a)

  module _ (a : no_vertex n (at row 0) ≡ false) where
    pub unfit_two : no_vertex n (at row 1) ≡ true → UnfitIn n row 2
    unfit_two b = first_two (λ i. no_vertex n (at row (i - 1))) (at row 3) (isn't (at row 0) a) (is (at row 1) b)

    module _ (b : no_vertex n (at row 1) ≡ false) where
      pub unfit_three : no_vertex n (at row 2) ≡ true → UnfitIn n row 3
      unfit_three c = first_three (λ i. no_vertex n (at row (i - 1))) (at row 3) (isn't (at row 0) a) (isn't (at row 1) b) (is (at row 2) c)

      module _ (c : no_vertex n (at row 2) ≡ false) where
        pub unfit_four : n < at row 3 → UnfitIn n row 4
        unfit_four h =
            first_four (λ i. no_vertex n (at row (i - 1))) (at row 3) (λ z. omega arith) (isn't (at row 0) a) (isn't (at row 1) b) (isn't (at row 2) c)
            ((means_no_vertex n (at row 3)).shows (inr h))

        pub unfit_none : at row 3 ≤ n → UnfitIn n row 0
        unfit_none h =
            first_none (λ i. no_vertex n (at row (i - 1))) (at row 3) (isn't (at row 0) a) (isn't (at row 1) b) (isn't (at row 2) c)
            (λ d. not_T (no_vertex n (at row 3)) (λ t. elim ((means_no_vertex n (at row 3)).says t) [ inl z ↦ d z | inr k ↦ omega arith ]))

-- the corners before corner i of a row, and whether one of them equals it
module _ (row : List ℕ) where
  pub means_repeats : (i : ℕ) → Means (repeats row i) ((j : ℕ) × (1 ≤ j) × (j ≤ i - 1) × T (eqb (at row (j - 1)) (at row (i - 1))))
  unfolding repeats
  means_repeats i = means_some_number (i - 1) (λ j. eqb (at row (j - 1)) (at row (i - 1)))

  repeated : (i j : ℕ) → 1 ≤ j → j ≤ i - 1 → at row (i - 1) ≡ at row (j - 1) → T (repeats row i)
  repeated i j a b e = (means_repeats i).shows (j, a, b, (means_eq _ _).shows (sym e))

  alone : (i : ℕ) → ((j : ℕ) → 1 ≤ j → j < i → at row (j - 1) ≡ at row (i - 1) → ⊥) → T (not (repeats row i))
  alone i f =
      not_T (repeats row i)
      (λ t. let (j, a, b, u) = (means_repeats i).says t in f j a (omega arith) ((means_eq _ _).says u))

  not_one : T (not (repeats row 1))
  not_one = alone 1 (none_yet (λ j. at row (j - 1) ≡ at row 0 → ⊥))

  not_two : (at row 1 ≡ at row 0 → ⊥) → T (not (repeats row 2))
  not_two d = alone 2 (one_more (λ j. at row (j - 1) ≡ at row 1 → ⊥) 1 (none_yet (λ j. at row (j - 1) ≡ at row 1 → ⊥)) (λ e. d (sym e)))

  first_of : (x : ℕ) → (x ≡ at row 0 → ⊥) → (x ≡ at row 1 → ⊥) → (j : ℕ) → 1 ≤ j → j < 3 → at row (j - 1) ≡ x → ⊥
  first_of x d e =
      one_more (λ j. at row (j - 1) ≡ x → ⊥) 2
      (one_more (λ j. at row (j - 1) ≡ x → ⊥) 1 (none_yet (λ j. at row (j - 1) ≡ x → ⊥)) (λ q. d (sym q))) (λ q. e (sym q))

  not_three : (at row 2 ≡ at row 0 → ⊥) → (at row 2 ≡ at row 1 → ⊥) → T (not (repeats row 3))
  not_three d e = alone 3 (first_of (at row 2) d e)

  not_four : (at row 3 ≡ at row 0 → ⊥) → (at row 3 ≡ at row 1 → ⊥) → (at row 3 ≡ at row 2 → ⊥) → T (not (repeats row 4))
  not_four d e f = alone 4 (one_more (λ j. at row (j - 1) ≡ at row 3 → ⊥) 3 (first_of (at row 3) d e) (λ q. f (sym q)))

  pub repeats_two : at row 1 ≡ at row 0 → RepeatedIn row 2
  repeats_two e = first_two (repeats row) (at row 3) not_one (repeated 2 1 (omega arith) (omega arith) e)

  module _ (a : at row 1 ≡ at row 0 → ⊥) where
    pub repeats_three : (j : ℕ) → 1 ≤ j → j ≤ 2 → at row 2 ≡ at row (j - 1) → RepeatedIn row 3
    repeats_three j from to e = first_three (repeats row) (at row 3) not_one (not_two a) (repeated 3 j from to e)

    module _ (b : at row 2 ≡ at row 0 → ⊥) (c : at row 2 ≡ at row 1 → ⊥) where
      pub repeats_none_of_three : at row 3 ≡ 0 → RepeatedIn row 0
      repeats_none_of_three e =
          first_none (repeats row) (at row 3) not_one (not_two a) (not_three b c) (λ d. absurd (d e))

      module _ (d : at row 3 ≡ 0 → ⊥) where
        pub repeats_four : (j : ℕ) → 1 ≤ j → j ≤ 3 → at row 3 ≡ at row (j - 1) → RepeatedIn row 4
        repeats_four j from to e = first_four (repeats row) (at row 3) d not_one (not_two a) (not_three b c) (repeated 4 j from to e)

        pub repeats_none_of_four : (at row 3 ≡ at row 0 → ⊥) → (at row 3 ≡ at row 1 → ⊥) → (at row 3 ≡ at row 2 → ⊥) → RepeatedIn row 0
        repeats_none_of_four e f g =
            first_none (repeats row) (at row 3) not_one (not_two a) (not_three b c) (λ h. not_four e f g)
