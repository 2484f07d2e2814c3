-- Two triangles with a common side, in fit rows: which corners differ, and which of their sides begin at the same one.
-- Assumes nothing.
use Rattle.std.specs.Prelude.{◌≡◌, refl, true, false, ◌⊎◌, List, ℕ, ◌/◌, T, eqb}
use Rattle.std.proofs.Common.{ap, sym, ◌∙◌, inl, inr, arith}
use Rattle.lists.specs.TestLaws.{Test, pass, fail, test, means_not, means_eq}
use Rattle.rules.specs.Elements.{Side, origin, next, previous}
use Rattle.rules.specs.Pairing.{is_corner, SideAt, Conformal}
use Rattle.theory.specs.Steps.{next_numbered, previous_numbered}
use Rattle.theory.specs.FitRows.{Fit, ends_differ}
use Rattle.theory.specs.Meeting.{element_of, means_begins, not_three, three_shared}
use Rattle.theory.specs.Triangles.{Runs, TriangleSide, itself, after, before, around, next_runs, previous_runs}
use Rattle.theory.specs.Counterparts.{Diamond}

-- element e, where f and g count as one
unfoldable pub whole : ℕ → ℕ → ℕ → ℕ
whole f g e = elim (eqb e g) [ true ↦ f | false ↦ e ]

data Whole (f g e k : ℕ) : Type 0 where
  merged : e ≡ g → k ≡ f → Whole f g e k
  own : (e ≡ g → ⊥) → k ≡ e → Whole f g e k

module _ (f g : ℕ) where
  whole_is : (e : ℕ) → Whole f g e (whole f g e)
  unfolding whole
  whole_is e = go (test (eqb e g))
    where
      go : Test (eqb e g) → Whole f g e (whole f g e)
      go (pass t i) = merged ((means_eq e g).says t) (rw (i, whole))
      go (fail t i) = own ((means_not (means_eq e g)).says t) (rw (i, whole))

  pub one_whole : whole f g f ≡ whole f g g
  one_whole = elim (whole_is g) [
    | own d i ↦ absurd (d refl)
    | merged d i ↦ elim (whole_is f) [ merged e j ↦ j ∙ sym i | own e j ↦ j ∙ sym i ]
  ]

  same_whole : (d e : ℕ) → whole f g d ≡ whole f g e → (d ≡ e) ⊎ (((d ≡ f) × (e ≡ g)) ⊎ ((d ≡ g) × (e ≡ f)))
  same_whole d e z = go (whole_is d) (whole_is e)
    where
      go : Whole f g d (whole f g d) → Whole f g e (whole f g e) → (d ≡ e) ⊎ (((d ≡ f) × (e ≡ g)) ⊎ ((d ≡ g) × (e ≡ f)))
      go (merged a b) (merged i j) = inl (a ∙ sym i)
      go (merged a b) (own i j) = inr (inr (a, omega arith))
      go (own a b) (merged i j) = inr (inl (omega arith, i))
      go (own a b) (own i j) = inl (omega arith)

-- side q of the triangle of s, and its corner
data Begins (L : List ℕ) (s a b c q : ℕ) : Type 0 where
  one : q ≡ s → origin L q ≡ a → Begins L s a b c q
  two : q ≡ next L s → origin L q ≡ b → Begins L s a b c q
  three : q ≡ previous L s → origin L q ≡ c → Begins L s a b c q

module _ {L : List ℕ} {s a b c : ℕ} (x : TriangleSide L s a b c) where
  begins : (q : ℕ) → Side L q → q / 8 ≡ s / 8 → Begins L s a b c q
  begins q w e = elim (around L s x.runs.side x.triangle q w e) [
    | itself k ↦ one k (ap (origin L) k ∙ x.runs.from)
    | after k ↦ two k (ap (origin L) k ∙ x.runs.to)
    | before k ↦ three k (ap (origin L) k ∙ x.third)
  ]

  pub corners : T (is_corner L (s / 8) a) × T (is_corner L (s / 8) b) × T (is_corner L (s / 8) c)
  corners =
      let y = x.runs in
      let i = next_numbered L s y.side in
      let j = previous_numbered L s y.side in
      (corner a s (y.side, y.from) refl, corner b (next L s) (i.side, y.to) i.same, corner c (previous L s) (j.side, x.third) j.same)
    where
      corner : (v r : ℕ) → SideAt L v r → r / 8 ≡ s / 8 → T (is_corner L (s / 8) v)
      corner v r y e = (means_begins L (s / 8) v (element_of L s x.runs.side)).shows (r, y, e)

  -- it has no others
  pub its_corner : (v : ℕ) → T (is_corner L (s / 8) v) → (v ≡ a) ⊎ ((v ≡ b) ⊎ (v ≡ c))
  its_corner v t =
      let (q, (w, o), e) = (means_begins L (s / 8) v (element_of L s x.runs.side)).says t in
      elim (begins q w e) [ one i j ↦ inl (sym o ∙ j) | two i j ↦ inr (inl (sym o ∙ j)) | three i j ↦ inr (inr (sym o ∙ j)) ]

  -- where its corners differ, different sides begin at different ones
  pub one_corner : (a ≡ b → ⊥) → (b ≡ c → ⊥) → (c ≡ a → ⊥) → (q w : ℕ) → Side L q → Side L w → q / 8 ≡ s / 8 → w / 8 ≡ s / 8 → origin L q ≡ origin L w
      → q ≡ w
  one_corner d d' d'' q w y z e f o = go (begins q y e) (begins w z f)
    where
      go : Begins L s a b c q → Begins L s a b c w → q ≡ w
      go (one i j) (one k l) = i ∙ sym k
      go (one i j) (two k l) = absurd (d (sym j ∙ o ∙ l))
      go (one i j) (three k l) = absurd (d'' (sym l ∙ sym o ∙ j))
      go (two i j) (one k l) = absurd (d (sym l ∙ sym o ∙ j))
      go (two i j) (two k l) = i ∙ sym k
      go (two i j) (three k l) = absurd (d' (sym j ∙ o ∙ l))
      go (three i j) (one k l) = absurd (d'' (sym j ∙ o ∙ l))
      go (three i j) (two k l) = absurd (d' (sym l ∙ sym o ∙ j))
      go (three i j) (three k l) = i ∙ sym k

-- r is of the diagonal, and q the side beyond it with the same origin
pub data Across (L : List ℕ) (s t r q : ℕ) : Type 0 where
  one : r ≡ s → q ≡ next L t → Across L s t r q
  other : r ≡ t → q ≡ next L s → Across L s t r q

module _ {n : ℕ} {L : List ℕ} (fit : Fit n L) where
  pub runs_differ : {r a b : ℕ} → Runs L r a b → a ≡ b → ⊥
  runs_differ {r} x e = ends_differ n L fit r x.side (x.from ∙ e ∙ sym x.to)

  module _ {s t a b c d : ℕ} (x : Diamond L s t a b c d) where
    -- two triangles that meet well have different third corners
    pub thirds_differ : Conformal L → c ≡ d → ⊥
    thirds_differ m e =
        let y = x.one in
        let z = x.other in
        let (i, j, k) = corners y in
        let (p, q, r) = corners z in
        let many = three_shared L (s / 8) (t / 8) (runs_differ y.runs) (λ u. runs_differ (previous_runs y) (sym u)) (runs_differ (next_runs y))
        (i, q) (j, p) (k, rw e r) in
        not_three L (s / 8) (t / 8) many
        (m (s / 8) (t / 8) (element_of L s y.runs.side) (element_of L t z.runs.side) x.apart)

    module _ (differ : c ≡ d → ⊥) where
      -- two sides of a diamond, one of each triangle, that begin at the same corner
      beyond : (r q : ℕ) → Side L r → Side L q → r / 8 ≡ s / 8 → q / 8 ≡ t / 8 → origin L r ≡ origin L q → Across L s t r q ⊎ Across L s t q r
      beyond r q y z e f o = go (begins x.one r y e) (begins x.other q z f)
        where
          go : Begins L s a b c r → Begins L t b a d q → Across L s t r q ⊎ Across L s t q r
          go (one i j) (one k l) = absurd (runs_differ x.one.runs (sym j ∙ o ∙ l))
          go (one i j) (two k l) = inl (one i k)
          go (one i j) (three k l) = absurd (runs_differ (next_runs x.other) (sym j ∙ o ∙ l))
          go (two i j) (one k l) = inr (other k i)
          go (two i j) (two k l) = absurd (runs_differ x.other.runs (sym j ∙ o ∙ l))
          go (two i j) (three k l) = absurd (runs_differ (previous_runs x.other) (sym l ∙ sym o ∙ j))
          go (three i j) (one k l) = absurd (runs_differ (next_runs x.one) (sym l ∙ sym o ∙ j))
          go (three i j) (two k l) = absurd (runs_differ (previous_runs x.one) (sym j ∙ o ∙ l))
          go (three i j) (three k l) = absurd (differ (sym j ∙ o ∙ l))

      -- two sides with one origin, of one element or of the diamond
      pub beside : (r q : ℕ) → Side L r → Side L q → origin L r ≡ origin L q → whole (s / 8) (t / 8) (r / 8) ≡ whole (s / 8) (t / 8) (q / 8)
          → (r ≡ q) ⊎ (Across L s t r q ⊎ Across L s t q r)
      beside r q y z o e = elim (same_whole (s / 8) (t / 8) (r / 8) (q / 8) e) [
        | inl i ↦ inl (fit.differ r q y z i o)
        | inr k ↦ inr (elim k [
          | inl (i, j) ↦ beyond r q y z i j o
          | inr (i, j) ↦ elim (beyond q r z y j i (sym o)) [ inl u ↦ inr u | inr u ↦ inl u ]
        ])
      ]
