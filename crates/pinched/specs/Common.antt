-- A search for a marked vertex, and refusal 20 by it: the neighbours of a are marked, and one of them, other than c and d, is a neighbour of b.
-- Assumes nothing.
use Rattle.std.specs.Prelude.{◌≡◌, refl, Bool, true, false, not, ◌⊎◌, List, ℕ, ◌+◌, ◌*◌, ◌-◌, ◌/◌, ◌%◌, ◌≤◌, ◌<◌, eqb}
use Rattle.std.proofs.Common.{ap, sym, subst, ◌∙◌, arith}
use Rattle.std.proofs.Math.Logic.{inl, inr}
use Rattle.lists.specs.Tests.{both, either}
use Rattle.lists.specs.TestLaws.{Means, means_true, means_false, means_one, means_both, means_either, means_not, means_eq}
use Rattle.lists.specs.Search.{at}
use Rattle.rules.specs.Elements.{elements}
use Rattle.theory.specs.Sides.{SideFacts, side_facts}
use Rattle.edit_rules.specs.Contract.{is_neighbour}
use Rattle.theory.specs.Least.{means_some_number}
use Rattle.theory.specs.FitRows.{Fit}
use Rattle.theory.specs.Triangles.{Runs}
use Rattle.theory.specs.Coarsening.{pinches_by}
use Rattle.theory.specs.ContractTests.{Neighbours, means_neighbour, neighbour_in}
use Rattle.pinched.specs.Marks.{Marked, Joined, joined_facts, joined_to, joined_parts}
use Rattle.pinched.specs.Corners.{Other, joined_itself, itself_joined}

-- v is a vertex that M marks, other than c and d
pub record Counts (M : List ℕ) (c d v : ℕ) : Type 0 where
  pub from : 1 ≤ v
  pub marked : at M (v - 1) ≡ 1
  pub not_c : v ≡ c → ⊥
  pub not_d : v ≡ d → ⊥

pub counts_by : (M : List ℕ) (c d v : ℕ) {i : ℕ} → i ≡ v - 1 → (v ≡ 0 → ⊥) → (v ≡ c → ⊥) → (v ≡ d → ⊥) → Means (eqb (at M i) 1) (Counts M c d v)
counts_by M c d v {i} e z p q =
    record {
      says = λ t. record { from = omega arith; marked = ap (at M) (sym e) ∙ (means_eq (at M i) 1).says t; not_c = p; not_d = q };
      shows = λ k. (means_eq (at M i) 1).shows (ap (at M) e ∙ k.marked);
    }

-- a side with a code from lo on and below hi joins b to such a vertex
abbrev pub Met : List ℕ → ℕ → ℕ → ℕ → (ℕ → Type 0) → Type 0
Met L lo hi b C = (v : ℕ) × Joined L lo hi b v × C v

abbrev pub MetAnywhere : List ℕ → ℕ → (ℕ → Type 0) → Type 0
MetAnywhere L b C = (v : ℕ) × Neighbours L b v × C v

-- it is a side of some element
pub met_by_element : {L : List ℕ} {b : ℕ} {C : ℕ → Type 0} → MetAnywhere L b C → (f : ℕ) × (1 ≤ f) × (f < elements L + 1) × Met L (8 * f) (8 * f + 8) b C
met_by_element {L} (v, (s, x), z) =
    let t : SideFacts L s = elim x [ inl r ↦ side_facts L s r.side | inr r ↦ side_facts L s r.side ] in
    (s / 8, t.element_from, omega (arith, t.element_to), (v, record { side = s; from = omega arith; below = omega arith; runs = x }, z))

module _ {L : List ℕ} {b : ℕ} {C : ℕ → Type 0} where
  -- none up to p, and none from there on
  pub unmet_both : {lo p q h hi : ℕ} → (Met L lo p b C → ⊥) → (Met L q h b C → ⊥) → q ≤ p → hi ≤ h → Met L lo hi b C → ⊥
  unmet_both {p = p} {q} {h} x y k l (v, j, z) =
      elim (joined_parts p q h k l j) [ inl i ↦ x (v, i, z) | inr i ↦ y (v, i, z) ]

  pub met_in : {lo hi k l : ℕ} → Met L lo hi b C → k ≤ lo → hi ≤ l → Met L k l b C
  met_in (v, j, z) k l = (v, joined_to j k l, z)

-- where none of the sides of element f before side k meets such a vertex, none is met up to there
pub unmet_before : {L : List ℕ} {b : ℕ} {C : ℕ → Type 0} (f k : ℕ) → ((x : ℕ) → 1 ≤ x → x < k → Met L (8 * f + x) (8 * f + x + 1) b C → ⊥) → k ≤ 8
    → Met L (8 * f) (8 * f + k) b C → ⊥
unmet_before f k g h (v, j, z) =
    let x : ℕ = j.side % 8 in
    let e : 8 * f + x ≡ j.side = omega (arith, j.from, j.below) in
    let i = (joined_facts j).number_from in
    g x i (omega (arith, j.below)) (v, record { side = j.side; from = omega arith; below = omega arith; runs = j.runs }, z)

-- side s runs from x to y, and r is the other end where one is b
module _ {n : ℕ} {L : List ℕ} (fit : Fit n L) {s x y b r : ℕ} (runs : Runs L s x y) (other : Other x y b r) {M : List ℕ} {c d : ℕ} where
  pub met_next : Counts M c d r → Met L s (s + 1) b (Counts M c d)
  met_next k = (r, itself_joined fit runs other r (k.from, refl), k)

  next_met : Met L s (s + 1) b (Counts M c d) → Counts M c d r
  next_met (v, j, k) = subst (Counts M c d) (joined_itself fit runs other v j).1 k

  pub unmet_next : {lo hi : ℕ} → (Met L lo s b (Counts M c d) → ⊥) → (Counts M c d r → ⊥) → hi ≤ s + 1 → Met L lo hi b (Counts M c d) → ⊥
  unmet_next f g h = unmet_both f (λ x. g (next_met x)) (omega arith) h

  -- the test of r is that of side s
  pub means_here : {q : Bool} → Means q (Counts M c d r) → Means q (Met L s (s + 1) b (Counts M c d))
  means_here m = record { says = λ t. met_next (m.says t); shows = λ x. m.shows (next_met x) }

  -- where none was met before s, the test of r is that of all up to s
  pub means_last : {lo : ℕ} {q : Bool} → lo ≤ s → (Met L lo s b (Counts M c d) → ⊥) → Means q (Counts M c d r)
      → Means q (Met L lo (s + 1) b (Counts M c d))
  means_last {q = true} h f m = means_true (met_in (met_next (m.says tt)) h (omega arith))
  means_last {q = false} h f m = means_false (unmet_next f m.shows (omega arith))

-- the neighbours of a were marked in a blank buffer
module _ (n : ℕ) (L : List ℕ) (fit : Fit n L) (a b c d : ℕ) {M N : List ℕ} (blank : (i : ℕ) → i < n → at M i ≡ 0)
    (marks : Marked (Neighbours L a) M N) where
  marked_neighbour : (v : ℕ) → 1 ≤ v → v ≤ n → at N (v - 1) ≡ 1 → Neighbours L a v
  marked_neighbour v h k e =
      elim (marks.only v h e) [ inl z ↦ absurd (omega (arith, blank (v - 1) (omega arith))) | inr x ↦ x ]

  pub pinched_is : {r : Bool} → Means r (MetAnywhere L b (Counts N c d)) → r ≡ pinches_by n L a b c d
  unfolding pinches_by
  pinched_is m =
      means_one m (means_some_number n _)
      (λ (v, y, k).
      let (_, h) = neighbour_in fit y in
      (v, k.from, h, (each v).shows (marked_neighbour v k.from h k.marked, (y, λ e. elim e [ inl z ↦ k.not_c z | inr z ↦ k.not_d z ]))))
      (λ (v, h, k, t).
      let (x, (y, z)) = (each v).says t in
      (v, y, record { from = h; marked = marks.added v x; not_c = λ e. z (inl e); not_d = λ e. z (inr e) }))
    where
      each : (v : ℕ)
          → Means (both (is_neighbour L a v) (both (is_neighbour L b v) (not (either (eqb v c) (eqb v d)))))
          (Neighbours L a v × (Neighbours L b v × (((v ≡ c) ⊎ (v ≡ d)) → ⊥)))
      each v = means_both (means_neighbour L a v) (means_both (means_neighbour L b v) (means_not (means_either (means_eq v c) (means_eq v d))))
