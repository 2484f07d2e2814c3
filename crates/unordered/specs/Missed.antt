-- The vertices that the walk missed, found from place to place.
-- Assumes nothing.
use Rattle.std.specs.Prelude.{◌≡◌, refl, not, List, ℕ, ◌+◌, ◌*◌, ◌-◌, ◌≤◌, ◌<◌, T, eqb, length, take, drop}
use Rattle.std.proofs.Common.{ap, subst, ◌∙◌, inl, inr, arith, get_or-drop}
use Rattle.std.proofs.Math.Path.{sym}
use Rattle.std.proofs.Math.Dec.{not_T}
use Rattle.lists.specs.Tests.{both}
use Rattle.lists.specs.TestLaws.{Means, means_both, means_not, means_eq}
use Rattle.lists.specs.Search.{at}
use Rattle.lists.specs.SearchLaws.{lt_or_eq}
use Rattle.rules.specs.Elements.{elements, Side, slot, origin, side_at, first_number}
use Rattle.rules.specs.Refusals.{missed}
use Rattle.halfedge.specs.Rows.{row_of, part_at}
use Rattle.theory.specs.Sides.{slot_below, slot_side_at}
use Rattle.theory.specs.Least.{means_some, FirstNumber, number_is}
use Rattle.theory.specs.FitRows.{Fit, side_at_lem, entry_at}

-- from place o on stands what the walk wrote: 0 where no side stands
pub record Walked (o : ℕ) (L w : List ℕ) : Type 0 where
  pub size : elements L ≤ 1_000_000
  pub fours : length L ≡ 4 * elements L
  pub start : o ≤ 100_000_000
  pub room : o + length L ≤ length w
  pub empty : (p : ℕ) → p < length L → at L p ≡ 0 → at (drop o w) p ≡ 0

-- r is the lesser of best and x, where x counts only if it isn't what was written; 0 is none
pub data Lesser (best x written r : ℕ) : Type 0 where
  kept : written ≡ x → r ≡ best → Lesser best x written r
  first : (written ≡ x → ⊥) → best ≡ 0 → r ≡ x → Lesser best x written r
  less : (written ≡ x → ⊥) → (best ≡ 0 → ⊥) → x < best → r ≡ x → Lesser best x written r
  more : (written ≡ x → ⊥) → (best ≡ 0 → ⊥) → best ≤ x → r ≡ best → Lesser best x written r

-- r is the least entry below p that isn't what was written; 0 where there is none
pub data LeastBelow (L W : List ℕ) (p r : ℕ) : Type 0 where
  none : r ≡ 0 → ((q : ℕ) → q < p → at W q ≡ at L q) → LeastBelow L W p r
  some : (q : ℕ) → q < p → (at W q ≡ at L q → ⊥) → r ≡ at L q → (r ≡ 0 → ⊥) → ((i : ℕ) → i < p → (at W i ≡ at L i → ⊥) → r ≤ at L i) → LeastBelow L W p r

pub least_start : (L W : List ℕ) → LeastBelow L W 0 0
least_start L W = none refl (λ q h. absurd (omega arith))

below : {P : ℕ → Type 0} (p : ℕ) → ((q : ℕ) → q < p → P q) → P p → (q : ℕ) → q < p + 1 → P q
below {P} p f x q h = elim (lt_or_eq q p (omega arith)) [ inl l ↦ f q l | inr e ↦ subst P (sym e) x ]

-- one place more; an entry of 0 is what was written
pub least_more : (L W : List ℕ) (p best x written r : ℕ) → x ≡ at L p → written ≡ at W p → (x ≡ 0 → written ≡ 0) → LeastBelow L W p best → Lesser best x written r
    → LeastBelow L W (p + 1) r
least_more L W p best x written r e f z k (kept w q) = go k
  where
    same : at W p ≡ at L p
    same = sym f ∙ w ∙ e

    go : LeastBelow L W p best → LeastBelow L W (p + 1) r
    go (none y g) = none (q ∙ y) (below p g same)
    go (some i h d u nz g) =
        some i (omega arith) d (q ∙ u) (λ y. nz (sym q ∙ y)) (below p (λ j l c. rw q (g j l c)) (λ c. absurd (c same)))
least_more L W p best x written r e f z k (first w b q) = go k
  where
    differ : at W p ≡ at L p → ⊥
    differ c = w (f ∙ c ∙ sym e)

    go : LeastBelow L W p best → LeastBelow L W (p + 1) r
    go (none y g) =
        some p (omega arith) differ (q ∙ e) (λ v. w (z (sym q ∙ v) ∙ sym (sym q ∙ v)))
        (below p (λ j l c. absurd (c (g j l))) (λ c. rw (q ∙ e) (omega arith)))
    go (some i h d u nz g) = absurd (nz b)
least_more L W p best x written r e f z k (less w b l q) = go k
  where
    go : LeastBelow L W p best → LeastBelow L W (p + 1) r
    go (none y g) = absurd (b y)
    go (some i h d u nz g) =
        some p (omega arith) (λ c. w (f ∙ c ∙ sym e)) (q ∙ e) (λ v. w (z (sym q ∙ v) ∙ sym (sym q ∙ v)))
        (below p (λ j m c. omega (arith, g j m c)) (λ c. rw (q ∙ e) (omega arith)))
least_more L W p best x written r e f z k (more w b l q) = go k
  where
    go : LeastBelow L W p best → LeastBelow L W (p + 1) r
    go (none y g) = absurd (b y)
    go (some i h d u nz g) =
        some i (omega arith) d (q ∙ u) (λ v. nz (sym q ∙ v)) (below p (λ j m c. omega (arith, g j m c)) (λ c. omega arith))

-- after the last place it is the least vertex with a side that was missed
module _ {n : ℕ} {L : List ℕ} (fit : Fit n L) (W : List ℕ) where
  means_missed : (v : ℕ) → Means (missed L W v) ((s : ℕ) × Side L s × T (both (eqb (origin L s) v) (not (eqb (at W (slot s)) v))))
  unfolding missed
  means_missed v = means_some L (λ s. both (eqb (origin L s) v) (not (eqb (at W (slot s)) v)))

  means_left : (v s : ℕ) → Means (both (eqb (origin L s) v) (not (eqb (at W (slot s)) v))) ((origin L s ≡ v) × (at W (slot s) ≡ v → ⊥))
  means_left v s = means_both (means_eq (origin L s) v) (means_not (means_eq (at W (slot s)) v))

  -- a missed side is a place that differs
  differs : (v s : ℕ) → T (both (eqb (origin L s) v) (not (eqb (at W (slot s)) v))) → at W (slot s) ≡ at L (slot s) → ⊥
  unfolding origin
  differs v s t e = let (o, d) = (means_left v s).says t in d (e ∙ o)

  pub least_missed : {p r : ℕ} → p ≡ length L → LeastBelow L W p r → r ≡ first_number n (missed L W)
  unfolding origin
  least_missed {p} {r} all k = sym (number_is n (missed L W) r (go k))
    where
      go : LeastBelow L W p r → FirstNumber n (missed L W) r
      go (none y g) =
          FirstNumber.nobody y
          (λ v a b. not_T (missed L W v) (λ t. let (s, c, u) = (means_missed v).says t in differs v s u (g (slot s) (omega (arith, slot_below L s c)))))
      go (some q l d u nz g) =
          let a = side_at_lem n L fit q (omega arith) (λ y. nz (u ∙ y)) in
          let e = entry_at n L fit q a in
          FirstNumber.somebody (omega arith) (omega (arith, fit.to (side_at q) a))
          ((means_missed r).shows (side_at q, a, (means_left r (side_at q)).shows (sym e ∙ sym u, (λ y. d (ap (at W) (sym (slot_side_at q)) ∙ y ∙ u)))))
          (λ v b c. not_T (missed L W v)
          (λ t.
          let (s, x, y) = (means_missed v).says t in
          let (o, w) = (means_left v s).says y in
          omega (arith, g (slot s) (omega (arith, slot_below L s x)) (differs v s y))))

-- a row more, by what is read: its entries, and what stands from o + a on
module _ {o : ℕ} {L w : List ℕ} (k : Walked o L w) (a : ℕ) (inside : a + 4 ≤ length L) {row : List ℕ} (is : row ≡ row_of (take (a + 4 - a) (drop a L))) where
  entry : (j : ℕ) → j < 4 → at row j ≡ at L (a + j)
  entry j h = ap (λ (l : List ℕ). at l j) is ∙ part_at L a (a + 4) j refl h

  step : (j p q i : ℕ) {best b : ℕ} → j < 4 → p ≡ a + j → q ≡ p + 1 → i ≡ o + p → LeastBelow L (drop o w) p best → Lesser best (at row j) (at w i) b → LeastBelow L (drop o w) q b
  step j p q i {best} {b} h at_j after placed l x =
      let e : at row j ≡ at L p = entry j h ∙ ap (at L) (sym at_j) in
      let g : at w i ≡ at (drop o w) p = ap (at w) placed ∙ sym (get_or-drop o w p 0) in
      rw after (least_more L (drop o w) p best (at row j) (at w i) b e g (λ z. g ∙ k.empty p (omega arith) (sym e ∙ z)) l x)

  pub least_row : {best b₁ b₂ b₃ b₄ : ℕ} → LeastBelow L (drop o w) a best
      → Lesser best (at row 0) (at w (o + a)) b₁
      → Lesser b₁ (at row 1) (at w (o + a + 1)) b₂
      → Lesser b₂ (at row 2) (at w (o + a + 2)) b₃
      → Lesser b₃ (at row 3) (at w (o + a + 3)) b₄
      → LeastBelow L (drop o w) (a + 4) b₄
  least_row l x₁ x₂ x₃ x₄ =
      let l₁ = step 0 a (a + 1) (o + a) (omega arith) (omega arith) refl refl l x₁ in
      let l₂ = step 1 (a + 1) (a + 2) (o + a + 1) (omega arith) refl (omega arith) (omega arith) l₁ x₂ in
      let l₃ = step 2 (a + 2) (a + 3) (o + a + 2) (omega arith) refl (omega arith) (omega arith) l₂ x₃ in
      step 3 (a + 3) (a + 4) (o + a + 3) (omega arith) refl (omega arith) (omega arith) l₃ x₄
