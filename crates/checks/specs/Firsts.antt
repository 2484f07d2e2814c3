-- The least side of each vertex, found from the last place of the list to the first.
-- Assumes nothing.
use Rattle.std.specs.Prelude.{◌≡◌, ◌⊎◌, List, ℕ, ◌+◌, ◌-◌, ◌≤◌, ◌<◌, eqb, length, set}
use Rattle.std.proofs.Common.{ap, sym, ◌∙◌, inl, inr, arith}
use Rattle.std.proofs.Math.Dec.{not_T}
use Rattle.lists.specs.TestLaws.{decide, means_eq}
use Rattle.lists.specs.Search.{at}
use Rattle.lists.specs.SearchLaws.{lt_or_eq}
use Rattle.lists.specs.Stores.{at_same, at_other}
use Rattle.rules.specs.Elements.{Side, slot, origin, side_at}
use Rattle.rules.specs.Pairing.{SideAt}
use Rattle.rules.specs.Tables.{least_side}
use Rattle.theory.specs.Sides.{side_at_slot, slot_side_at, slot_below, slot_less}
use Rattle.theory.specs.Least.{First, first_is}
use Rattle.theory.specs.FitRows.{Fit, side_at_lem, entry_at, no_side_at}

-- c is the least side with origin v whose corner stands at p or later; 0 where there is none
pub data FirstFrom (L : List ℕ) (p v c : ℕ) : Type 0 where
  none : c ≡ 0 → ((s : ℕ) → SideAt L v s → p ≤ slot s → ⊥) → FirstFrom L p v c
  some : SideAt L v c → p ≤ slot c → ((s : ℕ) → SideAt L v s → p ≤ slot s → slot c ≤ slot s) → FirstFrom L p v c

abbrev pub FirstsFrom : ℕ → List ℕ → ℕ → List ℕ → Type 0
FirstsFrom n L p w = (v : ℕ) → 1 ≤ v → v ≤ n → FirstFrom L p v (at w (v - 1))

-- at each vertex the least side with that origin
abbrev pub Firsts : ℕ → List ℕ → List ℕ → Type 0
Firsts n L w = (v : ℕ) → 1 ≤ v → v ≤ n → at w (v - 1) ≡ least_side L v

pub firsts_none : (n : ℕ) (L w : List ℕ) → ((i : ℕ) → i < n → at w i ≡ 0) → FirstsFrom n L (length L) w
firsts_none n L w f v a b = none (f (v - 1) (omega arith)) (λ s (c, o) h. omega (arith, slot_below L s c))

module _ (n : ℕ) (L w : List ℕ) (fit : Fit n L) (room : n ≤ length w) (p : ℕ) (inside : p < length L) (k : FirstsFrom n L (p + 1) w) where
  -- no side begins at p
  pub firsts_skip : at L p ≡ 0 → FirstsFrom n L p w
  firsts_skip e v a b = go (k v a b)
    where
      later : (s : ℕ) → Side L s → p ≤ slot s → p + 1 ≤ slot s
      later s c h = elim (lt_or_eq p (slot s) (omega arith)) [ inl l ↦ omega arith | inr q ↦ absurd (no_side_at n L fit p e (rw (ap side_at q ∙ side_at_slot L s c) c)) ]

      go : FirstFrom L (p + 1) v (at w (v - 1)) → FirstFrom L p v (at w (v - 1))
      go (none z f) = none z (λ s (c, o) h. f s (c, o) (later s c h))
      go (some x h f) = some x (omega arith) (λ s (c, o) l. f s (c, o) (later s c l))

  -- the side that begins at p is the least of its origin
  pub firsts_put : (x : ℕ) → x ≡ at L p → (x ≡ 0 → ⊥) → FirstsFrom n L p (set w (x - 1) (side_at p))
  firsts_put x e d v a b = go (decide (means_eq v x))
    where
      here : Side L (side_at p)
      here = side_at_lem n L fit p inside (λ z. d (e ∙ z))

      from_here : origin L (side_at p) ≡ x
      from_here = sym (entry_at n L fit p here) ∙ sym e

      go : (v ≡ x) ⊎ (v ≡ x → ⊥) → FirstFrom L p v (at (set w (x - 1) (side_at p)) (v - 1))
      go (inl q) =
          let same : at (set w (x - 1) (side_at p)) (v - 1) ≡ side_at p = ap (λ (y : ℕ). at (set w (x - 1) (side_at p)) (y - 1)) q ∙ at_same w (x - 1) (side_at p) (omega arith) in
          rw same (some (here, from_here ∙ sym q) (rw (slot_side_at p) (omega arith)) (λ s c h. rw (slot_side_at p) h))
      go (inr q) =
          let differ : v - 1 ≡ x - 1 → ⊥ = λ z. q (omega arith) in
          rw (at_other w (x - 1) (side_at p) (v - 1) differ) (keep (k v a b))
        where
          -- a side at p has another origin
          later : (s : ℕ) → SideAt L v s → p ≤ slot s → p + 1 ≤ slot s
          later s (c, o) h =
              elim (lt_or_eq p (slot s) (omega arith)) [
                | inl l ↦ omega arith
                | inr z ↦ absurd (q (sym o ∙ ap (origin L) (sym (ap side_at z ∙ side_at_slot L s c)) ∙ from_here))
              ]

          keep : FirstFrom L (p + 1) v (at w (v - 1)) → FirstFrom L p v (at w (v - 1))
          keep (none z f) = none z (λ s c h. f s c (later s c h))
          keep (some y h f) = some y (omega arith) (λ s c l. f s c (later s c l))

-- from the first place on that is the least side of all
pub firsts_all : (n : ℕ) (L w : List ℕ) → FirstsFrom n L 0 w → Firsts n L w
firsts_all n L w k v a b = sym (first_is L (λ s. eqb (origin L s) v) (at w (v - 1)) (go (k v a b)))
  where
    go : {c : ℕ} → FirstFrom L 0 v c → First L (λ s. eqb (origin L s) v) c
    go (none z f) =
        First.nobody z (λ s c. not_T (eqb (origin L s) v) (λ t. f s (c, (means_eq (origin L s) v).says t) (omega arith)))
    go {c} (some (x, o) h f) =
        First.somebody x ((means_eq (origin L c) v).shows o)
        (λ s d l. not_T (eqb (origin L s) v) (λ t. omega (arith, f s (d, (means_eq (origin L s) v).says t) (omega arith), slot_less L s c d x l)))

-- an entry that isn't 0 is a vertex
pub entry_vertex : (n : ℕ) (L : List ℕ) → Fit n L → (p x : ℕ) → p < length L → x ≡ at L p → (x ≡ 0 → ⊥) → (1 ≤ x) × (x ≤ n)
entry_vertex n L fit p x h e d =
    let a = side_at_lem n L fit p h (λ z. d (e ∙ z)) in
    let q = entry_at n L fit p a in
    (omega (arith, fit.from (side_at p) a), omega (arith, fit.to (side_at p) a))
