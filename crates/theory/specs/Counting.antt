-- Check 8 by counting: about each vertex the walk over a list's own tables meets different sides, so it meets as many as there are exactly
-- where every vertex has a turn order.
-- Assumes nothing.
use Rattle.std.specs.Prelude.{◌≡◌, refl, Bool, ◌⊎◌, List, ℕ, suc, ◌+◌, ◌*◌, ◌-◌, ◌≤◌, ◌<◌, eqb}
use Rattle.std.proofs.Math.Path.{ap, sym}
use Rattle.std.proofs.Common.{subst, ◌∙◌, inl, inr, arith, T_not}
use Rattle.std.proofs.Math.Bool.{true}
use Rattle.std.proofs.Math.Dec.{T}
use Rattle.std.proofs.Math.ListN.{length}
use Rattle.lists.specs.TestLaws.{Test, pass, fail, test, passes, both_pass, means_eq}
use Rattle.lists.specs.Search.{at, count, zeros}
use Rattle.lists.specs.SearchLaws.{lt_or_eq}
use Rattle.lists.specs.Totals.{count_apart, count_parts}
use Rattle.rules.specs.Elements.{elements, is_side, Side, slot, origin, side_at, side_with, count_sides}
use Rattle.rules.specs.Pairing.{Pairing, Turn}
use Rattle.rules.specs.Tables.{partner, wide, v2e}
use Rattle.rules.specs.Recovery.{turn_by, walk}
use Rattle.rules.specs.Refusals.{unordered_vertex}
use Rattle.theory.specs.Sides.{side_positive, side_at_slot, slot_side_at, slot_below}
use Rattle.theory.specs.FitRows.{Fit}
use Rattle.theory.specs.Entries.{length_wide}
use Rattle.theory.specs.Turns.{turn_paired, turn_border}
use Rattle.theory.specs.Walking.{Fan, Walked, walk_walked}
use Rattle.theory.specs.Spreading.{last_turn}
use Rattle.theory.specs.Covering.{Covered}
use Rattle.theory.specs.Deciding.{means_covered}

module _ (n : ℕ) (L : List ℕ) (p : Pairing L (partner L)) where
  -- at side i of a fan: it is the last where it has no turn or its turn is the start; else its turn is the next one
  module _ {v c : ℕ} {o : List ℕ} (f : Fan L v c o) (i : ℕ) (h : i < length o) where
    is_side_lem : Side L (at o i)
    is_side_lem = (f.sides i h).0

    -- there is another side, its turn, or it is the last
    on_or_last : ((suc i < length o) × (turn_by (wide L) (at o i) ≡ at o (suc i))) ⊎ (suc i ≡ length o)
    on_or_last =
        elim (lt_or_eq (suc i) (length o) (omega arith)) [
          | inl l ↦ let (z, t) = f.turns i l in inl (l, turn_paired L (at o i) is_side_lem z ∙ t)
          | inr q ↦ inr q
        ]

    pub ends_over : turn_by (wide L) (at o i) ≡ 0 → suc i ≡ length o
    ends_over e = elim on_or_last [ inl (l, t) ↦ absurd (side_positive L (at o (suc i)) (f.sides (suc i) l).0 (sym t ∙ e)) | inr q ↦ q ]

    pub ends_back : turn_by (wide L) (at o i) ≡ c → suc i ≡ length o
    ends_back e =
        elim on_or_last
        [ inl (l, t) ↦ absurd (omega (arith, f.once (suc i) 0 l (omega arith) (sym t ∙ e ∙ sym (f.first (omega arith))))) | inr q ↦ q ]

    pub goes_on : (turn_by (wide L) (at o i) ≡ 0 → ⊥) → (turn_by (wide L) (at o i) ≡ c → ⊥) → (suc i < length o) × (turn_by (wide L) (at o i) ≡ at o (suc i))
    goes_on more d = elim on_or_last [ inl x ↦ x | inr q ↦ absurd (last q) ]
      where
        paired : partner L (at o i) ≡ 0 → ⊥
        paired z = more (turn_border L (at o i) is_side_lem z)

        last : suc i ≡ length o → ⊥
        last q =
            let e : length o - 1 ≡ i = omega arith in
            elim (f.last (omega arith)) [
              | inl z ↦ paired (ap (λ (k : ℕ). partner L (at o k)) (sym e) ∙ z)
              | inr (j, k, t) ↦
                  let (x, y) = subst (λ (k : ℕ). Turn L (partner L) (at o k) (at o 0)) e (last_turn L p v c o f j k t) in
                  d (turn_paired L (at o i) is_side_lem paired ∙ y ∙ f.first (omega arith))
            ]

  -- as many places are written as there are sides exactly where all of these are
  module _ (fit : Fit n L) where
    abbrev W : List ℕ
    W = walk (v2e n L) (wide L)

    abbrev known : Walked n L n W
    known = walk_walked n L p

    abbrev is_some : ℕ → Bool
    is_some = side_with L (λ s. true)

    abbrev is_empty : ℕ → Bool
    is_empty i = eqb (at W i) 0

    either : (i : ℕ) → i < length L → T (is_some i) ⊎ T (is_empty i)
    either i h = go (test (is_side L (side_at i)))
      where
        go : Test (is_side L (side_at i)) → T (is_some i) ⊎ T (is_empty i)
        go (pass t e) = inl (both_pass (is_side L (side_at i)) true t tt)
        go (fail t e) =
            inr ((means_eq (at W i) 0).shows (known.outside i (λ s a q. T_not (is_side L (side_at i)) t (rw (ap side_at (sym q) ∙ side_at_slot L s a) a))))

    -- the two counts, up to the length of the list
    same : zeros W ≡ count is_empty (length L)
    unfolding zeros
    same = ap (count is_empty) (known.long ∙ length_wide L ∙ sym fit.fours)

    abbrev pub Counted : Type 0
    Counted = count_sides L (λ s. true) + zeros W ≡ 4 * elements L

    module _ (all : Counted) where
      written : (s : ℕ) → Side L s → at W (slot s) ≡ 0 → ⊥
      unfolding count_sides
      written s a z =
          count_apart is_some is_empty (length L) either (omega (arith, all, same, fit.fours)) (slot s) (slot_below L s a)
          (both_pass (is_side L (side_at (slot s))) true (rw (side_at_slot L s a) a) tt) ((means_eq (at W (slot s)) 0).shows z)

      covered : (v : ℕ) → 1 ≤ v → v ≤ n → Covered L W v
      covered v a b s (x, e) =
          let (o, f, sets, reached) = known.fans v a b in
          elim (reached s (x, e))
          [ inl z ↦ absurd (written s x z) | inr (i, h, q) ↦ subst (λ (t : ℕ). at W (slot t) ≡ v) q (sets i h) ]

      pub counted_ordered : unordered_vertex n L ≡ 0
      counted_ordered = (means_eq (unordered_vertex n L) 0).says ((means_covered n L).shows covered)

    pub ordered_counted : unordered_vertex n L ≡ 0 → Counted
    unfolding count_sides
    ordered_counted z = omega (arith, count_parts is_some is_empty (length L) either apart, same, fit.fours)
      where
        apart : (i : ℕ) → i < length L → T (is_some i) → T (is_empty i) → ⊥
        apart i h t u =
            let (a, y) = passes (is_side L (side_at i)) true t in
            let s = side_at i in
            let all = (means_covered n L).says ((means_eq (unordered_vertex n L) 0).shows z) (origin L s) (fit.from s a) (fit.to s a) in
            omega (arith, fit.from s a, all s (a, refl), ap (at W) (slot_side_at i), (means_eq (at W i) 0).says u)
