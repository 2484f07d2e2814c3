-- A split and then the contraction of the same code: the old list comes back, with its n. The half of s that keeps its code runs from a to the new
-- vertex v, which is merged into a.
-- Assumes nothing.
use Rattle.std.specs.Prelude.{◌≡◌, true, false, ◌⊎◌, List, ℕ, ◌+◌, ◌*◌, ◌-◌, ◌/◌, ◌%◌, ◌≤◌, ◌<◌, length}
use Rattle.std.proofs.Math.Path.{refl, ap, sym}
use Rattle.std.proofs.Common.{◌∙◌, arith}
use Rattle.std.proofs.Math.Logic.{inl, inr}
use Rattle.lists.specs.TestLaws.{true_of, false_of, means_itself, means_both, means_either, means_not, means_eq, means_within, zero_or}
use Rattle.lists.specs.Search.{at}
use Rattle.rules.specs.Elements.{max_vertex, max_element, elements, sides, is_side, origin, next, previous, destination}
use Rattle.rules.specs.Pairing.{Element, Accepted}
use Rattle.rules.specs.Tables.{partner, borders}
use Rattle.edit_rules.specs.Edits.{becomes, is_there}
use Rattle.edit_rules.specs.Swap.{third}
use Rattle.edit_rules.specs.Split.{with_corner, halved, split_at, is_splittable}
use Rattle.edit_rules.specs.Contract.{without_row, without_edge, renamed, merged, contracted, pinches, strands, contract}
use Rattle.theory.specs.Sides.{side_facts, side_positive}
use Rattle.theory.specs.Steps.{next_side_lem, previous_side_lem}
use Rattle.theory.specs.FitRows.{ends_differ, side_at_lem, entry_at}
use Rattle.theory.specs.Pairings.{means_opposed, means_joins, partner_opposed}
use Rattle.theory.specs.Triangles.{Runs, TriangleSide}
use Rattle.theory.specs.Orders.{Good, good, lone}
use Rattle.theory.specs.Refining.{Cut, Refined}
use Rattle.theory.specs.Halving.{Halvable, halved_size, halved_fours, far, triangle_elsewhere}
use Rattle.theory.specs.Swapping.{Diagonal, starts, ends, apart}
use Rattle.theory.specs.Counterparts.{paired_across}
use Rattle.theory.specs.Splitting.{Splittable, means_splittable, split_diagonal, split_border, split_inner, first, second, split_refined}
use Rattle.theory.specs.RefinedSides.{along, across, cut_first, out, into, same, kind}
use Rattle.theory.specs.RefinedPairs.{is_out, is_into}
use Rattle.theory.specs.RefinedTurns.{near_still, refined_good}
use Rattle.theory.specs.ContractTests.{Neighbours, Third, Pinched, means_pinches, contracts}
use Rattle.theory.specs.Using.{Used, means_strands}
use Rattle.theory.specs.Contracting.{without_border}
use Rattle.theory.specs.Rejoining.{Marked, marked_on, marked_corner, marked_without, unmarked, both_go, near_goes, far_goes}

module _ (n : ℕ) (L : List ℕ) (old : Accepted n L) (s : ℕ) (x : Splittable L s) (vertices : n + 1 ≤ max_vertex)
    (size : elements (split_at L s (n + 1)) ≤ max_element) where
  -- the new vertex, the partner of s, and the new list
  abbrev v : ℕ
  v = n + 1

  abbrev t : ℕ
  t = partner L s

  abbrev L' : List ℕ
  L' = split_at L s (n + 1)

  g : Good n L
  g = good n L old

  refined : Refined n L L' s
  refined = split_refined n L g.fit s x vertices size

  g' : Good (n + 1) L'
  g' = refined_good g old.meeting refined

  -- s runs from a to v
  half : TriangleSide L' s (origin L s) v (origin L (previous L s))
  half = (refined.halves s (cut_first refined)).near

  -- on a border it stays one
  still : t ≡ 0 → partner L' s ≡ 0
  still z = near_still g old.meeting refined s z (cut_first refined)

  -- with the triangle of s halved
  abbrev one : List ℕ
  one = halved L s (n + 1)

  halvable : Halvable L s
  halvable = first n L g.fit s x

  -- else its partner is in the last row: the half of t that runs from v to a
  abbrev t⁺ : ℕ
  t⁺ = 8 * (elements one + 1) + t % 8

  module _ (z : t ≡ 0 → ⊥) where
    diagonal : Diagonal L s
    diagonal = split_diagonal x z

    cut : Cut L s t
    cut = record { side = (partner_opposed L s z).0; is = inr refl }

    halvable' : Halvable one t
    halvable' = second n L g.fit s x v z

    across_still : TriangleSide one t (origin L t) (origin L s) (origin L (previous L t))
    across_still =
        rw (sym (starts n L g.fit s diagonal)) at
        (triangle_elsewhere v halvable t (λ e. apart n L g.fit s diagonal (sym e)) (refined.halves t cut).old)

    half_across : TriangleSide L' t⁺ v (origin L s) (origin L (previous L t))
    half_across = rw (split_inner L s v z) (far v halvable' across_still)

    below : s / 8 < t⁺ / 8
    below = omega (arith, side_facts L s x.side, halved_size v halvable)

    facing : partner L' s ≡ t⁺
    facing = paired_across (record { one = half; other = half_across; apart = λ e. omega (arith, below) }) g'.pairing

    facing_paired : partner L' s ≡ 0 → ⊥
    facing_paired e = side_positive L' t⁺ half_across.runs.side (sym facing ∙ e)

    -- the last row goes, then that of s
    left_inner : without_edge L' s ≡ without_row (s / 8) (with_corner one (next one t) v)
    left_inner =
        let last : t⁺ / 8 ≡ elements one + 1 = omega arith in
        both_go L' s facing_paired (rw facing below)
        ∙ ap (λ (q : ℕ). without_row (s / 8) (without_row (q / 8) L')) facing
        ∙ ap (λ (k : ℕ). without_row (s / 8) (without_row k L')) last
        ∙ ap (λ (X : List ℕ). without_row (s / 8) (without_row (elements one + 1) X)) (split_inner L s v z)
        ∙ ap (without_row (s / 8)) (far_goes v halvable')

  -- so what is left is L with v for a, here and there
  left_border : t ≡ 0 → without_edge L' s ≡ with_corner L s v
  left_border z =
      without_border L' s (still z) ∙ ap (without_row (s / 8)) (split_border L s v z) ∙ near_goes v halvable

  left : Marked (without_edge L' s) L v (origin L s)
  left = elim (zero_or t) [
    | inl z ↦ rw (left_border z) (marked_corner L s v)
    | inr z ↦
        let el : Element one (s / 8) = omega (arith, side_facts L s x.side, halved_size v halvable) in
        let there : Marked (with_corner one (next one t) v) one v (origin L s) = rw (across_still z).runs.to at (marked_corner one (next one t) v) in
        let here : Marked (without_row (s / 8) one) L v (origin L s) = rw (near_goes v halvable) (marked_corner L s v) in
        rw (left_inner z) (marked_on (marked_without (s / 8) (halved_fours v halvable) el there) here)
  ]

  fresh : (p : ℕ) → p < length L → at L p ≡ v → ⊥
  fresh p h e =
      let a = side_at_lem n L g.fit p h (λ z. omega arith) in
      omega (arith, entry_at n L g.fit p a, g.fit.to _ a)

  -- with a for every v it is L again, and v is the last vertex, so nothing takes its number
  pub back_merged : merged L' s ≡ L
  unfolding merged
  back_merged =
      ap (λ (k : ℕ). renamed k (origin L' s) (without_edge L' s)) half.runs.to
      ∙ ap (λ (k : ℕ). renamed v k (without_edge L' s)) half.runs.from
      ∙ unmarked left fresh

  back_contracted : contracted (n + 1) L' s ≡ L
  unfolding contracted
  back_contracted =
      let itself : Marked L L v (destination L' s) = record { long = refl; entry = λ p h. inr refl } in
      ap (renamed v (destination L' s)) back_merged ∙ unmarked itself fresh

  -- the half is there, and on it are triangles
  pub back_there : is_there L' s ≡ true
  unfolding is_there
  back_there =
      true_of (is_there L' s)
      ((means_either (means_itself (is_side L' s)) (means_both (means_eq (s % 8) 0) (means_within 1 (borders L') (s / 8)))).shows
      (inl half.runs.side))

  pub back_splittable : Splittable L' s
  back_splittable =
      record {
        side = half.runs.side;
        triangle = half.triangle;
        across = elim (zero_or t) [
          | inl z ↦ inl (still z)
          | inr z ↦ inr (ap (λ (q : ℕ). sides L' (q / 8)) (facing z) ∙ (half_across z).triangle)
        ];
      }

  -- an end of a side that is cut is a or b
  end_begins : (r w : ℕ) → Cut L s r → w ≡ origin L r → (w ≡ origin L s) ⊎ (w ≡ destination L s)
  end_begins r w c e = elim c.is [
    | inl i ↦ inl (e ∙ ap (origin L) i)
    | inr i ↦
        let z : t ≡ 0 → ⊥ = λ z. side_positive L r c.side (i ∙ z) in
        inr (e ∙ ap (origin L) i ∙ sym (ends n L g.fit s (diagonal z)))
  ]

  end_ends : (r w : ℕ) → Cut L s r → w ≡ destination L r → (w ≡ origin L s) ⊎ (w ≡ destination L s)
  end_ends r w c e = elim c.is [
    | inl i ↦ inr (e ∙ ap (λ (q : ℕ). destination L q) i)
    | inr i ↦
        let z : t ≡ 0 → ⊥ = λ z. side_positive L r c.side (i ∙ z) in
        inl (e ∙ ap (λ (q : ℕ). destination L q) i ∙ sym (starts n L g.fit s (diagonal z)))
  ]

  -- and the third corners are those of the halves
  third_corner : (r w : ℕ) → Cut L s r → w ≡ origin L (previous L r) → Third L' s w
  unfolding third
  third_corner r w c e = elim c.is [
    | inl i ↦ inl (e ∙ ap (λ (q : ℕ). origin L (previous L q)) i ∙ sym half.third)
    | inr i ↦
        let z : t ≡ 0 → ⊥ = λ z. side_positive L r c.side (i ∙ z) in
        let d : w ≡ origin L' (previous L' (partner L' s)) =
        e
        ∙ ap (λ (q : ℕ). origin L (previous L q)) i
        ∙ sym (half_across z).third
        ∙ ap (λ (q : ℕ). origin L' (previous L' q)) (sym (facing z)) in
        inr (facing_paired z, d)
  ]

  -- v has no other neighbours
  abbrev Near : ℕ → Type 0
  Near w = ((w ≡ origin L s) ⊎ (w ≡ destination L s)) ⊎ Third L' s w

  near_new : (w : ℕ) → Neighbours L' v w → Near w
  near_new w (q, inl k) = elim (is_out g.fit refined q k.side k.from) [
    | along r c i o ↦ inl (end_ends r w c (sym k.to ∙ o))
    | across r c i o ↦ inr (third_corner r w c (sym k.to ∙ o))
  ]
  near_new w (q, inr k) = elim (is_into g.fit refined q k.side k.to) [
    | along r c i o ↦ inl (end_begins r w c (sym k.from ∙ o))
    | across r c i o ↦ inr (third_corner r w c (sym k.from ∙ o))
  ]

  -- a side of L' between old vertices runs as one of L that isn't cut
  old_run : {q u w : ℕ} → Runs L' q u w → u ≤ n → w ≤ n → (r : ℕ) × (Cut L s r → ⊥) × Runs L r u w
  old_run {q} k i j = elim (kind refined q k.side) [
    | out e l ↦ absurd (omega (arith, k.from))
    | into e l ↦ absurd (omega (arith, k.to))
    | same r l ↦
        (r, l.uncut, record { side = l.side; from = sym l.runs.from ∙ k.from; to = sym l.runs.to ∙ k.to })
  ]

  -- a and b aren't neighbours any more: s and its partner joined them, and both are cut
  parted : Neighbours L' (origin L s) (destination L s) → ⊥
  parted (q, k) = go k
    where
      from : origin L s ≤ n
      from = g.fit.to s x.side

      to : destination L s ≤ n
      to = g.fit.to (next L s) (next_side_lem L s x.side)

      go : Runs L' q (origin L s) (destination L s) ⊎ Runs L' q (destination L s) (origin L s) → ⊥
      go (inl k) =
          let (r, d, l) = old_run k from to in
          let e : r ≡ s = lone n L g r s l.side x.side l.from l.to in
          d (rw e (cut_first refined))
      go (inr k) =
          let (r, d, l) = old_run k to from in
          let o = (means_joins L s r).shows (inr ((means_opposed L s r).shows (sym l.to, sym l.from))) in
          let e : t ≡ r = g.pairing.paired s r x.side l.side (λ e. d (rw (sym e) (cut_first refined))) o in
          d (record { side = l.side; is = inr (sym e) })

  alone : (u : ℕ) → Neighbours L' u u → ⊥
  alone u (q, k) = elim k [
    | inl l ↦ ends_differ v L' g'.fit q l.side (l.from ∙ sym l.to)
    | inr l ↦ ends_differ v L' g'.fit q l.side (l.from ∙ sym l.to)
  ]

  pub back_unpinched : pinches (n + 1) L' s ≡ false
  back_unpinched =
      false_of (pinches (n + 1) L' s)
      ((means_not (means_pinches (n + 1) L' s)).shows
      (λ (w, p). go w p (near_new w (rw half.runs.to at p.of_destination))))
    where
      go : (w : ℕ) → Pinched (n + 1) L' s w → Near w → ⊥
      go w p (inl (inl e)) = alone (origin L s) (rw (half.runs.from, e) at p.of_origin)
      go w p (inl (inr e)) = parted (rw (half.runs.from, e) at p.of_origin)
      go w p (inr k) = p.no_third k

  -- each vertex but v that is used in L' is used in L
  used_before : (w : ℕ) → (w ≡ v → ⊥) → Used L' w → Used L w
  used_before w d (q, (a, o)) = elim (kind refined q a) [
    | out e k ↦ absurd (d (sym o ∙ e))
    | into e (along r c i j) ↦ (r, (c.side, sym j ∙ o))
    | into e (across r c i j) ↦ (previous L r, (previous_side_lem L r c.side, sym j ∙ o))
    | same r k ↦ (r, (k.side, sym k.runs.from ∙ o))
  ]

  pub back_kept : strands (n + 1) L' s ≡ false
  back_kept =
      false_of (strands (n + 1) L' s)
      ((means_not (means_strands (n + 1) L' s)).shows
      (λ (w, k). k.left (rw back_merged (used_before w (λ e. k.other (e ∙ sym half.runs.to)) k.used))))

  -- all four tests pass, and the old list comes with the old n
  pub split_back : contract (n + 1) L' s ≡ becomes n L
  split_back =
      let fits : is_splittable L' s ≡ true = true_of (is_splittable L' s) ((means_splittable L' s).shows back_splittable) in
      let one_less : n + 1 - 1 ≡ n = omega arith in
      contracts (n + 1) L' s back_there fits back_unpinched back_kept
      ∙ ap (λ (k : ℕ). becomes k (contracted (n + 1) L' s)) one_less
      ∙ ap (becomes n) back_contracted
