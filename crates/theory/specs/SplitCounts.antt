-- How many elements, border sides and edges there are after a split, document 02, point 6.
-- Assumes nothing.
use Rattle.std.specs.Prelude.{◌≡◌, Bool, true, not, List, eqb}
use Rattle.std.proofs.Math.Path.{ap}
use Rattle.std.proofs.Common.{sym, ◌∙◌}
use Rattle.std.proofs.Math.Logic.{inl, inr}
use Prim.Native.Nat.{ℕ, suc, ◌+◌, ◌*◌, ◌/◌, ◌≤◌, ◌<◌}
use native.Mathlib.Omega.{arith}
use Rattle.std.proofs.Math.Dec.{T, not_T}
use Rattle.std.proofs.Math.ListN.{length}
use Rattle.lists.specs.Tests.{both}
use Rattle.lists.specs.TestLaws.{Means, means_itself, means_one, passes, both_pass, means_both, means_not, means_eq}
use Rattle.lists.specs.Search.{count}
use Rattle.lists.specs.SearchLaws.{count_pass, count_fail, count_same, count_drop}
use Rattle.rules.specs.Elements.{max_vertex, max_element, elements, sides, is_side, slot, side_at, side_with, count_sides}
use Rattle.rules.specs.Pairing.{Conformal}
use Rattle.edit_rules.specs.Split.{halved, split_at}
use Rattle.rules.specs.Tables.{partner, is_border, borders, edges}
use Rattle.theory.specs.Sides.{side_facts, side_at_slot, slot_side_at, slot_below}
use Rattle.theory.specs.Entries.{means_border, border_with}
use Rattle.theory.specs.Refining.{Refined}
use Rattle.theory.specs.Halving.{Halvable, halved_length, new_three, side_stays, side_new, old_or_new}
use Rattle.theory.specs.Orders.{Good}
use Rattle.theory.specs.RefinedSides.{cut_first}
use Rattle.theory.specs.RefinedTurns.{far_still}
use Rattle.theory.specs.RefinedBorders.{Begins, border_left, border_of, half_border, begins_alone, begins_once}
use Rattle.theory.specs.Counts.{sides_matched}
use Rattle.theory.specs.Splitting.{Splittable, split_border, split_inner, first, second, split_size_border, split_size_inner, split_refined}

abbrev all : ℕ → Bool
all q = true

-- a triangle that is halved gives three sides more
module _ {L : List ℕ} {r : ℕ} (v : ℕ) (y : Halvable L r) where
  abbrev M : List ℕ
  M = halved L r v

  abbrev there : ℕ → Bool
  there = side_with M all

  -- where side i of the new triangle stands
  new_place : (i j : ℕ) → 1 ≤ i → i ≤ 4 → j + 1 ≡ length L + i → side_at j ≡ 8 * (elements L + 1) + i
  unfolding side_at
  new_place i j l h e = omega (arith, y.fours)

  new_side : (i j : ℕ) → 1 ≤ i → i ≤ 3 → j + 1 ≡ length L + i → T (there j)
  new_side i j l h e =
      both_pass (is_side M (side_at j)) true (rw (new_place i j l (omega arith) e) (side_new v y i l h)) tt

  no_fourth : (j : ℕ) → j + 1 ≡ length L + 4 → T (not (there j))
  no_fourth j e =
      not_T (there j) (λ t.
      let a = (passes (is_side M (side_at j)) true t).0 in
      let p = new_place 4 j (omega arith) (omega arith) e in
      let f : side_at j / 8 ≡ elements L + 1 = omega arith in
      omega (arith, side_facts M (side_at j) a, ap (sides M) f, new_three v y))

  -- and the others stay
  old_side : (i : ℕ) → i < length L → there i ≡ side_with L all i
  unfolding side_at
  old_side i h =
      ap (λ (b : Bool). both b true)
      (means_one (means_itself (is_side M (side_at i))) (means_itself (is_side L (side_at i)))
      (λ a. elim (old_or_new v y (side_at i) a) [ inl b ↦ b | inr e ↦ absurd (omega (arith, y.fours)) ])
      (side_stays v y (side_at i)))

  halved_sides : count_sides M all ≡ count_sides L all + 3
  unfolding count_sides
  halved_sides =
      let k = length L in
      let long : length M ≡ suc (suc (suc (suc k))) = omega (arith, halved_length v y) in
      let sum : count there (suc (suc (suc (suc k)))) ≡ count there k + 3 =
      omega (
        arith,
        count_pass there k (new_side 1 k (omega arith) (omega arith) (omega arith)),
        count_pass there (suc k) (new_side 2 (suc k) (omega arith) (omega arith) (omega arith)),
        count_pass there (suc (suc k)) (new_side 3 (suc (suc k)) (omega arith) (omega arith) (omega arith)),
        count_fail there (suc (suc (suc k))) (no_fourth (suc (suc (suc k))) (omega arith)),
      ) in
      ap (count there) long ∙ sum ∙ ap (λ (c : ℕ). c + 3) (count_same there (side_with L all) k old_side)

module _ {n : ℕ} {L L' : List ℕ} {s : ℕ} (old : Good n L) (meeting : Conformal L) (x : Refined n L L' s) where
  -- all border sides but the second half of s
  others : ℕ → Bool
  others q = both (not (eqb q (x.twin s))) (is_border L' q)

  means_others : (q : ℕ) → Means (others q) ((q ≡ x.twin s → ⊥) × (partner L' q ≡ 0))
  unfolding others
  means_others q = means_both (means_not (means_eq q (x.twin s))) (means_border L' q)

  -- they are as many as there were
  no_fewer : borders L ≤ count_sides L' others
  unfolding borders
  no_fewer = sides_matched L L' (is_border L) others (Begins old meeting x) (begins_alone old meeting x) (λ r a z.
      let (q, b, w, d, k) = border_left old meeting x r a ((means_border L r).says z) in
      (q, b, (means_others q).shows (d, w), k))

  no_more : count_sides L' others ≤ borders L
  unfolding borders
  no_more = sides_matched L' L others (is_border L) (λ q r. Begins old meeting x r q) (begins_once old meeting x) (λ q a t.
      let (d, w) = (means_others q).says t in
      let (r, b, z, k) = border_of old meeting x q a w d in
      (r, b, (means_border L r).shows z, k))

  -- and the second half is the only one that may be counted besides
  counted_alike : (j : ℕ) → (partner L' (side_at j) ≡ 0 → side_at j ≡ x.twin s → ⊥) → side_with L' (is_border L') j ≡ side_with L' others j
  counted_alike j d =
      ap (both (is_side L' (side_at j)))
      (means_one (means_border L' (side_at j)) (means_others (side_at j)) (λ b. (d b, b)) (λ o. o.1))

  -- that of an inner side isn't a border
  pub same_borders : (partner L s ≡ 0 → ⊥) → borders L' ≡ borders L
  unfolding borders count_sides
  same_borders z =
      let none : (q : ℕ) → partner L' q ≡ 0 → q ≡ x.twin s → ⊥ = λ q b e. z (half_border old meeting x (rw e at b)) in
      let same = count_same (side_with L' (is_border L')) (side_with L' others) (length L') (λ j h. counted_alike j (none (side_at j))) in
      omega (arith, no_fewer, no_more, same)

  -- that of a border side is one more
  pub more_borders : partner L s ≡ 0 → borders L' ≡ borders L + 1
  unfolding borders count_sides
  more_borders z =
      let a = (x.halves s (cut_first x)).far.runs.side in
      let p = slot (x.twin s) in
      let one = border_with L' (x.twin s) a (far_still old meeting x s z (cut_first x)) in
      let left_out : T (not (side_with L' others p)) = not_T (side_with L' others p) (λ t.
      ((means_others (side_at p)).says (passes (is_side L' (side_at p)) (others (side_at p)) t).1).0 (side_at_slot L' (x.twin s) a)) in
      let more = count_drop (side_with L' (is_border L')) (side_with L' others) (length L') p (slot_below L' (x.twin s) a) one left_out (λ j d.
      counted_alike j (λ b e. d (sym (slot_side_at j) ∙ ap slot e))) in
      omega (arith, no_fewer, no_more, more)

-- by how much m, k and the number of edges have grown; n grows by 1
pub record Grown (L L' : List ℕ) (m k e : ℕ) : Type 0 where
  pub elements_by : elements L' ≡ elements L + m
  pub borders_by : borders L' ≡ borders L + k
  pub edges_by : edges L' ≡ edges L + e

module _ (n : ℕ) (L : List ℕ) (old : Good n L) (meeting : Conformal L) (s : ℕ) (x : Splittable L s)
    (vertices : n + 1 ≤ max_vertex) (size : elements (split_at L s (n + 1)) ≤ max_element) where
  abbrev L' : List ℕ
  L' = split_at L s (n + 1)

  refined : Refined n L L' s
  refined = split_refined n L old.fit s x vertices size

  one : Halvable L s
  one = first n L old.fit s x

  -- on an inner side by 2, 0 and 3, and on a border side by 1, 1 and 2
  pub grown_inner : (partner L s ≡ 0 → ⊥) → Grown L L' 2 0 3
  unfolding edges
  grown_inner z =
      let same = same_borders old meeting refined z in
      let two = second n L old.fit s x (n + 1) z in
      let many : count_sides L' all ≡ count_sides L all + 6 =
      rw (split_inner L s (n + 1) z) (omega (arith, halved_sides (n + 1) one, halved_sides (n + 1) two)) in
      record {
        elements_by = split_size_inner n L old.fit s x (n + 1) z;
        borders_by = omega arith;
        edges_by = omega arith;
      }

  pub grown_border : partner L s ≡ 0 → Grown L L' 1 1 2
  unfolding edges
  grown_border z =
      let more = more_borders old meeting refined z in
      let many : count_sides L' all ≡ count_sides L all + 3 = rw (split_border L s (n + 1) z) (halved_sides (n + 1) one) in
      record {
        elements_by = split_size_border n L old.fit s x (n + 1) z;
        borders_by = more;
        edges_by = omega arith;
      }
