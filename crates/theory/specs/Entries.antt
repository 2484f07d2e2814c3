-- What stands in the computed tables: the entry of each side in E2e, in four columns whatever the list, of each border number in B2e and of each vertex in V2e.
-- Assumes nothing.
use Rattle.std.specs.Prelude.{◌≡◌, refl, Bool, not, ◌⊎◌, List, ℕ, ◌+◌, ◌*◌, ◌-◌, ◌≤◌, ◌<◌, T, length}
use Rattle.std.proofs.Math.Path.{ap}
use Rattle.std.proofs.Common.{sym, ◌∙◌, inl, inr}
use native.Mathlib.Omega.{arith}
use Rattle.std.proofs.Math.Dec.{eqb, T_not}
use Rattle.std.proofs.Math.ListN.{get_or-eq_default}
use Rattle.lists.specs.Tests.{both}
use Rattle.lists.specs.TestLaws.{true_of, false_of, Means, decide, passes, both_pass, means_both, means_not, means_eq, means_lt, zero_or}
use Rattle.lists.specs.Search.{at, count}
use Rattle.lists.specs.SearchLaws.{length_tab, at_tab, length_upto, at_upto, count_lt, count_inj, count_find, count_bound, le_not_lt}
use Rattle.rules.specs.Elements.{elements, is_side, Side, slot, origin, destination, side_at, side_with, count_sides}
use Rattle.rules.specs.Pairing.{SideAt}
use Rattle.rules.specs.Tables.{partner, is_border, b2e, border_number, borders, e2e_entry, wide, border_into, v2e_entry, v2e}
use Rattle.theory.specs.Sides.{side_facts, side_at_slot, slot_side_at, slot_below, slot_less, slot_inj, side_positive}
use Rattle.theory.specs.Least.{First, nobody, somebody, first_side_lem}

module _ (L : List ℕ) where
  pub length_wide : length (wide L) ≡ 4 * elements L
  unfolding wide
  length_wide = length_tab (4 * elements L) (λ p. e2e_entry L (side_at p))

  pub length_v2e : (n : ℕ) → length (v2e n L) ≡ n
  unfolding v2e
  length_v2e n = length_tab n (λ i. v2e_entry L (i + 1))

  pub length_b2e : length (b2e L) ≡ borders L
  unfolding b2e borders count_sides
  length_b2e = length_upto (side_with L (is_border L)) side_at (length L)

  pub means_border : (s : ℕ) → Means (is_border L s) (partner L s ≡ 0)
  unfolding is_border
  means_border s = means_eq (partner L s) 0

  at_wide : (s : ℕ) → Side L s → at (wide L) (slot s) ≡ e2e_entry L s
  unfolding wide slot
  at_wide s a =
      at_tab (4 * elements L) (λ p. e2e_entry L (side_at p)) (slot s) (omega (arith, side_facts L s a))
      ∙ ap (e2e_entry L) (side_at_slot L s a)

  -- "The entry of a paired side is its partner's code"
  pub wide_paired : (s : ℕ) → Side L s → (partner L s ≡ 0 → ⊥) → at (wide L) (slot s) ≡ partner L s
  unfolding e2e_entry
  wide_paired s a z =
      at_wide s a ∙ rw (true_of (is_side L s) a, false_of (is_border L s) ((means_not (means_border s)).shows z), e2e_entry)

  -- "of a border side 8 × b"
  pub wide_border : (s : ℕ) → Side L s → partner L s ≡ 0 → at (wide L) (slot s) ≡ 8 * border_number L s
  unfolding e2e_entry
  wide_border s a z =
      at_wide s a ∙ rw (true_of (is_side L s) a, true_of (is_border L s) ((means_border s).shows z), e2e_entry)

  -- "and a triangle's fourth entry is 0": where no side stands
  pub wide_empty : (p : ℕ) → T (not (is_side L (side_at p))) → at (wide L) p ≡ 0
  unfolding wide e2e_entry
  wide_empty p a = go (decide (means_lt p (4 * elements L)))
    where
      none : e2e_entry L (side_at p) ≡ 0
      none = rw (false_of (is_side L (side_at p)) a, e2e_entry)

      go : (p < 4 * elements L) ⊎ (p < 4 * elements L → ⊥) → at (wide L) p ≡ 0
      go (inl h) = at_tab (4 * elements L) (λ q. e2e_entry L (side_at q)) p h ∙ none
      go (inr h) = get_or-eq_default (wide L) 0 (omega (arith, length_wide, le_not_lt (4 * elements L) p h))

  -- a border side is counted
  pub border_with : (s : ℕ) → Side L s → partner L s ≡ 0 → T (side_with L (is_border L) (slot s))
  border_with s a z =
      let e = side_at_slot L s a in
      both_pass (is_side L (side_at (slot s))) (is_border L (side_at (slot s))) (rw e a) (rw e ((means_border s).shows z))

  -- "entry b is the code of that side"
  pub b2e_border : (s : ℕ) → Side L s → partner L s ≡ 0 → at (b2e L) (border_number L s - 1) ≡ s
  unfolding b2e border_number
  b2e_border s a z =
      let c = count (side_with L (is_border L)) (slot s) in
      let e : c + 1 - 1 ≡ c = omega arith in
      ap (at (b2e L)) e
      ∙ at_upto (side_with L (is_border L)) side_at (length L) (slot s) (slot_below L s a) (border_with s a z)
      ∙ side_at_slot L s a

  -- b is from 1 to k
  pub number_from : (s : ℕ) → 1 ≤ border_number L s
  unfolding border_number
  number_from s = omega arith

  pub number_to : (s : ℕ) → Side L s → partner L s ≡ 0 → border_number L s ≤ borders L
  unfolding border_number borders count_sides
  number_to s a z =
      omega (arith, count_lt (side_with L (is_border L)) (slot s) (length L) (slot_below L s a) (border_with s a z))

  -- there are no more borders than entries
  pub number_le : (s : ℕ) → Side L s → border_number L s ≤ 4 * elements L
  unfolding border_number slot
  number_le s a = omega (arith, count_bound (side_with L (is_border L)) (slot s), side_facts L s a)

  -- "border sides in order of code get b = 1, 2, .."
  pub number_less : (s t : ℕ) → Side L s → partner L s ≡ 0 → Side L t → partner L t ≡ 0 → s < t → border_number L s < border_number L t
  unfolding border_number
  number_less s t a z b w h =
      omega (arith, count_lt (side_with L (is_border L)) (slot s) (slot t) (slot_less L s t a b h) (border_with s a z))

  pub number_inj : (s t : ℕ) → Side L s → partner L s ≡ 0 → Side L t → partner L t ≡ 0 → border_number L s ≡ border_number L t → s ≡ t
  unfolding border_number
  number_inj s t a z b w e =
      slot_inj L s t a b
      (count_inj (side_with L (is_border L)) (slot s) (slot t) (border_with s a z) (border_with t b w) (omega arith))

  -- each b from 1 to k is some border side's
  pub numbered_border : (b : ℕ) → 1 ≤ b → b ≤ borders L → (s : ℕ) × Side L s × (partner L s ≡ 0) × (border_number L s ≡ b)
  unfolding border_number borders count_sides
  numbered_border b h k =
      let (p, l, t, e) = count_find (side_with L (is_border L)) (length L) (b - 1) (omega arith) in
      let (a, z) = passes (is_side L (side_at p)) (is_border L (side_at p)) t in
      (side_at p, a, (means_border (side_at p)).says z, (rw (slot_side_at p, e) (omega arith)))

  -- the code of a border is no side of any list
  pub border_no_side : (X : List ℕ) (b : ℕ) → Side X (8 * b) → ⊥
  border_no_side X b a = omega (arith, side_facts X (8 * b) a)

  -- no entry of a side is 0, and only border sides have the code of a border
  pub wide_nonzero : (s : ℕ) → Side L s → at (wide L) (slot s) ≡ 0 → ⊥
  wide_nonzero s a e = go (zero_or (partner L s))
    where
      go : (partner L s ≡ 0) ⊎ (partner L s ≡ 0 → ⊥) → ⊥
      go (inl z) = omega (arith, wide_border s a z, number_from s)
      go (inr z) = z (sym (wide_paired s a z) ∙ e)

-- the V2e entry c of vertex v: of a vertex with a border side ending there, of another one with sides, and of one without
pub data VertexEntry (L : List ℕ) (v c : ℕ) : Type 0 where
  rim : (s : ℕ) → Side L s → partner L s ≡ 0 → destination L s ≡ v → c ≡ 8 * border_number L s → VertexEntry L v c
  inner : ((s : ℕ) → Side L s → partner L s ≡ 0 → destination L s ≡ v → ⊥) → SideAt L v c → ((s : ℕ) → SideAt L v s → c ≤ s) → VertexEntry L v c
  unused : ((s : ℕ) → SideAt L v s → ⊥) → c ≡ 0 → VertexEntry L v c

module _ (n : ℕ) (L : List ℕ) where
  ending : ℕ → ℕ → Bool
  ending v s = both (is_border L s) (eqb (destination L s) v)

  means_ending : (v s : ℕ) → Means (ending v s) ((partner L s ≡ 0) × (destination L s ≡ v))
  unfolding ending
  means_ending v s = means_both (means_border L s) (means_eq (destination L s) v)

  -- the least side with origin v, where no border side ends
  least_at : (v : ℕ) {c : ℕ} → ((s : ℕ) → Side L s → partner L s ≡ 0 → destination L s ≡ v → ⊥) → First L (λ s. eqb (origin L s) v) c → VertexEntry L v c
  least_at v f (nobody e g) = unused (λ s (a, o). T_not (eqb (origin L s) v) (g s a) ((means_eq (origin L s) v).shows o)) e
  least_at v {c} f (somebody a t g) =
      inner f (a, (means_eq (origin L c) v).says t)
      (λ s (b, o). le_not_lt c s (λ l. T_not (eqb (origin L s) v) (g s b l) ((means_eq (origin L s) v).shows o)))

  entry_of_lem : (v : ℕ) → First L (ending v) (border_into L v) → VertexEntry L v (v2e_entry L v)
  unfolding v2e_entry
  entry_of_lem v (nobody e f) =
      rw (true_of (eqb (border_into L v) 0) ((means_eq (border_into L v) 0).shows e), v2e_entry)
      (least_at v (λ s a z d. T_not (ending v s) (f s a) ((means_ending v s).shows (z, d))) (first_side_lem L (λ s. eqb (origin L s) v)))
  entry_of_lem v (somebody a t f) =
      let (z, d) = (means_ending v (border_into L v)).says t in
      rw (false_of (eqb (border_into L v) 0) ((means_not (means_eq (border_into L v) 0)).shows (side_positive L (border_into L v) a)), v2e_entry)
      (rim (border_into L v) a z d refl)

  pub vertex_entry : (v : ℕ) → 1 ≤ v → v ≤ n → VertexEntry L v (at (v2e n L) (v - 1))
  unfolding v2e border_into ending
  vertex_entry v a b =
      let e : v - 1 + 1 ≡ v = omega arith in
      rw (at_tab n (λ i. v2e_entry L (i + 1)) (v - 1) (omega arith), e) (entry_of_lem v (first_side_lem L (ending v)))
