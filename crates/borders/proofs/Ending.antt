-- The numbering is done: the tables stand in the work.
-- Assumes nothing.
use mathlib.Core.Path.{◌≡◌, refl, ap, sym, ◌∙◌}
use mathlib.Core.Bool.{Bool, true}
use mathlib.Core.Logic.{◌⊎◌, inl, inr}
use mathlib.Core.List.{List}
use Prim.Native.Nat.{ℕ, ◌+◌, ◌*◌, ◌-◌, ◌/◌, ◌≤◌, ◌<◌}
use native.Mathlib.Omega.{arith}
use lib.Dec.{eqb, not_T}
use lib.ListN.{length, take, get_or-eq_default}
use lib.Seq.{ext_get_or, get_or-take, length-take-le}
use Rattle.lists.specs.Tests.{both, within}
use Rattle.lists.specs.TestLaws.{true_of, false_of, Means, means_both, means_eq, means_not, means_within, zero_or}
use Rattle.lists.specs.Search.{at}
use Rattle.lists.specs.SearchLaws.{le_or_lt, at_tab, count_bound}
use Rattle.lists.specs.Parts.{part, at_part, length_part}
use Rattle.rules.specs.Elements.{elements, Side, slot, destination, side_with, count_sides}
use Rattle.rules.specs.Tables.{partner, is_border, b2e, border_number, borders, wide, border_into, v2e_entry, v2e}
use Rattle.rules.specs.Recovery.{side_of_border}
use Rattle.theory.specs.Sides.{slot_below, slot_less, side_positive}
use Rattle.theory.specs.Least.{first_is, First}
use Rattle.theory.specs.Pairings.{partner_opposed}
use Rattle.theory.specs.Entries.{length_wide, length_v2e, length_b2e, means_border, wide_paired, wide_border, b2e_border, number_to, numbered_border, border_no_side}
use Rattle.theory.specs.Turns.{side_wide, rim_side}
use Rattle.walk.specs.Layout.{e2e_in}
use Rattle.borders.specs.Numbers.{Numbered, Matched, Entry, rim, inner, Numbering}

-- no side has the code of a border past the last
module _ (L : List ℕ) (b : ℕ) (past : borders L < b) where
  not_entry : (t : ℕ) → Side (wide L) t → at (wide L) (slot t) ≡ 8 * b → ⊥
  not_entry t x e = go (zero_or (partner L t))
    where
      a : Side L t
      a = side_wide L t x

      go : (partner L t ≡ 0) ⊎ (partner L t ≡ 0 → ⊥) → ⊥
      go (inl z) = omega (arith, number_to L t a z, wide_border L t a z)
      go (inr d) =
          let o : partner L t ≡ 8 * b = sym (wide_paired L t a d) ∙ e in
          border_no_side L L b (rw o at (partner_opposed L t d).0)

  pub no_side_of : b ≤ 4 * elements L → side_of_border (wide L) (8 * b) ≡ 0
  unfolding side_of_border
  no_side_of h =
      let q : 8 * b / 8 ≡ b = omega arith in
      let i : within 1 (length (wide L)) (8 * b / 8) ≡ true =
      true_of _ ((means_within 1 (length (wide L)) (8 * b / 8)).shows (rw (q, length_wide L) ((omega arith), h))) in
      rw (i, side_of_border)
      (first_is (wide L) (λ t. eqb (at (wide L) (slot t)) (8 * b)) 0
      (First.nobody refl (λ t x. not_T (eqb (at (wide L) (slot t)) (8 * b)) (λ u. not_entry t x ((means_eq _ _).says u)))))

module _ (L : List ℕ) (v : ℕ) where
  into : ℕ → Bool
  into s = both (is_border L s) (eqb (destination L s) v)

  means_into : (s : ℕ) → Means (into s) ((partner L s ≡ 0) × (destination L s ≡ v))
  unfolding into
  means_into s = means_both (means_border L s) (means_eq (destination L s) v)

  -- with all border sides looked at, the entry is that of V2e
  pub entry_is_lem : (p x : ℕ) → length L ≤ p → Entry L p v x → x ≡ v2e_entry L v
  unfolding v2e_entry border_into into
  entry_is_lem p x h (rim s i l f e) =
      let b : border_into L v ≡ s = first_is L into s (First.somebody i.side ((means_into s).shows (i.border, i.ends))
      (λ t a k. not_T (into t) (λ u. let (z, d) = (means_into t).says u in omega (arith, slot_less L t s a i.side k, f t (record { side = a; border = z; ends = d }))))) in
      let d : eqb (border_into L v) 0 ≡ _ = false_of _ ((means_not (means_eq (border_into L v) 0)).shows (λ z. side_positive L s i.side (sym b ∙ z))) in
      rw (d, v2e_entry) (e ∙ ap (λ (t : ℕ). 8 * border_number L t) (sym b))
  entry_is_lem p x h (inner f e) =
      let b : border_into L v ≡ 0 = first_is L into 0 (First.nobody refl
      (λ t a. not_T (into t) (λ u. let (z, d) = (means_into t).says u in f t (record { side = a; border = z; ends = d }) (omega (arith, slot_below L t a))))) in
      let d : eqb (border_into L v) 0 ≡ true = true_of _ ((means_eq (border_into L v) 0).shows b) in
      rw (d, v2e_entry) e

module _ (n : ℕ) (L : List ℕ) (m : Matched n L) (k c : ℕ) (w w' : List ℕ) (s : Numbering n L (length L) k c w') (same : length w' ≡ length w) where
  vertex_at : (i : ℕ) → i < n → at w' i ≡ at (v2e n L) i
  unfolding v2e
  vertex_at i h =
      let e : i + 1 - 1 ≡ i = omega arith in
      ap (at w') (sym e)
      ∙ entry_is_lem L (i + 1) (length L) (at w' (i + 1 - 1)) (omega arith) (s.vertices (i + 1) (omega arith) (omega arith))
      ∙ sym (at_tab n (λ j. v2e_entry L (j + 1)) i h)

  inside : n + 8 * elements L ≤ length w'
  inside = omega (arith, s.long)

  b2e_at : (j : ℕ) → j < 4 * elements L → at w' (n + 4 * elements L + j) ≡ at (b2e L) j
  unfolding b2e
  b2e_at j h =
      ap (λ (o : ℕ). at w' (n + o + j)) (sym m.fit.fours) ∙ s.border j (omega (arith, m.fit.fours))

  few : borders L ≤ 4 * elements L
  unfolding borders count_sides
  few = omega (arith, count_bound (side_with L (is_border L)) (length L), m.fit.fours)

  linked : (b : ℕ) → 1 ≤ b → b ≤ 4 * elements L → at (b2e L) (b - 1) ≡ side_of_border (wide L) (8 * b)
  linked b l h = go (le_or_lt b (borders L))
    where
      go : (b ≤ borders L) ⊎ (borders L < b) → at (b2e L) (b - 1) ≡ side_of_border (wide L) (8 * b)
      go (inl i) =
          let (t, a, z, e) = numbered_border L b l i in
          ap (λ (x : ℕ). at (b2e L) (x - 1)) (sym e) ∙ b2e_border L t a z ∙ sym (rim_side L t a z) ∙ ap (λ (x : ℕ). side_of_border (wide L) (8 * x)) e
      go (inr i) =
          get_or-eq_default (b2e L) 0 (omega (arith, length_b2e L)) ∙ sym (no_side_of L b i h)

  opposites : e2e_in n (elements L) w' ≡ wide L
  opposites =
      let long = length_part n (4 * elements L) w' (omega (arith, inside)) in
      ext_get_or 0 (part n (4 * elements L) w') (wide L) (long ∙ sym (length_wide L))
      (λ i h. let l : i < 4 * elements L = omega arith in at_part n (4 * elements L) w' i l ∙ s.done i (omega (arith, m.fit.fours)))

  pub numbered : Numbered n L k c w w'
  unfolding borders count_sides
  numbered =
      let long = length_part (n + 4 * elements L) (borders L) w' (omega (arith, inside, few)) in
      record {
        number = s.number;
        sides = s.sides;
        vertices =
            let l = length-take-le n w' (omega (arith, inside)) in
            ext_get_or 0 (take n w') (v2e n L) (l ∙ sym (length_v2e L n))
            (λ i h. let b : i < n = omega arith in get_or-take n w' i 0 b ∙ vertex_at i b);
        opposites = opposites;
        border =
            ext_get_or 0 (part (n + 4 * elements L) (borders L) w') (b2e L) (long ∙ sym (length_b2e L))
            (λ i h. let b : i < borders L = omega arith in at_part (n + 4 * elements L) (borders L) w' i b ∙ b2e_at i (omega (arith, few)));
        entries = b2e_at;
        linked = λ b l h.
            let e : n + 4 * elements L + b - 1 ≡ n + 4 * elements L + (b - 1) = omega arith in
            ap (at w') e ∙ b2e_at (b - 1) (omega arith) ∙ linked b l h ∙ ap (λ (E : List ℕ). side_of_border E (8 * b)) (sym opposites);
        long = same;
      }
