-- How many elements, border sides and edges there are after a contraction, document 02, point 8: as many fewer as a split makes more.
-- Assumes nothing.
use Rattle.std.specs.Prelude.{◌≡◌, Bool, true, false, not, List, ℕ, ◌+◌, ◌/◌, T, eqb, length}
use Rattle.std.proofs.Math.Path.{refl, ap, sym}
use Rattle.std.proofs.Common.{◌∙◌, arith}
use Rattle.std.proofs.Math.Logic.{inl, inr}
use Rattle.std.proofs.Math.Dec.{not_T}
use Rattle.lists.specs.Tests.{both}
use Rattle.lists.specs.TestLaws.{Means, means_itself, means_one, passes, both_pass, means_both, means_not, means_eq}
use Rattle.lists.specs.SearchLaws.{count_drop}
use Rattle.rules.specs.Elements.{sides, is_side, Side, next, previous, slot, side_at, side_with, count_sides}
use Rattle.rules.specs.Pairing.{Accepted}
use Rattle.rules.specs.Tables.{partner, is_border, borders, edges}
use Rattle.edit_rules.specs.Contract.{contracted, pinches, strands}
use Rattle.theory.specs.Sides.{side_positive, side_at_slot, slot_side_at, slot_below}
use Rattle.theory.specs.Steps.{next_numbered, next_differs, previous_numbered, next_previous}
use Rattle.theory.specs.FitRows.{Fit}
use Rattle.theory.specs.Pairings.{partner_opposed}
use Rattle.theory.specs.Entries.{means_border}
use Rattle.theory.specs.Triangles.{itself, after, before, around, next_next}
use Rattle.theory.specs.Orders.{good}
use Rattle.theory.specs.Swapping.{apart}
use Rattle.theory.specs.Splitting.{Splittable, split_diagonal}
use Rattle.theory.specs.Counts.{sides_matched}
use Rattle.theory.specs.SplitCounts.{Grown}
use Rattle.theory.specs.Coarsening.{Stays, Coarsened, renumbered}
use Rattle.theory.specs.Contracting.{contracted_coarsened, contracted_border, contracted_inner}
use Rattle.theory.specs.ContractBorders.{Own, own_alone, own_once, border_was, border_now}

abbrev all : ℕ → Bool
all q = true

-- the test t, but not of side r
abbrev but : (ℕ → Bool) → ℕ → ℕ → Bool
but t r q = both (not (eqb q r)) (t q)

means_but : (t : ℕ → Bool) (r q : ℕ) → Means (but t r q) ((q ≡ r → ⊥) × T (t q))
means_but t r q = means_both (means_not (means_eq q r)) (means_itself (t q))

-- one side fewer passes it
one_fewer : (L : List ℕ) (t : ℕ → Bool) (r : ℕ) → Side L r → T (t r) → count_sides L t ≡ count_sides L (but t r) + 1
unfolding count_sides
one_fewer L t r i p =
    let here = side_at_slot L r i in
    let now : T (side_with L t (slot r)) = both_pass (is_side L (side_at (slot r))) (t (side_at (slot r))) (rw here i) (rw here p) in
    let then : T (not (side_with L (but t r) (slot r))) = not_T (side_with L (but t r) (slot r)) (λ w.
    ((means_but t r (side_at (slot r))).says (passes (is_side L (side_at (slot r))) (but t r (side_at (slot r))) w).1).0 here) in
    let same : (j : ℕ) → (j ≡ slot r → ⊥) → side_with L t j ≡ side_with L (but t r) j = λ j d.
    ap (both (is_side L (side_at j)))
    (means_one (means_itself (t (side_at j))) (means_but t r (side_at j)) (λ w. ((λ e. d (sym (slot_side_at j) ∙ ap slot e)), w)) (λ w. w.1)) in
    omega (arith, count_drop (side_with L t) (side_with L (but t r)) (length L) (slot r) (slot_below L r i) now then same)

-- the test t, but not of the sides of the triangle of c
module _ (L : List ℕ) (c : ℕ) (i : Side L c) (three : sides L (c / 8) ≡ 3) where
  abbrev outside : (ℕ → Bool) → ℕ → Bool
  outside t = but (but (but t c) (next L c)) (previous L c)

  means_outside : (t : ℕ → Bool) (q : ℕ) → Side L q → Means (outside t q) ((q / 8 ≡ c / 8 → ⊥) × T (t q))
  means_outside t q j =
      let m = means_both (means_not (means_eq q (previous L c))) (means_both (means_not (means_eq q (next L c))) (means_but t c q)) in
      record {
        says = λ w.
            let (d, (e, (f, p))) = m.says w in
            ((λ h. elim (around L c i three q j h) [ itself u ↦ f u | after u ↦ e u | before u ↦ d u ]), p);
        shows = λ (d, p).
            let mine : (r : ℕ) → r / 8 ≡ c / 8 → q ≡ r → ⊥ = λ r f e. d (ap (λ (u : ℕ). u / 8) e ∙ f) in
            m.shows (mine _ (previous_numbered L c i).same, (mine _ (next_numbered L c i).same, (mine c refl, p)));
      }

  -- three sides fewer
  three_fewer : (t : ℕ → Bool) → T (t c) → T (t (next L c)) → T (t (previous L c)) → count_sides L t ≡ count_sides L (outside t) + 3
  three_fewer t p q r =
      let j = (next_numbered L c i).side in
      let k = (previous_numbered L c i).side in
      let d : next L c ≡ c → ⊥ = next_differs L c i in
      let e : previous L c ≡ c → ⊥ = λ e. d (ap (next L) (sym e) ∙ next_previous L c i) in
      let f : previous L c ≡ next L c → ⊥ = λ e. next_differs L (next L c) j (next_next L c i three ∙ e) in
      let one = one_fewer L t c i p in
      let two = one_fewer L (but t c) (next L c) j ((means_but t c (next L c)).shows (d, q)) in
      let last =
      one_fewer L (but (but t c) (next L c)) (previous L c) k
      ((means_but (but t c) (next L c) (previous L c)).shows (f, (means_but t c (previous L c)).shows (e, r))) in
      omega (arith, one, two, last)

module _ (n : ℕ) (L : List ℕ) (old : Accepted n L) (s : ℕ) (x : Splittable L s) (free : pinches n L s ≡ false) (kept : strands n L s ≡ false) where
  abbrev N : List ℕ
  N = contracted n L s

  fit : Fit n L
  fit = (good n L old).fit

  y : Coarsened L N s (renumbered n L s)
  y = contracted_coarsened n L fit s x

  -- the sides that there are now are those that stay
  sides_stay : (stay : ℕ → Bool) → ((r : ℕ) → Side L r → Means (stay r) (Stays L s (r / 8))) → count_sides N all ≡ count_sides L stay
  sides_stay stay means =
      let fewer =
      sides_matched N L all stay (λ q r. Side N q × (r ≡ y.old q)) (λ p q r (i, e) (j, f). y.one p q i j (sym e ∙ f)) (λ q i w.
      (y.old q, y.side q i, (means (y.old q) (y.side q i)).shows (y.stays q i), (i, refl))) in
      let more =
      sides_matched L N stay all (λ r q. r ≡ y.old q) (λ r p q e f. e ∙ sym f) (λ r i w.
      let (q, j, e) = y.all r i ((means r i).says w) in (q, j, tt, sym e)) in
      omega (arith, fewer, more)

  -- the border sides other than s
  others : ℕ → Bool
  others = but (is_border L) s

  means_others : (r : ℕ) → Means (others r) ((r ≡ s → ⊥) × (partner L r ≡ 0))
  unfolding others
  means_others r = means_both (means_not (means_eq r s)) (means_border L r)

  borders_stay : borders N ≡ count_sides L others
  unfolding borders
  borders_stay =
      let own = Own n L N old s x y free in
      let fewer =
      sides_matched N L (is_border N) others (λ q r. own r q) (λ p q r. own_once n L N old s x y free p q r) (λ q i w.
      let (r, j, z, d, k) = border_was n L N old s x y free q i ((means_border N q).says w) in (r, j, (means_others r).shows (d, z), k)) in
      let more =
      sides_matched L N others (is_border N) own (own_alone n L N old s x y free) (λ r i w.
      let (d, z) = (means_others r).says w in
      let (q, j, v, k) = border_now n L N old s x y free kept r i z d in (q, j, (means_border N q).shows v, k)) in
      omega (arith, fewer, more)

  -- on an inner edge
  module _ (z : partner L s ≡ 0 → ⊥) where
    abbrev t : ℕ
    t = partner L s

    beyond : Side L t
    beyond = (partner_opposed L s z).0

    other_three : sides L (t / 8) ≡ 3
    other_three = (split_diagonal x z).other_three

    parted : s / 8 ≡ t / 8 → ⊥
    parted = apart n L fit s (split_diagonal x z)

    first : ℕ → Bool
    first = outside L s x.side x.triangle all

    first_passes : (r : ℕ) → Side L r → r / 8 ≡ t / 8 → T (first r)
    unfolding first
    first_passes r i e = (means_outside L s x.side x.triangle all r i).shows ((λ d. parted (sym d ∙ e)), tt)

    stays_inner : (r : ℕ) → Side L r → Means (outside L t beyond other_three first r) (Stays L s (r / 8))
    unfolding first
    stays_inner r i =
        let m = means_outside L t beyond other_three first r i in
        let l = means_outside L s x.side x.triangle all r i in
        record {
          says = λ w c k e.
              let (d, v) = m.says w in
              elim k.is [ inl u ↦ (l.says v).0 (e ∙ ap (λ (j : ℕ). j / 8) u) | inr u ↦ d (e ∙ ap (λ (j : ℕ). j / 8) u) ];
          shows = λ stays.
              m.shows
              (stays t (record { side = beyond; is = inr refl }), l.shows (stays s (record { side = x.side; is = inl refl }), tt));
        }

    -- "m, k and the number of edges fall by 2, 0 and 3"
    pub fallen_inner : Grown N L 2 0 3
    unfolding borders edges first
    fallen_inner =
        let own = three_fewer L s x.side x.triangle all tt tt tt in
        let j = next_numbered L t beyond in
        let k = previous_numbered L t beyond in
        let other =
        three_fewer L t beyond other_three first (first_passes t beyond refl) (first_passes (next L t) j.side j.same)
        (first_passes (previous L t) k.side k.same) in
        let total = sides_stay (outside L t beyond other_three first) stays_inner in
        let same : borders L ≡ borders N = as_many in
        record {
          elements_by = sym (contracted_inner n L fit s x z);
          borders_by = omega (arith, same);
          edges_by = omega (arith, same, own, other, total);
        }
      where
        as_many : borders L ≡ borders N
        as_many =
            let b = borders_stay in
            let fewer = sides_matched L L (is_border L) others (λ r q. r ≡ q) (λ r p q e f. e ∙ sym f) (λ r i w.
            let v = (means_border L r).says w in
            (r, i, (means_others r).shows ((λ e. z (ap (partner L) (sym e) ∙ v)), v), refl)) in
            let more = sides_matched L L others (is_border L) (λ r q. r ≡ q) (λ r p q e f. e ∙ sym f) (λ r i w.
            (r, i, (means_border L r).shows ((means_others r).says w).1, refl)) in
            omega (arith, b, fewer, more)

  -- on a border edge
  module _ (z : partner L s ≡ 0) where
    stays_border : (r : ℕ) → Side L r → Means (outside L s x.side x.triangle all r) (Stays L s (r / 8))
    stays_border r i =
        let l = means_outside L s x.side x.triangle all r i in
        record {
          says = λ w c k e. elim k.is [
            | inl u ↦ (l.says w).0 (e ∙ ap (λ (j : ℕ). j / 8) u)
            | inr u ↦ side_positive L c k.side (u ∙ z)
          ];
          shows = λ stays. l.shows (stays s (record { side = x.side; is = inl refl }), tt);
        }

    pub fallen_border : Grown N L 1 1 2
    unfolding borders edges others
    fallen_border =
        let own = three_fewer L s x.side x.triangle all tt tt tt in
        let total = sides_stay (outside L s x.side x.triangle all) stays_border in
        let one = one_fewer L (is_border L) s x.side ((means_border L s).shows z) in
        let same = borders_stay in
        record {
          elements_by = sym (contracted_border n L fit s x z);
          borders_by = omega (arith, same, one);
          edges_by = omega (arith, same, one, own, total);
        }
