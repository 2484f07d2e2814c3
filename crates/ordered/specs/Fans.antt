-- The sides counted about one vertex: those of the fan that the walk meets there, from the start to where the count stands.
-- Assumes nothing.
use Rattle.std.specs.Prelude.{◌≡◌, refl, ◌⊎◌, Bool, true, false, List, ℕ, suc, ◌+◌, ◌*◌, ◌-◌, ◌%◌, ◌≤◌, ◌<◌, eqb, length}
use Rattle.std.proofs.Common.{ap, sym, subst, ◌∙◌, inl, inr, arith, get_or-take}
use Rattle.std.proofs.Math.Dec.{not_T}
use Rattle.lists.specs.TestLaws.{true_of, false_of, zero_or, Means, means_eq}
use Rattle.lists.specs.Search.{at, zeros}
use Rattle.lists.specs.SearchLaws.{zeros_blank}
use Rattle.lists.specs.Parts.{part}
use Rattle.rules.specs.Elements.{elements, number, is_side, Side, slot, next, count_sides}
use Rattle.rules.specs.Pairing.{Pairing, SideAt}
use Rattle.rules.specs.Tables.{partner, wide, v2e}
use Rattle.rules.specs.Recovery.{walk_start, turn_by, walk_to, walk}
use Rattle.rules.specs.Refusals.{unordered_vertex}
use Rattle.theory.specs.Sides.{side_positive, side_from}
use Rattle.theory.specs.Steps.{next_side_lem}
use Rattle.theory.specs.Pairings.{partner_opposed}
use Rattle.theory.specs.Entries.{wide_paired, wide_border, length_wide, length_v2e}
use Rattle.theory.specs.Turns.{wide_side}
use Rattle.theory.specs.Walking.{Start, after, side, nowhere, start_at, Fan, fan_after}
use Rattle.theory.specs.Counting.{ends_over, ends_back, goes_on, counted_ordered, ordered_counted}
use Rattle.halfedge.specs.Codes.{of_border, of_side}
use Rattle.walk.specs.Layout.{e2e_in}
use Rattle.walk.specs.Sides.{lent, turn_none, turn_next}
use Rattle.ordered.specs.Standing.{Known, Standing, MetBy}

-- the entries of a list's own E2e
pub known : (L : List ℕ) (s : ℕ) → Side L s → Known (wide L) s
known L s a = record { side = wide_side L s a; entry = go (zero_or (partner L s)) }
  where
    go : (partner L s ≡ 0) ⊎ (partner L s ≡ 0 → ⊥) → Side (wide L) (at (wide L) (slot s)) ⊎ (at (wide L) (slot s) % 8 ≡ 0)
    go (inl z) = inr (omega (arith, wide_border L s a z))
    go (inr d) = inl (rw (wide_paired L s a d) (wide_side L (partner L s) (partner_opposed L s d).0))

-- the turn by the entry at place q, as r says whether that is a border
module _ {E : List ℕ} {s q : ℕ} (k : Known E s) (placed : q ≡ slot s) {r : Bool} (tested : r ≡ eqb (number (at E q)) 0) where
  pub turn_over : r ≡ true → 0 ≡ turn_by E s
  turn_over e =
      let z = of_border (at E q) tested e in
      turn_none E s placed refl (false_of _ (not_T (is_side E (at E q)) (λ a. omega (arith, side_from E _ a, z))))

  module _ (e : r ≡ false) where
    pub on_side : Side E (at E q)
    on_side = rw placed (go k.entry)
      where
        go : Side E (at E (slot s)) ⊎ (number (at E (slot s)) ≡ 0) → Side E (at E (slot s))
        go (inl a) = a
        go (inr z) = absurd (of_side (at E q) tested e (rw placed z))

    pub turn_on : {x : ℕ} → x ≡ next E (at E q) → x ≡ turn_by E s
    turn_on = turn_next E s placed refl (true_of (is_side E (at E q)) on_side)

-- what the walk reads in the work: its own E2e, as it is lent, and the start about v
module _ {n : ℕ} {L w : List ℕ} (k : Standing n L w) where
  pub lent_own : part n (n + 4 * elements L - n) w ≡ wide L
  lent_own = lent n (elements L) w ∙ k.opposites

  pub start_own : {v s : ℕ} → 1 ≤ v → v ≤ n → s ≡ walk_start (e2e_in n (elements L) w) (at w (v - 1)) → s ≡ walk_start (wide L) (at (v2e n L) (v - 1))
  start_own {v} from to e =
      e
      ∙ ap (λ (E : List ℕ). walk_start E (at w (v - 1))) k.opposites
      ∙ ap (walk_start (wide L)) (sym (get_or-take n w (v - 1) 0 (omega arith)) ∙ ap (λ (X : List ℕ). at X (v - 1)) k.vertices)

-- about v, with s as the start: so many sides were counted with those before, and t is the turn of the last of them
pub record Along (n : ℕ) (L : List ℕ) (v s count t : ℕ) : Type 0 where
  pub met : ℕ
  pub fan : List ℕ
  pub about : Fan L v s fan
  pub whole : MetBy n L v (met + length fan)
  pub place : ℕ
  pub inside : place < length fan
  pub turned : t ≡ turn_by (wide L) (at fan place)
  pub counted : count ≡ met + suc place

module _ (n : ℕ) (L : List ℕ) (p : Pairing L (partner L)) where
  module _ {v s met : ℕ} (from : 1 ≤ v) (to : v ≤ n)
      (start : s ≡ walk_start (wide L) (at (v2e n L) (v - 1))) (before : MetBy n L (v - 1) met) where
    its_fan : (o : List ℕ) × Fan L v s o × MetBy n L v (met + length o)
    its_fan =
        let (o, f, filled) = fan_after n L p (v - 1) (omega arith) in
        let e : suc (v - 1) ≡ v = omega arith in
        let about = subst (λ (u : ℕ). Fan L u (walk_start (wide L) (at (v2e n L) (v - 1))) o) e f in
        let whole = subst (λ (u : ℕ). MetBy n L u (met + length o)) e (record { all = omega (arith, filled, before.all) }) in
        (o, rw start about, whole)

    -- a vertex without a start has no fan
    pub unused : s ≡ 0 → MetBy n L v met
    unused z =
        let (o, f, whole) = its_fan in
        elim (zero_or (length o)) [
          | inl e ↦ record { all = omega (arith, e, whole.all) }
          | inr d ↦ absurd (side_positive L (at o 0) (f.sides 0 (omega arith)).0 (f.first (omega arith) ∙ z))
        ]

    module _ (d : s ≡ 0 → ⊥) where
      start_here : SideAt L v s
      start_here = go (subst (Start L v) (sym start) (start_at n L v from to))
        where
          go : Start L v s → SideAt L v s
          go (after r x z e q) = rw q (next_side_lem L r x, e)
          go (side f x) = x
          go (nowhere f e) = absurd (d e)

      pub start_side_lem : Side L s
      start_side_lem = start_here.0

      pub starts : {t : ℕ} → t ≡ turn_by (wide L) s → Along n L v s (met + 1) t
      starts e =
          let (o, f, whole) = its_fan in
          let some = f.some s start_here in
          record {
            met = met;
            fan = o;
            about = f;
            whole = whole;
            place = 0;
            inside = some;
            turned = e ∙ ap (turn_by (wide L)) (sym (f.first some));
            counted = omega arith;
          }

  module _ {v s count t : ℕ} (a : Along n L v s count t) where
    abbrev o : List ℕ
    o = a.fan

    done : suc a.place ≡ length o → MetBy n L v count
    done e = record { all = omega (arith, a.whole.all, a.counted, e) }

    pub over : t ≡ 0 → MetBy n L v count
    over z = done (ends_over n L p a.about a.place a.inside (sym a.turned ∙ z))

    pub back : t ≡ s → MetBy n L v count
    back e = done (ends_back n L p a.about a.place a.inside (sym a.turned ∙ e))

    module _ (more : t ≡ 0 → ⊥) (new : t ≡ s → ⊥) where
      on : (suc a.place < length o) × (turn_by (wide L) (at o a.place) ≡ at o (suc a.place))
      on = goes_on n L p a.about a.place a.inside (λ z. more (a.turned ∙ z)) (λ z. new (a.turned ∙ z))

      pub fewer : count + 1 ≤ 4 * elements L
      fewer = omega (arith, a.whole.all, a.counted, on.0)

      pub side_there : Side L t
      side_there = rw (a.turned ∙ on.1) (a.about.sides (suc a.place) on.0).0

      pub further : {u : ℕ} → u ≡ turn_by (wide L) t → Along n L v s (count + 1) u
      further e =
          record {
            met = a.met;
            fan = o;
            about = a.about;
            whole = a.whole;
            place = suc a.place;
            inside = on.0;
            turned = e ∙ ap (turn_by (wide L)) (a.turned ∙ on.1);
            counted = omega (arith, a.counted);
          }

-- no side is met yet
pub none_met : (n : ℕ) (L : List ℕ) → MetBy n L 0 0
unfolding walk_to
none_met n L = record { all = omega (arith, zeros_blank (length (wide L)), length_wide L) }

-- as many as there are exactly where every vertex has a turn order
pub means_all_met : {n : ℕ} {L w : List ℕ} {met sides : ℕ} → Standing n L w → sides ≡ count_sides L (λ s. true) → MetBy n L n met
    → Means (eqb met sides) (unordered_vertex n L ≡ 0)
unfolding walk
means_all_met {n} {L} {met = met} {sides} k q x =
    let p = k.pairing in
    let walked = ap (λ (v : ℕ). zeros (walk_to (v2e n L) (wide L) v)) (length_v2e L n) in
    record {
      says = λ t. counted_ordered n L p k.fit (omega (arith, (means_eq met sides).says t, x.all, q, walked));
      shows = λ z. (means_eq met sides).shows (omega (arith, ordered_counted n L p k.fit z, x.all, q, walked));
    }
