-- The ring of a vertex of built tables: its sides are a turn order, its elements are those with this corner, each one once.
-- Assumes nothing.
use Rattle.std.specs.Prelude.{◌≡◌, refl, ◌⊎◌, List, [], ℕ, zero, suc, ◌+◌, ◌-◌, ◌≤◌, ◌<◌, eqb, length}
use Rattle.std.proofs.Math.Path.{ap}
use Rattle.std.proofs.Common.{sym, ◌∙◌, inl, inr, arith}
use Rattle.std.proofs.Math.Option.{some}
use Rattle.lists.specs.TestLaws.{true_of, false_of, decide, means_not, means_eq, means_lt, zero_or}
use Rattle.lists.specs.Search.{at}
use Rattle.lists.specs.SearchLaws.{Met}
use Rattle.rules.specs.Elements.{elements, element, Side, next}
use Rattle.rules.specs.Pairing.{Turn, SideAt, TurnOrder}
use Rattle.rules.specs.Tables.{partner, border_number}
use Rattle.rules.specs.Queries.{over, start_side, onward, ring_sides, ring}
use Rattle.theory.specs.Sides.{side_facts, side_positive}
use Rattle.theory.specs.Steps.{next_side_lem}
use Rattle.theory.specs.FitRows.{Fit}
use Rattle.theory.specs.Pairings.{partner_opposed}
use Rattle.theory.specs.Orders.{Good, order_empty, turn_origin, turn_inj, after_border, first_after, begins}
use Rattle.theory.specs.Walking.{Start, after, side, nowhere}
use Rattle.theory.specs.Follows.{Steady, Followed, follow_none, followed_none, nonempty, followed}
use Rattle.theory.specs.Built.{built, by_side_lem, by_border_lem, by_entry_side, by_entry_border, read_paired, read_border, read_border_side_lem}
use Rattle.theory.specs.Built.{ReadEntry, rim, inner, unused, read_entry}
use Rattle.theory.specs.Reads.{and_then_lem, Mapped, read_all_lem}
use Rattle.theory.specs.Rims.{Ends, border_leads}

-- what comes after side s in the ring that begins at start
pub data Onward (n : ℕ) (L : List ℕ) (start s : ℕ) : Type 0 where
  stops : partner L s ≡ 0 → onward (built n L) start s ≡ some 0 → Onward n L start s
  back : Turn L (partner L) s start → onward (built n L) start s ≡ some 0 → Onward n L start s
  on : (t : ℕ) → Turn L (partner L) s t → (t ≡ start → ⊥) → onward (built n L) start s ≡ some t → Onward n L start s

module _ (n : ℕ) (L : List ℕ) (start : ℕ) where
  pub onward_is : (s : ℕ) → Side L s → Onward n L start s
  unfolding onward
  onward_is s a = go (zero_or (partner L s)) (decide (means_eq (next L (partner L s)) start))
    where
      go : (partner L s ≡ 0) ⊎ (partner L s ≡ 0 → ⊥) → (next L (partner L s) ≡ start) ⊎ (next L (partner L s) ≡ start → ⊥) → Onward n L start s
      go (inl z) q = stops z (and_then_lem _ (read_border n L s a z) ∙ by_border_lem (border_number L s) _ _)
      go (inr z) (inl e) =
          back (z, e)
          (and_then_lem _ (read_paired n L s a z)
          ∙ by_side_lem L (partner L s) _ _ (partner_opposed L s z).0
          ∙ rw (true_of (eqb (next L (partner L s)) start) ((means_eq _ _).shows e)) refl)
      go (inr z) (inr d) =
          on (next L (partner L s)) (z, refl) d
          (and_then_lem _ (read_paired n L s a z)
          ∙ by_side_lem L (partner L s) _ _ (partner_opposed L s z).0
          ∙ rw (false_of (eqb (next L (partner L s)) start) ((means_not (means_eq _ _)).shows d)) refl)

  -- going on is turning, and never to the start
  pub onward_turn : (s t : ℕ) → Side L s → (t ≡ 0 → ⊥) → onward (built n L) start s ≡ some t → Turn L (partner L) s t × (t ≡ start → ⊥)
  onward_turn s t a d e = go (onward_is s a)
    where
      go : Onward n L start s → Turn L (partner L) s t × (t ≡ start → ⊥)
      go (stops z f) = let q : t ≡ 0 = cc in absurd (d q)
      go (back u f) = let q : t ≡ 0 = cc in absurd (d q)
      go (on r u k f) = let q : r ≡ t = cc in (rw q at u, rw q at k)

-- a ring begins where the walk about its vertex does
pub start : (n : ℕ) (L : List ℕ) (v : ℕ) → 1 ≤ v → v ≤ n → (s : ℕ) × (start_side (built n L) v ≡ some s) × Start L v s
unfolding start_side
start n L v h k = go (read_entry n L v h k)
  where
    go : ReadEntry n L v → (s : ℕ) × (start_side (built n L) v ≡ some s) × Start L v s
    go (rim r a z d e) =
        (next L r, and_then_lem _ e ∙ by_entry_border L r _ _ _ ∙ and_then_lem _ (read_border_side_lem n L r a z), after r a z d refl)
    go (inner f s a e) = (s, and_then_lem _ e ∙ by_entry_side L s _ _ _ a.0, side f a)
    go (unused f e) = (0, and_then_lem _ e, nowhere f refl)

module _ (n : ℕ) (L : List ℕ) (g : Good n L) (v : ℕ) where
  -- the sides about v have elements of their own, and turning is one to one
  ring_steady : (s : ℕ) → SideAt L v s → Steady (SideAt L v) (onward (built n L) s) (elements L) s (λ x. element x)
  ring_steady s b =
      record {
        begins = b;
        goes = λ x a. goes x a (onward_is n L s x a.0);
        positive = λ x a. side_positive L x a.0;
        injective = λ x y z a c d e f.
            let w = side_positive L z d.0 in
            turn_inj L g.pairing x y z a.0 c.0 (onward_turn n L s x z a.0 w e).0 (onward_turn n L s y z c.0 w f).0;
        away = λ x a e. (onward_turn n L s x s a.0 (side_positive L s b.0) e).1 refl;
        keys = λ x a. let f = side_facts L x a.0 in (f.element_from, f.element_to);
        apart = λ x y a c e. g.fit.differ x y a.0 c.0 e (a.1 ∙ sym c.1);
      }
    where
      goes : (x : ℕ) → SideAt L v x → Onward n L s x → (y : ℕ) × (onward (built n L) s x ≡ some y) × ((y ≡ 0 → ⊥) → SideAt L v y)
      goes x a (stops z e) = (0, e, λ d. absurd (d refl))
      goes x a (back t e) = (0, e, λ d. absurd (d refl))
      goes x a (on t u d e) =
          (t, e, λ w. let (b, o) = turn_origin L g.pairing x t a.0 u in (b, o ∙ a.1))

  module _ (s : ℕ) (b : SideAt L v s) (st : Start L v s) (o : List ℕ) (f : Followed (SideAt L v) (onward (built n L) s) (elements L) s o) where
    some_side : 0 < length o
    some_side = nonempty (SideAt L v) (onward (built n L) s) (elements L) s o f (side_positive L s b.0)

    -- with a side its turn is met
    turn_met : (t : ℕ) → (i : ℕ) → i < length o → Turn L (partner L) (at o i) t → Met o t
    turn_met t i l u = go (onward_is n L s (at o i) (f.trail.inside i l).0) (decide (means_lt (suc i) (length o)))
      where
        go : Onward n L s (at o i) → (suc i < length o) ⊎ (suc i < length o → ⊥) → Met o t
        go (stops z e) q = absurd (u.0 z)
        go (back w e) q = (0, some_side, f.trail.first ∙ sym w.1 ∙ u.1)
        go (on r w d e) (inl q) =
            let c : r ≡ at o (suc i) = let c' = f.trail.steps i q in cc in (suc i, q, sym c ∙ sym w.1 ∙ u.1)
        go (on r w d e) (inr q) =
            let c : i ≡ length o - 1 = omega arith in
            let c' : onward (built n L) s (at o i) ≡ some 0 = ap (λ (j : ℕ). onward (built n L) s (at o j)) c ∙ f.stops some_side in
            let c'' : r ≡ 0 = cc in
            absurd (side_positive L r (turn_origin L g.pairing (at o i) r (f.trail.inside i l).0 w).0 c'')

    module _ (y : List ℕ) (x : TurnOrder L (partner L) v y) where
      -- what follows a met side in a turn order is met
      rest_met : (j i : ℕ) → j + i < length y → Met o (at y j) → Met o (at y (j + i))
      rest_met j zero l m = let e : j + 0 ≡ j = omega arith in rw e m
      rest_met j (suc i) l m =
          let e : j + suc i ≡ suc (j + i) = omega arith in
          let (a, q, c) = rest_met j i (omega arith) m in
          rw e (turn_met (at y (suc (j + i))) a q (rw c (x.turns (j + i) (omega arith))))

      first_met : Met o (at y 0)
      first_met = go st
        where
          go : Start L v s → Met o (at y 0)
          go (nowhere none e) = absurd (none s b)
          go (after r a z d e) = (0, some_side, f.trail.first ∙ e ∙ sym (first_after L g.pairing v y x r a z d))
          go (side free c) =
              let (j, l, e) = x.all s b in
              let m = rest_met j (length y - 1 - j) (omega arith) (0, some_side, f.trail.first ∙ sym e) in
              let q : j + (length y - 1 - j) ≡ length y - 1 = omega arith in
              closed (rw q at m) (x.ends (omega arith)) (omega arith)
            where
              closed : Met o (at y (length y - 1)) → Ends L y → 0 < length y → Met o (at y 0)
              closed (a, q, c) (inl u) l = turn_met (at y 0) a q (rw c u)
              closed m (inr (z, w)) l =
                  let (r, a, z, d, e) = begins L g.pairing v y x l w in absurd (free r a z d)

      all_met : (t : ℕ) → SideAt L v t → Met o t
      all_met t a =
          let (i, l, e) = x.all t a in
          let q : 0 + i ≡ i = omega arith in
          rw (q, e) at (rest_met 0 i (omega arith) first_met)

      -- theorem 6: the sides of the ring are a turn order
      ring_order : TurnOrder L (partner L) v o
      ring_order =
          let last = length o - 1 in
          let l : last < length o = omega (arith, some_side) in
          record {
            sides = f.trail.inside;
            all = all_met;
            once = f.once;
            turns = λ i q.
                (onward_turn n L s (at o i) (at o (suc i)) (f.trail.inside i (omega arith)).0
                (side_positive L (at o (suc i)) (f.trail.inside (suc i) q).0) (f.trail.steps i q)).0;
            ends = λ _. ends (onward_is n L s (at o last) (f.trail.inside last l).0);
          }
        where
          nobody : partner L (at o (length o - 1)) ≡ 0 → Start L v s → (t : ℕ) → Side L t → Turn L (partner L) t (at o 0) → ⊥
          nobody z (nowhere none e) t c u = none s b
          nobody z (after r a w d e) t c u = after_border L g.pairing r t a w c (rw (f.trail.first ∙ e) at u)
          nobody z (side free d) t c u =
              let (r, (a, w, e)) = border_leads L g.pairing v y x (at o (length o - 1)) (f.trail.inside (length o - 1) (omega (arith, some_side))) z in
              free r a w e

          ends : Onward n L s (at o (length o - 1)) → Ends L o
          ends (stops z e) = inr (z, nobody z st)
          ends (back u e) = inl (rw f.trail.first u)
          ends (on t u d e) =
              let c = f.stops some_side in
              let c' : t ≡ 0 = cc in
              absurd (side_positive L t (turn_origin L g.pairing (at o (length o - 1)) t (f.trail.inside (length o - 1) (omega (arith, some_side))).0 u).0 c')

-- the ring of v: its start, its sides
pub record RingOf (n : ℕ) (L : List ℕ) (v : ℕ) : Type 0 where
  pub start : ℕ
  pub found : start_side (built n L) v ≡ some start
  pub sides : List ℕ
  pub listed : ring_sides (built n L) v ≡ some sides
  pub steps : Followed (SideAt L v) (onward (built n L) start) (elements L) start sides
  pub order : TurnOrder L (partner L) v sides

-- f is an element with a corner v
abbrev pub About : List ℕ → ℕ → ℕ → Type 0
About L v f = (s : ℕ) × SideAt L v s × (element s ≡ f)

-- es lists every element with a corner v exactly once
pub record ListsOnce (L : List ℕ) (v : ℕ) (es : List ℕ) : Type 0 where
  pub sound : (i : ℕ) → i < length es → About L v (at es i)
  pub complete : (f : ℕ) → About L v f → (i : ℕ) × (i < length es) × (at es i ≡ f)
  pub once : (i j : ℕ) → i < length es → j < length es → at es i ≡ at es j → i ≡ j

-- an element has one side with a given origin at most, so the elements of a turn order are listed once
lists_once : (n : ℕ) (L : List ℕ) → Fit n L → (v : ℕ) (o es : List ℕ) → TurnOrder L (partner L) v o → Mapped (λ s. element s) o es → ListsOnce L v es
lists_once n L fit v o es x m =
    record {
      sound = λ i h. let h' : i < length o = omega (arith, m.size) in (at o i, x.sides i h', sym (m.entries i h'));
      complete = λ f (s, a, e).
          let (i, h, q) = x.all s a in (i, (omega (arith, m.size)), m.entries i h ∙ ap (λ (t : ℕ). element t) q ∙ e);
      once = λ i j h k e.
          let h' : i < length o = omega (arith, m.size) in
          let k' : j < length o = omega (arith, m.size) in
          let (a, p) = x.sides i h' in
          let (b, q) = x.sides j k' in
          x.once i j h' k' (fit.differ (at o i) (at o j) a b (sym (m.entries i h') ∙ e ∙ m.entries j k') (p ∙ sym q));
    }

module _ (n : ℕ) (L : List ℕ) (g : Good n L) (v : ℕ) (h : 1 ≤ v) (k : v ≤ n) where
  pub the_ring : RingOf n L v
  unfolding ring_sides
  the_ring = let (s, e, st) = start n L v h k in go s e st
    where
      about : (s : ℕ) → start_side (built n L) v ≡ some s → SideAt L v s → Start L v s → RingOf n L v
      about s e b st =
          let (o, q, f) = followed (SideAt L v) (onward (built n L) s) (elements L) s (λ x. element x) (ring_steady n L g v s b) in
          let (y, x) = g.orders v h k in
          record {
            start = s;
            found = e;
            sides = o;
            listed = and_then_lem _ e ∙ q;
            steps = f;
            order = ring_order n L g v s b st o f y x;
          }

      -- without sides: the empty list, from 0
      nothing : start_side (built n L) v ≡ some 0 → ((s : ℕ) → SideAt L v s → ⊥) → RingOf n L v
      nothing e none =
          record {
            start = 0;
            found = e;
            sides = [];
            listed = and_then_lem _ e ∙ follow_none (onward (built n L) 0) (elements L);
            steps = followed_none (SideAt L v) (onward (built n L) 0) (elements L);
            order = order_empty L (partner L) v none;
          }

      go : (s : ℕ) → start_side (built n L) v ≡ some s → Start L v s → RingOf n L v
      go s e (nowhere none z) = nothing (e ∙ ap some z) none
      go s e (side f b) = about s e b (side f b)
      go s e (after r a z d q) = about s e (rw q (next_side_lem L r a, d)) (after r a z d q)

  -- theorem 6: the ring lists every element with this corner exactly once
  pub ring_lists : (es : List ℕ) × (ring (built n L) v ≡ some es) × ListsOnce L v es × Mapped (λ s. element s) the_ring.sides es
  unfolding ring over
  ring_lists =
      let r = the_ring in
      let (es, e, m) = read_all_lem (λ s. some (element s)) (λ s. element s) r.sides (λ i l. refl) in
      (es, ap (over (λ s. some (element s))) r.listed ∙ e, lists_once n L g.fit v r.sides es r.order m, m)
