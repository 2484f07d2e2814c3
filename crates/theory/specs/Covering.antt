-- The walk over a list's own tables writes all sides at a vertex exactly where that vertex has a turn order; so it gives every accepted
-- list back.
-- Assumes nothing.
use Rattle.std.specs.Prelude.{◌≡◌, refl, ◌⊎◌, List, ℕ, suc, ◌*◌, ◌-◌, ◌≤◌, ◌<◌, length}
use Rattle.std.proofs.Common.{ap, sym, ◌∙◌, inl, inr, arith, T_not, ext_get_or}
use Rattle.lists.specs.TestLaws.{Test, pass, fail, test}
use Rattle.lists.specs.Search.{at}
use Rattle.lists.specs.SearchLaws.{Met, lt_or_eq}
use Rattle.rules.specs.Elements.{elements, is_side, Side, slot, origin, next, side_at}
use Rattle.rules.specs.Pairing.{Pairing, Turn, SideAt, TurnOrder}
use Rattle.rules.specs.Tables.{partner, wide, v2e}
use Rattle.rules.specs.Recovery.{walk}
use Rattle.theory.specs.Sides.{no_side_zero, side_at_slot, slot_side_at}
use Rattle.theory.specs.Entries.{length_wide}
use Rattle.theory.specs.Orders.{Good, turn_origin}
use Rattle.theory.specs.Rims.{Ends, border_leads}
use Rattle.theory.specs.Walking.{start_at, Fan, walk_walked}
use Rattle.theory.specs.Spreading.{Reached, order_reached, Leads, last_turn, met_spreads}

-- W has the origin v of each side at v
abbrev pub Covered : List ℕ → List ℕ → ℕ → Type 0
Covered L W v = (s : ℕ) → SideAt L v s → at W (slot s) ≡ v

module _ (L : List ℕ) (p : Pairing L (partner L)) (v c : ℕ) (o : List ℕ) (fan : Fan L v c o) where
  -- a fan of all sides at the vertex is a turn order
  pub fan_order : ((s : ℕ) → SideAt L v s → Met o s) → TurnOrder L (partner L) v o
  fan_order all =
      record { sides = fan.sides; all = all; once = fan.once; turns = fan.turns; ends = λ some. ends some (fan.last some) }
    where
      last : ℕ
      last = at o (length o - 1)

      -- nobody's turn is the first where the last is a border side: it would be met before it
      nobodys : 0 < length o → partner L last ≡ 0 → (s : ℕ) → Side L s → Turn L (partner L) s (at o 0) → ⊥
      nobodys some z s a t =
          let (b, e) = turn_origin L p s (at o 0) a t in
          let (i, h, g) = all s (a, sym e ∙ (fan.sides 0 some).1) in
          go i h g (lt_or_eq (suc i) (length o) (omega arith))
        where
          go : (i : ℕ) → i < length o → at o i ≡ s → (suc i < length o) ⊎ (suc i ≡ length o) → ⊥
          go i h g (inl k) =
              let e = fan.once (suc i) 0 k some (sym (fan.turns i k).1 ∙ ap (λ (x : ℕ). next L (partner L x)) g ∙ t.1) in omega arith
          go i h g (inr k) =
              let q : i ≡ length o - 1 = omega arith in t.0 (ap (partner L) (sym g ∙ ap (at o) q) ∙ z)

      ends : 0 < length o → (partner L last ≡ 0) ⊎ ((i : ℕ) × (i < length o) × Turn L (partner L) last (at o i)) → Ends L o
      ends some (inl z) = inr (z, nobodys some z)
      ends some (inr (i, h, t)) = inl (last_turn L p v c o fan i h t)

module _ (n : ℕ) (L : List ℕ) (p : Pairing L (partner L)) (v : ℕ) (from : 1 ≤ v) (to : v ≤ n) where
  -- every side is written where what spreads by turns reaches every side
  pub reached_covered : Leads L v → Reached L v → Covered L (walk (v2e n L) (wide L)) v
  reached_covered leads reached s a =
      let (o, fan, written, empty) = (walk_walked n L p).fans v from to in
      let some = fan.some s a in
      let spreads = met_spreads L p v _ o fan (start_at n L v from to) leads in
      let (i, h, e) = reached (Met o) spreads (at o 0) s (fan.sides 0 some) a (0, some, refl) in
      ap (λ (t : ℕ). at (walk (v2e n L) (wide L)) (slot t)) (sym e) ∙ written i h

  -- a turn order exactly where the walk writes every side
  pub order_covered : (q : List ℕ) → TurnOrder L (partner L) v q → Covered L (walk (v2e n L) (wide L)) v
  order_covered q x = reached_covered (border_leads L p v q x) (order_reached x)

  pub covered_order : Covered L (walk (v2e n L) (wide L)) v → (o : List ℕ) × TurnOrder L (partner L) v o
  covered_order all =
      let (o, fan, written, reached) = (walk_walked n L p).fans v from to in
      (o, fan_order L p v _ o fan (λ t b. elim (reached t b) [ inl z ↦ absurd (omega (arith, all t b)) | inr m ↦ m ]))

-- theorem 4: the walk gives every accepted list back from its tables
pub walk_back : (n : ℕ) (L : List ℕ) → Good n L → walk (v2e n L) (wide L) ≡ L
unfolding origin
walk_back n L g =
    let k = walk_walked n L g.pairing in
    ext_get_or 0 (walk (v2e n L) (wide L)) L
    (k.long ∙ length_wide L ∙ sym g.fit.fours)
    (λ q h. go q (test (is_side L (side_at q))) (omega (arith, k.long, length_wide L)))
  where
    go : (q : ℕ) → Test (is_side L (side_at q)) → q < 4 * elements L → at (walk (v2e n L) (wide L)) q ≡ at L q
    go q (pass a e) h =
        let s = side_at q in
        let v = origin L s in
        let from = g.fit.from s a in
        let to = g.fit.to s a in
        let (o, x) = g.orders v from to in
        ap (at (walk (v2e n L) (wide L))) (sym (slot_side_at q))
        ∙ order_covered n L g.pairing v from to o x s (a, refl)
        ∙ ap (at L) (slot_side_at q)
    go q (fail a e) h =
        (walk_walked n L g.pairing).outside q (λ s b w. T_not (is_side L (side_at q)) a (rw (sym (ap side_at w) ∙ side_at_slot L s b) b))
        ∙ sym (no_side_zero L q h a)
