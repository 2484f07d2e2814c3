-- What spreads by turns, from a side to its turn and back. At a vertex with a turn order it reaches all sides from any one; to be met by the
-- walk spreads so, which makes the converse (`Covering`). And what it reaches in one list it reaches in another with the same turns, up to places.
-- Assumes nothing.
use Rattle.std.specs.Prelude.{◌≡◌, ◌⊎◌, List, ℕ, zero, suc, ◌-◌, ◌<◌, length}
use Rattle.std.proofs.Common.{ap, sym, ◌∙◌, inl, inr, arith}
use Rattle.lists.specs.Search.{at}
use Rattle.lists.specs.SearchLaws.{Met, lt_or_eq}
use Rattle.rules.specs.Elements.{next}
use Rattle.rules.specs.Pairing.{Pairing, Turn, SideAt, TurnOrder}
use Rattle.rules.specs.Tables.{partner}
use Rattle.theory.specs.Orders.{turn_inj, after_border}
use Rattle.theory.specs.Rims.{BorderInto}
use Rattle.theory.specs.Walking.{Start, after, side, nowhere, Fan}

-- P spreads by turns at v
pub record Spreads (L : List ℕ) (v : ℕ) (P : ℕ → Type 0) : Type 0 where
  pub on : (s t : ℕ) → SideAt L v s → Turn L (partner L) s t → P s → P t
  pub back : (s t : ℕ) → SideAt L v s → Turn L (partner L) s t → P t → P s

-- whatever does reaches all sides at v from any one
abbrev pub Reached : List ℕ → ℕ → Type 1
Reached L v = (P : ℕ → Type 0) → Spreads L v P → (s t : ℕ) → SideAt L v s → SideAt L v t → P s → P t

-- along a turn order it goes back to the first side, and on from there
pub order_reached : {L : List ℕ} {v : ℕ} {o : List ℕ} → TurnOrder L (partner L) v o → Reached L v
order_reached {L} {v} {o} x P c s t a b y =
    let (i, h, e) = x.all s a in
    let (j, k, f) = x.all t b in
    rw f at (up j k (down i h (rw e y)))
  where
    down : (i : ℕ) → i < length o → P (at o i) → P (at o 0)
    down zero h y = y
    down (suc i) h y = down i (omega arith) (c.back (at o i) (at o (suc i)) (x.sides i (omega arith)) (x.turns i h) y)

    up : (i : ℕ) → i < length o → P (at o 0) → P (at o i)
    up zero h y = y
    up (suc i) h y = c.on (at o i) (at o (suc i)) (x.sides i (omega arith)) (x.turns i h) (up i (omega arith) y)

module _ (L : List ℕ) (p : Pairing L (partner L)) (v c : ℕ) (o : List ℕ) (fan : Fan L v c o) where
  -- the turn of a side that was met was met
  met_turn : (s t : ℕ) → Met o s → Turn L (partner L) s t → Met o t
  met_turn s t (i, h, e) (z, g) = go (lt_or_eq (suc i) (length o) (omega arith))
    where
      go : (suc i < length o) ⊎ (suc i ≡ length o) → Met o t
      go (inl k) = (suc i, k, sym (fan.turns i k).1 ∙ ap (λ (x : ℕ). next L (partner L x)) e ∙ g)
      go (inr k) = last (fan.last (omega arith))
        where
          at_last : at o (length o - 1) ≡ s
          at_last = let q : length o - 1 ≡ i = omega arith in ap (at o) q ∙ e

          last : (partner L (at o (length o - 1)) ≡ 0) ⊎ ((j : ℕ) × (j < length o) × Turn L (partner L) (at o (length o - 1)) (at o j)) → Met o t
          last (inl w) = absurd (z (ap (partner L) (sym at_last) ∙ w))
          last (inr (j, l, (y, q))) = (j, l, sym q ∙ ap (λ (x : ℕ). next L (partner L x)) at_last ∙ g)

  -- the turn of the last is the first: any other is the turn of another
  pub last_turn : (i : ℕ) → i < length o → Turn L (partner L) (at o (length o - 1)) (at o i) → Turn L (partner L) (at o (length o - 1)) (at o 0)
  last_turn zero h t = t
  last_turn (suc i) h t =
      let last = at o (length o - 1) in
      let a = (fan.sides i (omega arith)).0 in
      let b = (fan.sides (length o - 1) (omega arith)).0 in
      let e = fan.once i (length o - 1) (omega arith) (omega arith) (turn_inj L p (at o i) last (at o (suc i)) a b (fan.turns i h) t) in
      absurd (omega arith)

-- where a border side begins at v one ends there, as at every vertex with a turn order
abbrev pub Leads : List ℕ → ℕ → Type 0
Leads L v = (s : ℕ) → SideAt L v s → partner L s ≡ 0 → (r : ℕ) × BorderInto L v r

-- then what was met by the walk about v spreads
module _ (L : List ℕ) (p : Pairing L (partner L)) (v c : ℕ) (o : List ℕ) (fan : Fan L v c o) (start : Start L v c) (leads : Leads L v) where
  met_back : (s t : ℕ) → SideAt L v s → Turn L (partner L) s t → Met o t → Met o s
  met_back s t a y (suc i, h, e) =
      (i, omega arith, turn_inj L p (at o i) s t (fan.sides i (omega arith)).0 a.0 (rw e at (fan.turns i h)) y)
  met_back s t a y (zero, h, e) = go start
    where
      last : ℕ
      last = at o (length o - 1)

      -- the first is the turn of the last, for else a border side would begin at v and none end there
      closed : (partner L last ≡ 0) ⊎ ((i : ℕ) × (i < length o) × Turn L (partner L) last (at o i)) → ((r : ℕ) → BorderInto L v r → ⊥) → Met o s
      closed (inl z) f = let (r, b) = leads last (fan.sides (length o - 1) (omega arith)) z in absurd (f r b)
      closed (inr (i, l, u)) f =
          let b = (fan.sides (length o - 1) (omega arith)).0 in
          (length o - 1, omega arith, turn_inj L p last s t b a.0 (rw e at (last_turn L p v c o fan i l u)) y)

      go : Start L v c → Met o s
      go (nowhere f g) = absurd (f s a)
      go (after r b z d g) = absurd (after_border L p r s b z a.0 (rw (sym e ∙ fan.first h ∙ g) at y))
      go (side f b) = closed (fan.last h) (λ r (d, z, g). f r d z g)

  pub met_spreads : Spreads L v (Met o)
  met_spreads = record { on = λ s t a y m. met_turn L p v c o fan s t m y; back = met_back }

-- r and u stand in one place, or a turn of L' at v leads from the place of r to that of u
abbrev pub Stepped : List ℕ → ℕ → (ℕ → ℕ) → (ℕ → ℕ) → ℕ → ℕ → Type 0
Stepped L' v place place' r u = (place r ≡ place u)
    ⊎ ((q : ℕ) × (w : ℕ) × SideAt L' v q × SideAt L' v w × Turn L' (partner L') q w × (place r ≡ place' q) × (place u ≡ place' w))

-- the sides of two lists at v stand in places: each of L' in that of one of L, two of L' in one place only where one is the turn of the other, and
-- turns of L are turns of L', up to places
pub record Carried (L L' : List ℕ) (v : ℕ) (place place' : ℕ → ℕ) : Type 0 where
  pub each : (q : ℕ) → SideAt L' v q → (r : ℕ) × SideAt L v r × (place r ≡ place' q)
  pub together : (q w : ℕ) → SideAt L' v q → SideAt L' v w → place' q ≡ place' w → (q ≡ w) ⊎ (Turn L' (partner L') q w ⊎ Turn L' (partner L') w q)
  pub steps : (r u : ℕ) → SideAt L v r → Turn L (partner L) r u → Stepped L' v place place' r u

pub carried : {L L' : List ℕ} {v : ℕ} {place place' : ℕ → ℕ} → Carried L L' v place place' → Reached L v → Reached L' v
carried {L} {L'} {v} {place} {place'} x reached P c s t a b y =
    let (r, d, e) = x.each s a in
    let (u, i, f) = x.each t b in
    reached Q spreads r u d i (λ q g h. within s q a g (sym e ∙ h) y) t b f
  where
    -- P holds all over the place of r
    Q : ℕ → Type 0
    Q r = (q : ℕ) → SideAt L' v q → place r ≡ place' q → P q

    within : (q w : ℕ) → SideAt L' v q → SideAt L' v w → place' q ≡ place' w → P q → P w
    within q w a b e y = elim (x.together q w a b e) [
      | inl g ↦ rw g at y
      | inr k ↦ elim k [ inl t ↦ c.on q w a t y | inr t ↦ c.back w q b t y ]
    ]

    spreads : Spreads L v Q
    spreads =
        record {
          on = λ r u a t y m b e. elim (x.steps r u a t) [
            | inl g ↦ y m b (g ∙ e)
            | inr (q, w, d, i, k, g, h) ↦ within w m i b (sym h ∙ e) (c.on q w d k (y q d g))
          ];
          back = λ r u a t y m b e. elim (x.steps r u a t) [
            | inl g ↦ y m b (sym g ∙ e)
            | inr (q, w, d, i, k, g, h) ↦ within q m d b (sym g ∙ e) (c.back q w d k (y w i h))
          ];
        }
