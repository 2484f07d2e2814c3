-- A list with a new vertex on a side: every vertex has a turn order, for turns about the old ones are as they were, and those about the new one
-- go round it.
-- Assumes nothing.
use Rattle.std.specs.Prelude.{◌≡◌, refl, ◌⊎◌, List, ℕ, ◌+◌, ◌/◌, ◌≤◌}
use Rattle.std.proofs.Common.{ap, sym, ◌∙◌, inl, inr, arith}
use Rattle.lists.specs.TestLaws.{decide, means_le, zero_or}
use Rattle.rules.specs.Elements.{Side, origin, next, previous, destination}
use Rattle.rules.specs.Pairing.{Pairing, Turn, SideAt, TurnOrder, Conformal}
use Rattle.rules.specs.Tables.{partner}
use Rattle.theory.specs.Sides.{side_positive}
use Rattle.theory.specs.Steps.{next_numbered, next_previous, previous_numbered}
use Rattle.theory.specs.FitRows.{Fit}
use Rattle.theory.specs.Pairings.{means_opposed, means_joins, partner_opposed}
use Rattle.theory.specs.Triangles.{Runs, next_next, next_runs, previous_runs}
use Rattle.theory.specs.Refining.{Cut, Half, Refined}
use Rattle.theory.specs.Orders.{Good, after_paired}
use Rattle.theory.specs.Rims.{BorderInto, border_leads}
use Rattle.theory.specs.Spreading.{Reached, order_reached, Leads, Stepped, Carried, carried}
use Rattle.theory.specs.Covering.{reached_covered, covered_order}
use Rattle.theory.specs.Diamonds.{runs_differ}
use Rattle.theory.specs.RefinedSides.{Spoke, along, across, cut_or, home, home_old, home_twin, Same, lift, Out, out, into, same, kind}
use Rattle.theory.specs.RefinedPairs.{refined_fit, begins_old, ends_old, is_out, is_into, Over, meet}
use Rattle.theory.specs.RefinedPairs.{cut_faces, CutEnd, cut_origin, cut_destination, refined_pairing}

-- sides that run against each other are partners
module _ {n : ℕ} {L : List ℕ} (fit : Fit n L) (p : Pairing L (partner L)) where
  against : {q w a b : ℕ} → Runs L q a b → Runs L w b a → partner L q ≡ w
  against {q} {w} k l =
      let d : q ≡ w → ⊥ = λ e. runs_differ fit k (sym k.from ∙ ap (origin L) e ∙ l.from) in
      p.paired q w k.side l.side d
      ((means_joins L q w).shows (inr ((means_opposed L q w).shows (k.from ∙ sym l.to, k.to ∙ sym l.from))))

  -- the side after w is the turn of its partner
  turn_of : {q w a b : ℕ} → Runs L q a b → Runs L w b a → Turn L (partner L) q (next L w)
  turn_of {q} {w} k l =
      let e = against l k in rw e at (after_paired L p w l.side (λ z. side_positive L q k.side (sym e ∙ z)))

  -- a side against which one runs is no border
  pub not_border : {q w a b : ℕ} → Runs L q a b → Runs L w b a → partner L q ≡ 0 → ⊥
  not_border {q} {w} k l z = side_positive L w l.side (sym (against k l) ∙ z)

pub between : {L : List ℕ} {q a b c d : ℕ} → Runs L q a b → a ≡ c → b ≡ d → Runs L q c d
between k e f = record { side = k.side; from = k.from ∙ e; to = k.to ∙ f }

pub own_runs : {L : List ℕ} {r : ℕ} → Side L r → Runs L r (origin L r) (destination L r)
own_runs a = record { side = a; from = refl; to = refl }

-- a partner runs against its side, so a side against which none runs is a border
pub partner_runs : (L : List ℕ) (r : ℕ) → (partner L r ≡ 0 → ⊥) → Runs L (partner L r) (destination L r) (origin L r)
partner_runs L r z =
    let (a, o) = partner_opposed L r z in
    let (e, f) = (means_opposed L r (partner L r)).says o in record { side = a; from = sym f; to = sym e }

pub no_against : {L : List ℕ} {r a b : ℕ} → Runs L r a b → ((w : ℕ) → Runs L w b a → ⊥) → partner L r ≡ 0
no_against {L} {r} k f = elim (zero_or (partner L r)) [
  | inl z ↦ z
  | inr z ↦ absurd (f (partner L r) (between (partner_runs L r z) k.to k.from))
]

module _ {n : ℕ} {L L' : List ℕ} {s : ℕ} (old : Good n L) (meeting : Conformal L) (x : Refined n L L' s) where
  new_fit : Fit (n + 1) L'
  new_fit = refined_fit old.fit x

  p : Pairing L' (partner L')
  p = refined_pairing old meeting x

  -- where a side of L' stands
  abbrev place : ℕ → ℕ
  place q = home x (q / 8)

  -- q is r of L, or one half of it
  pub data Part (half : ℕ → ℕ) (r q : ℕ) : Type 0 where
    whole : Same x r q → Part half r q
    halved : Cut L s r → q ≡ half r → Part half r q

  abbrev pub First : ℕ → ℕ → Type 0
  First = Part (λ r. r)

  abbrev Last : ℕ → ℕ → Type 0
  Last = Part x.twin

  pub part : (half : ℕ → ℕ) (r : ℕ) → Side L r → (q : ℕ) × Part half r q
  part half r a = elim (cut_or x r a) [
    | inl c ↦ (half r, halved c refl)
    | inr d ↦ let (q, k) = lift x r a d in (q, whole k)
  ]

  stands : {half : ℕ → ℕ} {r q : ℕ} → ((r : ℕ) → Cut L s r → place (half r) ≡ r / 8) → Part half r q → place q ≡ r / 8
  stands f (whole k) = k.stands
  stands {r = r} f (halved c e) = ap place e ∙ f r c

  -- the partner of a side that is cut is cut, and so is that of which a partner is cut
  cut_partner : (r : ℕ) → Cut L s r → (partner L r ≡ 0 → ⊥) → Cut L s (partner L r)
  cut_partner r c z = record { side = (partner_opposed L r z).0; is = go c.is }
    where
      go : (r ≡ s) ⊎ (r ≡ partner L s) → (partner L r ≡ s) ⊎ (partner L r ≡ partner L s)
      go (inl e) = inr (ap (partner L) e)
      go (inr e) = inl (ap (partner L) e ∙ (old.pairing.mutually s x.side (λ w. side_positive L r c.side (e ∙ w))).1)

  -- the first part of a side and the last part of its partner run against each other
  module _ (r : ℕ) (a : Side L r) (z : partner L r ≡ 0 → ⊥) where
    abbrev t : ℕ
    t = partner L r

    back : partner L t ≡ r
    back = (old.pairing.mutually r a z).1

    cut_back : Cut L s t → Cut L s r
    cut_back c = rw back at (cut_partner t c (λ w. side_positive L r a (sym back ∙ w)))

    parts_against : {q w : ℕ} → First r q → Last t w → (y : ℕ) × Runs L' q (origin L r) y × Runs L' w y (origin L r)
    parts_against (whole k) (whole l) =
        let m = partner_runs L r z in (destination L r, k.runs, between l.runs m.from m.to)
    parts_against (whole k) (halved d f) = absurd (k.uncut (cut_back d))
    parts_against (halved c e) (whole l) = absurd (l.uncut (cut_partner r c z))
    parts_against (halved c e) (halved d f) =
        (n + 1, rw e (x.halves r c).near.runs, rw f (between (x.halves t d).far.runs refl (partner_runs L r z).to))

  -- so a part is a border only where the side was one
  pub first_border : {r q : ℕ} → Side L r → First r q → partner L' q ≡ 0 → partner L r ≡ 0
  first_border {r} a i e = elim (zero_or (partner L r)) [
    | inl z ↦ z
    | inr z ↦
        let (w, j) = part x.twin (partner L r) (partner_runs L r z).side in
        let (y, k, l) = parts_against r a z i j in absurd (not_border new_fit p k l e)
  ]

  -- and it is one there: what runs against it would run as a side against r, or be a half of that
  module _ (r : ℕ) (z : partner L r ≡ 0) where
    pub same_still : {q : ℕ} → Same x r q → partner L' q ≡ 0
    same_still k = no_against k.runs (λ w m. elim (kind x w m.side) [
      | out e l ↦ ends_old old.fit x k (k.runs.to ∙ sym m.from ∙ e)
      | into e l ↦ begins_old old.fit x k (k.runs.from ∙ sym m.to ∙ e)
      | same t l ↦
          let mine = own_runs k.side in
          not_border old.fit old.pairing mine (between (own_runs l.side) (sym l.runs.from ∙ m.from) (sym l.runs.to ∙ m.to)) z
    ])

    module _ (c : Cut L s r) where
      unfaced : {end other half new : ℕ → ℕ} {q y : ℕ} → CutEnd old meeting x end other → CutEnd old meeting x other end
          → Spoke L s end half new q y → y ≡ other r → ⊥
      unfaced k l (along t d i o) e = side_positive L t d.side (sym (k.facing r t c d (sym o ∙ e)) ∙ z)
      unfaced k l (across t d i o) e = l.no_third t r d c (sym e ∙ o)

      pub near_still : partner L' r ≡ 0
      near_still =
          no_against (x.halves r c).near.runs
          (λ w m. unfaced (cut_destination old meeting x) (cut_origin old meeting x) (is_out old.fit x w m.side m.from) m.to)

      pub far_still : partner L' (x.twin r) ≡ 0
      far_still =
          no_against (x.halves r c).far.runs
          (λ w m. unfaced (cut_origin old meeting x) (cut_destination old meeting x) (is_into old.fit x w m.side m.to) m.from)

  last_still : {r q : ℕ} → partner L r ≡ 0 → Last r q → partner L' q ≡ 0
  last_still {r} z (whole k) = same_still r z k
  last_still {r} z (halved c e) = rw e (far_still r z c)

  last_ends : {r q : ℕ} → Last r q → Side L' q × (destination L' q ≡ destination L r)
  last_ends (whole k) = (k.runs.side, k.runs.to)
  last_ends {r} (halved c e) = rw e ((x.halves r c).far.runs.side, (x.halves r c).far.runs.to)

  -- the side that halves the triangle of r, from its third corner and to it
  module _ (r : ℕ) (c : Cut L s r) where
    h : Half L L' (n + 1) r (x.twin r)
    h = x.halves r c

    pub inward : Runs L' (previous L' (x.twin r)) (origin L (previous L r)) (n + 1)
    inward = previous_runs h.far

    pub outward : Runs L' (next L' r) (n + 1) (origin L (previous L r))
    outward = next_runs h.near

    -- turns from one half to the other, about the third corner and about the new vertex
    turn_third : Turn L' (partner L') (previous L' (x.twin r)) (previous L' r)
    turn_third = rw (next_next L' r h.near.runs.side h.near.triangle) at (turn_of new_fit p inward outward)

    turn_within : Turn L' (partner L') (next L' r) (x.twin r)
    turn_within = rw (next_previous L' (x.twin r) h.far.runs.side) at (turn_of new_fit p outward inward)

    -- and from a half of r to one of its partner
    beyond : (t : ℕ) → Cut L s t → partner L r ≡ t → Runs L' t (destination L r) (n + 1)
    beyond t d e =
        let z : partner L r ≡ 0 → ⊥ = λ z. side_positive L t d.side (sym e ∙ z) in
        between (x.halves t d).near.runs (ap (origin L) (sym e) ∙ (partner_runs L r z).from) refl

    turn_beyond : (t : ℕ) → Cut L s t → partner L r ≡ t → Turn L' (partner L') (x.twin r) (next L' t)
    turn_beyond t d e = turn_of new_fit p h.far.runs (beyond t d e)

    pub far_border : partner L' (x.twin r) ≡ 0 → partner L r ≡ 0
    far_border e = elim (zero_or (partner L r)) [
      | inl z ↦ z
      | inr z ↦ absurd (not_border new_fit p h.far.runs (beyond (partner L r) (cut_partner r c z) refl) e)
    ]

  -- about an old vertex u
  module _ (u : ℕ) (to : u ≤ n) where
    -- there begin first parts of sides of L, and sides that halve a triangle
    begins : (q : ℕ) → SideAt L' u q → ((r : ℕ) × SideAt L u r × First r q) ⊎ ((r : ℕ) × Cut L s r × (q ≡ previous L' (x.twin r)))
    begins q (a, o) = elim (kind x q a) [
      | out e k ↦ absurd (omega arith)
      | same r k ↦ inl (r, (k.side, sym k.runs.from ∙ o), whole k)
      | into e (along r c i y) ↦ inl (r, (c.side, sym y ∙ o), halved c i)
      | into e (across r c i y) ↦ inr (r, c, i)
    ]

    each : (q : ℕ) → SideAt L' u q → (r : ℕ) × SideAt L u r × (r / 8 ≡ place q)
    each q (a, o) = elim (begins q (a, o)) [
      | inl (r, b, i) ↦ (r, b, sym (stands (λ r c. home_old x r c.side) i))
      | inr (r, c, i) ↦
          let m = previous_numbered L r c.side in
          let m' = previous_numbered L' (x.twin r) (h r c).far.runs.side in
          let from = sym (ap (origin L') i ∙ (inward r c).from) ∙ o in
          (previous L r, (m.side, from), m.same ∙ sym (ap place i ∙ ap (home x) m'.same ∙ home_twin x r c))
    ]

    turn_over : {q w : ℕ} → Over old.fit x q w → Turn L' (partner L') q w
    turn_over k = rw (k.after, k.before) (turn_third k.cut k.is)

    -- the turn of a side goes from its first part over the last part of its partner
    step : (r w : ℕ) → SideAt L u r → Turn L (partner L) r w → Stepped L' u (λ r. r / 8) place r w
    step r w (a, o) (z, e) =
        let t = partner L r in
        let b = (partner_runs L r z).side in
        let (q, i) = part (λ k. k) r a in
        let (l, j) = part x.twin t b in
        let (y, k, g) = parts_against r a z i j in
        let m = next_numbered L' l g.side in
        let home_from = sym (stands (λ r c. home_old x r c.side) i) in
        let home_to = ap (λ (c : ℕ). c / 8) (sym e) ∙ (next_numbered L t b).same ∙ sym (ap (home x) m.same ∙ stands (home_twin x) j) in
        inr (q, next L' l, (k.side, k.from ∙ o), (m.side, g.to ∙ o), turn_of new_fit p k g, home_from, home_to)

    places : Carried L L' u (λ r. r / 8) place
    places =
        record {
          each = each;
          together = λ q w (a, o) (b, e) k.
              elim (meet old.fit x q w a b (o ∙ sym e) (λ i. omega arith) k) [
                | inl i ↦ inl i
                | inr i ↦ inr (elim i [ inl l ↦ inl (turn_over l) | inr l ↦ inr (turn_over l) ])
              ];
          steps = step;
        }

    -- a border side that begins there is the first part of one of L; where one of L ends, its last part does, a border side too
    leads : (o : List ℕ) → TurnOrder L (partner L) u o → Leads L' u
    leads o y q a z = elim (begins q a) [
      | inl (r, b, i) ↦
          let (t, (c, e, f)) = border_leads L old.pairing u o y r b (first_border b.0 i z) in
          let (w, j) = part x.twin t c in
          let (d, g) = last_ends j in (w, (d, last_still e j, g ∙ f))
      | inr (r, c, i) ↦ absurd (not_border new_fit p (inward r c) (outward r c) (rw i at z))
    ]

  -- about the new one: what spreads by turns goes from any side to a half of r, from there to that of its partner, and on to any other
  new_reached : Reached L' (n + 1)
  new_reached P c q w (a, o) (b, e) y = let (r, d, z) = from (is_out old.fit x q a o) y in on r d z (is_out old.fit x w b e)
    where
      at_new : (r : ℕ) → Cut L s r → SideAt L' (n + 1) (next L' r)
      at_new r d = ((outward r d).side, (outward r d).from)

      from : {q y : ℕ} → Out x q y → P q → (r : ℕ) × Cut L s r × P (x.twin r)
      from (along r d i o) z = (r, d, rw i at z)
      from (across r d i o) z = (r, d, c.on (next L' r) (x.twin r) (at_new r d) (turn_within r d) (rw i at z))

      round : (r t : ℕ) → Cut L s r → Cut L s t → P (x.twin r) → (r ≡ t) ⊎ (partner L r ≡ t) → P (x.twin t)
      round r t d f z (inl i) = rw i at z
      round r t d f z (inr i) =
          let k = (h r d).far.runs in
          c.on (next L' t) (x.twin t) (at_new t f) (turn_within t f)
          (c.on (x.twin r) (next L' t) (k.side, k.from) (turn_beyond r d t f i) z)

      on : (r : ℕ) → Cut L s r → P (x.twin r) → {w y : ℕ} → Out x w y → P w
      on r d z (along t f i o) = rw i (round r t d f z (cut_faces old meeting x r t d f))
      on r d z (across t f i o) =
          rw i (c.back (next L' t) (x.twin t) (at_new t f) (turn_within t f) (round r t d f z (cut_faces old meeting x r t d f)))

  -- a border side there is the last half of a border side, whose first half ends there
  new_leads : Leads L' (n + 1)
  new_leads q (a, o) z = go (is_out old.fit x q a o)
    where
      go : {y : ℕ} → Out x q y → (r : ℕ) × BorderInto L' (n + 1) r
      go (across r c i e) = absurd (not_border new_fit p (outward r c) (inward r c) (rw i at z))
      go (along r c i e) =
          let k = (h r c).near.runs in (r, (k.side, near_still r (far_border r c (rw i at z)) c, k.to))

  refined_orders : (u : ℕ) → 1 ≤ u → u ≤ n + 1 → (o : List ℕ) × TurnOrder L' (partner L') u o
  refined_orders u from to =
      let (leading, reached) = go (decide (means_le u n)) in
      covered_order (n + 1) L' p u from to (reached_covered (n + 1) L' p u from to leading reached)
    where
      go : (u ≤ n) ⊎ (u ≤ n → ⊥) → Leads L' u × Reached L' u
      go (inl h) = let (o, y) = old.orders u from h in (leads u h o y, carried (places u h) (order_reached y))
      go (inr h) = let e : u ≡ n + 1 = omega arith in rw e (new_leads, new_reached)

  pub refined_good : Good (n + 1) L'
  refined_good = record { fit = new_fit; pairing = p; orders = refined_orders }
