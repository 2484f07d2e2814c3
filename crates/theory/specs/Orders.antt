-- Turn orders: how they begin and end, and that at most one border side ends at a vertex that has one.
-- Assumes nothing.
use Rattle.std.specs.Prelude.{◌≡◌, ◌⊎◌, List, [], ℕ, zero, suc, ◌-◌, ◌≤◌, ◌<◌, length}
use Rattle.std.proofs.Common.{ap, sym, ◌∙◌, inl, inr, arith}
use Rattle.lists.specs.TestLaws.{means_eq, zero_or}
use Rattle.lists.specs.Search.{at}
use Rattle.rules.specs.Elements.{Side, origin, destination, next, previous}
use Rattle.rules.specs.Pairing.{Pairing, Turn, SideAt, TurnOrder, Conformal, Accepted}
use Rattle.rules.specs.Tables.{partner}
use Rattle.theory.specs.Sides.{side_positive}
use Rattle.theory.specs.Steps.{next_side_lem, next_inj, previous_side_lem, next_previous}
use Rattle.theory.specs.FitRows.{Fit, means_fit}
use Rattle.theory.specs.Pairings.{means_alike, means_opposed, means_no_alike, pairing_unique, pairing_exists, the_pairing}

-- a turn order by one pairing is one by another
module _ (L : List ℕ) (π ρ : ℕ → ℕ) (same : (s : ℕ) → Side L s → π s ≡ ρ s) where
  turn_same : (s t : ℕ) → Side L s → Turn L π s t → Turn L ρ s t
  turn_same s t a x = ((λ z. x.0 (same s a ∙ z)), ap (next L) (sym (same s a)) ∙ x.1)

module _ (L : List ℕ) (π ρ : ℕ → ℕ) (same : (s : ℕ) → Side L s → π s ≡ ρ s) where
  pub order_same : (v : ℕ) (o : List ℕ) → TurnOrder L π v o → TurnOrder L ρ v o
  order_same v o x =
      record {
        sides = x.sides;
        all = x.all;
        once = x.once;
        turns = λ i k. turn_same L π ρ same (at o i) (at o (suc i)) (x.sides i (omega arith)).0 (x.turns i k);
        ends = λ h.
            let last = (x.sides (length o - 1) (omega arith)).0 in
            elim (x.ends h) [
              | inl t ↦ inl (turn_same L π ρ same (at o (length o - 1)) (at o 0) last t)
              | inr (z, f) ↦
                  inr (
                    sym (same (at o (length o - 1)) last) ∙ z,
                    λ s a t. f s a (turn_same L ρ π (λ r b. sym (same r b)) s (at o 0) a t),
                  )
            ];
      }

-- an accepted list's own pairing is the computed one
pub record Good (n : ℕ) (L : List ℕ) : Type 0 where
  pub fit : Fit n L
  pub pairing : Pairing L (partner L)
  pub orders : (v : ℕ) → 1 ≤ v → v ≤ n → (o : List ℕ) × TurnOrder L (partner L) v o

-- two sides with the same ends are one
pub lone : (n : ℕ) (L : List ℕ) → Good n L → (s t : ℕ) → Side L s → Side L t → origin L s ≡ origin L t → destination L s ≡ destination L t → s ≡ t
lone n L g s t a b e f =
    let z = ((pairing_exists n L g.fit).0 (partner L, g.pairing)).1 in
    (means_no_alike L).says ((means_eq _ _).shows z) s t a b ((means_alike L s t).shows (e, f))

-- an empty turn order counts where a vertex has no side
pub order_empty : (L : List ℕ) (π : ℕ → ℕ) (v : ℕ) → ((s : ℕ) → SideAt L v s → ⊥) → TurnOrder L π v []
order_empty L π v f =
    record {
      sides = λ i h. absurd (omega arith);
      all = λ s a. absurd (f s a);
      once = λ i j h k e. absurd (omega arith);
      turns = λ i h. absurd (omega arith);
      ends = λ h. absurd (omega arith);
    }

pub good : (n : ℕ) (L : List ℕ) → Accepted n L → Good n L
good n L x =
    let fit = (means_fit n L).says x.rows in
    let π = x.pairing in
    let p = x.ordered.pairing in
    let q = the_pairing n L fit ((pairing_exists n L fit).0 (π, p)).1 in
    record {
      fit = fit;
      pairing = q;
      orders = λ v a b.
          let (o, y) = x.ordered.orders v a b in (o, order_same L π (partner L) (pairing_unique L π (partner L) p q) v o y);
    }

pub accepted_of : (n : ℕ) (L : List ℕ) → Good n L → Conformal L → Accepted n L
accepted_of n L g meeting =
    record {
      rows = (means_fit n L).shows g.fit;
      pairing = partner L;
      ordered = record { pairing = g.pairing; orders = g.orders };
      meeting = meeting;
    }

module _ (L : List ℕ) (p : Pairing L (partner L)) where
  -- a turn keeps the origin, and only one side has a given turn
  pub turn_origin : (s t : ℕ) → Side L s → Turn L (partner L) s t → Side L t × (origin L t ≡ origin L s)
  turn_origin s t a (z, e) =
      let b = (p.mutually s a z).0 in
      let o = (means_opposed L s (partner L s)).says (p.opposite s a z).1 in
      (rw e at (next_side_lem L (partner L s) b), sym (ap (origin L) e) ∙ sym o.0)

  pub turn_inj : (s t u : ℕ) → Side L s → Side L t → Turn L (partner L) s u → Turn L (partner L) t u → s ≡ t
  turn_inj s t u a b (y, d) (z, e) =
      let f = next_inj L (partner L s) (partner L t) (p.mutually s a y).0 (p.mutually t b z).0 (d ∙ sym e) in
      sym (p.mutually s a y).1 ∙ ap (partner L) f ∙ (p.mutually t b z).1

  -- the side that follows a border side is nobody's turn
  pub after_border : (r s : ℕ) → Side L r → partner L r ≡ 0 → Side L s → Turn L (partner L) s (next L r) → ⊥
  after_border r s a z b (y, e) =
      let (c, f) = p.mutually s b y in
      let g : partner L s ≡ r = next_inj L (partner L s) r c a e in
      side_positive L s b (sym f ∙ ap (partner L) g ∙ z)

  -- a side that follows a paired side is that partner's turn
  pub after_paired : (r : ℕ) → Side L r → (partner L r ≡ 0 → ⊥) → Turn L (partner L) (partner L r) (next L r)
  after_paired r a z =
      let (b, e) = p.mutually r a z in ((λ y. side_positive L r a (sym e ∙ y)), ap (next L) e)

  module _ (v : ℕ) (o : List ℕ) (x : TurnOrder L (partner L) v o) where
    -- the first of a turn order at a vertex where a border side ends
    pub first_after : (r : ℕ) → Side L r → partner L r ≡ 0 → destination L r ≡ v → at o 0 ≡ next L r
    first_after r a z d =
        let (i, h, e) = x.all (next L r) (next_side_lem L r a, d) in go i h e
      where
        go : (i : ℕ) → i < length o → at o i ≡ next L r → at o 0 ≡ next L r
        go zero h e = e
        go (suc i) h e =
            let h' : i < length o = omega arith in
            absurd (after_border r (at o i) a z (x.sides i h').0 (rw e at (x.turns i h)))

    -- theorem 3: "the border half-edge opposite that side" is well defined
    pub one_border_into : (r s : ℕ) → Side L r → partner L r ≡ 0 → destination L r ≡ v → Side L s → partner L s ≡ 0 → destination L s ≡ v → r ≡ s
    one_border_into r s a z d b w e =
        next_inj L r s a b (sym (first_after r a z d) ∙ first_after s b w e)

    -- a turn order whose last side is a border side begins after a border side; else it is closed and no border side ends at v
    pub begins : 0 < length o → ((s : ℕ) → Side L s → Turn L (partner L) s (at o 0) → ⊥) → (r : ℕ) × Side L r × (partner L r ≡ 0) × (destination L r ≡ v) × (next L r ≡ at o 0)
    begins h f =
        let (a, d) = x.sides 0 h in
        let r = previous L (at o 0) in
        let b = previous_side_lem L (at o 0) a in
        let e = next_previous L (at o 0) a in
        go r b e (zero_or (partner L r)) d
      where
        go : (r : ℕ) → Side L r → next L r ≡ at o 0 → (partner L r ≡ 0) ⊎ (partner L r ≡ 0 → ⊥) → origin L (at o 0) ≡ v
            → (r : ℕ) × Side L r × (partner L r ≡ 0) × (destination L r ≡ v) × (next L r ≡ at o 0)
        go r b e (inl z) d = (r, b, z, ap (origin L) e ∙ d, e)
        go r b e (inr z) d = absurd (f (partner L r) (p.mutually r b z).0 (rw e at (after_paired r b z)))
