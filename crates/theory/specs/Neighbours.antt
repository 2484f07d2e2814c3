-- The neighbours of a vertex of built tables: the vertices that a side joins to it, each one once.
-- Assumes nothing.
use Rattle.std.specs.Prelude.{◌≡◌, refl, ◌⊎◌, ℕ, zero, suc, ◌≤◌, ◌<◌, length}
use Rattle.std.proofs.Math.Path.{ap}
use Rattle.std.proofs.Common.{sym, ◌∙◌, inl, inr, arith}
use Rattle.std.proofs.Math.Option.{some}
use mathlib.Core.List.{List, [], ◌∷◌}
use Rattle.lists.specs.TestLaws.{zero_or}
use Rattle.lists.specs.Search.{at}
use Rattle.rules.specs.Elements.{Side, origin, destination, next}
use Rattle.rules.specs.Pairing.{SideAt, TurnOrder}
use Rattle.rules.specs.Tables.{partner}
use Rattle.rules.specs.Queries.{prepend, over, read_destination, ring_sides, neighbours}
use Rattle.theory.specs.Sides.{side_positive}
use Rattle.theory.specs.Steps.{next_side_lem}
use Rattle.theory.specs.FitRows.{ends_differ}
use Rattle.theory.specs.Pairings.{means_opposed, means_joins}
use Rattle.theory.specs.Orders.{Good, lone, one_border_into}
use Rattle.theory.specs.Built.{built, by_entry_side, by_entry_border, read_border_side_lem, read_origin_lem, read_destination_lem, ReadEntry, rim, inner, unused, read_entry}
use Rattle.theory.specs.Reads.{and_then_lem, Mapped, read_all_lem}
use Rattle.theory.specs.Rims.{BorderInto}
use Rattle.theory.specs.Rings.{the_ring}

-- a side runs between u and v, in either direction
pub data Joined (L : List ℕ) (v u : ℕ) : Type 0 where
  leaves : (s : ℕ) → SideAt L v s → destination L s ≡ u → Joined L v u
  arrives : (s : ℕ) → SideAt L u s → destination L s ≡ v → Joined L v u

-- us lists exactly the vertices joined to v, none twice
pub record ListsJoined (L : List ℕ) (v : ℕ) (us : List ℕ) : Type 0 where
  pub sound : (i : ℕ) → i < length us → Joined L v (at us i)
  pub complete : (u : ℕ) → Joined L v u → (i : ℕ) × (i < length us) × (at us i ≡ u)
  pub once : (i j : ℕ) → i < length us → j < length us → at us i ≡ at us j → i ≡ j

module _ (n : ℕ) (L : List ℕ) (g : Good n L) where
  module _ (v : ℕ) (o ds : List ℕ) (x : TurnOrder L (partner L) v o) (m : Mapped (λ s. destination L s) o ds) where
    leave : (i : ℕ) → i < length ds → Joined L v (at ds i)
    leave i h =
        let h' : i < length o = omega (arith, m.size) in leaves (at o i) (x.sides i h') (sym (m.entries i h'))

    left : (s : ℕ) → SideAt L v s → (i : ℕ) × (i < length ds) × (at ds i ≡ destination L s)
    left s a =
        let (i, h, e) = x.all s a in
        (i, (omega (arith, m.size)), m.entries i h ∙ ap (λ (t : ℕ). destination L t) e)

    leave_once : (i j : ℕ) → i < length ds → j < length ds → at ds i ≡ at ds j → i ≡ j
    leave_once i j h k e =
        let h' : i < length o = omega (arith, m.size) in
        let k' : j < length o = omega (arith, m.size) in
        let (a, p) = x.sides i h' in
        let (b, q) = x.sides j k' in
        x.once i j h' k' (lone n L g (at o i) (at o j) a b (p ∙ sym q) (sym (m.entries i h') ∙ e ∙ m.entries j k'))

    -- a side that arrives has a partner that leaves, or is a border side
    arrive : (u s : ℕ) → SideAt L u s → destination L s ≡ v → (partner L s ≡ 0 → ⊥) → (i : ℕ) × (i < length ds) × (at ds i ≡ u)
    arrive u s (a, p) d z =
        let (e, f) = (means_opposed L s (partner L s)).says (g.pairing.opposite s a z).1 in
        let (i, h, q) = left (partner L s) ((g.pairing.mutually s a z).0, sym f ∙ d) in
        (i, h, q ∙ sym e ∙ p)

    inner_joined : ((r : ℕ) → Side L r → partner L r ≡ 0 → destination L r ≡ v → ⊥) → ListsJoined L v ds
    inner_joined free = record { sound = leave; complete = complete; once = leave_once }
      where
        complete : (u : ℕ) → Joined L v u → (i : ℕ) × (i < length ds) × (at ds i ≡ u)
        complete u (leaves s a e) = let (i, h, q) = left s a in (i, h, q ∙ e)
        complete u (arrives s a d) = arrive u s a d (λ z. free s a.0 z d)

    rim_joined : (r : ℕ) → BorderInto L v r → ListsJoined L v (origin L r ∷ ds)
    rim_joined r (a, z, d) = record { sound = sound; complete = complete; once = once }
      where
        sound : (i : ℕ) → i < suc (length ds) → Joined L v (at (origin L r ∷ ds) i)
        sound zero h = arrives r (a, refl) d
        sound (suc i) h = leave i (omega arith)

        come : (u s : ℕ) → SideAt L u s → destination L s ≡ v → (partner L s ≡ 0) ⊎ (partner L s ≡ 0 → ⊥) → (i : ℕ) × (i < suc (length ds)) × (at (origin L r ∷ ds) i ≡ u)
        come u s (b, p) e (inl y) =
            (0, (omega arith), ap (origin L) (one_border_into L g.pairing v o x r s a z d b y e) ∙ p)
        come u s b e (inr y) = let (i, h, q) = arrive u s b e y in (suc i, (omega arith), q)

        complete : (u : ℕ) → Joined L v u → (i : ℕ) × (i < suc (length ds)) × (at (origin L r ∷ ds) i ≡ u)
        complete u (leaves s b e) = let (i, h, q) = left s b in (suc i, (omega arith), q ∙ e)
        complete u (arrives s b e) = come u s b e (zero_or (partner L s))

        -- a side to where the border side begins would be its partner
        fresh : (i : ℕ) → i < length ds → origin L r ≡ at ds i → ⊥
        fresh i h e =
            let h' : i < length o = omega (arith, m.size) in
            let (b, p) = x.sides i h' in
            let c = (means_opposed L r (at o i)).shows (e ∙ m.entries i h', d ∙ sym p) in
            let w : r ≡ at o i → ⊥ = λ q. ends_differ n L g.fit r a (ap (origin L) q ∙ p ∙ sym d) in
            side_positive L (at o i) b
            (sym (g.pairing.paired r (at o i) a b w ((means_joins L r (at o i)).shows (inr c))) ∙ z)

        once : (i j : ℕ) → i < suc (length ds) → j < suc (length ds) → at (origin L r ∷ ds) i ≡ at (origin L r ∷ ds) j → i ≡ j
        once zero zero h k e = refl
        once zero (suc j) h k e = absurd (fresh j (omega arith) e)
        once (suc i) zero h k e = absurd (fresh i (omega arith) (sym e))
        once (suc i) (suc j) h k e = ap suc (leave_once i j (omega arith) (omega arith) e)

  -- a vertex without sides is joined to none: a side that ends there is followed by one that begins there
  unused_joined : (v : ℕ) → ((s : ℕ) → SideAt L v s → ⊥) → ListsJoined L v []
  unused_joined v none =
      record { sound = λ i h. absurd (omega arith); complete = λ u j. absurd (never u j); once = λ i j h k e. absurd (omega arith) }
    where
      never : (u : ℕ) → Joined L v u → ⊥
      never u (leaves s a e) = none s a
      never u (arrives s (a, p) d) = none (next L s) (next_side_lem L s a, d)

  module _ (v : ℕ) (h : 1 ≤ v) (k : v ≤ n) where
    -- theorem 6: the neighbours are the vertices joined to v by a side, none twice
    pub neighbours_joined : (us : List ℕ) × (neighbours (built n L) v ≡ some us) × ListsJoined L v us
    unfolding neighbours over prepend
    neighbours_joined =
        let r = the_ring n L g v h k in
        let (ds, e, m) = read_all_lem (read_destination (built n L)) (λ s. destination L s) r.sides (λ i l. read_destination_lem n L g.fit (at r.sides i) (r.order.sides i l).0) in
        go r.sides r.order ds m (ap (over (read_destination (built n L))) r.listed ∙ e) (read_entry n L v h k)
      where
        go : (o : List ℕ) → TurnOrder L (partner L) v o → (ds : List ℕ) → Mapped (λ s. destination L s) o ds
            → over (read_destination (built n L)) (ring_sides (built n L) v) ≡ some ds → ReadEntry n L v
            → (us : List ℕ) × (neighbours (built n L) v ≡ some us) × ListsJoined L v us
        go o x ds m e (rim r a z d f) = (
          origin L r ∷ ds,
          and_then_lem _ f
              ∙ by_entry_border L r _ _ _
              ∙ and_then_lem _ (read_border_side_lem n L r a z)
              ∙ and_then_lem _ (read_origin_lem n L g.fit r a)
              ∙ ap (prepend (origin L r)) e,
          rim_joined v o ds x m r (a, z, d),
        )
        go o x ds m e (unused none f) = ([], and_then_lem _ f, unused_joined v none)
        go o x ds m e (inner free s a f) = (ds, and_then_lem _ f ∙ by_entry_side L s _ _ _ a.0 ∙ e, inner_joined v o ds x m free)
