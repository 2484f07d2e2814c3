-- The walk over a list's own tables: about each vertex it meets a fan of sides, and it writes the origins of these and nothing else.
-- Assumes nothing.
use Rattle.std.specs.Prelude.{◌≡◌, ◌⊎◌, List, length}
use Rattle.std.proofs.Math.Path.{refl}
use Rattle.std.proofs.Common.{ap, sym, ◌∙◌, inl, inr}
use Prim.Native.Nat.{ℕ, zero, suc, ◌+◌, ◌-◌, ◌≤◌, ◌<◌}
use native.Mathlib.Omega.{arith}
use Rattle.std.proofs.Math.ListN.{length-replicate}
use Rattle.lists.specs.TestLaws.{zero_or}
use Rattle.lists.specs.Search.{at, zeros}
use Rattle.lists.specs.SearchLaws.{Met, member, lt_or_eq, at_blank}
use Rattle.rules.specs.Elements.{Side, slot, origin, destination, next}
use Rattle.rules.specs.Pairing.{Pairing, Turn, SideAt}
use Rattle.rules.specs.Tables.{partner, wide, v2e}
use Rattle.rules.specs.Recovery.{walk_start, turn_by, trace, walk_to, walk}
use Rattle.theory.specs.Sides.{side_positive, slot_inj}
use Rattle.theory.specs.Steps.{next_side_lem}
use Rattle.theory.specs.Entries.{VertexEntry, rim, inner, unused, vertex_entry, length_v2e}
use Rattle.theory.specs.Turns.{side_wide, wide_side, turn_paired, turn_border, start_rim, start_side_lem, start_none}
use Rattle.theory.specs.Orders.{turn_origin}
use Rattle.theory.specs.Tracing.{Path, traced}

-- where the walk about v begins: after the border side that ends there, or at a side, or nowhere
pub data Start (L : List ℕ) (v c : ℕ) : Type 0 where
  after : (r : ℕ) → Side L r → partner L r ≡ 0 → destination L r ≡ v → c ≡ next L r → Start L v c
  side : ((r : ℕ) → Side L r → partner L r ≡ 0 → destination L r ≡ v → ⊥) → SideAt L v c → Start L v c
  nowhere : ((s : ℕ) → SideAt L v s → ⊥) → c ≡ 0 → Start L v c

pub start_at : (n : ℕ) (L : List ℕ) (v : ℕ) → 1 ≤ v → v ≤ n → Start L v (walk_start (wide L) (at (v2e n L) (v - 1)))
start_at n L v a b = go (vertex_entry n L v a b)
  where
    go : {c : ℕ} → VertexEntry L v c → Start L v (walk_start (wide L) c)
    go (rim r x z d e) = after r x z d (ap (walk_start (wide L)) e ∙ start_rim L r x z)
    go {c} (inner f x g) = rw (start_side_lem L c x.0) (side f x)
    go (unused f e) = nowhere f (ap (walk_start (wide L)) e ∙ start_none L)

-- a vertex with a side has a start, which is a side at it
pub start_side_at : (L : List ℕ) (v c s : ℕ) → SideAt L v s → Start L v c → SideAt L v c
start_side_at L v c s w (after r x z d e) = rw e (next_side_lem L r x, d)
start_side_at L v c s w (side f x) = x
start_side_at L v c s w (nowhere f e) = absurd (f s w)

-- the sides that the walk meets about v: from the start by turns, each once, up to a border side or to one that was met
pub record Fan (L : List ℕ) (v c : ℕ) (o : List ℕ) : Type 0 where
  pub sides : (i : ℕ) → i < length o → SideAt L v (at o i)
  pub once : (i j : ℕ) → i < length o → j < length o → at o i ≡ at o j → i ≡ j
  pub first : 0 < length o → at o 0 ≡ c
  pub turns : (i : ℕ) → suc i < length o → Turn L (partner L) (at o i) (at o (suc i))
  pub last : 0 < length o → (partner L (at o (length o - 1)) ≡ 0) ⊎ ((i : ℕ) × (i < length o) × Turn L (partner L) (at o (length o - 1)) (at o i))
  pub some : (s : ℕ) → SideAt L v s → 0 < length o

-- after the walk about the vertices 1 to v
pub record Walked (n : ℕ) (L : List ℕ) (v : ℕ) (W : List ℕ) : Type 0 where
  pub long : length W ≡ length (wide L)
  pub later : (s : ℕ) → Side L s → v < origin L s → at W (slot s) ≡ 0
  pub outside : (q : ℕ) → ((s : ℕ) → Side L s → slot s ≡ q → ⊥) → at W q ≡ 0
  pub fans : (u : ℕ) → 1 ≤ u → u ≤ v
      → (o : List ℕ) × Fan L u (walk_start (wide L) (at (v2e n L) (u - 1))) o
      × ((i : ℕ) → i < length o → at W (slot (at o i)) ≡ u)
      × ((s : ℕ) → SideAt L u s → (at W (slot s) ≡ 0) ⊎ Met o s)

module _ (n : ℕ) (L : List ℕ) (p : Pairing L (partner L)) where
  -- the turn by E2e of a side, where it is a side
  turn_of : (s t : ℕ) → Side L s → Side L t → turn_by (wide L) s ≡ t → Turn L (partner L) s t
  turn_of s t a b e = go (zero_or (partner L s))
    where
      go : (partner L s ≡ 0) ⊎ (partner L s ≡ 0 → ⊥) → Turn L (partner L) s t
      go (inl z) = absurd (side_positive L t b (sym e ∙ turn_border L s a z))
      go (inr z) = (z, sym (turn_paired L s a z) ∙ e)

  -- one vertex more: the sides met about it, and what they leave of the others
  module _ (v : ℕ) (W : List ℕ) (k : Walked n L v W) (c : ℕ) (start : Start L (suc v) c) (o W' : List ℕ) (f : ℕ) (x : Path (wide L) (suc v) c W o W' f) where
    first_met : (h : 0 < length o) → SideAt L (suc v) (at o 0)
    first_met h = go start (x.first h) (x.sides 0 h)
      where
        go : Start L (suc v) c → at o 0 ≡ c → Side (wide L) (at o 0) → SideAt L (suc v) (at o 0)
        go (after r a z d e) g b = rw (g ∙ e) (next_side_lem L r a, d)
        go (side h a) g b = rw g a
        go (nowhere h e) g b = absurd (side_positive (wide L) (at o 0) b (g ∙ e))

    met_turn : (i : ℕ) → suc i < length o → SideAt L (suc v) (at o i) → Turn L (partner L) (at o i) (at o (suc i))
    met_turn i h (a, e) = turn_of (at o i) (at o (suc i)) a (side_wide L (at o (suc i)) (x.sides (suc i) h)) (x.turns i h)

    met : (i : ℕ) → i < length o → SideAt L (suc v) (at o i)
    met zero h = first_met h
    met (suc i) h =
        let (a, e) = met i (omega arith) in
        let (b, g) = turn_origin L p (at o i) (at o (suc i)) a (met_turn i h (a, e)) in
        (b, g ∙ e)

    -- a side with another origin, and a place of no side, stay as they were
    side_kept : (s : ℕ) → Side L s → ((i : ℕ) → i < length o → at o i ≡ s → ⊥) → at W' (slot s) ≡ at W (slot s)
    side_kept s a g = x.kept (slot s) (λ i h e. g i h (slot_inj L (at o i) s (met i h).0 a e))

    other_kept : (s : ℕ) → Side L s → (origin L s ≡ suc v → ⊥) → at W' (slot s) ≡ at W (slot s)
    other_kept s a d = side_kept s a (λ i h e. d (ap (origin L) (sym e) ∙ (met i h).1))

    -- a side at the vertex was met, or it is still empty
    met_or_empty : (s : ℕ) → SideAt L (suc v) s → (at W' (slot s) ≡ 0) ⊎ Met o s
    met_or_empty s (a, e) = go (member o s)
      where
        go : Met o s ⊎ ((i : ℕ) → i < length o → at o i ≡ s → ⊥) → (at W' (slot s) ≡ 0) ⊎ Met o s
        go (inl y) = inr y
        go (inr g) = inl (side_kept s a g ∙ k.later s a (omega arith))

    -- where the trace stops at a side of the vertex, that side was met
    stops_met : SideAt L (suc v) f → Met o f
    stops_met y = go (met_or_empty f y)
      where
        go : (at W' (slot f) ≡ 0) ⊎ Met o f → Met o f
        go (inl z) = absurd (x.stopped (wide_side L f y.0) z)
        go (inr w) = w

    met_last : 0 < length o → (partner L (at o (length o - 1)) ≡ 0) ⊎ ((i : ℕ) × (i < length o) × Turn L (partner L) (at o (length o - 1)) (at o i))
    met_last h = go (zero_or (partner L s))
      where
        s : ℕ
        s = at o (length o - 1)

        go : (partner L s ≡ 0) ⊎ (partner L s ≡ 0 → ⊥) → (partner L s ≡ 0) ⊎ ((i : ℕ) × (i < length o) × Turn L (partner L) s (at o i))
        go (inl z) = inl z
        go (inr z) =
            let (a, e) = met (length o - 1) (omega arith) in
            let g : next L (partner L s) ≡ f = sym (turn_paired L s a z) ∙ x.last h in
            let (b, q) = turn_origin L p s f a (z, g) in
            let (i, l, w) = stops_met (b, q ∙ e) in
            inr (i, l, (z, g ∙ sym w))

    met_some : (s : ℕ) → SideAt L (suc v) s → 0 < length o
    met_some s y = go (zero_or (length o))
      where
        go : (length o ≡ 0) ⊎ (length o ≡ 0 → ⊥) → 0 < length o
        go (inr d) = omega arith
        go (inl e) =
            let (i, h, w) = stops_met (rw (x.nowhere e) at (start_side_at L (suc v) c s y start)) in absurd (omega arith)

    fan : Fan L (suc v) c o
    fan =
        record {
          sides = met;
          once = x.once;
          first = x.first;
          turns = λ i h. met_turn i h (met i (omega arith));
          last = met_last;
          some = met_some;
        }

    walked_more : c ≡ walk_start (wide L) (at (v2e n L) (suc v - 1)) → Walked n L (suc v) W'
    walked_more e =
        record {
          long = x.long ∙ k.long;
          later = λ s a h. other_kept s a (λ g. omega arith) ∙ k.later s a (omega arith);
          outside = λ q g. x.kept q (λ i h. g (at o i) (met i h).0) ∙ k.outside q g;
          fans = λ u a b. go u a (lt_or_eq u (suc v) (omega arith));
        }
      where
        Known : ℕ → Type 0
        Known u = (o : List ℕ) × Fan L u (walk_start (wide L) (at (v2e n L) (u - 1))) o × ((i : ℕ) → i < length o → at W' (slot (at o i)) ≡ u) × ((s : ℕ) → SideAt L u s → (at W' (slot s) ≡ 0) ⊎ Met o s)

        go : (u : ℕ) → 1 ≤ u → (u < suc v) ⊎ (u ≡ suc v) → Known u
        go u a (inl h) =
            let (q, y, written, reached) = k.fans u a (omega arith) in (
              q,
              y,
              (λ i l. let (b, g) = y.sides i l in other_kept (at q i) b (λ w. omega arith) ∙ written i l),
              (λ s (b, g).
                  elim (reached s (b, g)) [ inl z ↦ inl (other_kept s b (λ w. omega arith) ∙ z) | inr m ↦ inr m ]),
            )
        go u a (inr h) = rw h (o, rw e at fan, x.written, met_or_empty)

  start_after : (v : ℕ) → v < n → Start L (suc v) (walk_start (wide L) (at (v2e n L) v))
  start_after v h = let e : suc v - 1 ≡ v = omega arith in rw e at (start_at n L (suc v) (omega arith) h)

  walked : (v : ℕ) → v ≤ n → Walked n L v (walk_to (v2e n L) (wide L) v)
  unfolding walk_to
  walked zero h =
      record {
        long = length-replicate (length (wide L)) 0;
        later = λ s a l. at_blank (length (wide L)) (slot s);
        outside = λ q g. at_blank (length (wide L)) q;
        fans = λ u a b. absurd (omega arith);
      }
  walked (suc v) h =
      let W = walk_to (v2e n L) (wide L) v in
      let k = walked v (omega arith) in
      let c = walk_start (wide L) (at (v2e n L) v) in
      let (o, f, x) = traced (wide L) (suc v) (λ z. omega arith) (zeros W) c W refl k.long in
      let e : v ≡ suc v - 1 = omega arith in
      walked_more v W k c (start_after v h) o (trace (zeros W) (wide L) (suc v) c W) f x (ap (λ (i : ℕ). walk_start (wide L) (at (v2e n L) i)) e)

  -- the walk about the vertex after v meets a fan, and fills as many places
  pub fan_after : (v : ℕ) → v < n
      → (o : List ℕ)
      × Fan L (suc v) (walk_start (wide L) (at (v2e n L) v)) o
      × (length o + zeros (walk_to (v2e n L) (wide L) (suc v)) ≡ zeros (walk_to (v2e n L) (wide L) v))
  unfolding walk_to
  fan_after v h =
      let k = walked v (omega arith) in
      let (o, f, x) = traced (wide L) (suc v) (λ z. omega arith) _ (walk_start (wide L) (at (v2e n L) v)) _ refl k.long in
      (o, fan v _ k _ (start_after v h) o _ f x, x.filled)

  -- after the whole walk
  pub walk_walked : Walked n L n (walk (v2e n L) (wide L))
  unfolding walk
  walk_walked = rw (length_v2e L n) (walked n (omega arith))
