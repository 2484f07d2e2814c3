-- Theorem 6: what the queries do on the built tables of an accepted list.
-- Assumes nothing.
use Rattle.std.specs.Prelude.{◌≡◌, refl, ◌⊎◌, List, ℕ, ◌*◌, ◌≤◌, T, length}
use Rattle.std.proofs.Common.{ap, sym, ◌∙◌, inl, inr, arith}
use Rattle.std.proofs.Math.Option.{some}
use Rattle.lists.specs.TestLaws.{Means, zero_or}
use Rattle.rules.specs.Elements.{Side, origin, destination}
use Rattle.rules.specs.Pairing.{TurnOrder, Accepted}
use Rattle.rules.specs.Tables.{partner, border_number, borders}
use Rattle.rules.specs.Refusals.{Answer, gives}
use Rattle.rules.specs.Queries.{Mesh, asked, is_half_edge, is_vertex, read_opposite, read_border_side, read_vertex_entry, read_origin, read_destination, opposite}
use Rattle.rules.specs.Queries.{ring_sides, ring, neighbours, border_loop, Walker, walker_start, opposite_answer, next_answer, previous_answer, element_answer}
use Rattle.rules.specs.Queries.{origin_answer, destination_answer, across_answer, half_edge_border_answer, vertex_border_answer, ring_answer, neighbours_answer}
use Rattle.rules.specs.Queries.{border_loop_answer, start_answer}
use Rattle.theory.specs.Entries.{length_b2e, number_from, number_to, numbered_border}
use Rattle.theory.specs.Orders.{Good, good}
use Rattle.theory.specs.Built.{built, asked_built, HalfEdge, side, border, means_half, means_vertex, read_paired, read_border, read_border_side_lem}
use Rattle.theory.specs.Built.{read_origin_lem, read_destination_lem, ReadEntry, rim, inner, unused, read_entry}
use Rattle.theory.specs.Rings.{ListsOnce, the_ring, ring_lists}
use Rattle.theory.specs.Opposites.{opposite_undone}
use Rattle.theory.specs.Reaching.{LoopOf, loop_of}
use Rattle.theory.specs.Loops.{Border, border_loop_lem}
use Rattle.theory.specs.Neighbours.{ListsJoined, neighbours_joined}
use Rattle.theory.specs.Walkers.{HandsOut, walker_hands}
use Rattle.theory.specs.Vertices.{Tells, tells}
use Rattle.theory.specs.Sound.{Sound, opposite_sound, next_sound, previous_sound, element_sound, origin_sound, destination_sound, across_sound}
use Rattle.theory.specs.Sound.{half_edge_border_sound, vertex_border_sound, ring_sound, neighbours_sound, border_loop_sound, start_sound}

-- every read of built tables finds what it must
pub record Reads (n : ℕ) (L : List ℕ) (M : Mesh) : Type 0 where
  pub half_edges : (c : ℕ) → Means (is_half_edge M c) (Side L c ⊎ ((b : ℕ) × Border L b × (c ≡ 8 * b)))
  pub opposites : (s : ℕ) → Side L s → (c : ℕ) × T (is_half_edge M c) × (read_opposite M s ≡ some c)
  pub borders : (b : ℕ) → Border L b → (s : ℕ) × Side L s × (read_border_side M (8 * b) ≡ some s)
  pub entries : (v : ℕ) → 1 ≤ v → v ≤ n → (c : ℕ) × ((c ≡ 0) ⊎ T (is_half_edge M c)) × (read_vertex_entry M v ≡ some c)
  pub origins : (s : ℕ) → Side L s → read_origin M s ≡ some (origin L s)
  pub destinations : (s : ℕ) → Side L s → read_destination M s ≡ some (destination L s)

-- "12 never comes"
pub record Sounds (M : Mesh) : Type 0 where
  pub opposite : (c : ℕ) → Sound (opposite_answer M c)
  pub next : (c : ℕ) → Sound (next_answer M c)
  pub previous : (c : ℕ) → Sound (previous_answer M c)
  pub element : (c : ℕ) → Sound (element_answer M c)
  pub origin : (c : ℕ) → Sound (origin_answer M c)
  pub destination : (c : ℕ) → Sound (destination_answer M c)
  pub across : (c : ℕ) → Sound (across_answer M c)
  pub half_edge_border : (c : ℕ) → Sound (half_edge_border_answer M c)
  pub vertex_border : (v : ℕ) → Sound (vertex_border_answer M v)
  pub ring : (v : ℕ) (out : List ℕ) → Sound (ring_answer M v out)
  pub neighbours : (v : ℕ) (out : List ℕ) → Sound (neighbours_answer M v out)
  pub border_loop_lem : (b : ℕ) (out : List ℕ) → Sound (border_loop_answer M b out)
  pub start : (v : ℕ) → Sound (start_answer M v)

-- M are the built tables of L
pub record Served (n : ℕ) (L : List ℕ) (M : Mesh) : Type 0 where
  pub list : M.list ≡ L
  pub number : length M.border ≡ borders L
  pub vertices : (v : ℕ) → Means (is_vertex M v) ((1 ≤ v) × (v ≤ n))
  pub checks : (a : Answer) → asked M a ≡ a
  pub reads : Reads n L M
  pub turns : (v : ℕ) → 1 ≤ v → v ≤ n → (o : List ℕ) × (ring_sides M v ≡ some o) × TurnOrder L (partner L) v o
  pub rings : (v : ℕ) → 1 ≤ v → v ≤ n → (es : List ℕ) × (ring M v ≡ some es) × ListsOnce L v es
  pub joined : (v : ℕ) → 1 ≤ v → v ≤ n → (us : List ℕ) × (neighbours M v ≡ some us) × ListsJoined L v us
  pub tells : (v : ℕ) → 1 ≤ v → v ≤ n → Tells L v (vertex_border_answer M v)
  pub undone : (c : ℕ) → T (is_half_edge M c) → (d : ℕ) × T (is_half_edge M d) × (opposite M c ≡ some d) × (opposite M d ≡ some c)
  pub loops : (b : ℕ) → Border L b → (bs : List ℕ) × (border_loop M b ≡ some bs) × LoopOf M b bs
  pub sounds : Sounds M
  pub walks : (v : ℕ) → 1 ≤ v → v ≤ n → (w : Walker) → (es : List ℕ) × (ring M v ≡ some es) × ((walker_start M v w).answer ≡ gives 0 0) × HandsOut M (walker_start M v w).walker es

module _ (n : ℕ) (L : List ℕ) (g : Good n L) where
  reads_of : Reads n L (built n L)
  reads_of =
      record {
        half_edges = half_edges;
        opposites = λ s a. opposites s a (zero_or (partner L s));
        borders = λ b (h, k).
            let (s, a, z, e) = numbered_border L b h k in
            (s, a, ap (λ (x : ℕ). read_border_side (built n L) (8 * x)) (sym e) ∙ read_border_side_lem n L s a z);
        entries = λ v h k. entries v (read_entry n L v h k);
        origins = read_origin_lem n L g.fit;
        destinations = read_destination_lem n L g.fit;
      }
    where
      half : (c : ℕ) → HalfEdge L c → T (is_half_edge (built n L) c)
      half c h = (means_half n L c).shows h

      half_edges : (c : ℕ) → Means (is_half_edge (built n L) c) (Side L c ⊎ ((b : ℕ) × Border L b × (c ≡ 8 * b)))
      half_edges c = record { says = λ t. says ((means_half n L c).says t); shows = shows }
        where
          says : HalfEdge L c → Side L c ⊎ ((b : ℕ) × Border L b × (c ≡ 8 * b))
          says (side a) = inl a
          says (border s a z e) = inr (border_number L s, (number_from L s, number_to L s a z), e)

          shows : Side L c ⊎ ((b : ℕ) × Border L b × (c ≡ 8 * b)) → T (is_half_edge (built n L) c)
          shows (inl a) = half c (side a)
          shows (inr (b, (h, k), e)) =
              let (s, a, z, f) = numbered_border L b h k in half c (border s a z (omega arith))

      opposites : (s : ℕ) → Side L s → (partner L s ≡ 0) ⊎ (partner L s ≡ 0 → ⊥) → (c : ℕ) × T (is_half_edge (built n L) c) × (read_opposite (built n L) s ≡ some c)
      opposites s a (inl z) = (8 * border_number L s, half _ (border s a z refl), read_border n L s a z)
      opposites s a (inr z) = (partner L s, half _ (side (g.pairing.mutually s a z).0), read_paired n L s a z)

      entries : (v : ℕ) → ReadEntry n L v → (c : ℕ) × ((c ≡ 0) ⊎ T (is_half_edge (built n L) c)) × (read_vertex_entry (built n L) v ≡ some c)
      entries v (rim r a z d e) = (8 * border_number L r, inr (half _ (border r a z refl)), e)
      entries v (inner f s a e) = (s, inr (half s (side a.0)), e)
      entries v (unused f e) = (0, inl refl, e)

  sounds_of : Sounds (built n L)
  sounds_of =
      record {
        opposite = opposite_sound n L g;
        next = next_sound n L g;
        previous = previous_sound n L g;
        element = element_sound n L g;
        origin = origin_sound n L g;
        destination = destination_sound n L g;
        across = across_sound n L g;
        half_edge_border = half_edge_border_sound n L g;
        vertex_border = vertex_border_sound n L g;
        ring = ring_sound n L g;
        neighbours = neighbours_sound n L g;
        border_loop_lem = border_loop_sound n L g;
        start = start_sound n L g;
      }

-- theorem 6
pub served : (n : ℕ) (L : List ℕ) → Accepted n L → Served n L (built n L)
served n L x =
    let g = good n L x in
    record {
      list = refl;
      number = length_b2e L;
      vertices = means_vertex n L;
      checks = asked_built n L g.fit;
      reads = reads_of n L g;
      turns = λ v h k. let r = the_ring n L g v h k in (r.sides, r.listed, r.order);
      rings = λ v h k. let (es, e, l, m) = ring_lists n L g v h k in (es, e, l);
      joined = neighbours_joined n L g;
      tells = tells n L g.fit;
      undone = opposite_undone n L g.pairing;
      loops = λ b h.
          let (bs, e) = border_loop_lem n L g b h in
          (bs, e, loop_of (built n L) b (h.0, omega (arith, h.1, length_b2e L)) bs e);
      sounds = sounds_of n L g;
      walks = walker_hands n L g;
    }
