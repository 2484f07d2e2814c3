-- Refusal 12 never comes on built tables.
-- Assumes nothing.
use Rattle.std.specs.Prelude.{◌≡◌, refl, Bool, true, false, ◌⊎◌, List, ℕ, ◌*◌, ◌≤◌, T, leb, length}
use Rattle.std.proofs.Math.Path.{ap}
use Rattle.std.proofs.Common.{sym, ◌∙◌, inl, inr, arith}
use Rattle.std.proofs.Math.Option.{Option, some}
use Rattle.lists.specs.Tests.{within}
use Rattle.lists.specs.TestLaws.{Test, pass, fail, test, means_within, zero_or}
use Rattle.rules.specs.Elements.{element, Side, is_side, origin, destination, next, previous}
use Rattle.rules.specs.Tables.{partner, border_number, b2e}
use Rattle.rules.specs.Refusals.{Answer, gives, refused}
use Rattle.rules.specs.Queries.{asked, defined, found, listed, and_then, by_side, by_entry, is_half_edge, is_vertex, read_opposite, read_border_side, read_vertex_entry, read_origin}
use Rattle.rules.specs.Queries.{read_destination, opposite, border_next, ring, neighbours, border_loop, listed_answer, opposite_answer, next_answer, previous_answer}
use Rattle.rules.specs.Queries.{element_answer, origin_answer, destination_answer, across_answer, half_edge_border_answer, vertex_border_answer, ring_answer}
use Rattle.rules.specs.Queries.{neighbours_answer, border_loop_answer, start_answer}
use Rattle.theory.specs.Entries.{length_b2e}
use Rattle.theory.specs.Orders.{Good}
use Rattle.theory.specs.Answers.{Never, never_gives, never_refused}
use Rattle.theory.specs.Built.{built, asked_built, HalfEdge, side, border, by_side_lem, by_border_lem, means_half, means_vertex, read_paired, read_border}
use Rattle.theory.specs.Built.{read_border_side_lem, read_origin_lem, read_destination_lem, ReadEntry, rim, inner, unused, read_entry}
use Rattle.theory.specs.Reads.{and_then_lem}
use Rattle.theory.specs.Rings.{start, ring_lists}
use Rattle.theory.specs.Opposites.{opposite_undone}
use Rattle.theory.specs.Loops.{border_next_lem, border_loop_lem}
use Rattle.theory.specs.Neighbours.{neighbours_joined}

-- an answer is not refusal 12
abbrev pub Sound : Answer → Type 0
Sound a = Never 12 a

found_sound : (r : Option ℕ) (p : ℕ) → r ≡ some p → Sound (found r)
unfolding found
found_sound r p e x y f = never_gives 12 p 0 x y (sym (ap found e) ∙ f)

listed_sound : (room : ℕ) (r : Option (List ℕ)) (xs : List ℕ) → r ≡ some xs → Sound (listed room r)
unfolding listed
listed_sound room r xs e x y f = go (test (leb (length xs) room)) (sym (ap (listed room) e) ∙ f)
  where
    go : Test (leb (length xs) room) → listed room (some xs) ≡ refused 12 x y → ⊥
    go (pass t c) q = never_gives 12 (length xs) 0 x y (rw (c, listed) at q)
    go (fail t c) q = never_refused 12 13 (length xs) 0 (λ z. omega arith) x y (rw (c, listed) at q)

defined_sound : (there : Bool) (a : Answer) → (T there → Sound a) → Sound (defined there a)
unfolding defined
defined_sound true a f x y e = f tt x y e
defined_sound false a f x y e = never_refused 12 11 0 0 (λ z. omega arith) x y e

module _ (n : ℕ) (L : List ℕ) (g : Good n L) where
  answer_sound : (there : Bool) (a : Answer) → (T there → Sound a) → Sound (asked (built n L) (defined there a))
  answer_sound there a f x y e = defined_sound there a f x y (sym (asked_built n L g.fit (defined there a)) ∙ e)

  -- an answer about a half-edge that can be read at a side and at a border
  half_sound : (c : ℕ) (p q : Option ℕ) → (Side L c → (x : ℕ) × (p ≡ some x))
      → ((s : ℕ) → Side L s → partner L s ≡ 0 → c ≡ 8 * border_number L s → (x : ℕ) × (q ≡ some x))
      → Sound (asked (built n L) (defined (is_half_edge (built n L) c) (found (by_side c p q))))
  half_sound c p q f h = answer_sound (is_half_edge (built n L) c) (found (by_side c p q)) (λ t. go ((means_half n L c).says t))
    where
      go : HalfEdge L c → Sound (found (by_side c p q))
      go (side a) = let (x, e) = f a in found_sound (by_side c p q) x (by_side_lem L c p q a ∙ e)
      go (border s a z d) =
          let (x, e) = h s a z d in
          found_sound (by_side c p q) x (ap (λ (i : ℕ). by_side i p q) d ∙ by_border_lem (border_number L s) p q ∙ e)

  -- theorem 6: "On built tables .. 12 never comes"
  pub opposite_sound : (c : ℕ) → Sound (opposite_answer (built n L) c)
  unfolding opposite_answer
  opposite_sound c =
      answer_sound (is_half_edge (built n L) c) (found (opposite (built n L) c))
      (λ t. let (d, u, e, f) = opposite_undone n L g.pairing c t in found_sound (opposite (built n L) c) d e)

  pub next_sound : (c : ℕ) → Sound (next_answer (built n L) c)
  unfolding next_answer
  next_sound c =
      half_sound c (some (next L c)) (border_next (built n L) c) (λ a. (next L c, refl))
      (λ s a z e. let (r, b, f) = border_next_lem n L g s a z in (8 * border_number L r, ap (border_next (built n L)) e ∙ f))

  pub previous_sound : (c : ℕ) → Sound (previous_answer (built n L) c)
  unfolding previous_answer
  previous_sound c = answer_sound (is_side L c) (gives (previous L c) 0) (λ a. never_gives 12 (previous L c) 0)

  pub element_sound : (c : ℕ) → Sound (element_answer (built n L) c)
  unfolding element_answer
  element_sound c = answer_sound (is_side L c) (gives (element c) 0) (λ a. never_gives 12 (element c) 0)

  pub origin_sound : (c : ℕ) → Sound (origin_answer (built n L) c)
  unfolding origin_answer
  origin_sound c =
      half_sound c (read_origin (built n L) c) (and_then (read_border_side (built n L) c) (read_destination (built n L)))
      (λ a. (origin L c, read_origin_lem n L g.fit c a))
      (λ s a z e. (destination L s, and_then_lem _ (ap (read_border_side (built n L)) e ∙ read_border_side_lem n L s a z) ∙ read_destination_lem n L g.fit s a))

  pub destination_sound : (c : ℕ) → Sound (destination_answer (built n L) c)
  unfolding destination_answer
  destination_sound c =
      half_sound c (read_destination (built n L) c) (and_then (read_border_side (built n L) c) (read_origin (built n L)))
      (λ a. (destination L c, read_destination_lem n L g.fit c a))
      (λ s a z e. (origin L s, and_then_lem _ (ap (read_border_side (built n L)) e ∙ read_border_side_lem n L s a z) ∙ read_origin_lem n L g.fit s a))

  pub across_sound : (c : ℕ) → Sound (across_answer (built n L) c)
  unfolding across_answer
  across_sound c = answer_sound (is_side L c) _ (λ a. go a (zero_or (partner L c)))
    where
      go : Side L c → (partner L c ≡ 0) ⊎ (partner L c ≡ 0 → ⊥) → Sound (found (and_then (read_opposite (built n L) c) (λ t. some (by_side t (element t) 0))))
      go a (inl z) = found_sound _ _ (and_then_lem _ (read_border n L c a z))
      go a (inr z) = found_sound _ _ (and_then_lem _ (read_paired n L c a z))

  pub half_edge_border_sound : (c : ℕ) → Sound (half_edge_border_answer (built n L) c)
  unfolding half_edge_border_answer
  half_edge_border_sound c = answer_sound (is_half_edge (built n L) c) (gives (by_side c 0 1) 0) (λ t. never_gives 12 (by_side c 0 1) 0)

  -- an answer about a vertex
  vertex_sound : (v : ℕ) (a : Answer) → (1 ≤ v → v ≤ n → Sound a) → Sound (asked (built n L) (defined (is_vertex (built n L) v) a))
  vertex_sound v a f = answer_sound (is_vertex (built n L) v) a (λ t. let (h, k) = (means_vertex n L v).says t in f h k)

  pub vertex_border_sound : (v : ℕ) → Sound (vertex_border_answer (built n L) v)
  unfolding vertex_border_answer
  vertex_border_sound v = vertex_sound v _ (λ h k. go (read_entry n L v h k))
    where
      go : ReadEntry n L v → Sound (found (and_then (read_vertex_entry (built n L) v) (λ c. some (by_entry c 2 0 1))))
      go (rim r a z d e) = found_sound _ _ (and_then_lem _ e)
      go (inner f s a e) = found_sound _ _ (and_then_lem _ e)
      go (unused f e) = found_sound _ _ (and_then_lem _ e)

  pub ring_sound : (v : ℕ) (out : List ℕ) → Sound (ring_answer (built n L) v out)
  unfolding ring_answer listed_answer
  ring_sound v out =
      vertex_sound v _ (λ h k. let (es, e, l, m) = ring_lists n L g v h k in listed_sound (length out) (ring (built n L) v) es e)

  pub neighbours_sound : (v : ℕ) (out : List ℕ) → Sound (neighbours_answer (built n L) v out)
  unfolding neighbours_answer listed_answer
  neighbours_sound v out =
      vertex_sound v _ (λ h k. let (us, e, l) = neighbours_joined n L g v h k in listed_sound (length out) (neighbours (built n L) v) us e)

  pub border_loop_sound : (b : ℕ) (out : List ℕ) → Sound (border_loop_answer (built n L) b out)
  unfolding border_loop_answer listed_answer
  border_loop_sound b out =
      answer_sound (within 1 (length (b2e L)) b) _
      (λ t.
      let (h, k) = (means_within 1 (length (b2e L)) b).says t in
      let (bs, e) = border_loop_lem n L g b (h, omega (arith, length_b2e L)) in
      listed_sound (length out) (border_loop (built n L) b) bs e)

  pub start_sound : (v : ℕ) → Sound (start_answer (built n L) v)
  unfolding start_answer
  start_sound v =
      vertex_sound v _ (λ h k. let (s, e, w) = start n L v h k in found_sound _ _ (and_then_lem _ e))
