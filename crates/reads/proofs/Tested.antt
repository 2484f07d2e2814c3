-- What the tests of half-edges and vertices say.
-- Assumes nothing.
use mathlib.Core.Option.{some}
use mathlib.Core.Path.{◌≡◌}
use mathlib.Core.Logic.{◌⊎◌, inl, inr}
use Prim.Native.Nat.{ℕ, ◌*◌, ◌-◌, ◌/◌, ◌%◌, ◌≤◌}
use native.Mathlib.Omega.{arith}
use lib.Dec.{T}
use lib.ListN.{length}
use Rattle.lists.specs.TestLaws.{means_itself, means_both, means_either, means_eq, means_within}
use Rattle.lists.specs.Search.{at}
use Rattle.rules.specs.Elements.{is_side, Side, number, origin}
use Rattle.rules.specs.Queries.{Mesh, is_border_code, is_half_edge, is_entry, is_vertex, and_then, read, read_opposite, read_border_side, read_vertex_entry, read_origin}
use Rattle.theory.specs.Sides.{side_facts}
use Rattle.theory.specs.Reads.{was_valid, and_some}

module _ (M : Mesh) (c : ℕ) where
  pub vertex_facts : T (is_vertex M c) → (1 ≤ c) × (c ≤ M.n)
  unfolding is_vertex
  vertex_facts t = (means_within 1 M.n c).says t

  pub border_facts : T (is_border_code M c) → (c % 8 ≡ 0) × ((1 ≤ c / 8) × (c / 8 ≤ length M.border))
  unfolding is_border_code
  border_facts t = (means_both (means_eq (c % 8) 0) (means_within 1 (length M.border) (c / 8))).says t

  cases : T (is_half_edge M c) → Side M.list c ⊎ T (is_border_code M c)
  unfolding is_half_edge
  cases t = (means_either (means_itself (is_side M.list c)) (means_itself (is_border_code M c))).says t

  pub half_border : T (is_half_edge M c) → c % 8 ≡ 0 → T (is_border_code M c)
  half_border t z = go (cases t)
    where
      go : Side M.list c ⊎ T (is_border_code M c) → T (is_border_code M c)
      go (inl a) = absurd (omega (arith, side_facts M.list c a))
      go (inr b) = b

  pub half_side : T (is_half_edge M c) → (c % 8 ≡ 0 → ⊥) → Side M.list c
  half_side t d = go (cases t)
    where
      go : Side M.list c ⊎ T (is_border_code M c) → Side M.list c
      go (inl a) = a
      go (inr b) = absurd (d (border_facts b).0)

-- what was read as the end of a border half-edge is a vertex
pub border_end : (M : Mesh) (c v : ℕ) → and_then (read_border_side M c) (read_origin M) ≡ some v → (1 ≤ v) × (v ≤ M.n)
unfolding read_origin
border_end M c v e =
    let (s, p, q) = and_some (read_border_side M c) (λ s. read (is_vertex M) (origin M.list s)) v e in
    vertex_facts M v (was_valid (is_vertex M) (origin M.list s) v q)

-- what E2e holds of a side is a side where it is no border half-edge
pub across_side : (M : Mesh) (s t : ℕ) → read_opposite M s ≡ some t → (t % 8 ≡ 0 → ⊥) → Side M.list t
unfolding read_opposite
across_side M s t e d = half_side M t (was_valid (is_half_edge M) _ t e) d

-- a border number has the code of a border half-edge
pub border_numbered : (M : Mesh) (b : ℕ) → (1 ≤ b) × (b ≤ length M.border) → T (is_border_code M (8 * b))
unfolding is_border_code
border_numbered M b (l, h) =
    let p : 8 * b % 8 ≡ 0 = omega arith in
    let q : 8 * b / 8 ≡ b = omega arith in
    (means_both (means_eq (8 * b % 8) 0) (means_within 1 (length M.border) (8 * b / 8))).shows (p, ((omega arith), (omega arith)))

-- what B2e holds of a border half-edge is a side
pub border_side : (M : Mesh) (c s : ℕ) → read_border_side M c ≡ some s → Side M.list s
unfolding read_border_side
border_side M c s e = was_valid (is_side M.list) _ s e

-- what V2e holds of a vertex: 0, a side or a border half-edge
entry_used : (M : Mesh) (c : ℕ) → T (is_entry M c) → (c ≡ 0 → ⊥) → T (is_half_edge M c)
unfolding is_entry
entry_used M c t d = go ((means_either (means_eq c 0) (means_itself (is_half_edge M c))).says t)
  where
    go : (c ≡ 0) ⊎ T (is_half_edge M c) → T (is_half_edge M c)
    go (inl z) = absurd (d z)
    go (inr h) = h

pub entry_half : (M : Mesh) (v c : ℕ) → read_vertex_entry M v ≡ some c → (c ≡ 0 → ⊥) → T (is_half_edge M c)
unfolding read_vertex_entry
entry_half M v c e d = entry_used M c (was_valid (is_entry M) (at M.vertices (v - 1)) c e) d

pub entry_border : (M : Mesh) (v c : ℕ) → read_vertex_entry M v ≡ some c → (c ≡ 0 → ⊥) → number c ≡ 0 → T (is_border_code M c)
entry_border M v c e d z = half_border M c (entry_half M v c e d) z
