-- Built tables: checks 1 and 2 pass on them, their half-edges, and what each read on them gives.
-- Assumes nothing.
use Rattle.std.specs.Prelude.{◌≡◌, refl, Bool, true, false, ◌⊎◌, List, ℕ, ◌*◌, ◌-◌, ◌/◌, ◌%◌, ◌≤◌, T, eqb, length}
use Rattle.std.proofs.Common.{inl, inr}
use Rattle.std.proofs.Math.Option.{some}
use native.Mathlib.Omega.{arith}
use Rattle.lists.specs.Tests.{both}
use Rattle.lists.specs.TestLaws.{true_of, false_of, Means, passes, means_itself, means_both, means_either, means_not, means_eq, means_le, means_within}
use Rattle.lists.specs.Search.{at}
use Rattle.lists.specs.SearchLaws.{count_bound}
use Rattle.rules.specs.Elements.{elements, is_side, Side, origin, destination, side_with, count_sides}
use Rattle.rules.specs.Pairing.{SideAt, rows_fit, sizes_fit, unfit_corner, repeated_corner}
use Rattle.rules.specs.Tables.{partner, is_border, b2e, border_number, borders, columns, e2e, v2e, edges}
use Rattle.rules.specs.Refusals.{Answer, length_checks}
use Rattle.rules.specs.Queries.{Mesh, query_lengths, asked, read, by_side, by_entry, is_border_code, is_half_edge, is_entry, is_vertex, read_opposite, read_border_side, read_vertex_entry, read_origin, read_destination}
use Rattle.theory.specs.Sides.{side_facts, side_positive}
use Rattle.theory.specs.Steps.{next_side_lem}
use Rattle.theory.specs.FitRows.{Fit, means_fit}
use Rattle.theory.specs.Pairings.{partner_opposed}
use Rattle.theory.specs.Entries.{length_v2e, length_b2e, wide_paired, wide_border, b2e_border, number_from, number_to, numbered_border, VertexEntry, vertex_entry}
use Rattle.theory.specs.Columns.{length_e2e, entry_side, three_or_four}

-- "Built tables are a list and what build writes for it, B2e cut to k"
abbrev pub built : ℕ → List ℕ → Mesh
built n L = record { n = n; columns = columns L; list = L; vertices = v2e n L; opposites = e2e L; border = b2e L }

checks_pass : (x y : Bool) (a : Answer) → T x → T y → length_checks x y a ≡ a
unfolding length_checks
checks_pass true true a s t = refl
checks_pass true false a s t = absurd t
checks_pass false y a s t = absurd s

pub borders_bound : (L : List ℕ) → borders L ≤ length L
unfolding borders count_sides
borders_bound L = count_bound (side_with L (is_border L)) (length L)

pub edges_bound : (L : List ℕ) → edges L ≤ length L
unfolding edges count_sides
edges_bound L = omega (arith, borders_bound L, count_bound (side_with L (λ s. true)) (length L))

module _ (n : ℕ) (L : List ℕ) (fit : Fit n L) where
  sizes : T (sizes_fit n L)
  unfolding rows_fit
  sizes =
      (passes (sizes_fit n L) (both (eqb (unfit_corner n L) 0) (eqb (repeated_corner L) 0)) ((means_fit n L).shows fit)).0

  -- theorem 6: checks 1 and 2 pass
  pub asked_built : (a : Answer) → asked (built n L) a ≡ a
  unfolding asked query_lengths
  asked_built a =
      checks_pass (sizes_fit n L) _ a sizes
      ((means_both (means_within 3 4 (columns L))
      (means_both (means_eq (length (v2e n L)) n)
      (means_both (means_eq (length (e2e L)) (columns L * elements L)) (means_le (length (b2e L)) (4 * elements L))))).shows
      (three_to_four (three_or_four L), (length_v2e L n, (length_e2e L, omega (arith, length_b2e L, borders_bound L, fit.fours)))))
    where
      three_to_four : (columns L ≡ 3) ⊎ (columns L ≡ 4) → (3 ≤ columns L) × (columns L ≤ 4)
      three_to_four (inl e) = omega arith
      three_to_four (inr e) = omega arith

-- the half-edges of built tables
pub data HalfEdge (L : List ℕ) (c : ℕ) : Type 0 where
  side : Side L c → HalfEdge L c
  border : (s : ℕ) → Side L s → partner L s ≡ 0 → c ≡ 8 * border_number L s → HalfEdge L c

-- a code of a side, or of a border
pub by_side_lem {ℓ} : {A : Type ℓ} (L : List ℕ) (c : ℕ) (x y : A) → Side L c → by_side c x y ≡ x
by_side_lem L c x y a = rw (false_of (eqb (c % 8) 0) ((means_not (means_eq (c % 8) 0)).shows (λ e. omega (arith, side_facts L c a))), by_side)

pub by_border_lem {ℓ} : {A : Type ℓ} (b : ℕ) (x y : A) → by_side (8 * b) x y ≡ y
by_border_lem b x y = let e : 8 * b % 8 ≡ 0 = omega arith in rw (true_of (eqb (8 * b % 8) 0) ((means_eq (8 * b % 8) 0).shows e), by_side)

-- the entry of a vertex that is a side, or a border
pub by_entry_side {ℓ} : {A : Type ℓ} (L : List ℕ) (c : ℕ) (x y z : A) → Side L c → by_entry c x y z ≡ y
by_entry_side L c x y z a =
    rw (false_of (eqb c 0) ((means_not (means_eq c 0)).shows (side_positive L c a)), by_entry) (by_side_lem L c y z a)

pub by_entry_border {ℓ} : {A : Type ℓ} (L : List ℕ) (s : ℕ) (x y z : A) → by_entry (8 * border_number L s) x y z ≡ z
by_entry_border L s x y z =
    let b = border_number L s in
    let d : 8 * b ≡ 0 → ⊥ = λ e. omega (arith, number_from L s) in
    rw (false_of (eqb (8 * b) 0) ((means_not (means_eq (8 * b) 0)).shows d), by_entry) (by_border_lem b y z)

pub read_valid : (valid : ℕ → Bool) (x : ℕ) → T (valid x) → read valid x ≡ some x
read_valid valid x t = rw (true_of (valid x) t, read)

module _ (n : ℕ) (L : List ℕ) where
  means_border_code : (c : ℕ) → Means (is_border_code (built n L) c) ((c % 8 ≡ 0) × ((1 ≤ c / 8) × (c / 8 ≤ length (b2e L))))
  unfolding is_border_code
  means_border_code c = means_both (means_eq (c % 8) 0) (means_within 1 (length (b2e L)) (c / 8))

  means_half_edge : (c : ℕ) → Means (is_half_edge (built n L) c) (Side L c ⊎ T (is_border_code (built n L) c))
  unfolding is_half_edge
  means_half_edge c = means_either (means_itself (is_side L c)) (means_itself (is_border_code (built n L) c))

  pub means_vertex : (v : ℕ) → Means (is_vertex (built n L) v) ((1 ≤ v) × (v ≤ n))
  unfolding is_vertex
  means_vertex v = means_within 1 n v

  pub border_code_lem : (s : ℕ) → Side L s → partner L s ≡ 0 → T (is_border_code (built n L) (8 * border_number L s))
  border_code_lem s a z =
      (means_border_code (8 * border_number L s)).shows
      (omega arith, (omega (arith, number_from L s), omega (arith, number_to L s a z, length_b2e L)))

  -- a half-edge is a side or 8 × b with b from 1 to k
  pub means_half : (c : ℕ) → Means (is_half_edge (built n L) c) (HalfEdge L c)
  means_half c = record { says = λ t. says ((means_half_edge c).says t); shows = shows }
    where
      says : Side L c ⊎ T (is_border_code (built n L) c) → HalfEdge L c
      says (inl a) = side a
      says (inr t) =
          let (e, (h, k)) = (means_border_code c).says t in
          let (s, a, z, q) = numbered_border L (c / 8) h (omega (arith, length_b2e L)) in
          border s a z (omega arith)

      shows : HalfEdge L c → T (is_half_edge (built n L) c)
      shows (side a) = (means_half_edge c).shows (inl a)
      shows (border s a z e) = (means_half_edge c).shows (inr (rw e (border_code_lem s a z)))

  pub read_paired : (s : ℕ) → Side L s → (partner L s ≡ 0 → ⊥) → read_opposite (built n L) s ≡ some (partner L s)
  unfolding read_opposite
  read_paired s a z =
      rw (entry_side L s a, wide_paired L s a z)
      (read_valid (is_half_edge (built n L)) (partner L s) ((means_half (partner L s)).shows (side (partner_opposed L s z).0)))

  pub read_border : (s : ℕ) → Side L s → partner L s ≡ 0 → read_opposite (built n L) s ≡ some (8 * border_number L s)
  unfolding read_opposite
  read_border s a z =
      rw (entry_side L s a, wide_border L s a z)
      (read_valid (is_half_edge (built n L)) (8 * border_number L s) ((means_half (8 * border_number L s)).shows (border s a z refl)))

  pub read_border_side_lem : (s : ℕ) → Side L s → partner L s ≡ 0 → read_border_side (built n L) (8 * border_number L s) ≡ some s
  unfolding read_border_side
  read_border_side_lem s a z =
      let e : 8 * border_number L s / 8 - 1 ≡ border_number L s - 1 = omega arith in
      rw (e, b2e_border L s a z) (read_valid (is_side L) s a)

  module _ (fit : Fit n L) where
    pub read_origin_lem : (s : ℕ) → Side L s → read_origin (built n L) s ≡ some (origin L s)
    unfolding read_origin
    read_origin_lem s a =
        read_valid (is_vertex (built n L)) (origin L s) ((means_vertex (origin L s)).shows (fit.from s a, fit.to s a))

    pub read_destination_lem : (s : ℕ) → Side L s → read_destination (built n L) s ≡ some (destination L s)
    unfolding read_destination
    read_destination_lem s a =
        let b = next_side_lem L s a in
        read_valid (is_vertex (built n L)) (destination L s) ((means_vertex (destination L s)).shows (fit.from _ b, fit.to _ b))

-- the read V2e entry of vertex v: opposite the border side that ends there, or a side with origin v where none does, or 0 without sides
pub data ReadEntry (n : ℕ) (L : List ℕ) (v : ℕ) : Type 0 where
  rim : (r : ℕ) → Side L r → partner L r ≡ 0 → destination L r ≡ v → read_vertex_entry (built n L) v ≡ some (8 * border_number L r) → ReadEntry n L v
  inner : ((r : ℕ) → Side L r → partner L r ≡ 0 → destination L r ≡ v → ⊥) → (s : ℕ) → SideAt L v s → read_vertex_entry (built n L) v ≡ some s → ReadEntry n L v
  unused : ((s : ℕ) → SideAt L v s → ⊥) → read_vertex_entry (built n L) v ≡ some 0 → ReadEntry n L v

module _ (n : ℕ) (L : List ℕ) where
  -- an entry is 0 or a half-edge
  means_entry : (c : ℕ) → Means (is_entry (built n L) c) ((c ≡ 0) ⊎ HalfEdge L c)
  unfolding is_entry
  means_entry c = means_either (means_eq c 0) (means_half n L c)

  pub read_entry : (v : ℕ) → 1 ≤ v → v ≤ n → ReadEntry n L v
  unfolding read_vertex_entry
  read_entry v h k = go (vertex_entry n L v h k)
    where
      reads : (c : ℕ) → (c ≡ 0) ⊎ HalfEdge L c → read (is_entry (built n L)) c ≡ some c
      reads c x = read_valid (is_entry (built n L)) c ((means_entry c).shows x)

      go : VertexEntry L v (at (v2e n L) (v - 1)) → ReadEntry n L v
      go (VertexEntry.rim r a z d e) = rim r a z d (rw e (reads (8 * border_number L r) (inr (border r a z refl))))
      go (VertexEntry.inner f a q) = let s = at (v2e n L) (v - 1) in inner f s a (reads s (inr (side a.0)))
      go (VertexEntry.unused f e) = unused f (rw e (reads 0 (inl refl)))
