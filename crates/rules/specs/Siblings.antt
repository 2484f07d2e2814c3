-- Document 02, point 12: "a build of sibling half-edges after source document 002". Its two maps: "sibhe: a map from each half-edge to a
-- sibling half-edge (the map forms a loop for the sibling half-edges corresponding to the same edge)"; "v2he: a map from a vertex to a
-- half-edge ID".
-- Assumes nothing.
use Rattle.std.specs.Prelude.{Bool, true, false, List, ℕ, ◌+◌, ◌*◌, ltb, eqb, length}
use Rattle.lists.specs.Tests.{both}
use Rattle.lists.specs.Search.{tab}
use Rattle.rules.specs.Elements.{elements, is_side, side_at, first_side}
use Rattle.rules.specs.Pairing.{joins, sizes_fit}
use Rattle.rules.specs.Tables.{least_side}
use Rattle.rules.specs.Refusals.{Answer, gives, call_lengths, length_checks, row_checks, after, work_after}

-- "each side maps to the next higher side that joins the same two vertices, in either direction, the last to the first, a lone side to
-- itself"
unfoldable pub sibling : List ℕ → ℕ → ℕ
sibling L s =
    let t = first_side L (λ t. both (ltb s t) (joins L s t)) in
    elim (eqb t 0) [ true ↦ first_side L (joins L s) | false ↦ t ]

-- "The map keeps four columns, a triangle's fourth entry 0"
unfoldable pub sibling_entry : List ℕ → ℕ → ℕ
sibling_entry L s = elim (is_side L s) [ true ↦ sibling L s | false ↦ 0 ]

unfoldable pub sibhe : List ℕ → List ℕ
sibhe L = tab (4 * elements L) (λ p. sibling_entry L (side_at p))

-- "Vertices map to the least side starting there, or 0"
unfoldable pub v2he : ℕ → List ℕ → List ℕ
v2he n L = tab n (λ i. least_side L (i + 1))

-- the buffers of the call
pub record SiblingBuffers : Type 0 where
  pub vertices : List ℕ
  pub siblings : List ℕ
  pub work : List ℕ

-- check 2, with four columns for the map whatever the list
unfoldable pub sibling_lengths : ℕ → List ℕ → SiblingBuffers → Bool
sibling_lengths n L w =
    call_lengths n (elements L) (eqb (length w.siblings) (4 * elements L)) w.vertices w.work

-- "Only checks 1 to 4 apply; no count is returned"
unfoldable pub siblings_answer : ℕ → List ℕ → SiblingBuffers → Answer
siblings_answer n L w = length_checks (sizes_fit n L) (sibling_lengths n L w) (row_checks n L (gives 0 0))

-- what the call leaves in its buffers; it never writes the element list
unfoldable pub siblings_leaves : ℕ → List ℕ → SiblingBuffers → SiblingBuffers
siblings_leaves n L w =
    let a = siblings_answer n L w in
    record {
      vertices = after a (v2he n L) w.vertices;
      siblings = after a (sibhe L) w.siblings;
      work = work_after (sizes_fit n L) (sibling_lengths n L w) w.work;
    }
