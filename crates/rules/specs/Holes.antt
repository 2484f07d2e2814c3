-- Document 02, point 11: "Holes counted to the last edge"; like the queries of document 01 "for every content": by the border loops of all b.
-- Assumes nothing.
use Rattle.std.specs.Prelude.{◌≡◌, Bool, true, false, List, ℕ, zero, suc, ◌+◌, ◌*◌, leb, eqb, length}
use Rattle.std.proofs.Math.Option.{Option, none, some}
use Rattle.lists.specs.Tests.{both, has}
use Rattle.lists.specs.Search.{tab}
use Rattle.rules.specs.Elements.{elements, first_number, count_numbers}
use Rattle.rules.specs.Pairing.{sizes_fit}
use Rattle.rules.specs.Refusals.{Answer, gives, refused, length_checks, check_found, after, onto, work_after}
use Rattle.rules.specs.Queries.{Mesh, query_lengths, and_then, next_border, border_loop}

-- the loop lists c
unfoldable pub lists : Option (List ℕ) → ℕ → Bool
lists (some bs) c = has bs c
lists none c = false

-- the loop "gives 12"
unfoldable pub broken : Option (List ℕ) → Bool
broken (some bs) = false
broken none = true

-- the buffers of the call
pub record HoleBuffers : Type 0 where
  pub hole : List ℕ
  pub lengths : List ℕ
  pub work : List ℕ

module _ (M : Mesh) where
  -- i times next
  unfoldable pub next_times : ℕ → ℕ → Option ℕ
  next_times zero b = some b
  next_times (suc i) b = and_then (next_border M b) (next_times i)

  -- "the border half-edges reachable from b by next"
  abbrev pub Reachable : ℕ → ℕ → Type 0
  Reachable b c = (i : ℕ) × (next_times i b ≡ some c)

  abbrev k : ℕ
  k = length M.border

  -- "two half-edges have one hole exactly when one's loop lists the other": a hole is known by the least border half-edge of the loop
  unfoldable pub least_of : ℕ → ℕ
  least_of b = first_number k (lists (border_loop M b))

  -- "numbered from 1 by least border number": how many holes have one up to c
  unfoldable pub holes_up_to : ℕ → ℕ
  holes_up_to c = count_numbers c (λ b. eqb (least_of b) b)

  -- "gives each border half-edge its hole"
  unfoldable pub hole_of : ℕ → ℕ
  hole_of b = holes_up_to (least_of b)

  unfoldable pub holes : List ℕ
  holes = tab k (λ i. hole_of (i + 1))

  -- "the number of holes"
  unfoldable pub hole_count : ℕ
  hole_count = holes_up_to k

  -- "with the length of each hole"
  unfoldable pub hole_lengths : List ℕ
  hole_lengths = tab hole_count (λ i. count_numbers k (λ b. eqb (hole_of b) (i + 1)))

  -- 12: "It gives 12 if any loop does"; then 13: "each output needs k entries"
  unfoldable pub holes_found : List ℕ → List ℕ → Answer
  holes_found hole lengths =
      check_found (first_number k (λ b. broken (border_loop M b))) (refused 12 0 0)
      (elim (both (leb k (length hole)) (leb k (length lengths))) [ true ↦ gives hole_count 0 | false ↦ refused 13 k 0 ])

  -- check 2: that of a query, and document 01's "A call added by a later request takes .. this work buffer"
  unfoldable pub holes_fit : HoleBuffers → Bool
  holes_fit w = both (query_lengths M) (leb (M.n + 16 * elements M.list) (length w.work))

  unfoldable pub holes_answer : HoleBuffers → Answer
  holes_answer w = length_checks (sizes_fit M.n M.list) (holes_fit w) (holes_found w.hole w.lengths)

  -- what the call leaves in its buffers; it never writes the list or the tables
  unfoldable pub holes_leaves : HoleBuffers → HoleBuffers
  holes_leaves w =
      let a = holes_answer w in
      record {
        hole = after a (onto holes w.hole) w.hole;
        lengths = after a (onto hole_lengths w.lengths) w.lengths;
        work = work_after (sizes_fit M.n M.list) (holes_fit w) w.work;
      }
