-- An unused vertex, over runs of the calls: what its V2e entry 0 says, whatever else the tables hold.
--
-- Document 02, point 2: "Their ring and neighbours are empty, and the vertex border test now says inner, rim or unused. A V2e entry of 0 is
-- no longer a broken table in ring and neighbours, so every query that begins at a vertex changes"; "a walker there gives 0". Next of a
-- border still asks for a border.
-- Assumes nothing.
use Rattle.std.specs.Prelude.{◌≡◌, refl, Bool, ℕ, zero, suc, ◌-◌, ◌≤◌, T, eqb}
use Rattle.std.proofs.Math.Path.{ap}
use Rattle.std.proofs.Common.{◌∙◌, inr, arith}
use Rattle.std.proofs.Math.Option.{Option, none, some}
use mathlib.Core.List.{List, []}
use Rattle.lists.specs.TestLaws.{true_of, passes, means_itself, means_either}
use Rattle.lists.specs.Search.{at}
use Rattle.rules.specs.Elements.{elements, element, number, is_side, next}
use Rattle.rules.specs.Refusals.{Answer, gives, refused}
use Rattle.rules.specs.Queries.{Mesh, asked, defined, found, and_then, read, by_side, over, read_all, is_half_edge, is_border_code, is_entry, is_vertex, read_vertex_entry}
use Rattle.rules.specs.Queries.{read_border_side, read_origin, border_next, vertex_border_answer, start_side, onward, ring_sides, ring, neighbours, next_answer}
use Rattle.rules.specs.Queries.{ring_answer, ring_leaves, neighbours_answer, neighbours_leaves, Walker, Walked, walked, started, start_answer}
use Rattle.rules.specs.Queries.{walker_start, walker_step}
use Rattle.theory.specs.Follows.{follow_none}
use Rattle.theory.specs.Reads.{and_then_lem}
use Rattle.theory.specs.Described.{described}
use Rattle.theory.specs.Rings.{About}
use Rattle.runs.specs.Runs.{RingRun, NeighboursRun, LeftBy}
use Rattle.runs.proofs.OnBuilt.{Walk, passed, written, left_accepted, left_built, left_served}

-- checks 1 and 2 pass, and the V2e entry of the vertex v is 0; whatever else the tables hold
pub record Unused (M : Mesh) (v : ℕ) : Type 0 where
  pub checks : (a : Answer) → asked M a ≡ a
  pub there : T (is_vertex M v)
  pub entry : at M.vertices (v - 1) ≡ 0

-- the record of a walker that is nowhere
abbrev pub nowhere : Walker
nowhere = record { start = 0; following = 0; handed = 0 }

module _ (M : Mesh) (v : ℕ) (u : Unused M v) where
  entry_read : read_vertex_entry M v ≡ some 0
  unfolding read_vertex_entry is_entry
  entry_read = ap (read (is_entry M)) u.entry

  no_start : start_side M v ≡ some 0
  unfolding start_side
  no_start = and_then_lem _ entry_read

  -- the border test says 2
  pub unused_told : (a : Answer) → a ≡ vertex_border_answer M v → a ≡ gives 2 0
  unfolding vertex_border_answer found
  unused_told a e =
      e ∙ passed M u.checks (is_vertex M v) _ u.there ∙ ap found (and_then_lem _ entry_read)

  -- ring and neighbours give 0 and write nothing
  no_ring : ring M v ≡ some []
  unfolding ring ring_sides over read_all
  no_ring =
      ap (over (λ s. some (element s))) (and_then_lem _ no_start ∙ follow_none (onward M 0) (elements M.list))

  pub unused_ring : (out : List ℕ) (a : Answer) (out' : List ℕ) → RingRun M v out a out' → (a ≡ gives 0 0) × (out' ≡ out)
  unfolding ring_answer ring_leaves
  unused_ring out a out' run =
      (written M u.checks (is_vertex M v) (ring M v) [] out a out' u.there no_ring run.answer run.leaves).fits (omega arith)

  no_neighbours : neighbours M v ≡ some []
  unfolding neighbours
  no_neighbours = and_then_lem _ entry_read

  pub unused_neighbours : (out : List ℕ) (a : Answer) (out' : List ℕ) → NeighboursRun M v out a out' → (a ≡ gives 0 0) × (out' ≡ out)
  unfolding neighbours_answer neighbours_leaves
  unused_neighbours out a out' run =
      (written M u.checks (is_vertex M v) (neighbours M v) [] out a out' u.there no_neighbours run.answer run.leaves).fits (omega arith)

  -- a walker started there is nowhere, and gives 0 for ever
  starts_nowhere : (w : Walker) → walker_start M v w ≡ record { answer = gives 0 0; walker = nowhere }
  unfolding walker_start walked start_answer started defined found and_then
  starts_nowhere w =
      ap (λ (r : Option ℕ). walked (asked M (defined (is_vertex M v) (found (and_then r (λ x. some 0))))) (started M r w) w) no_start
      ∙ ap (λ (b : Bool). walked (asked M (defined b (gives 0 0))) nowhere w) (true_of (is_vertex M v) u.there)
      ∙ ap (λ (a : Answer). walked a nowhere w) (u.checks (gives 0 0))

  stays_nowhere : walker_step M nowhere ≡ record { answer = gives 0 0; walker = nowhere }
  unfolding walker_step walked
  stays_nowhere = ap (λ (a : Answer). walked a nowhere nowhere) (u.checks (gives 0 0))

  pub unused_walk : (w : Walker) (a : Answer) (ws : ℕ → Walker) (given : ℕ → Answer) → Walk M v w a ws given
      → (a ≡ gives 0 0) × ((i : ℕ) → (ws i ≡ nowhere) × (given i ≡ gives 0 0))
  unused_walk w a ws given run = (
    run.start.answer ∙ ap (λ (x : Walked). x.answer) (starts_nowhere w),
    λ i. (here i, (run.steps i).answer ∙ ap (λ (x : Walker). (walker_step M x).answer) (here i) ∙ ap (λ (x : Walked). x.answer) stays_nowhere),
  )
    where
      here : (i : ℕ) → ws i ≡ nowhere
      here zero = run.start.leaves ∙ ap (λ (x : Walked). x.walker) (starts_nowhere w)
      here (suc i) =
          (run.steps i).leaves ∙ ap (λ (x : Walker). (walker_step M x).walker) (here i) ∙ ap (λ (x : Walked). x.walker) stays_nowhere

  -- but next of a border that leads there is 12
  module _ (c s : ℕ) (t : T (is_border_code M c)) (e : read_border_side M c ≡ some s) (f : read_origin M s ≡ some v) where
    half_edge : T (is_half_edge M c)
    unfolding is_half_edge
    half_edge = (means_either (means_itself (is_side M.list c)) (means_itself (is_border_code M c))).shows (inr t)

    of_border : by_side c (some (next M.list c)) (border_next M c) ≡ border_next M c
    unfolding is_border_code
    of_border = rw (true_of (eqb (number c) 0) (passes (eqb (number c) 0) _ t).0, by_side)

    no_border : border_next M c ≡ none
    unfolding border_next is_border_code
    no_border = and_then_lem _ e ∙ and_then_lem _ f ∙ ap (read (is_border_code M)) u.entry

    pub unused_next : (a : Answer) → a ≡ next_answer M c → a ≡ refused 12 0 0
    unfolding next_answer found
    unused_next a g = g ∙ passed M u.checks (is_half_edge M c) _ half_edge ∙ ap found (of_border ∙ no_border)

-- on the tables that a run of build left all this holds of a vertex that no element has
module _ (n : ℕ) (L : List ℕ) (M : Mesh) (x : LeftBy n L M) (v : ℕ) (from : 1 ≤ v) (to : v ≤ n) (free : (f : ℕ) → About L v f → ⊥) where
  pub spare_entry : Unused M v
  spare_entry =
      let on = left_served n L M x in
      record {
        checks = on.checks;
        there = (on.vertices v).shows (from, to);
        entry =
            ap (λ (N : Mesh). at N.vertices (v - 1)) (left_built n L M x)
            ∙ ((described n L (left_accepted n L M x)).unused_entry v from to).1 (λ s a. free (element s) (s, a, refl));
      }

  -- so its ring lists nothing
  pub spare_ring : (out : List ℕ) (a : Answer) (out' : List ℕ) → RingRun M v out a out' → (a ≡ gives 0 0) × (out' ≡ out)
  spare_ring = unused_ring M v spare_entry
