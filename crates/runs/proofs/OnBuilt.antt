-- Theorem 6 over runs of the calls: what the queries answer and leave on the tables that a run of build left.
--
-- "On built tables opposite undoes itself and 12 never comes, but to a walker record that these calls didn't make on them"; "the ring of a
-- vertex lists every element there exactly once"; a border loop "lists at most k, none twice", and by document 02, point 11, "exactly the
-- border half-edges reachable from b by next"; a walker's calls "hand out the ring in order, then 0 for ever with the record unchanged".
-- Also: neighbours are the vertices joined to v, each once, the border test tells a vertex as inner, rim or unused exactly where it is, next
-- and previous of a side undo each other, and next first comes back after as many steps as the element has sides.
-- Assumes nothing.
use Rattle.std.specs.Prelude.{◌≡◌, Bool, true, false, ◌⊎◌, ℕ, zero, suc, ◌+◌, ◌*◌, ◌≤◌, ◌<◌, T, leb, drop, replicate}
use Rattle.std.proofs.Math.Path.{refl, ap, sym}
use Rattle.std.proofs.Common.{subst, ◌∙◌, inl, inr, arith}
use Rattle.std.proofs.Math.Option.{Option, some}
use mathlib.Core.List.{List, ◌++◌}
use Rattle.std.proofs.Math.ListN.{length, take, length-replicate}
use Rattle.std.proofs.Math.Seq.{take-append_seam}
use Rattle.lists.specs.Tests.{within}
use Rattle.lists.specs.TestLaws.{decide, true_of, false_of, passes, means_not, means_both, means_eq, means_le, means_within}
use Rattle.lists.specs.Search.{at}
use Rattle.rules.specs.Elements.{elements, Side, is_side, sides, element, next, previous}
use Rattle.rules.specs.Pairing.{Accepted, sizes_fit, rows_fit}
use Rattle.rules.specs.Tables.{borders, edges, b2e, columns, e2e, v2e}
use Rattle.rules.specs.Refusals.{Answer, gives, refused, Buffers, call_lengths, build_lengths, after, onto, work_after, build_answer, build_leaves}
use Rattle.rules.specs.Queries.{Mesh, asked, defined, found, listed, list_leaves, listed_answer, by_side, is_half_edge, is_vertex, opposite, border_next, ring}
use Rattle.rules.specs.Queries.{neighbours, border_loop, Walker, started, start_side, walker_start, walker_step, opposite_answer, next_answer, previous_answer}
use Rattle.rules.specs.Queries.{vertex_border_answer, ring_answer}
use Rattle.rules.specs.Queries.{ring_leaves, neighbours_answer, neighbours_leaves, border_loop_answer, border_loop_leaves, start_answer}
use Rattle.theory.specs.Steps.{FirstBack, next_side_lem, previous_side_lem, previous_next, next_previous, next_back}
use Rattle.theory.specs.Entries.{length_b2e, length_v2e}
use Rattle.theory.specs.Columns.{length_e2e}
use Rattle.theory.specs.Built.{built, by_side_lem}
use Rattle.theory.specs.Rings.{ListsOnce}
use Rattle.theory.specs.Reaching.{LoopOf}
use Rattle.theory.specs.Neighbours.{ListsJoined}
use Rattle.theory.specs.Walkers.{stepped}
use Rattle.theory.specs.Vertices.{Tells}
use Rattle.theory.specs.Answers.{never_gives, room_enough, build_accepted}
use Rattle.theory.specs.Sound.{Sound}
use Rattle.theory.specs.Served.{Served, served}
use Rattle.runs.specs.Runs.{RingRun, NeighboursRun, BorderLoopRun, StartRun, StepRun, LeftBy, walked_answers}
use Rattle.runs.specs.Runs.{Called, opposite_of, next_of, previous_of, element_of, origin_of, destination_of, across_of, half_edge_border_of}
use Rattle.runs.specs.Runs.{vertex_border_of, ring_of, neighbours_of, border_loop_of, start_of}
use Rattle.runs.proofs.Demand3.{Counted, counted}

-- xs is written from the output's start and counted, where there is room; else 13 with the needed length, and the output stays
pub record Written (xs out : List ℕ) (a : Answer) (out' : List ℕ) : Type 0 where
  pub fits : length xs ≤ length out → (a ≡ gives (length xs) 0) × (out' ≡ xs ++ drop (length xs) out)
  pub short : length out < length xs → (a ≡ refused 13 (length xs) 0) × (out' ≡ out)

-- what a walk hands out: from a start to a step for every number
pub record Walk (M : Mesh) (v : ℕ) (w : Walker) (a : Answer) (ws : ℕ → Walker) (given : ℕ → Answer) : Type 0 where
  pub start : StartRun M v w a (ws 0)
  pub steps : (i : ℕ) → StepRun M (ws i) (given i) (ws (suc i))

pub record Handed (es : List ℕ) (a : Answer) (ws : ℕ → Walker) (given : ℕ → Answer) : Type 0 where
  pub started : a ≡ gives 0 0
  pub hands : (i : ℕ) → i < length es → given i ≡ gives (at es i) 0
  pub over : (i : ℕ) → length es ≤ i → given i ≡ gives 0 0
  pub rests : (i : ℕ) → length es ≤ i → ws (suc i) ≡ ws i

-- where checks 1 and 2 pass
module _ (M : Mesh) (checks : (a : Answer) → asked M a ≡ a) where
  -- an answer that passes the checks
  pub passed : (there : Bool) (a : Answer) → T there → asked M (defined there a) ≡ a
  unfolding defined
  passed there a t = checks (defined there a) ∙ (rw (true_of there t, defined) refl)

  pub written : (there : Bool) (r : Option (List ℕ)) (xs out : List ℕ) (a : Answer) (out' : List ℕ) → T there → r ≡ some xs
      → a ≡ listed_answer M there r out → out' ≡ list_leaves (listed_answer M there r out) r out → Written xs out a out'
  unfolding listed_answer listed list_leaves after onto
  written there r xs out a out' t e f g = record { fits = fits; short = short }
    where
      plain : listed_answer M there r out ≡ listed (length out) (some xs)
      plain = passed there (listed (length out) r) t ∙ ap (listed (length out)) e

      left : (p : Answer) → listed_answer M there r out ≡ p → out' ≡ list_leaves p (some xs) out
      left p q = g ∙ ap (λ (y : Answer). list_leaves y r out) q ∙ ap (λ (y : Option (List ℕ)). list_leaves p y out) e

      fits : length xs ≤ length out → (a ≡ gives (length xs) 0) × (out' ≡ xs ++ drop (length xs) out)
      fits h =
          let c : leb (length xs) (length out) ≡ true = true_of (leb (length xs) (length out)) ((means_le (length xs) (length out)).shows h) in
          let q : listed_answer M there r out ≡ gives (length xs) 0 = plain ∙ (rw (c, listed) refl) in
          (f ∙ q, left (gives (length xs) 0) q)

      short : length out < length xs → (a ≡ refused 13 (length xs) 0) × (out' ≡ out)
      short h =
          let no = (means_not (means_le (length xs) (length out))).shows (λ k. omega arith) in
          let c : leb (length xs) (length out) ≡ false = false_of (leb (length xs) (length out)) no in
          let q : listed_answer M there r out ≡ refused 13 (length xs) 0 = plain ∙ (rw (c, listed) refl) in
          (f ∙ q, left (refused 13 (length xs) 0) q)

-- the tables of an accepted list are what a run of build leaves
module _ (n : ℕ) (L : List ℕ) (x : Accepted n L) where
  -- buffers as long as what they are to hold
  u : Buffers
  u = record { vertices = v2e n L; opposites = e2e L; border = b2e L; work = replicate (n + 16 * elements L) 0 }

  lengths : T (build_lengths n L u)
  unfolding u build_lengths call_lengths
  lengths =
      (means_both (means_eq (length (v2e n L)) n)
      (means_both (means_eq (length (e2e L)) (columns L * elements L)) (means_le (n + 16 * elements L) (length u.work)))).shows
      (length_v2e L n, (length_e2e L, omega (arith, length-replicate {A = ℕ} (n + 16 * elements L) 0)))

  counted_there : build_answer n L u ≡ gives (borders L) (edges L)
  unfolding u rows_fit
  counted_there =
      build_accepted n L x.rows u (passes (sizes_fit n L) _ x.rows).0 lengths x
      ∙ room_enough (length (b2e L)) (borders L) (edges L) (omega (arith, length_b2e L))

  left_after : Answer → Mesh
  left_after y =
      record {
        n = n;
        columns = columns L;
        list = L;
        vertices = after y (v2e n L) (v2e n L);
        opposites = after y (e2e L) (e2e L);
        border = take (borders L) (after y (onto (b2e L) (b2e L)) (b2e L));
      }

  pub built_left : LeftBy n L (built n L)
  unfolding u left_after build_leaves after onto
  built_left =
      let whole = ap (λ (j : ℕ). take j (onto (b2e L) (b2e L))) (sym (length_b2e L)) ∙ take-append_seam (b2e L) (drop (length (b2e L)) (b2e L)) in
      record {
        lent = u;
        left = build_leaves n L u;
        k = borders L;
        edges = edges L;
        run = record { answer = sym counted_there; leaves = refl };
        mesh =
            ap (λ (B : List ℕ). record { n = n; columns = columns L; list = L; vertices = v2e n L; opposites = e2e L; border = B }) (sym whole)
            ∙ ap left_after (sym counted_there);
      }

-- theorem 6 holds of what a run of build left
module _ (n : ℕ) (L : List ℕ) (M : Mesh) (x : LeftBy n L M) where
  -- what it left is the list with its tables
  counts : Counted n L x.lent x.k x.edges
  counts = counted n L x.lent x.k x.edges (sym x.run.answer)

  pub left_accepted : Accepted n L
  left_accepted = counts.accepted

  -- the buffers that it left, with the first k entries of B2e
  cut : Buffers → Mesh
  cut w = record { n = n; columns = columns L; list = L; vertices = w.vertices; opposites = w.opposites; border = take x.k w.border }

  pub left_built : M ≡ built n L
  unfolding cut build_leaves after onto
  left_built =
      let a = sym x.run.answer in
      let k : x.k ≡ length (b2e L) = counts.borders_are ∙ sym (length_b2e L) in
      let seam = take-append_seam (b2e L) (drop (length (b2e L)) x.lent.border) in
      x.mesh ∙ ap cut x.run.leaves
      ∙ ap (λ (y : Answer). cut (left_after y)) a
      ∙ ap (λ (B : List ℕ). record { n = n; columns = columns L; list = L; vertices = v2e n L; opposites = e2e L; border = B }) (ap (λ (j : ℕ). take j (onto (b2e L) x.lent.border)) k ∙ seam)
    where
      left_after : Answer → Buffers
      left_after y =
          let w = x.lent in
          record {
            vertices = after y (v2e n L) w.vertices;
            opposites = after y (e2e L) w.opposites;
            border = after y (onto (b2e L) w.border) w.border;
            work = work_after (sizes_fit n L) (build_lengths n L w) w.work;
          }

  pub left_served : Served n L M
  left_served = subst (Served n L) (sym left_built) (served n L left_accepted)

  on : Served n L M
  on = left_served

  -- ring lists every element at v exactly once
  pub ring_on_built : (v : ℕ) (out : List ℕ) (a : Answer) (out' : List ℕ) → RingRun M v out a out' → 1 ≤ v → v ≤ n
      → (es : List ℕ) × (ring M v ≡ some es) × ListsOnce L v es × Written es out a out'
  unfolding ring_answer ring_leaves
  ring_on_built v out a out' run h k =
      let (es, e, l) = on.rings v h k in
      (es, e, l, written M on.checks (is_vertex M v) (ring M v) es out a out' ((on.vertices v).shows (h, k)) e run.answer run.leaves)

  -- neighbours lists the vertices joined to v, each once
  pub neighbours_on_built : (v : ℕ) (out : List ℕ) (a : Answer) (out' : List ℕ) → NeighboursRun M v out a out' → 1 ≤ v → v ≤ n
      → (us : List ℕ) × (neighbours M v ≡ some us) × ListsJoined L v us × Written us out a out'
  unfolding neighbours_answer neighbours_leaves
  neighbours_on_built v out a out' run h k =
      let (us, e, l) = on.joined v h k in
      (us, e, l, written M on.checks (is_vertex M v) (neighbours M v) us out a out' ((on.vertices v).shows (h, k)) e run.answer run.leaves)

  -- a border loop lists b and on, at most k borders and none twice, exactly those reachable
  pub border_loop_on_built : (b : ℕ) (out : List ℕ) (a : Answer) (out' : List ℕ) → BorderLoopRun M b out a out' → 1 ≤ b → b ≤ x.k
      → (bs : List ℕ) × (border_loop M b ≡ some bs) × LoopOf M b bs × Written bs out a out'
  unfolding border_loop_answer border_loop_leaves
  border_loop_on_built b out a out' run h k =
      let (bs, e, l) = on.loops b (h, omega (arith, k, counts.borders_are)) in
      let there = (means_within 1 (length M.border) b).shows (h, omega (arith, on.number, counts.borders_are)) in
      (bs, e, l, written M on.checks (within 1 (length M.border) b) (border_loop M b) bs out a out' there e run.answer run.leaves)

  start_answers : (v : ℕ) (w : Walker) → (walker_start M v w).answer ≡ start_answer M v
  unfolding walker_start
  start_answers v w = walked_answers (start_answer M v) (started M (start_side M v) w) w

  -- "12 never comes"
  pub twelve_never : (a : Answer) → Called M a → Sound a
  twelve_never a (opposite_of c e) p q z = on.sounds.opposite c p q (sym e ∙ z)
  twelve_never a (next_of c e) p q z = on.sounds.next c p q (sym e ∙ z)
  twelve_never a (previous_of c e) p q z = on.sounds.previous c p q (sym e ∙ z)
  twelve_never a (element_of c e) p q z = on.sounds.element c p q (sym e ∙ z)
  twelve_never a (origin_of c e) p q z = on.sounds.origin c p q (sym e ∙ z)
  twelve_never a (destination_of c e) p q z = on.sounds.destination c p q (sym e ∙ z)
  twelve_never a (across_of c e) p q z = on.sounds.across c p q (sym e ∙ z)
  twelve_never a (half_edge_border_of c e) p q z = on.sounds.half_edge_border c p q (sym e ∙ z)
  twelve_never a (vertex_border_of v e) p q z = on.sounds.vertex_border v p q (sym e ∙ z)
  twelve_never a (ring_of v out e) p q z = on.sounds.ring v out p q (sym e ∙ z)
  twelve_never a (neighbours_of v out e) p q z = on.sounds.neighbours v out p q (sym e ∙ z)
  twelve_never a (border_loop_of b out e) p q z = on.sounds.border_loop_lem b out p q (sym e ∙ z)
  twelve_never a (start_of v w w' run) p q z =
      on.sounds.start v p q (sym (start_answers v w) ∙ sym run.answer ∙ z)

  nexts : (s : ℕ) → Side L s → next_answer M s ≡ gives (next L s) 0
  unfolding next_answer found
  nexts s d =
      let here = some (next M.list s) in
      passed M on.checks (is_half_edge M s) (found (by_side s here (border_next M s))) ((on.reads.half_edges s).shows (inl d))
      ∙ ap found (by_side_lem L s here (border_next M s) d)
      ∙ ap (λ (X : List ℕ). gives (next X s) 0) on.list

  previouses : (s : ℕ) → Side L s → previous_answer M s ≡ gives (previous L s) 0
  unfolding previous_answer
  previouses s d =
      passed M on.checks (is_side M.list s) (gives (previous M.list s) 0) (subst (λ (X : List ℕ). Side X s) (sym on.list) d)
      ∙ ap (λ (X : List ℕ). gives (previous X s) 0) on.list

  -- opposite of a half-edge answers a half-edge, whose opposite is the first
  pub opposite_undoes : (c : ℕ) (a : Answer) → T (is_half_edge M c) → a ≡ opposite_answer M c
      → (d : ℕ) × (a ≡ gives d 0) × ((b : Answer) → b ≡ opposite_answer M d → b ≡ gives c 0)
  unfolding opposite_answer found
  opposite_undoes c a t e =
      let (d, u, f, g) = on.undone c t in (
        d,
        e ∙ passed M on.checks (is_half_edge M c) (found (opposite M c)) t ∙ ap found f,
        λ b h. h ∙ passed M on.checks (is_half_edge M d) (found (opposite M d)) u ∙ ap found g,
      )

  -- of a side, previous of next and next of previous are the side
  pub next_undone : (s : ℕ) (a : Answer) → Side L s → a ≡ next_answer M s
      → (t : ℕ) × Side L t × (a ≡ gives t 0) × ((b : Answer) → b ≡ previous_answer M t → b ≡ gives s 0)
  next_undone s a d e =
      let t = next_side_lem L s d in
      (next L s, t, e ∙ nexts s d, λ b h. h ∙ previouses (next L s) t ∙ ap (λ (y : ℕ). gives y 0) (previous_next L s d))

  pub previous_undone : (s : ℕ) (a : Answer) → Side L s → a ≡ previous_answer M s
      → (t : ℕ) × Side L t × (a ≡ gives t 0) × ((b : Answer) → b ≡ next_answer M t → b ≡ gives s 0)
  previous_undone s a d e =
      let t = previous_side_lem L s d in
      (previous L s, t, e ∙ previouses s d, λ b h. h ∙ nexts (previous L s) t ∙ ap (λ (y : ℕ). gives y 0) (next_previous L s d))

  -- of a side, next asked again and again first comes back after as many steps as its element has sides
  pub next_comes_back : (s : ℕ) (cs : ℕ → ℕ) → Side L s → cs 0 ≡ s → ((j : ℕ) → gives (cs (suc j)) 0 ≡ next_answer M (cs j))
      → FirstBack s (sides L (element s)) cs
  next_comes_back s cs d b runs = next_back L s cs d b (λ j t. cc (runs j, nexts (cs j) t))

  -- the border test of a vertex says unused exactly where no element has it, rim where a border side ends, inner elsewhere
  pub vertex_told : (v : ℕ) (a : Answer) → a ≡ vertex_border_answer M v → 1 ≤ v → v ≤ n → Tells L v a
  vertex_told v a e h k = subst (Tells L v) (sym e) (on.tells v h k)

  -- a walker hands out the ring in order, and then 0 with the record unchanged
  pub walk_on_built : (v : ℕ) (w : Walker) (a : Answer) (ws : ℕ → Walker) (given : ℕ → Answer) → Walk M v w a ws given → 1 ≤ v → v ≤ n
      → (es : List ℕ) × (ring M v ≡ some es) × Handed es a ws given
  unfolding stepped
  walk_on_built v w a ws given run h k =
      let (es, e, started, o) = on.walks v h k w in (
        es,
        e,
        record {
          started = run.start.answer ∙ started;
          hands = λ i l. answered i ∙ o.hands i l;
          over = λ i l. answered i ∙ o.over i l;
          rests = λ i l. here (suc i) ∙ o.rests i l ∙ sym (here i);
        },
      )
    where
      begun : Walker
      begun = (walker_start M v w).walker

      here : (i : ℕ) → ws i ≡ stepped M begun i
      here zero = run.start.leaves
      here (suc i) = (run.steps i).leaves ∙ ap (λ (y : Walker). (walker_step M y).walker) (here i)

      answered : (i : ℕ) → given i ≡ (walker_step M (stepped M begun i)).answer
      answered i = (run.steps i).answer ∙ ap (λ (y : Walker). (walker_step M y).answer) (here i)

  -- nor does 12 come to a walker that these calls made
  pub twelve_never_walking : (v : ℕ) (w : Walker) (a : Answer) (ws : ℕ → Walker) (given : ℕ → Answer) → Walk M v w a ws given → 1 ≤ v → v ≤ n
      → (i : ℕ) → Sound (given i)
  twelve_never_walking v w a ws given run h k i =
      let (es, e, o) = walk_on_built v w a ws given run h k in go es o (decide (means_le (length es) i))
    where
      go : (es : List ℕ) → Handed es a ws given → (length es ≤ i) ⊎ (length es ≤ i → ⊥) → Sound (given i)
      go es o (inl l) p q z = never_gives 12 0 0 p q (sym (o.over i l) ∙ z)
      go es o (inr l) p q z = never_gives 12 (at es i) 0 p q (sym (o.hands i (omega arith)) ∙ z)
