-- Document 01, "Queries": each "by its own definition, for every content".
-- Assumes nothing.
use Rattle.std.specs.Prelude.{Bool, true, false, List, [], ◌∷◌, ℕ, zero, suc, ◌+◌, ◌*◌, ◌-◌, leb, eqb, length}
use Rattle.std.proofs.Math.Option.{Option, none, some}
use Rattle.lists.specs.Tests.{both, either, within}
use Rattle.lists.specs.Search.{at}
use Rattle.rules.specs.Elements.{elements, element, number, is_side, origin, destination, next, previous}
use Rattle.rules.specs.Pairing.{sizes_fit}
use Rattle.rules.specs.Tables.{columns, entry_of}
use Rattle.rules.specs.Refusals.{Answer, gives, refused, length_checks, after, onto}

-- "They take element list, V2e, E2e, B2e (length k), which may be unfit"; document 02, point 10: "every reader of E2e follow", so with its
-- columns
pub record Mesh : Type 0 where
  pub n : ℕ
  pub columns : ℕ
  pub list : List ℕ
  pub vertices : List ℕ
  pub opposites : List ℕ
  pub border : List ℕ

-- A query is told the columns. Told 0 it looks at the list, which is the paper's rule to the letter; any other number says that the caller
-- has looked
unfoldable pub seen : ℕ → List ℕ → ℕ
seen c L = elim (eqb c 0) [ true ↦ columns L | false ↦ c ]

-- the mesh of a call with n, the columns told, the element list and the three tables
abbrev pub told : ℕ → ℕ → List ℕ → List ℕ → List ℕ → List ℕ → Mesh
told n c L V2e E2e B2e =
    record { n = n; columns = seen c L; list = L; vertices = V2e; opposites = E2e; border = B2e }

-- the call with which a caller looks; it makes check 1 only
unfoldable pub columns_answer : ℕ → List ℕ → Answer
columns_answer n L = length_checks (sizes_fit n L) true (gives (columns L) 0)

-- checks 1 and 2 of a query: "Length check 2 .. follow", and columns other than 3 and 4 are 2; "In a query B2e holds at most 4 × m"
unfoldable pub query_lengths : Mesh → Bool
query_lengths M =
    let m = elements M.list in
    both (within 3 4 M.columns)
    (both (eqb (length M.vertices) M.n)
    (both (eqb (length M.opposites) (M.columns * m)) (leb (length M.border) (4 * m))))

unfoldable pub asked : Mesh → Answer → Answer
asked M = length_checks (sizes_fit M.n M.list) (query_lengths M)

-- 11: "vertex, element or half-edge asked about isn't there, or the question isn't defined for it"
unfoldable pub defined : Bool → Answer → Answer
defined there a = elim there [ true ↦ a | false ↦ refused 11 0 0 ]

-- 12: "a table entry that a query reads names nothing, or a walk is overlong": `none`
unfoldable pub found : Option ℕ → Answer
found (some x) = gives x 0
found none = refused 12 0 0

-- 13: "output too short for the answer"; "needed length, 0"
unfoldable pub listed : ℕ → Option (List ℕ) → Answer
listed room (some xs) = elim (leb (length xs) room) [ true ↦ gives (length xs) 0 | false ↦ refused 13 (length xs) 0 ]
listed room none = refused 12 0 0

unfoldable pub list_leaves : Answer → Option (List ℕ) → List ℕ → List ℕ
list_leaves a (some xs) out = after a (onto xs out) out
list_leaves a none out = out

-- what is read from what was read
unfoldable pub and_then {ℓ} : {A : Type ℓ} → Option ℕ → (ℕ → Option A) → Option A
and_then (some x) f = f x
and_then none f = none

unfoldable pub prepend : ℕ → Option (List ℕ) → Option (List ℕ)
prepend x (some xs) = some (x ∷ xs)
prepend x none = none

-- f of each entry, where all can be read
unfoldable pub read_all : (ℕ → Option ℕ) → List ℕ → Option (List ℕ)
read_all f [] = some []
read_all f (x ∷ xs) = and_then (f x) (λ y. prepend y (read_all f xs))

-- "A read code must be a side so counted, or a border with b in 1..k, and a B2e entry must be a side, else 12; a read vertex must be in
-- 1..n, else 12"
abbrev pub read : (ℕ → Bool) → ℕ → Option ℕ
read valid x = elim (valid x) [ true ↦ some x | false ↦ none ]

-- one thing of a side, another of a border
abbrev pub by_side {ℓ} : {A : Type ℓ} → ℕ → A → A → A
by_side c side border = elim (eqb (number c) 0) [ true ↦ border | false ↦ side ]

-- by what the V2e entry of a vertex is: 0, a side or a border
abbrev pub by_entry {ℓ} : {A : Type ℓ} → ℕ → A → A → A → A
by_entry c unused side border = elim (eqb c 0) [ true ↦ unused | false ↦ by_side c side border ]

-- x, then what follows it, and so on until 0 comes; `none` "when m are listed and neither has come"
unfoldable pub follow : (ℕ → Option ℕ) → ℕ → ℕ → Option (List ℕ)
follow step zero x = elim (eqb x 0) [ true ↦ some [] | false ↦ none ]
follow step (suc j) x =
    elim (eqb x 0) [ true ↦ some [] | false ↦ and_then (step x) (λ y. prepend x (follow step j y)) ]

-- f of each entry of what was listed
unfoldable pub over : (ℕ → Option ℕ) → Option (List ℕ) → Option (List ℕ)
over f (some xs) = read_all f xs
over f none = none

module _ (M : Mesh) where
  -- a border half-edge "with b in 1..k"
  unfoldable pub is_border_code : ℕ → Bool
  is_border_code c = both (eqb (number c) 0) (within 1 (length M.border) (element c))

  unfoldable pub is_half_edge : ℕ → Bool
  is_half_edge c = either (is_side M.list c) (is_border_code c)

  -- document 02, point 2: "A V2e entry of 0 is no longer a broken table", but that of an unused vertex
  unfoldable pub is_entry : ℕ → Bool
  is_entry c = either (eqb c 0) (is_half_edge c)

  unfoldable pub is_vertex : ℕ → Bool
  is_vertex v = within 1 M.n v

  unfoldable pub read_opposite : ℕ → Option ℕ
  read_opposite s = read is_half_edge (entry_of M.columns M.opposites s)

  unfoldable pub read_border_side : ℕ → Option ℕ
  read_border_side c = read (is_side M.list) (at M.border (element c - 1))

  unfoldable pub read_vertex_entry : ℕ → Option ℕ
  read_vertex_entry v = read is_entry (at M.vertices (v - 1))

  unfoldable pub read_origin : ℕ → Option ℕ
  read_origin s = read is_vertex (origin M.list s)

  unfoldable pub read_destination : ℕ → Option ℕ
  read_destination s = read is_vertex (destination M.list s)

  -- "Opposite: the E2e or B2e entry"
  unfoldable pub opposite : ℕ → Option ℕ
  opposite c = by_side c (read_opposite c) (read_border_side c)

  unfoldable pub opposite_answer : ℕ → Answer
  opposite_answer c = asked M (defined (is_half_edge c) (found (opposite c)))

  -- "Next of a border: V2e of the origin of its B2e side, which must be a border, else 12"
  unfoldable pub border_next : ℕ → Option ℕ
  border_next c =
      and_then (read_border_side c) (λ s. and_then (read_origin s) (λ v. read is_border_code (at M.vertices (v - 1))))

  -- "Next and previous of a side: within its element"
  unfoldable pub next_answer : ℕ → Answer
  next_answer c = asked M (defined (is_half_edge c) (found (by_side c (some (next M.list c)) (border_next c))))

  -- "Previous and element of a border: 11"
  unfoldable pub previous_answer : ℕ → Answer
  previous_answer c = asked M (defined (is_side M.list c) (gives (previous M.list c) 0))

  -- "Element of a side: its f"
  unfoldable pub element_answer : ℕ → Answer
  element_answer c = asked M (defined (is_side M.list c) (gives (element c) 0))

  -- "Origin of a border: the destination of its B2e side; its destination is that side's origin"
  unfoldable pub origin_answer : ℕ → Answer
  origin_answer c = asked M (defined (is_half_edge c) (found (by_side c (read_origin c) (and_then (read_border_side c) read_destination))))

  unfoldable pub destination_answer : ℕ → Answer
  destination_answer c =
      asked M (defined (is_half_edge c) (found (by_side c (read_destination c) (and_then (read_border_side c) read_origin))))

  -- "Element across a side: the partner's element, or 0 at a border. Asked of a border half-edge: 11"
  unfoldable pub across_answer : ℕ → Answer
  across_answer c = asked M (defined (is_side M.list c) (found (and_then (read_opposite c) (λ t. some (by_side t (element t) 0)))))

  -- "Border test: a half-edge with i = 0; a vertex whose V2e entry is a border": 1 or 0
  unfoldable pub half_edge_border_answer : ℕ → Answer
  half_edge_border_answer c = asked M (defined (is_half_edge c) (gives (by_side c 0 1) 0))

  -- document 02, point 2: "the vertex border test now says inner, rim or unused": 0, 1 or 2
  unfoldable pub vertex_border_answer : ℕ → Answer
  vertex_border_answer v = asked M (defined (is_vertex v) (found (and_then (read_vertex_entry v) (λ c. some (by_entry c 2 0 1)))))

  -- "Ring of v: start with V2e of v, or for a border with the side following its B2e side"; 0 for an unused vertex
  unfoldable pub start_side : ℕ → Option ℕ
  start_side v =
      and_then (read_vertex_entry v)
      (λ c. by_entry c (some 0) (some c) (and_then (read_border_side c) (λ s. some (next M.list s))))

  -- "go to the turn by E2e, stop at a border or on return to the start": the side after s; 0 where the ring stops
  unfoldable pub onward : ℕ → ℕ → Option ℕ
  onward start s =
      and_then (read_opposite s)
      (λ t.
      by_side t (elim (eqb (next M.list t) start) [ true ↦ some 0 | false ↦ some (next M.list t) ]) (some 0))

  -- the sides of the ring of v; document 02, point 2, of an unused vertex: "ring and neighbours are empty"
  unfoldable pub ring_sides : ℕ → Option (List ℕ)
  ring_sides v = and_then (start_side v) (λ s. follow (onward s) (elements M.list) s)

  -- "List the element"
  unfoldable pub ring : ℕ → Option (List ℕ)
  ring v = over (λ s. some (element s)) (ring_sides v)

  -- "Neighbours of v: for a border start, first the origin of that B2e side; then the destinations of the ring's sides"
  unfoldable pub neighbours : ℕ → Option (List ℕ)
  neighbours v =
      let ends = over read_destination (ring_sides v) in
      and_then (read_vertex_entry v)
      (λ c. by_entry c (some []) ends (and_then (read_border_side c) (λ s. and_then (read_origin s) (λ u. prepend u ends))))

  -- next of a border half-edge, "as border numbers"
  unfoldable pub next_border : ℕ → Option ℕ
  next_border x = and_then (border_next (8 * x)) (λ c. some (element c))

  -- "Border loop of b: b and then next, and next, until b returns; when k are listed and b hasn't come, 12"
  unfoldable pub loop_next : ℕ → ℕ → Option ℕ
  loop_next b x = and_then (next_border x) (λ y. elim (eqb y b) [ true ↦ some 0 | false ↦ some y ])

  unfoldable pub border_loop : ℕ → Option (List ℕ)
  border_loop b = follow (loop_next b) (length M.border) b

  -- "A list is written from the output's start, its count returned and the rest untouched"
  unfoldable pub listed_answer : Bool → Option (List ℕ) → List ℕ → Answer
  listed_answer there xs out = asked M (defined there (listed (length out) xs))

  unfoldable pub ring_answer : ℕ → List ℕ → Answer
  ring_answer v out = listed_answer (is_vertex v) (ring v) out

  unfoldable pub ring_leaves : ℕ → List ℕ → List ℕ
  ring_leaves v out = list_leaves (ring_answer v out) (ring v) out

  unfoldable pub neighbours_answer : ℕ → List ℕ → Answer
  neighbours_answer v out = listed_answer (is_vertex v) (neighbours v) out

  unfoldable pub neighbours_leaves : ℕ → List ℕ → List ℕ
  neighbours_leaves v out = list_leaves (neighbours_answer v out) (neighbours v) out

  unfoldable pub border_loop_answer : ℕ → List ℕ → Answer
  border_loop_answer b out = listed_answer (within 1 (length M.border) b) (border_loop b) out

  unfoldable pub border_loop_leaves : ℕ → List ℕ → List ℕ
  border_loop_leaves b out = list_leaves (border_loop_answer b out) (border_loop b) out

-- "The record holds the ring's start side, the side whose element comes next (0 when the ring is over) and the count handed out"
pub record Walker : Type 0 where
  pub start : ℕ
  pub following : ℕ
  pub handed : ℕ

-- a walker call's answer, and the record that it leaves
pub record Walked : Type 0 where
  pub answer : Answer
  pub walker : Walker

-- a refusal "leaves the record unchanged"
unfoldable pub walked : Answer → Walker → Walker → Walked
walked (gives a b) new old = record { answer = gives a b; walker = new }
walked (refused r a b) new old = record { answer = refused r a b; walker = old }

module _ (M : Mesh) where
  -- "Starting at v gives that start side twice and 0, or the refusal that finding it meets"; document 02, point 2, at an unused vertex: "a
  -- walker there gives 0"
  unfoldable pub started : Option ℕ → Walker → Walker
  started (some s) w = record { start = s; following = s; handed = 0 }
  started none w = w

  unfoldable pub start_answer : ℕ → Answer
  start_answer v = asked M (defined (is_vertex M v) (found (and_then (start_side M v) (λ s. some 0))))

  unfoldable pub walker_start : ℕ → Walker → Walked
  walker_start v w = walked (start_answer v) (started (start_side M v) w) w

  -- the side that the record goes on to, with 0 for an end. "Otherwise 12 comes when start or next side is no side, the count is m or more,
  -- the E2e entry read is broken, or the count would reach m with neither border nor start come"
  unfoldable pub goes_to : Walker → Option ℕ
  goes_to w =
      elim
      (both (is_side M.list w.start)
      (both (is_side M.list w.following) (leb (w.handed + 1) (elements M.list)))) [
        | true ↦
            and_then (onward M w.start w.following)
            (λ t. elim (either (eqb t 0) (leb (w.handed + 2) (elements M.list))) [ true ↦ some t | false ↦ none ])
        | false ↦ none
      ]

  unfoldable pub moved : Walker → Option ℕ → Walker
  moved w (some t) = record { start = w.start; following = t; handed = w.handed + 1 }
  moved w none = w

  -- "A next side of 0 answers 0", "with the record unchanged"
  unfoldable pub walker_step : Walker → Walked
  walker_step w =
      elim (eqb w.following 0) [
        | true ↦ walked (asked M (gives 0 0)) w w
        | false ↦ walked (asked M (found (and_then (goes_to w) (λ t. some (element w.following))))) (moved w (goes_to w)) w
      ]
