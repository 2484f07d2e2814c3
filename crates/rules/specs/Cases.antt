-- Document 01, "Housings to hold up to the rules": "The cases marked P are gathered in a small table, and a single proof shows that the
-- rules above give all its rows". The rows that requests of document 02 bring stand at its end; those of the edits and
-- the shape, and of OFF texts, have tables beside their rules (crates/edit_rules, crates/off_rules).
-- Assumes nothing.
use Rattle.std.specs.Prelude.{Bool, true, false, List, [], ◌∷◌, ◌++◌, ℕ, ◌+◌, ◌*◌, ◌-◌, eqb, length, take, replicate}
use Rattle.std.proofs.Math.Option.{Option, none, some}
use Rattle.lists.specs.Tests.{both, same}
use Rattle.lists.specs.Search.{tab}
use Rattle.rules.specs.Elements.{elements}
use Rattle.rules.specs.Tables.{borders, columns}
use Rattle.rules.specs.Refusals.{Answer, gives, refused}
use Rattle.rules.specs.Refusals.{Buffers, build_answer, build_leaves, recover_answer, recover_list}
use Rattle.rules.specs.Siblings.{SiblingBuffers, siblings_answer, siblings_leaves}
use Rattle.rules.specs.Queries.{Mesh, told, columns_answer}
use Rattle.rules.specs.Queries.{opposite_answer, vertex_border_answer}
use Rattle.rules.specs.Queries.{ring_answer, ring_leaves, neighbours_answer, neighbours_leaves, border_loop_answer, border_loop_leaves}
use Rattle.rules.specs.Holes.{HoleBuffers}
use Rattle.rules.specs.Holes.{holes_answer, holes_leaves}

-- an element's row, or a row of E2e, in three columns or in four; lists are rows joined by ++
unfoldable pub three : ℕ → ℕ → ℕ → List ℕ
three a b c = a ∷ b ∷ c ∷ []

unfoldable pub quad : ℕ → ℕ → ℕ → ℕ → List ℕ
quad a b c d = a ∷ b ∷ c ∷ d ∷ []

unfoldable pub tri : ℕ → ℕ → ℕ → List ℕ
tri a b c = quad a b c 0

-- a buffer of this length
unfoldable pub blank : ℕ → List ℕ
blank k = replicate k 0

-- buffers of fit lengths for n vertices and the list L, B2e as long as the border, and what build leaves in them
unfoldable pub room : ℕ → List ℕ → Buffers
room n L =
    record {
      vertices = blank n;
      opposites = blank (columns L * elements L);
      border = blank (borders L);
      work = blank (n + 16 * elements L);
    }

unfoldable pub left : ℕ → List ℕ → Buffers
left n L = build_leaves n L (room n L)

-- "Built tables are a list and what build writes for it, B2e cut to k"; the query looks at the list
unfoldable pub built : ℕ → List ℕ → Mesh
built n L = let w = left n L in told n 0 L w.vertices w.opposites w.border

-- buffers for the siblings of n vertices and the list L, with a map of this length
unfoldable pub sibling_room : ℕ → List ℕ → ℕ → SiblingBuffers
sibling_room n L long = record { vertices = blank n; siblings = blank long; work = replicate (n + 16 * elements L) 1 }

-- outputs and a work buffer of these lengths for the holes, and the mesh with this V2e and the other tables of build, B2e cut to k
unfoldable pub hole_room : ℕ → ℕ → ℕ → HoleBuffers
hole_room hole lengths work = record { hole = replicate hole 9; lengths = replicate lengths 9; work = replicate work 1 }

unfoldable pub openings : ℕ → List ℕ → List ℕ → ℕ → Mesh
openings n L V2e k = let w = left n L in told n 0 L V2e w.opposites (take k w.border)

-- a row: what is asked of n vertices and a list, and the outcome
pub data Case : Type 0 where
  -- build's answer
  answers : ℕ → List ℕ → Answer → Case
  -- the tables that build writes; of E2e all, or the first row
  v2e_is e2e_is e2e_begins b2e_is : ℕ → List ℕ → List ℕ → Case
  -- on built tables, of the vertex or the border after the list
  ring_is neighbours_are loop_is : ℕ → List ℕ → ℕ → List ℕ → Case
  -- on built tables, what the border test says of the vertex
  vertex_is : ℕ → List ℕ → ℕ → ℕ → Case
  -- of n, m, V2e and E2e; `none` for 10
  recovered : ℕ → ℕ → List ℕ → List ℕ → Option (List ℕ) → Case
  -- the columns of the list, and build's answer with an E2e of this length
  columns_are : ℕ → List ℕ → ℕ → Case
  answers_with : ℕ → List ℕ → ℕ → Answer → Case
  -- with an empty B2e
  answers_narrow : ℕ → List ℕ → Answer → Case
  -- of n, the columns told, the list and this E2e, what opposite answers of the code
  opposite_is : ℕ → ℕ → List ℕ → List ℕ → ℕ → Answer → Case
  -- the vertices' sides and the map of siblings; with a map of this length, the refusal, which leaves both as they were
  siblings_are : ℕ → List ℕ → List ℕ → List ℕ → Case
  siblings_refused : ℕ → List ℕ → ℕ → Answer → Case
  -- with this V2e and so many entries more than needed in each buffer: the holes of the first border half-edges, k of them, and the length of
  -- each hole
  holes_are : ℕ → List ℕ → List ℕ → ℕ → List ℕ → List ℕ → Case
  -- with outputs and a work buffer of these lengths, the refusal, which leaves both outputs as they were, and what it leaves of the work
  holes_refused : ℕ → List ℕ → List ℕ → ℕ → ℕ → ℕ → Answer → List ℕ → Case

unfoldable pub same_answer : Answer → Answer → Bool
same_answer (gives a b) (gives c d) = both (eqb a c) (eqb b d)
same_answer (gives a b) (refused r c d) = false
same_answer (refused q a b) (gives c d) = false
same_answer (refused q a b) (refused r c d) = both (eqb q r) (both (eqb a c) (eqb b d))

-- the rules give this list: its count is returned, and it stands in an output of its length
unfoldable pub gave : (List ℕ → Answer) → (List ℕ → List ℕ) → List ℕ → Bool
gave answer leaves xs =
    let out = blank (length xs) in both (same_answer (answer out) (gives (length xs) 0)) (same (leaves out) xs)

-- the rules give the row
unfoldable pub holds : Case → Bool
holds (answers n L a) = same_answer (build_answer n L (room n L)) a
holds (v2e_is n L xs) = same (left n L).vertices xs
holds (b2e_is n L xs) = same (left n L).border xs
holds (e2e_begins n L xs) = same (take (columns L) (left n L).opposites) xs
holds (e2e_is n L xs) = same (left n L).opposites xs
holds (ring_is n L v xs) = gave (ring_answer (built n L) v) (ring_leaves (built n L) v) xs
holds (neighbours_are n L v xs) = gave (neighbours_answer (built n L) v) (neighbours_leaves (built n L) v) xs
holds (loop_is n L b xs) = gave (border_loop_answer (built n L) b) (border_loop_leaves (built n L) b) xs
holds (vertex_is n L v x) = same_answer (vertex_border_answer (built n L) v) (gives x 0)
holds (recovered n m V2e E2e (some L)) =
    let work = blank (n + 16 * m) in
    both (same_answer (recover_answer n m V2e E2e (blank (4 * m)) work) (gives 0 0))
    (same (recover_list n m V2e E2e (blank (4 * m)) work) L)
holds (recovered n m V2e E2e none) =
    same_answer (recover_answer n m V2e E2e (blank (4 * m)) (blank (n + 16 * m))) (refused 10 0 0)
holds (columns_are n L c) = same_answer (columns_answer n L) (gives c 0)
holds (answers_with n L long a) =
    let w = room n L in
    same_answer (build_answer n L (record { vertices = w.vertices; opposites = blank long; border = w.border; work = w.work })) a
holds (answers_narrow n L a) =
    let w = room n L in
    same_answer (build_answer n L (record { vertices = w.vertices; opposites = w.opposites; border = []; work = w.work })) a
holds (opposite_is n c L E2e s a) =
    let w = left n L in same_answer (opposite_answer (told n c L w.vertices E2e w.border) s) a
holds (siblings_are n L V2he Sibhe) =
    let w = sibling_room n L (4 * elements L) in
    let left = siblings_leaves n L w in
    both (same_answer (siblings_answer n L w) (gives 0 0))
    (both (same left.vertices V2he) (both (same left.siblings Sibhe) (same left.work (blank (length w.work)))))
holds (siblings_refused n L long a) =
    let w = sibling_room n L long in
    let left = siblings_leaves n L w in
    both (same_answer (siblings_answer n L w) a) (both (same left.vertices w.vertices) (same left.siblings w.siblings))
holds (holes_are n L V2e spare hs ls) =
    let long = length hs + spare in
    let w = hole_room long long (n + 16 * elements L + spare) in
    let left = holes_leaves (openings n L V2e (length hs)) w in
    both (same_answer (holes_answer (openings n L V2e (length hs)) w) (gives (length ls) 0))
    (both (same left.hole (hs ++ replicate spare 9))
    (both (same left.lengths (ls ++ replicate (long - length ls) 9)) (same left.work (blank (length w.work)))))
holds (holes_refused n L V2e hole lengths work a work') =
    let w = hole_room hole lengths work in
    let left = holes_leaves (openings n L V2e (borders L)) w in
    both (same_answer (holes_answer (openings n L V2e (borders L)) w) a)
    (both (same left.hole w.hole) (both (same left.lengths w.lengths) (same left.work work')))

unfoldable pub every : {A : Type 0} → (A → Bool) → List A → Bool
every p [] = true
every p (c ∷ cs) = both (p c) (every p cs)

unfoldable pub listing : List ℕ
listing = tri 1 2 3 ++ tri 1 3 4

unfoldable pub listing_e2e : List ℕ
listing_e2e = three 8 16 17 ++ three 11 24 32

unfoldable pub tetrahedron : List ℕ
tetrahedron = tri 1 2 3 ++ tri 1 4 2 ++ tri 2 4 3 ++ tri 3 4 1

-- a triangle and a quadrilateral
unfoldable pub mixed : List ℕ
mixed = tri 1 2 3 ++ quad 1 3 4 5

-- "four triangles apart and three quadrilaterals apart", and the V2e and E2e that both have
unfoldable pub triangles : List ℕ
triangles = tri 3 1 2 ++ tri 6 4 5 ++ tri 9 7 8 ++ tri 12 10 11

unfoldable pub quadrilaterals : List ℕ
quadrilaterals = quad 4 1 2 3 ++ quad 8 5 6 7 ++ quad 12 9 10 11

unfoldable pub shared : List ℕ
shared = tab 12 (λ p. 8 * (p + 1))

-- the first two share the corners 1 and 3, a diagonal of both; the others join them about 4 and 5
unfoldable pub diagonal : List ℕ
diagonal = quad 1 2 3 4 ++ quad 1 5 3 6 ++ tri 1 4 5 ++ tri 3 5 4

unfoldable pub three_corners : List ℕ
three_corners = quad 1 2 3 4 ++ tri 3 2 1

-- two triangles apart, and a triangle between two that share a side
unfoldable pub apart : List ℕ
apart = tri 1 2 3 ++ tri 4 5 6

unfoldable pub between : List ℕ
between = tri 1 2 3 ++ tri 5 6 7 ++ tri 1 3 4

-- "Where no n is named, it is the greatest corner"
unfoldable pub cases : List Case
cases =
    -- "n = 0, m = 0: accepted, all empty"
    answers 0 [] (gives 0 0) ∷ v2e_is 0 [] [] ∷ e2e_is 0 [] [] ∷ b2e_is 0 [] [] ∷
    -- "the listing: 5 edges, k = 4; ring of 1 is 2,1; its neighbours 4,3,2; border loop of 1 is 1,4,3,2"; the tables that it prints
    answers 4 listing (gives 4 5) ∷
    v2e_is 4 listing (32 ∷ 8 ∷ 16 ∷ 24 ∷ []) ∷
    e2e_is 4 listing listing_e2e ∷
    b2e_is 4 listing (9 ∷ 10 ∷ 18 ∷ 19 ∷ []) ∷
    ring_is 4 listing 1 (2 ∷ 1 ∷ []) ∷
    neighbours_are 4 listing 1 (4 ∷ 3 ∷ 2 ∷ []) ∷
    loop_is 4 listing 1 (1 ∷ 4 ∷ 3 ∷ 2 ∷ []) ∷
    -- "one quadrilateral 1,2,3,4: V2e 32,8,16,24, E2e 8,16,24,32, B2e 9 to 12, 4 edges"
    answers 4 (quad 1 2 3 4) (gives 4 4) ∷
    v2e_is 4 (quad 1 2 3 4) (32 ∷ 8 ∷ 16 ∷ 24 ∷ []) ∷
    e2e_is 4 (quad 1 2 3 4) (quad 8 16 24 32) ∷
    b2e_is 4 (quad 1 2 3 4) (9 ∷ 10 ∷ 11 ∷ 12 ∷ []) ∷
    -- "(1,2,3) (1,4,2) (2,4,3) (3,4,1): k = 0, V2e 9,10,11,18, first E2e row 19,27,35,0; ring of 1 is 1,2,4"; by document 02, point 10, 19,27,35
    answers 4 tetrahedron (gives 0 6) ∷
    v2e_is 4 tetrahedron (9 ∷ 10 ∷ 11 ∷ 18 ∷ []) ∷
    e2e_begins 4 tetrahedron (three 19 27 35) ∷
    ring_is 4 tetrahedron 1 (1 ∷ 2 ∷ 4 ∷ []) ∷
    -- "(1,2,2): 4 at 1,3", "(1,2,3,1): 4 at 1,4", "(1,2,3) with n = 2: 3 at 1,3"
    answers 2 (tri 1 2 2) (refused 4 1 3) ∷
    answers 3 (quad 1 2 3 1) (refused 4 1 4) ∷
    answers 2 (tri 1 2 3) (refused 3 1 3) ∷
    -- "(1,2,3) (1,2,4): 7 at 1,1", "(1,2,3) (2,1,4) (1,2,5): 6 at 1,1", "(1,2,3) (1,4,5), two fans at a point: 8 at 1,0"
    answers 4 (tri 1 2 3 ++ tri 1 2 4) (refused 7 1 1) ∷
    answers 5 (tri 1 2 3 ++ tri 2 1 4 ++ tri 1 2 5) (refused 6 1 1) ∷
    answers 5 (tri 1 2 3 ++ tri 1 4 5) (refused 8 1 0) ∷
    -- "recovery of the listing's V2e and E2e gives its rows; with V2e 8,32,16,24 it gives 2,1,3,0 / 2,3,4,0; with V2e 32,8,16,16 it gives 10"
    recovered 4 2 (32 ∷ 8 ∷ 16 ∷ 24 ∷ []) listing_e2e (some listing) ∷
    recovered 4 2 (8 ∷ 32 ∷ 16 ∷ 24 ∷ []) listing_e2e (some (quad 2 1 3 0 ++ quad 2 3 4 0)) ∷
    recovered 4 2 (32 ∷ 8 ∷ 16 ∷ 16 ∷ []) listing_e2e none ∷
    -- of "Pairing and turn order": "Two triangles back to back, (1,2,3) and (1,3,2)"; document 02, point 5: they are refused
    answers 3 (tri 1 2 3 ++ tri 1 3 2) (refused 18 1 2) ∷
    -- document 02, point 2: "the case of one vertex and no element is accepted with V2e 0"
    answers 1 [] (gives 0 0) ∷ v2e_is 1 [] (0 ∷ []) ∷ e2e_is 1 [] [] ∷ b2e_is 1 [] [] ∷
    -- "vertices that no plate uses. Accept them, with V2e entry 0": the listing with a fifth vertex
    answers 5 listing (gives 4 5) ∷
    v2e_is 5 listing (32 ∷ 8 ∷ 16 ∷ 24 ∷ 0 ∷ []) ∷
    -- "Their ring and neighbours are empty, and the vertex border test now says inner, rim or unused"
    ring_is 5 listing 5 [] ∷
    neighbours_are 5 listing 5 [] ∷
    vertex_is 4 tetrahedron 1 0 ∷ vertex_is 5 listing 1 1 ∷ vertex_is 5 listing 5 2 ∷
    -- "A list with spare vertices must also come back from recovery"; not with 0 for a vertex that has sides, nor with a side or a border
    -- for one that gets none
    recovered 1 0 (0 ∷ []) [] (some []) ∷
    recovered 5 2 (32 ∷ 8 ∷ 16 ∷ 24 ∷ 0 ∷ []) listing_e2e (some listing) ∷
    recovered 4 2 (0 ∷ 8 ∷ 16 ∷ 24 ∷ []) listing_e2e none ∷
    recovered 5 2 (32 ∷ 8 ∷ 16 ∷ 24 ∷ 9 ∷ []) listing_e2e none ∷
    recovered 5 2 (32 ∷ 8 ∷ 16 ∷ 24 ∷ 32 ∷ []) listing_e2e none ∷
    -- document 02, point 10: "Lists without a quadrilateral now use three entries for an element in E2e; others keep four"
    columns_are 0 [] 3 ∷ columns_are 4 listing 3 ∷ columns_are 4 (quad 1 2 3 4) 4 ∷ columns_are 5 mixed 4 ∷
    answers 5 mixed (gives 5 6) ∷
    e2e_is 5 mixed (quad 8 16 17 0 ++ quad 11 24 32 40) ∷
    -- "check 1 drops E2e's fours. Length check 2 .. follow"
    answers_with 4 listing 8 (refused 2 0 0) ∷ answers_with 4 listing 9 (refused 2 0 0) ∷ answers_with 5 mixed 6 (refused 2 0 0) ∷
    -- "Lists of different m can share both, as four triangles apart and three quadrilaterals apart"
    recovered 12 4 shared shared (some triangles) ∷ recovered 12 3 shared shared (some quadrilaterals) ∷
    -- "A triangle list that isn't empty, offered in four columns, gives 10"; and three columns come back as triangles only
    recovered 4 2 (32 ∷ 8 ∷ 16 ∷ 24 ∷ []) (quad 8 16 17 0 ++ quad 11 24 32 0) none ∷
    recovered 5 2 (40 ∷ 8 ∷ 16 ∷ 24 ∷ 32 ∷ []) (quad 8 16 17 0 ++ quad 11 24 32 40) (some mixed) ∷
    recovered 5 2 (40 ∷ 8 ∷ 16 ∷ 24 ∷ 32 ∷ []) listing_e2e none ∷
    -- a query told the columns: 0 to look, 4 as it is, 5, and 3, in which a fourth side's entry names nothing
    opposite_is 4 0 (quad 1 2 3 4) (quad 8 16 24 32) 12 (gives 32 0) ∷
    opposite_is 4 4 (quad 1 2 3 4) (quad 8 16 24 32) 12 (gives 32 0) ∷
    opposite_is 4 5 (quad 1 2 3 4) (quad 8 16 24 32) 12 (refused 2 0 0) ∷
    opposite_is 4 3 (quad 1 2 3 4) (quad 8 16 24 32) 12 (refused 2 0 0) ∷
    opposite_is 4 0 (quad 1 2 3 4) (three 8 16 24) 12 (refused 2 0 0) ∷
    opposite_is 4 3 (quad 1 2 3 4) (three 8 16 24) 12 (refused 12 0 0) ∷
    opposite_is 4 3 (quad 1 2 3 4) (three 8 16 24) 11 (gives 24 0) ∷
    opposite_is 4 3 listing listing_e2e 17 (gives 11 0) ∷
    -- document 02, point 5: two quadrilaterals that share a diagonal, and a quadrilateral and a triangle that share three corners
    answers 6 diagonal (refused 18 1 2) ∷
    answers 4 three_corners (refused 18 1 2) ∷
    -- "place the least pair, lower number first": the lower number, and the higher
    answers 5 (tri 3 2 5 ++ tri 1 2 3 ++ quad 1 3 4 2) (refused 18 1 3) ∷
    answers 9 (tri 7 8 9 ++ quad 1 2 3 4 ++ tri 3 2 1 ++ tri 4 3 5) (refused 18 2 3) ∷
    answers 4 (quad 1 2 3 4 ++ tri 3 2 1 ++ tri 1 4 3) (refused 18 1 2) ∷
    -- "after 8, before 9": back to back beside two fans at a point, and with a B2e that has no room
    answers 8 (tri 1 2 3 ++ tri 1 3 2 ++ tri 4 5 6 ++ tri 4 7 8) (refused 8 4 0) ∷
    answers_narrow 4 three_corners (refused 18 1 2) ∷
    answers_narrow 4 listing (refused 9 4 0) ∷
    -- "Existence in building and recovery is read over this narrower list": the tables of the two back to back
    recovered 3 2 (9 ∷ 10 ∷ 11 ∷ []) (three 19 18 17 ++ three 11 10 9) none ∷
    -- document 02, point 12: "each side maps to the next higher side that joins the same two vertices, in either direction, the last to the
    -- first, a lone side to itself", and "a triangle's fourth entry 0"
    siblings_are 0 [] [] [] ∷
    siblings_are 4 listing (9 ∷ 10 ∷ 11 ∷ 19 ∷ []) (quad 9 10 17 0 ++ quad 11 18 19 0) ∷
    siblings_are 5 (tri 1 2 3 ++ tri 2 1 4 ++ tri 1 2 5) (9 ∷ 10 ∷ 11 ∷ 19 ∷ 27 ∷ []) (quad 17 10 11 0 ++ quad 25 18 19 0 ++ quad 9 26 27 0) ∷
    siblings_are 4 (tri 1 2 3 ++ tri 1 2 4) (9 ∷ 10 ∷ 11 ∷ 19 ∷ []) (quad 17 10 11 0 ++ quad 9 18 19 0) ∷
    siblings_are 3 (tri 1 2 3 ++ tri 1 3 2) (9 ∷ 10 ∷ 11 ∷ []) (quad 19 18 17 0 ++ quad 11 10 9 0) ∷
    -- "Vertices map to the least side starting there, or 0"
    siblings_are 6 (quad 5 2 3 4 ++ tri 3 2 1 ++ quad 2 3 4 1) (19 ∷ 10 ∷ 11 ∷ 12 ∷ 9 ∷ 0 ∷ [])
    (quad 9 17 26 12 ++ quad 25 28 19 0 ++ quad 10 11 27 18) ∷
    siblings_are 1 [] (0 ∷ []) [] ∷
    -- "Only checks 1 to 4 apply", each over the whole list before the next
    siblings_refused 2 (tri 1 2 3) 4 (refused 3 1 3) ∷
    siblings_refused 2 (tri 1 2 2) 4 (refused 4 1 3) ∷
    siblings_refused 3 (tri 1 2 2 ++ tri 1 2 4) 8 (refused 3 2 3) ∷
    -- the map in four columns, no less and no more, before the rows are looked at; a list not in fours before that
    siblings_refused 2 (tri 1 2 3) 3 (refused 2 0 0) ∷
    siblings_refused 3 (tri 1 2 3) 5 (refused 2 0 0) ∷
    siblings_refused 2 (1 ∷ 2 ∷ 3 ∷ []) 4 (refused 1 0 0) ∷
    -- document 02, point 11: "gives each border half-edge its hole, numbered from 1 by least border number, with the length of each hole", in
    -- buffers as long as they must be, and longer ones
    holes_are 0 [] [] 0 [] [] ∷
    holes_are 4 tetrahedron (9 ∷ 10 ∷ 11 ∷ 18 ∷ []) 2 [] [] ∷
    holes_are 4 listing (32 ∷ 8 ∷ 16 ∷ 24 ∷ []) 0 (1 ∷ 1 ∷ 1 ∷ 1 ∷ []) (4 ∷ []) ∷
    holes_are 7 between (56 ∷ 8 ∷ 16 ∷ 48 ∷ 40 ∷ 24 ∷ 32 ∷ []) 1 (1 ∷ 1 ∷ 2 ∷ 2 ∷ 2 ∷ 1 ∷ 1 ∷ []) (4 ∷ 3 ∷ []) ∷
    -- the two rims of a band; and two rims whose loops V2e makes one
    holes_are 6 (quad 1 2 5 4 ++ quad 2 3 6 5 ++ quad 3 1 4 6) (40 ∷ 8 ∷ 24 ∷ 16 ∷ 32 ∷ 48 ∷ []) 0 (1 ∷ 2 ∷ 1 ∷ 2 ∷ 1 ∷ 2 ∷ []) (3 ∷ 3 ∷ []) ∷
    holes_are 6 apart (48 ∷ 8 ∷ 16 ∷ 24 ∷ 32 ∷ 40 ∷ []) 0 (1 ∷ 1 ∷ 1 ∷ 1 ∷ 1 ∷ 1 ∷ []) (6 ∷ []) ∷
    -- k is the length of B2e: one of two rims
    holes_are 6 apart (24 ∷ 8 ∷ 16 ∷ 48 ∷ 32 ∷ 40 ∷ []) 1 (1 ∷ 1 ∷ 1 ∷ []) (3 ∷ []) ∷
    -- "It gives 12 if any loop does": by a side for a border, into another loop, into its own middle
    holes_refused 6 apart (24 ∷ 8 ∷ 16 ∷ 48 ∷ 17 ∷ 40 ∷ []) 6 6 38 (refused 12 0 0) (blank 38) ∷
    holes_refused 6 apart (24 ∷ 8 ∷ 16 ∷ 48 ∷ 8 ∷ 40 ∷ []) 6 6 38 (refused 12 0 0) (blank 38) ∷
    holes_refused 6 apart (24 ∷ 24 ∷ 16 ∷ 48 ∷ 32 ∷ 40 ∷ []) 6 6 38 (refused 12 0 0) (blank 38) ∷
    -- "each output needs k entries", after 12
    holes_refused 6 apart (24 ∷ 8 ∷ 16 ∷ 48 ∷ 32 ∷ 40 ∷ []) 5 6 38 (refused 13 6 0) (blank 38) ∷
    holes_refused 6 apart (24 ∷ 8 ∷ 16 ∷ 48 ∷ 32 ∷ 40 ∷ []) 6 5 38 (refused 13 6 0) (blank 38) ∷
    holes_refused 6 apart (24 ∷ 8 ∷ 16 ∷ 48 ∷ 8 ∷ 40 ∷ []) 0 0 38 (refused 12 0 0) (blank 38) ∷
    -- a work buffer one short, before 12; V2e too short
    holes_refused 6 apart (24 ∷ 8 ∷ 16 ∷ 48 ∷ 8 ∷ 40 ∷ []) 6 6 37 (refused 2 0 0) (replicate 37 1) ∷
    holes_refused 6 apart (24 ∷ 8 ∷ 16 ∷ 48 ∷ 32 ∷ []) 6 6 38 (refused 2 0 0) (replicate 38 1) ∷
    holes_refused 3 (1 ∷ 2 ∷ 3 ∷ []) (24 ∷ 8 ∷ []) 3 3 2 (refused 1 0 0) (1 ∷ 1 ∷ []) ∷
    []
