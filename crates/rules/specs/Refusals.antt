-- Document 01, "Lengths and refusals": what build and recovery answer, and what every buffer holds after them.
-- Assumes nothing.
use Rattle.std.specs.Prelude.{Bool, true, false, not, List, ◌++◌, ℕ, ◌+◌, ◌*◌, leb, ltb, eqb, length, drop, replicate}
use Rattle.lists.specs.Tests.{both, either, same}
use Rattle.lists.specs.Search.{at}
use Rattle.rules.specs.Elements.{elements, element, number, slot, origin, first_side, count_sides, first_number}
use Rattle.rules.specs.Pairing.{alike, joins, call_sizes, sizes_fit, unfit_corner, repeated_corner, rows_fit, meet_well}
use Rattle.rules.specs.Tables.{borders, b2e, columns, e2e, wide, v2e, edges}
use Rattle.rules.specs.Recovery.{widened, walk}

-- "counts, or refusal and place": an answer's two numbers; or a refusal's number and its place, which "is two numbers"
pub data Answer : Type 0 where
  gives : ℕ → ℕ → Answer
  refused : ℕ → ℕ → ℕ → Answer

-- 5: document 02, point 2: "Refusal 5 no longer occurs"

-- 6: "three or more sides join the same two vertices"; "least such side"
unfoldable pub crowded_side : List ℕ → ℕ
crowded_side L = first_side L (λ s. leb 3 (count_sides L (joins L s)))

-- 7: "two sides run alike between the same two vertices"; "least such side"
unfoldable pub alike_side : List ℕ → ℕ
alike_side L = first_side L (λ s. not (eqb (first_side L (λ t. both (not (eqb s t)) (alike L s t))) 0))

-- 8: "no turn order"; "least vertex". The walk over the tables meets all sides at a vertex exactly where it has a turn order
-- (theory, `Covering`): W is what the walk wrote, and v has a side that it left out
unfoldable pub missed : List ℕ → List ℕ → ℕ → Bool
missed L W v = not (eqb (first_side L (λ s. both (eqb (origin L s) v) (not (eqb (at W (slot s)) v)))) 0)

unfoldable pub unordered_vertex : ℕ → List ℕ → ℕ
unordered_vertex n L = let W = walk (v2e n L) (wide L) in first_number n (missed L W)

-- 18, document 02, point 5: "two elements that break this, place the least pair, lower number first": the least element above f that
-- doesn't meet f well, and the least f with one
unfoldable pub clash_of : List ℕ → ℕ → ℕ
clash_of L f = first_number (elements L) (λ g. both (ltb f g) (not (meet_well L f g)))

unfoldable pub clashing : List ℕ → ℕ
clashing L = first_number (elements L) (λ f. not (eqb (clash_of L f) 0))

-- a refusal where something was found for it, else what the later checks say
unfoldable pub check_found : ℕ → Answer → Answer → Answer
check_found x refusal rest = elim (eqb x 0) [ true ↦ rest | false ↦ refusal ]

-- its place by the side, by the vertex, and by the element with another, that was found
abbrev pub side_check : ℕ → ℕ → Answer → Answer
side_check r s rest = check_found s (refused r (element s) (number s)) rest

abbrev pub vertex_check : ℕ → ℕ → Answer → Answer
vertex_check r v rest = check_found v (refused r v 0) rest

abbrev pub pair_check : ℕ → ℕ → ℕ → Answer → Answer
pair_check r f g rest = check_found f (refused r f g) rest

-- checks 3 and 4, before what the later ones say
abbrev pub row_checks : ℕ → List ℕ → Answer → Answer
row_checks n L rest = side_check 3 (unfit_corner n L) (side_check 4 (repeated_corner L) rest)

-- checks 3 to 8, "in order, each over the whole list before the next", and 18 "after 8, before 9"; then k and the number of edges
unfoldable pub list_answer : ℕ → List ℕ → Answer
list_answer n L =
    row_checks n L
    (side_check 6 (crowded_side L)
    (side_check 7 (alike_side L)
    (vertex_check 8 (unordered_vertex n L)
    (pair_check 18 (clashing L) (clash_of L (clashing L))
    (gives (borders L) (edges L))))))

-- an accepted list, as a test
unfoldable pub accepts : ℕ → List ℕ → Bool
accepts n L =
    both (rows_fit n L)
    (both (eqb (crowded_side L) 0)
    (both (eqb (alike_side L) 0)
    (both (eqb (unordered_vertex n L) 0)
    (eqb (clashing L) 0))))

-- the buffers of build
pub record Buffers : Type 0 where
  pub vertices : List ℕ
  pub opposites : List ℕ
  pub border : List ℕ
  pub work : List ℕ

-- check 2 of a call with a work buffer: "V2e holds exactly n entries", "the work buffer of build and recovery at least n + 16 × m";
-- `others` for the lengths of what else the call writes or reads
unfoldable pub call_lengths : ℕ → ℕ → Bool → List ℕ → List ℕ → Bool
call_lengths n m others V2e work = both (eqb (length V2e) n) (both others (leb (n + 16 * m) (length work)))

-- of build; document 02, point 10: "Length check 2 .. follow", so E2e holds exactly columns × m
unfoldable pub build_lengths : ℕ → List ℕ → Buffers → Bool
build_lengths n L w =
    call_lengths n (elements L) (eqb (length w.opposites) (columns L * elements L)) w.vertices w.work

-- refusals 1 and 2, before what the later checks say
unfoldable pub length_checks : Bool → Bool → Answer → Answer
length_checks sizes lengths rest =
    elim sizes [ true ↦ elim lengths [ true ↦ rest | false ↦ refused 2 0 0 ] | false ↦ refused 1 0 0 ]

-- 9: "B2e shorter than k"; "k, 0"
unfoldable pub room_check : ℕ → Answer → Answer
room_check room (gives k e) = elim (leb k room) [ true ↦ gives k e | false ↦ refused 9 k 0 ]
room_check room (refused r a b) = refused r a b

-- what build answers: "Build checks 1 to 9 in order"
unfoldable pub build_answer : ℕ → List ℕ → Buffers → Answer
build_answer n L w =
    length_checks (sizes_fit n L) (build_lengths n L w)
    (room_check (length w.border) (list_answer n L))

-- "left as it was": what a buffer holds after an answer, and after a refusal
unfoldable pub after : {A : Type 0} → Answer → A → A → A
after (gives a b) new old = new
after (refused r a b) new old = old

-- "written from the output's start", "the rest untouched"
unfoldable pub onto : List ℕ → List ℕ → List ℕ
onto xs out = xs ++ drop (length xs) out

-- "When a call with a work buffer passes checks 1 and 2 it leaves that buffer all zero, accepted or refused; otherwise the buffer is
-- untouched"
unfoldable pub work_after : Bool → Bool → List ℕ → List ℕ
work_after sizes lengths work = elim (both sizes lengths) [ true ↦ replicate (length work) 0 | false ↦ work ]

-- what build leaves in its buffers; it never writes the element list
unfoldable pub build_leaves : ℕ → List ℕ → Buffers → Buffers
build_leaves n L w =
    let a = build_answer n L w in
    record {
      vertices = after a (v2e n L) w.vertices;
      opposites = after a (e2e L) w.opposites;
      border = after a (onto (b2e L) w.border) w.border;
      work = work_after (sizes_fit n L) (build_lengths n L w) w.work;
    }

-- of recovery, document 02, point 10: it "is told m and takes either length"; "The element list keeps four"
unfoldable pub recover_lengths : ℕ → ℕ → List ℕ → List ℕ → List ℕ → List ℕ → Bool
recover_lengths n m V2e E2e list work =
    let columns = either (eqb (length E2e) (3 * m)) (eqb (length E2e) (4 * m)) in
    call_lengths n m (both (eqb (length list) (4 * m)) columns) V2e work

-- the list that the walk gives has exactly these tables
unfoldable pub recovers : ℕ → ℕ → List ℕ → List ℕ → Bool
recovers n m V2e E2e =
    let L = walk V2e (widened m E2e) in both (accepts n L) (both (same (v2e n L) V2e) (same (e2e L) E2e))

-- what recovery answers, given the element list only to write it: "recovery checks 1, 2, 10"
unfoldable pub recover_answer : ℕ → ℕ → List ℕ → List ℕ → List ℕ → List ℕ → Answer
recover_answer n m V2e E2e list work =
    length_checks (call_sizes n m list) (recover_lengths n m V2e E2e list work)
    (elim (recovers n m V2e E2e) [ true ↦ gives 0 0 | false ↦ refused 10 0 0 ])

-- what it leaves in the element list and in the work buffer; it never writes V2e or E2e
unfoldable pub recover_list : ℕ → ℕ → List ℕ → List ℕ → List ℕ → List ℕ → List ℕ
recover_list n m V2e E2e list work = after (recover_answer n m V2e E2e list work) (walk V2e (widened m E2e)) list

unfoldable pub recover_work : ℕ → ℕ → List ℕ → List ℕ → List ℕ → List ℕ → List ℕ
recover_work n m V2e E2e list work = work_after (call_sizes n m list) (recover_lengths n m V2e E2e list work) work
