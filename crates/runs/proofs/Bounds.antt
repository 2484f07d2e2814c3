-- A bound on every number that each call can answer, so that nothing is lost in the packed number.
-- Assumes nothing.
use Rattle.std.specs.Prelude.{◌≡◌, refl, true, false, ◌⊎◌, List, [], ◌∷◌, leb, eqb, ℤ, pos, negsuc, Float}
use Rattle.std.proofs.Common.{sym, ◌∙◌, inl, inr}
use Rattle.std.proofs.Math.Path.{subst}
use Rattle.std.proofs.Math.Bool.{Bool}
use Rattle.std.proofs.Math.Option.{Option, none, some}
use Prim.Native.Nat.{ℕ, zero, suc, ◌+◌, ◌*◌, ◌/◌, ◌%◌, ◌≤◌, ◌<◌}
use native.Mathlib.Omega.{arith}
use Rattle.std.proofs.Math.Dec.{T}
use Rattle.std.proofs.Math.ListN.{length}
use Rattle.lists.specs.Tests.{both, within}
use Rattle.lists.specs.TestLaws.{passes, Test, pass, fail, test, means_itself, means_both, means_either, means_eq, means_le, means_within}
use Rattle.lists.specs.SearchLaws.{le_or_lt, count_bound}
use Rattle.rules.specs.Elements.{max_vertex, max_element, elements, element, number, sides, is_side, Side, next, first_side}
use Rattle.rules.specs.Elements.{first_number}
use Rattle.rules.specs.Pairing.{Accepted, call_sizes, sizes_fit, unfit_corner, repeated_corner, rows_fit}
use Rattle.rules.specs.Tables.{borders, columns, edges}
use Rattle.rules.specs.Refusals.{clash_of, clashing, Answer, gives, refused, Buffers, crowded_side, alike_side, unordered_vertex, check_found}
use Rattle.rules.specs.Refusals.{row_checks, list_answer, length_checks, room_check, build_answer, recovers, recover_answer}
use Rattle.rules.specs.Siblings.{SiblingBuffers, siblings_answer}
use Rattle.edit_rules.specs.Edits.{Edited, becomes, refuses, Lent, held, once_accepted, new_answer, edit_sizes, edit_lengths, edit_answer}
use Rattle.edit_rules.specs.Swap.{swapped, swap, swap_answer}
use Rattle.edit_rules.specs.Split.{has_points, split, split_answer}
use Rattle.edit_rules.specs.Contract.{contract, contract_answer}
use Rattle.edit_rules.specs.Shape.{shape, complement, signed, list_shape, shape_answer}
use Rattle.rules.specs.Holes.{HoleBuffers, least_of, holes_up_to, hole_count, holes_found, holes_fit, holes_answer}
use Rattle.rules.specs.Queries.{Mesh, columns_answer, query_lengths, asked, defined, found, listed, and_then, prepend, read_all, read, by_side, by_entry, follow, over, is_border_code, is_half_edge, is_entry}
use Rattle.rules.specs.Queries.{is_vertex, read_opposite, read_border_side, read_vertex_entry, read_origin, read_destination, opposite, border_next, start_side}
use Rattle.rules.specs.Queries.{onward, ring_sides, ring, neighbours, loop_next, border_loop, listed_answer, opposite_answer, next_answer, previous_answer}
use Rattle.rules.specs.Queries.{element_answer, origin_answer, destination_answer, across_answer, half_edge_border_answer, vertex_border_answer, ring_answer}
use Rattle.rules.specs.Queries.{neighbours_answer, border_loop_answer, Walker, start_answer, walker_start, goes_to, moved, walker_step}
use Rattle.theory.specs.Sides.{side_facts}
use Rattle.theory.specs.Least.{First, nobody, somebody, first_side_lem, FirstNumber, first_number_lem}
use Rattle.theory.specs.Steps.{NextNumber, wraps, grows, next_number_lem, previous_side_lem}
use Rattle.theory.specs.FitRows.{means_sizes}
use Rattle.theory.specs.Columns.{three_or_four}
use Rattle.theory.specs.Built.{borders_bound, edges_bound}
use Rattle.theory.specs.Shaping.{sub_up, sub_down, shape_counted}
use Rattle.theory.specs.SplitTests as split-tests
use Rattle.theory.specs.ContractTests as contract-tests
use Rattle.answer.specs.Packing.{Fits, HasRoom}
use Rattle.swap.specs.Swaps.{refuses_by, becomes_swapped}
use Rattle.runs.specs.Runs.{walked_answers}
use Rattle.runs.proofs.Demand3.{list_counted}
use Rattle.runs.proofs.Edits.{held_sizes}
use Rattle.runs.proofs.Swaps.{new_sizes}
use Rattle.runs.proofs.Splits.{split_sizes}
use Rattle.runs.proofs.Contractions.{contract_sizes}

-- what check 1 says of n and the list
abbrev Sized : ℕ → List ℕ → Type 0
Sized n L = (n ≤ max_vertex) × ((elements L ≤ max_element) × (length L ≡ 4 * elements L))

-- an answer after checks 1 and 2
lengths_fit : (sizes lengths : Bool) (a : Answer) → (T sizes → T lengths → Fits a) → Fits (length_checks sizes lengths a)
unfolding length_checks
lengths_fit true true a f = f tt tt
lengths_fit true false a f = omega arith
lengths_fit false lengths a f = omega arith

-- build: the places of refusals 3 to 8, k and the edges
check_fits : (x : ℕ) (refusal rest : Answer) → Fits refusal → Fits rest → Fits (check_found x refusal rest)
unfolding check_found
check_fits x refusal rest g f = go (test (eqb x 0))
  where
    go : Test (eqb x 0) → Fits (check_found x refusal rest)
    go (pass t e) = rw (e, check_found) f
    go (fail t e) = rw (e, check_found) g

side_fits : (r s : ℕ) → 1 ≤ r → r < 256 → s < 268_435_456 → Fits (refused r (element s) (number s))
side_fits r s l h i = omega arith

room_fits : (room : ℕ) (a : Answer) → Fits a → Fits (room_check room a)
unfolding room_check
room_fits room (refused r a b) f = f
room_fits room (gives k e) (i, j) = go (test (leb k room))
  where
    go : Test (leb k room) → Fits (room_check room (gives k e))
    go (pass t z) = rw (z, room_check) (i, j)
    go (fail t z) = rw (z, room_check) (omega arith)

-- a side of a list of at most 1,000,000 elements
side_small : (L : List ℕ) (s : ℕ) → elements L ≤ max_element → Side L s → s < 268_435_456
side_small L s h a = omega (arith, side_facts L s a)

found_small : (L : List ℕ) (t : ℕ → Bool) {s : ℕ} → elements L ≤ max_element → First L t s → s < 268_435_456
found_small L t h (nobody e f) = omega arith
found_small L t {s} h (somebody a u f) = side_small L s h a

number_small : (n : ℕ) (t : ℕ → Bool) {v : ℕ} → n ≤ 1_000_000 → FirstNumber n t v → v < 268_435_456
number_small n t h (FirstNumber.nobody e f) = omega arith
number_small n t h (FirstNumber.somebody a b u f) = omega arith

module _ (n : ℕ) (L : List ℕ) (z : Sized n L) where
  side : (t : ℕ → Bool) → first_side L t < 268_435_456
  side t = found_small L t z.1.0 (first_side_lem L t)

  numbered : (k : ℕ) → k ≤ 1_000_000 → (t : ℕ → Bool) → first_number k t < 268_435_456
  numbered k h t = number_small k t h (first_number_lem k t)

  counts_fit_lem : Fits (gives (borders L) (edges L))
  counts_fit_lem = (omega (arith, borders_bound L), omega (arith, edges_bound L))

  rows_fit_lem : (rest : Answer) → Fits rest → Fits (row_checks n L rest)
  unfolding unfit_corner repeated_corner
  rows_fit_lem rest f =
      check_fits _ _ _ (side_fits 3 _ (omega arith) (omega arith) (side _))
      (check_fits _ _ rest (side_fits 4 _ (omega arith) (omega arith) (side _)) f)

  list_fits : Fits (list_answer n L)
  unfolding list_answer crowded_side alike_side unordered_vertex clashing clash_of
  list_fits =
      rows_fit_lem _
      (check_fits _ _ _ (side_fits 6 _ (omega arith) (omega arith) (side _))
      (check_fits _ _ _ (side_fits 7 _ (omega arith) (omega arith) (side _))
      (check_fits _ _ _ (omega arith, omega arith, numbered n z.0 _, omega arith)
      (check_fits _ _ _ (omega arith, omega arith, numbered (elements L) z.1.0 _, numbered (elements L) z.1.0 _) counts_fit_lem))))

pub build_fits : (n : ℕ) (L : List ℕ) (w : Buffers) → Fits (build_answer n L w)
unfolding build_answer
build_fits n L w =
    lengths_fit (sizes_fit n L) _ _ (λ s l. room_fits (length w.border) (list_answer n L) (list_fits n L ((means_sizes n L).says s)))

-- an edit: what build says of the old list, a number of its own, or what build says of the new list
once_fits : (old new : Answer) → Fits old → ((k e : ℕ) → old ≡ gives k e → Fits new) → Fits (once_accepted old new)
unfolding once_accepted
once_fits (gives k e) new f g = g k e refl
once_fits (refused r a b) new f g = f

new_fits : (room : ℕ) (x : Edited) → ((n : ℕ) (L : List ℕ) → x ≡ becomes n L → Sized n L) → ((r : ℕ) → x ≡ refuses r → (1 ≤ r) × (r < 256)) → Fits (new_answer room x)
unfolding new_answer
new_fits room (becomes n L) f g = room_fits room (list_answer n L) (list_fits n L (f n L refl))
new_fits room (refuses r) f g = omega (arith, g r refl)

-- by the answers about the old list and the new one
edit_fits : (w : Lent) (others : Bool) (x : Edited) → (Accepted w.n (held w) → (n : ℕ) (L : List ℕ) → x ≡ becomes n L → Sized n L)
    → ((r : ℕ) → x ≡ refuses r → (1 ≤ r) × (r < 256)) → Fits (edit_answer w others x)
unfolding edit_answer
edit_fits w others x sized small =
    lengths_fit (edit_sizes w) (edit_lengths w others) _
    (λ sizes lengths.
    let fit = held_sizes w others sizes lengths in
    once_fits (list_answer w.n (held w)) _ (list_fits w.n (held w) ((means_sizes w.n (held w)).says fit))
    (λ k e g. new_fits (length w.border) x (sized (list_counted w.n (held w) fit k e g).0) small))

pub swap_fits : (w : Lent) (s : ℕ) → Fits (swap_answer w s)
swap_fits w s = edit_fits w true (swap n L s) becomes_sized (λ r e. elim (refuses_by n L s e) [ inl i ↦ omega arith | inr i ↦ omega arith ])
  where
    n : ℕ
    n = w.n

    L : List ℕ
    L = held w

    becomes_sized : Accepted n L → (n' : ℕ) (L' : List ℕ) → swap n L s ≡ becomes n' L' → Sized n' L'
    becomes_sized old n' L' e =
        let (d, vertices, same) = becomes_swapped n L s e in
        rw (vertices, same) at ((means_sizes n (swapped L s)).says (new_sizes n L s old d))

pub split_fits : (w : Lent) (P : List Float) (s : ℕ) → Fits (split_answer w P s)
split_fits w P s =
    edit_fits w (has_points w.n P) (split w P s) becomes_sized
    (λ r e. elim (split-tests.refuses_by w P s e) [ inl i ↦ omega arith | inr j ↦ elim j [ inl i ↦ omega arith | inr i ↦ omega arith ] ])
  where
    becomes_sized : Accepted w.n (held w) → (n' : ℕ) (L' : List ℕ) → split w P s ≡ becomes n' L' → Sized n' L'
    becomes_sized old n' L' e = (means_sizes n' L').says (split_sizes w P s old e)

pub contract_fits : (w : Lent) (P : List Float) (s : ℕ) → Fits (contract_answer w P s)
contract_fits w P s =
    edit_fits w (has_points w.n P) (contract w.n (held w) s) becomes_sized
    (λ r e. elim (contract-tests.refuses_by w.n (held w) s e) [
      | inl i ↦ omega arith
      | inr j ↦ elim j [ inl i ↦ omega arith | inr k ↦ elim k [ inl i ↦ omega arith | inr i ↦ omega arith ] ]
    ])
  where
    becomes_sized : Accepted w.n (held w) → (n' : ℕ) (L' : List ℕ) → contract w.n (held w) s ≡ becomes n' L' → Sized n' L'
    becomes_sized old n' L' e = (means_sizes n' L').says (contract_sizes w.n (held w) s old e)

-- the number of a shape
pub shape_small : (n : ℕ) (L : List ℕ) → Accepted n L → HasRoom (shape n L)
unfolding rows_fit
shape_small n L x =
    let z = (means_sizes n L).says (passes (sizes_fit n L) _ x.rows).0 in
    let (few, edged) = counts_fit_lem n L z in
    elim (le_or_lt (edges L) (n + elements L)) [
      | inl h ↦ subst HasRoom (sym (shape_counted n L x ∙ sub_up (n + elements L) (edges L) h)) (omega arith)
      | inr h ↦ subst HasRoom (sym (shape_counted n L x ∙ sub_down (n + elements L) (edges L) h)) (omega arith)
    ]

signed_fits : (z : ℤ) → HasRoom z → Fits (signed z)
unfolding complement signed
signed_fits (pos x) h = omega arith
signed_fits (negsuc x) h = omega arith

pub shape_fits : (n : ℕ) (L work : List ℕ) → Fits (shape_answer n L work)
unfolding shape_answer list_shape
shape_fits n L work =
    lengths_fit (sizes_fit n L) _ _
    (λ s l.
    once_fits (list_answer n L) _ (list_fits n L ((means_sizes n L).says s))
    (λ k e g. signed_fits (shape n L) (shape_small n L (list_counted n L s k e g).0)))

pub siblings_fits : (n : ℕ) (L : List ℕ) (w : SiblingBuffers) → Fits (siblings_answer n L w)
unfolding siblings_answer
siblings_fits n L w = lengths_fit (sizes_fit n L) _ _ (λ s l. rows_fit_lem n L ((means_sizes n L).says s) _ (omega arith))

pub columns_fits : (n : ℕ) (L : List ℕ) → Fits (columns_answer n L)
unfolding columns_answer
columns_fits n L = lengths_fit (sizes_fit n L) true _ (λ s l. go (three_or_four L))
  where
    go : (columns L ≡ 3) ⊎ (columns L ≡ 4) → Fits (gives (columns L) 0)
    go (inl e) = omega arith
    go (inr e) = omega arith

pub recover_fits : (n m : ℕ) (V2e E2e list work : List ℕ) → Fits (recover_answer n m V2e E2e list work)
unfolding recover_answer
recover_fits n m V2e E2e list work = lengths_fit (call_sizes n m list) _ _ (λ s l. go (recovers n m V2e E2e))
  where
    go : (b : Bool) → Fits (elim b [ true ↦ gives 0 0 | false ↦ refused 10 0 0 ])
    go true = omega arith
    go false = omega arith

-- what can be read is small, and a list that can be read is short
abbrev Small : Option ℕ → Type 0
Small none = Unit {0}
Small (some x) = x < 200_000_000

abbrev Short : ℕ → Option (List ℕ) → Type 0
Short j none = Unit {0}
Short j (some xs) = length xs ≤ j

found_fits : (r : Option ℕ) → Small r → Fits (found r)
unfolding found
found_fits none h = omega arith
found_fits (some x) h = omega arith

listed_fits : (room j : ℕ) (r : Option (List ℕ)) → j < 268_435_456 → Short j r → Fits (listed room r)
unfolding listed
listed_fits room j none l h = omega arith
listed_fits room j (some xs) l h = go (test (leb (length xs) room))
  where
    go : Test (leb (length xs) room) → Fits (listed room (some xs))
    go (pass t e) = rw (e, listed) (omega arith)
    go (fail t e) = rw (e, listed) (omega arith)

defined_fits : (there : Bool) (a : Answer) → (T there → Fits a) → Fits (defined there a)
unfolding defined
defined_fits true a f = f tt
defined_fits false a f = omega arith

read_small : (valid : ℕ → Bool) (x : ℕ) → (T (valid x) → x < 200_000_000) → Small (read valid x)
read_small valid x f = go (test (valid x))
  where
    go : Test (valid x) → Small (read valid x)
    go (pass t e) = rw (e, read) (f t)
    go (fail t e) = rw (e, read) tt

then_small : (r : Option ℕ) (f : ℕ → Option ℕ) → Small r → ((x : ℕ) → x < 200_000_000 → Small (f x)) → Small (and_then r f)
unfolding and_then
then_small none f h g = tt
then_small (some x) f h g = g x h

then_short : (j : ℕ) (r : Option ℕ) (f : ℕ → Option (List ℕ)) → ((x : ℕ) → Short j (f x)) → Short j (and_then r f)
unfolding and_then
then_short j none f g = tt
then_short j (some x) f g = g x

prepend_short : (j x : ℕ) (r : Option (List ℕ)) → Short j r → Short (suc j) (prepend x r)
unfolding prepend
prepend_short j x none h = tt
prepend_short j x (some xs) h = omega arith

follow_short : (step : ℕ → Option ℕ) (j x : ℕ) → Short j (follow step j x)
unfolding follow
follow_short step zero x = go (eqb x 0)
  where
    go : (b : Bool) → Short 0 (elim b as (λ _. Option (List ℕ)) [ true ↦ some [] | false ↦ none ])
    go true = omega arith
    go false = tt
follow_short step (suc j) x = go (eqb x 0) (λ y. follow_short step j y)
  where
    go : (b : Bool) → ((y : ℕ) → Short j (follow step j y)) →
        Short (suc j) (elim b as (λ _. Option (List ℕ)) [ true ↦ some [] | false ↦ and_then (step x) (λ y. prepend x (follow step j y)) ])
    go true h = omega arith
    go false h = then_short (suc j) (step x) _ (λ y. prepend_short j x (follow step j y) (h y))

all_short : (f : ℕ → Option ℕ) (xs : List ℕ) → Short (length xs) (read_all f xs)
unfolding read_all
all_short f [] = omega arith
all_short f (x ∷ xs) = then_short (suc (length xs)) (f x) _ (λ y. prepend_short (length xs) y (read_all f xs) (all_short f xs))

over_short : (j : ℕ) (f : ℕ → Option ℕ) (r : Option (List ℕ)) → Short j r → Short j (over f r)
unfolding over
over_short j f none h = tt
over_short j f (some xs) h = weaker (read_all f xs) (all_short f xs)
  where
    weaker : (r : Option (List ℕ)) → Short (length xs) r → Short j r
    weaker none g = tt
    weaker (some ys) g = omega arith

next_near : (L : List ℕ) (c : ℕ) → next L c ≤ c + 1
unfolding next
next_near L c = go (next_number_lem (sides L (c / 8)) (c % 8))
  where
    go : {i : ℕ} → NextNumber (sides L (c / 8)) (c % 8) i → 8 * (c / 8) + i ≤ c + 1
    go (wraps e q) = omega arith
    go (grows e q) = omega arith

-- what checks 1 and 2 say of a mesh of any content
record Bounded (M : Mesh) : Type 0 where
  vertices : M.n ≤ max_vertex
  size : elements M.list ≤ max_element
  border : length M.border ≤ 4 * elements M.list

module _ (M : Mesh) where
  bounded : T (sizes_fit M.n M.list) → T (query_lengths M) → Bounded M
  unfolding query_lengths
  bounded s l =
      let (v, (e, q)) = (means_sizes M.n M.list).says s in
      let m = elements M.list in
      let tables = means_both (means_eq (length M.opposites) (M.columns * m)) (means_le (length M.border) (4 * m)) in
      let (c, (p, (o, b))) = (means_both (means_within 3 4 M.columns) (means_both (means_eq (length M.vertices) M.n) tables)).says l in
      record { vertices = v; size = e; border = b }

  asked_fits : (a : Answer) → (Bounded M → Fits a) → Fits (asked M a)
  unfolding asked
  asked_fits a f = lengths_fit (sizes_fit M.n M.list) (query_lengths M) a (λ s l. f (bounded s l))

  module _ (k : Bounded M) where
    border_small : (c : ℕ) → T (is_border_code M c) → c < 200_000_000
    unfolding is_border_code
    border_small c t =
        let (z, (from, to)) = (means_both (means_eq (number c) 0) (means_within 1 (length M.border) (element c))).says t in
        omega (arith, k.size, k.border)

    half_small : (c : ℕ) → T (is_half_edge M c) → c < 200_000_000
    unfolding is_half_edge
    half_small c t = go ((means_either (means_itself (is_side M.list c)) (means_itself (is_border_code M c))).says t)
      where
        go : Side M.list c ⊎ T (is_border_code M c) → c < 200_000_000
        go (inl a) = omega (arith, side_facts M.list c a, k.size)
        go (inr u) = border_small c u

    entry_small : (c : ℕ) → T (is_entry M c) → c < 200_000_000
    unfolding is_entry
    entry_small c t = go ((means_either (means_eq c 0) (means_itself (is_half_edge M c))).says t)
      where
        go : (c ≡ 0) ⊎ T (is_half_edge M c) → c < 200_000_000
        go (inl z) = omega arith
        go (inr u) = half_small c u

    side_code_lem : (c : ℕ) → Side M.list c → c < 200_000_000
    side_code_lem c a = omega (arith, side_facts M.list c a, k.size)

    vertex_code : (v : ℕ) → T (is_vertex M v) → v < 200_000_000
    unfolding is_vertex
    vertex_code v t = omega (arith, (means_within 1 M.n v).says t, k.vertices)

    opposite_small : (s : ℕ) → Small (read_opposite M s)
    unfolding read_opposite
    opposite_small s = read_small (is_half_edge M) _ (half_small _)

    border_side_small : (c : ℕ) → Small (read_border_side M c)
    unfolding read_border_side
    border_side_small c = read_small (is_side M.list) _ (side_code_lem _)

    origin_small : (s : ℕ) → Small (read_origin M s)
    unfolding read_origin
    origin_small s = read_small (is_vertex M) _ (vertex_code _)

    destination_small : (s : ℕ) → Small (read_destination M s)
    unfolding read_destination
    destination_small s = read_small (is_vertex M) _ (vertex_code _)

    next_small : (c : ℕ) → Small (border_next M c)
    unfolding border_next
    next_small c =
        then_small (read_border_side M c) _ (border_side_small c)
        (λ s h. then_small (read_origin M s) _ (origin_small s) (λ v i. read_small (is_border_code M) _ (border_small _)))

    by_small : (c : ℕ) (p q : Option ℕ) → Small p → Small q → Small (by_side c p q)
    by_small c p q h i = go (test (eqb (number c) 0))
      where
        go : Test (eqb (number c) 0) → Small (by_side c p q)
        go (pass t e) = rw (e, by_side) i
        go (fail t e) = rw (e, by_side) h

  -- an answer of one number, and of a list
  one_fits : (there : Bool) (r : Option ℕ) → (Bounded M → T there → Small r) → Fits (asked M (defined there (found r)))
  one_fits there r f = asked_fits _ (λ k. defined_fits there _ (λ t. found_fits r (f k t)))

  lists_fit : (there : Bool) (j : ℕ) (r : Option (List ℕ)) (out : List ℕ) → (Bounded M → j < 268_435_456) → Short j r → Fits (listed_answer M there r out)
  unfolding listed_answer
  lists_fit there j r out f h = asked_fits _ (λ k. defined_fits there _ (λ t. listed_fits (length out) j r (f k) h))

  pub opposite_fits : (c : ℕ) → Fits (opposite_answer M c)
  unfolding opposite_answer opposite
  opposite_fits c =
      one_fits (is_half_edge M c) _ (λ k t. by_small k c (read_opposite M c) (read_border_side M c) (opposite_small k c) (border_side_small k c))

  pub next_fits : (c : ℕ) → Fits (next_answer M c)
  unfolding next_answer found
  next_fits c =
      asked_fits _
      (λ k.
      defined_fits (is_half_edge M c) _
      (λ t. next_found k (test (eqb (number c) 0)) (half_small k c t)))
    where
      near : c < 200_000_000 → Fits (found (some (next M.list c)))
      near h = omega (arith, next_near M.list c)

      next_found : Bounded M → Test (eqb (number c) 0) → c < 200_000_000 → Fits (found (by_side c (some (next M.list c)) (border_next M c)))
      next_found k (pass t e) h = rw (e, by_side) (found_fits (border_next M c) (next_small k c))
      next_found k (fail t e) h = rw (e, by_side) (near h)

  pub previous_fits : (c : ℕ) → Fits (previous_answer M c)
  unfolding previous_answer
  previous_fits c =
      asked_fits _
      (λ k. defined_fits (is_side M.list c) _ (λ a. omega (arith, side_code_lem k _ (previous_side_lem M.list c a))))

  pub element_fits : (c : ℕ) → Fits (element_answer M c)
  unfolding element_answer
  element_fits c =
      asked_fits _ (λ k. defined_fits (is_side M.list c) _ (λ a. omega (arith, side_code_lem k c a)))

  pub origin_fits : (c : ℕ) → Fits (origin_answer M c)
  unfolding origin_answer
  origin_fits c =
      one_fits (is_half_edge M c) _
      (λ k t.
      by_small k c (read_origin M c) _ (origin_small k c)
      (then_small (read_border_side M c) _ (border_side_small k c) (λ s h. destination_small k s)))

  pub destination_fits : (c : ℕ) → Fits (destination_answer M c)
  unfolding destination_answer
  destination_fits c =
      one_fits (is_half_edge M c) _
      (λ k t.
      by_small k c (read_destination M c) _ (destination_small k c)
      (then_small (read_border_side M c) _ (border_side_small k c) (λ s h. origin_small k s)))

  -- a number by the kind of half-edge
  kind_small : (t x y : ℕ) → x < 200_000_000 → y < 200_000_000 → by_side t x y < 200_000_000
  kind_small t x y h i = go (test (eqb (number t) 0))
    where
      go : Test (eqb (number t) 0) → by_side t x y < 200_000_000
      go (pass u e) = rw (e, by_side) i
      go (fail u e) = rw (e, by_side) h

  pub across_fits : (c : ℕ) → Fits (across_answer M c)
  unfolding across_answer
  across_fits c =
      one_fits (is_side M.list c) _
      (λ k a. then_small (read_opposite M c) _ (opposite_small k c) (λ t h. kind_small t (element t) 0 (omega arith) (omega arith)))

  pub half_edge_border_fits : (c : ℕ) → Fits (half_edge_border_answer M c)
  unfolding half_edge_border_answer
  half_edge_border_fits c =
      asked_fits _ (λ k. defined_fits (is_half_edge M c) _ (λ t. omega (arith, kind_small c 0 1 (omega arith) (omega arith))))

  pub vertex_border_fits : (v : ℕ) → Fits (vertex_border_answer M v)
  unfolding vertex_border_answer read_vertex_entry
  vertex_border_fits v =
      one_fits (is_vertex M v) _
      (λ k t.
      then_small (read_vertex_entry M v) _ (read_small (is_entry M) _ (entry_small k _)) (λ c h. go c (test (eqb c 0))))
    where
      go : (c : ℕ) → Test (eqb c 0) → by_entry c 2 0 1 < 200_000_000
      go c (pass t e) = rw (e, by_entry) (omega arith)
      go c (fail t e) = rw (e, by_entry) (kind_small c 0 1 (omega arith) (omega arith))

  sides_short : (v : ℕ) → Short (elements M.list) (ring_sides M v)
  unfolding ring_sides
  sides_short v = then_short (elements M.list) (start_side M v) _ (λ s. follow_short (onward M s) (elements M.list) s)

  pub ring_fits : (v : ℕ) (out : List ℕ) → Fits (ring_answer M v out)
  unfolding ring_answer ring
  ring_fits v out =
      lists_fit (is_vertex M v) (elements M.list) _ out (λ k. omega (arith, k.size))
      (over_short (elements M.list) (λ s. some (element s)) (ring_sides M v) (sides_short v))

  pub neighbours_fits : (v : ℕ) (out : List ℕ) → Fits (neighbours_answer M v out)
  unfolding neighbours_answer neighbours
  neighbours_fits v out =
      let j = elements M.list in
      let ends = over (read_destination M) (ring_sides M v) in
      let short = over_short j (read_destination M) (ring_sides M v) (sides_short v) in
      lists_fit (is_vertex M v) (suc j) _ out (λ k. omega (arith, k.size))
      (then_short (suc j) (read_vertex_entry M v) _ (λ c. by_entry_lem c (test (eqb c 0)) ends short))
    where
      by_kind : (c : ℕ) → Test (eqb (number c) 0) → (ends : Option (List ℕ)) → Short (elements M.list) ends
          → Short (suc (elements M.list)) (by_side c ends (and_then (read_border_side M c) (λ s. and_then (read_origin M s) (λ u. prepend u ends))))
      by_kind c (pass t e) ends h =
          rw (e, by_side)
          (then_short _ (read_border_side M c) _ (λ s. then_short _ (read_origin M s) _ (λ u. prepend_short _ u ends h)))
      by_kind c (fail t e) none h = rw (e, by_side) tt
      by_kind c (fail t e) (some xs) h = rw (e, by_side) (omega arith)

      by_entry_lem : (c : ℕ) → Test (eqb c 0) → (ends : Option (List ℕ)) → Short (elements M.list) ends
          → Short (suc (elements M.list)) (by_entry c (some []) ends (and_then (read_border_side M c) (λ s. and_then (read_origin M s) (λ u. prepend u ends))))
      by_entry_lem c (pass t e) ends h = rw (e, by_entry) (omega arith)
      by_entry_lem c (fail t e) ends h = rw (e, by_entry) (by_kind c (test (eqb (number c) 0)) ends h)

  pub border_loop_fits : (b : ℕ) (out : List ℕ) → Fits (border_loop_answer M b out)
  unfolding border_loop_answer border_loop
  border_loop_fits b out =
      let j = length M.border in
      lists_fit (within 1 j b) j _ out (λ k. omega (arith, k.border, k.size)) (follow_short (loop_next M b) j b)

  -- no more holes than border half-edges
  pub holes_fits : (w : HoleBuffers) → Fits (holes_answer M w)
  unfolding holes_answer holes_fit holes_found hole_count holes_up_to
  holes_fits w =
      lengths_fit (sizes_fit M.n M.list) _ _
      (λ s l.
      let z = bounded s (passes (query_lengths M) _ l).0 in
      check_fits _ _ _ (omega arith) (go z (both (leb j (length w.hole)) (leb j (length w.lengths)))))
    where
      j : ℕ
      j = length M.border

      go : Bounded M → (room : Bool) → Fits (elim room [ true ↦ gives (hole_count M) 0 | false ↦ refused 13 j 0 ])
      go z true = omega (arith, z.size, z.border, count_bound (λ i. eqb (least_of M (i + 1)) (i + 1)) j)
      go z false = omega (arith, z.size, z.border)

  pub start_fits : (v : ℕ) (w : Walker) → Fits (walker_start M v w).answer
  unfolding walker_start start_answer and_then
  start_fits v w =
      subst Fits (sym (walked_answers (start_answer M v) _ w))
      (one_fits (is_vertex M v) _ (λ k t. last (start_side M v)))
    where
      last : (r : Option ℕ) → Small (and_then r (λ s. some 0))
      last none = tt
      last (some s) = omega arith

  pub step_fits : (w : Walker) → Fits (walker_step M w).answer
  unfolding walker_step goes_to and_then
  step_fits w = go (test (eqb w.following 0))
    where
      inside : Bool
      inside = both (is_side M.list w.start) (both (is_side M.list w.following) (leb (w.handed + 1) (elements M.list)))

      after_some : (r : Option ℕ) → element w.following < 200_000_000 → Small (and_then r (λ t. some (element w.following)))
      after_some none h = tt
      after_some (some x) h = h

      small : Bounded M → Test inside → Small (and_then (goes_to M w) (λ t. some (element w.following)))
      small k (pass t e) =
          let (a, (b, c)) = (means_both (means_itself (is_side M.list w.start)) (means_both (means_itself (is_side M.list w.following)) (means_itself _))).says t in
          after_some (goes_to M w) (omega (arith, side_code_lem k w.following b))
      small k (fail t e) = rw (e, goes_to) tt

      go : Test (eqb w.following 0) → Fits (walker_step M w).answer
      go (pass t e) = rw (e, walker_step) (subst Fits (sym (walked_answers (asked M (gives 0 0)) w w)) (asked_fits _ (λ k. omega arith)))
      go (fail t e) =
          rw (e, walker_step)
          (subst Fits (sym (walked_answers (asked M (found (and_then (goes_to M w) (λ t. some (element w.following))))) (moved M w (goes_to M w)) w))
          (asked_fits _ (λ k. found_fits _ (small k (test inside)))))
