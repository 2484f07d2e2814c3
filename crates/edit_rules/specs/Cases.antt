-- Edits, and the shape, of document 02, points 1, 6, 8 and 9: a table and a computation for each.
-- Assumes nothing.
use Rattle.std.specs.Prelude.{Bool, false, List, [], ◌∷◌, ◌++◌, ℕ, zero, suc, ◌+◌, ◌*◌, ◌-◌, eqb, Float, ℤ, pos, negsuc, neg_ℤ, length, take, drop, replicate}
use Rattle.std.specs.Float.{binary64}
use Rattle.std.specs.Float.Ieee.{of_int, of_bits, to_bits}
use Rattle.lists.specs.Tests.{both, same}
use Rattle.rules.specs.Elements.{elements}
use Rattle.rules.specs.Tables.{columns}
use Rattle.rules.specs.Refusals.{Answer, gives, refused}
use Rattle.rules.specs.Cases.{three, quad, tri, blank, left, same_answer, listing, tetrahedron, mixed, diagonal, three_corners, apart}
use Rattle.edit_rules.specs.Edits.{Edited, Lent, becomes, refuses}
use Rattle.edit_rules.specs.Swap.{swap, swap_answer, swap_leaves}
use Rattle.edit_rules.specs.Split.{split, midway, split_points}
use Rattle.edit_rules.specs.Split.{split_answer, split_leaves}
use Rattle.edit_rules.specs.Contract.{contract}
use Rattle.edit_rules.specs.Contract.{contract_answer, contract_leaves, contract_points}
use Rattle.edit_rules.specs.Shape.{shape, signed, shape_answer, shape_work}

-- what an edit is lent: n and m, an element list, and the tables and the work buffer of these lengths
unfoldable pub edit_room : ℕ → ℕ → List ℕ → ℕ → ℕ → ℕ → ℕ → Lent
edit_room n m L v e b work =
    record {
      n = n;
      m = m;
      list = L;
      vertices = replicate v 9;
      opposites = replicate e 9;
      border = replicate b 9;
      work = replicate work 1;
    }

-- numbers for points, so many of them, the i-th of them i, and the bits of points
unfoldable pub wholes : List ℕ → List Float
wholes [] = []
wholes (i ∷ is) = of_int binary64 (pos i) ∷ wholes is

unfoldable pub counted : ℕ → List Float
counted zero = []
counted (suc k) = counted k ++ (of_int binary64 (pos k) ∷ [])

unfoldable pub bits : List Float → List ℕ
bits [] = []
bits (x ∷ xs) = to_bits binary64 x ∷ bits xs

-- a row: what is asked of n vertices and a list, and the outcome
pub data Case : Type 0 where
  -- the diagonal with this code swapped, with so many entries more than needed in each buffer: k, the edges and the list; the tables are those
  -- that build leaves of it
  swap_is : ℕ → List ℕ → ℕ → ℕ → ℕ → ℕ → List ℕ → Case
  -- with this n, m and list, a V2e, E2e, B2e and work buffer of these lengths, the refusal of the code, which leaves n, m, list and tables as
  -- they were, and what it leaves of the work
  swap_refused : ℕ → ℕ → List ℕ → ℕ → ℕ → ℕ → ℕ → ℕ → Answer → List ℕ → Case
  -- the side with this code split, with so many entries more than the new list needs in each buffer: k, the edges, the list and the bits of the
  -- new point, where number i of the points is i; the tables are those that build leaves of the list
  split_is : ℕ → List ℕ → ℕ → ℕ → ℕ → ℕ → List ℕ → List ℕ → Case
  -- with this n, m and list, a V2e, E2e, B2e, points and work buffer of these lengths, the refusal of the code, which leaves n, m, list, tables
  -- and points as they were, and what it leaves of the work
  split_refused : ℕ → ℕ → List ℕ → ℕ → ℕ → ℕ → ℕ → ℕ → ℕ → Answer → List ℕ → Case
  -- the bits of two numbers, and of the one midway
  midway_is : ℕ → ℕ → ℕ → Case
  -- what a swap, and a contraction, of the side with this code makes of n and the list
  swap_makes contract_makes : ℕ → List ℕ → ℕ → Edited → Case
  -- what a split makes of it, with an m, and a list, V2e, E2e, points and work buffer of these lengths
  split_makes : ℕ → ℕ → List ℕ → ℕ → ℕ → ℕ → ℕ → ℕ → Edited → Case
  -- the side with this code contracted, with so many entries more than needed in each buffer: k, the edges, the list and the points, where number
  -- i of the points was i; the tables are those that build leaves of the list
  contract_is : ℕ → List ℕ → ℕ → ℕ → ℕ → ℕ → List ℕ → List ℕ → Case
  -- as split_refused
  contract_refused : ℕ → ℕ → List ℕ → ℕ → ℕ → ℕ → ℕ → ℕ → ℕ → Answer → List ℕ → Case
  -- the number of the shape; a signed number as an answer; and with a work buffer of this length the query's answer, and what it leaves of the
  -- work
  shape_is : ℕ → List ℕ → ℤ → Case
  signed_is : ℤ → Answer → Case
  shape_asked : ℕ → List ℕ → ℕ → Answer → List ℕ → Case

unfoldable pub same_edited : Edited → Edited → Bool
same_edited (becomes n L) (becomes m M) = both (eqb n m) (same L M)
same_edited (becomes n L) (refuses r) = false
same_edited (refuses q) (becomes m M) = false
same_edited (refuses q) (refuses r) = eqb q r

unfoldable pub same_number : ℤ → ℤ → Bool
same_number (pos x) (pos y) = eqb x y
same_number (pos x) (negsuc y) = false
same_number (negsuc x) (pos y) = false
same_number (negsuc x) (negsuc y) = eqb x y

-- after an answer of an edit of n₀ vertices and m₀ elements: n, the list L and the tables that build leaves of it, zeros as far as the old ones
-- went, "but not in B2e", with these entries after each, and a work buffer of zeros
unfoldable pub held_in : Lent → ℕ → ℕ → ℕ → List ℕ → List ℕ → ℕ → Bool
held_in w n₀ m₀ n L more work =
    let built = left n L in
    both (eqb w.n n)
    (both (eqb w.m (elements L))
    (both (same w.list (L ++ (blank (4 * (m₀ - elements L)) ++ more)))
    (both (same w.vertices (built.vertices ++ (blank (n₀ - n) ++ more)))
    (both (same w.opposites (built.opposites ++ (blank (columns L * (m₀ - elements L)) ++ more)))
    (both (same w.border (built.border ++ more)) (same w.work (blank work)))))))

-- after a refusal: all as in the other, but for the work
unfoldable pub same_lent : Lent → Lent → List ℕ → Bool
same_lent w old work =
    both (eqb w.n old.n)
    (both (eqb w.m old.m)
    (both (same w.list old.list)
    (both (same w.vertices old.vertices)
    (both (same w.opposites old.opposites)
    (both (same w.border old.border) (same w.work work))))))

-- the rules give the row
unfoldable pub holds : Case → Bool
holds (swap_is n L s spare k e L') =
    let m = elements L in
    let more : List ℕ = replicate spare 9 in
    let w = edit_room n m (L ++ more) (n + spare) (columns L * m + spare) (k + spare) (n + 16 * m + spare) in
    both (same_answer (swap_answer w s) (gives k e)) (held_in (swap_leaves w s) n m n L' more (length w.work))
holds (swap_refused n m L v e b work s a work') =
    let w = edit_room n m L v e b work in
    both (same_answer (swap_answer w s) a) (same_lent (swap_leaves w s) w work')
holds (split_is n L s spare k e L' p) =
    let m = elements L' in
    let more : List ℕ = replicate spare 9 in
    let list : List ℕ = L ++ replicate (length L' - length L + spare) 9 in
    let w = edit_room n (elements L) list (n + 1 + spare) (columns L * m + spare) (k + spare) (n + 1 + 16 * m + spare) in
    let P = counted (3 * n + 3 + spare) in
    both (same_answer (split_answer w P s) (gives k e))
    (both (held_in (split_leaves w P s) n (elements L) (n + 1) L' more (length w.work))
    (same (bits (split_points w P s)) (take (3 * n) (bits P) ++ (p ++ drop (3 * n + 3) (bits P)))))
holds (split_refused n m L v e b points work s a work') =
    let w = edit_room n m L v e b work in
    let P = counted points in
    both (same_answer (split_answer w P s) a)
    (both (same_lent (split_leaves w P s) w work') (same (bits (split_points w P s)) (bits P)))
holds (midway_is x y z) = eqb (to_bits binary64 (midway (of_bits binary64 x) (of_bits binary64 y))) z
holds (swap_makes n L s x) = same_edited (swap n L s) x
holds (contract_makes n L s x) = same_edited (contract n L s) x
holds (split_makes n m L v e points work s x) = same_edited (split (edit_room n m L v e 0 work) (counted points) s) x
holds (contract_is n L s spare k e L' p) =
    let m = elements L in
    let more : List ℕ = replicate spare 9 in
    let w = edit_room n m (L ++ more) (n + spare) (columns L * m + spare) (k + spare) (n + 16 * m + spare) in
    let P = counted (3 * n + spare) in
    both (same_answer (contract_answer w P s) (gives k e))
    (both (held_in (contract_leaves w P s) n m (n - 1) L' more (length w.work)) (same (bits (contract_points w P s)) (bits (wholes p))))
holds (contract_refused n m L v e b points work s a work') =
    let w = edit_room n m L v e b work in
    let P = counted points in
    both (same_answer (contract_answer w P s) a)
    (both (same_lent (contract_leaves w P s) w work') (same (bits (contract_points w P s)) (bits P)))
holds (shape_is n L z) = same_number (shape n L) z
holds (signed_is z a) = same_answer (signed z) a
holds (shape_asked n L long a work') =
    let work : List ℕ = replicate long 1 in both (same_answer (shape_answer n L work) a) (same (shape_work n L work) work')

-- two triangles of a fan of three about vertex 2, whose third element has the new diagonal as a diagonal of its own
unfoldable pub fan : List ℕ
fan = tri 1 2 3 ++ tri 2 1 4 ++ quad 3 2 4 5

-- those of point 1
unfoldable pub swaps : List Case
swaps =
    -- document 02, point 1: "With side a to b, its third corner c, and the partner's third corner d, the side's row becomes (c,a,d) and the
    -- partner's (d,b,c)": the listing's side 3 to 1, and its partner; and a diagonal beside a quadrilateral, in longer buffers
    swap_makes 4 listing 11 (becomes 4 (tri 2 3 4 ++ tri 4 1 2)) ∷
    swap_is 4 listing 17 2 4 5 (tri 2 3 4 ++ tri 4 1 2) ∷
    swap_is 6 (listing ++ quad 3 2 5 6) 17 1 6 8 (tri 2 3 4 ++ tri 4 1 2 ++ quad 3 2 5 6) ∷
    -- "11, 15 and the new list": a code that isn't there; of a border half-edge; of a border side; with a quadrilateral on either side
    swap_refused 4 2 listing 4 6 4 36 0 (refused 11 0 0) (blank 36) ∷
    swap_makes 4 listing 12 (refuses 11) ∷
    swap_makes 4 listing 25 (refuses 11) ∷
    swap_makes 4 listing 40 (refuses 11) ∷
    swap_refused 4 2 listing 4 6 0 36 32 (refused 15 0 0) (blank 36) ∷
    swap_makes 4 listing 9 (refuses 15) ∷
    swap_makes 5 mixed 11 (refuses 15) ∷
    swap_makes 5 mixed 17 (refuses 15) ∷
    -- "the old list, 9 apart, is tried first", also where the new one would be accepted; the new list: c and d joined already, the new diagonal a
    -- quadrilateral's; 9 by the new k
    swap_refused 4 2 (tri 1 2 3 ++ tri 1 2 4) 4 6 0 36 0 (refused 7 1 1) (blank 36) ∷
    swap_refused 5 3 (tri 3 1 4 ++ tri 4 2 3 ++ quad 3 2 4 5) 5 12 5 53 11 (refused 18 1 3) (blank 53) ∷
    swap_refused 4 4 tetrahedron 4 12 0 68 9 (refused 6 1 3) (blank 68) ∷
    swap_refused 5 3 fan 5 12 0 53 9 (refused 18 1 3) (blank 53) ∷
    swap_refused 4 2 listing 4 6 3 36 11 (refused 9 4 0) (blank 36) ∷
    -- check 2 "asks for at least these lengths", with the columns of the m rows that are held; check 1 "reads n and m only"
    swap_refused 4 2 (take 7 listing) 4 6 4 36 11 (refused 2 0 0) (replicate 36 1) ∷
    swap_refused 4 2 listing 3 6 4 36 11 (refused 2 0 0) (replicate 36 1) ∷
    swap_refused 4 2 listing 4 5 4 36 11 (refused 2 0 0) (replicate 36 1) ∷
    swap_refused 4 2 listing 4 6 4 35 11 (refused 2 0 0) (replicate 35 1) ∷
    swap_refused 4 2 (listing ++ quad 1 2 3 4) 4 6 3 36 11 (refused 9 4 0) (blank 36) ∷
    swap_refused 1_000_000 1_000_000 [] 4 6 4 36 11 (refused 2 0 0) (replicate 36 1) ∷
    swap_refused 1_000_001 2 [] 4 6 4 36 11 (refused 1 0 0) (replicate 36 1) ∷
    swap_refused 4 1_000_001 [] 4 6 4 36 11 (refused 1 0 0) (replicate 36 1) ∷
    []

-- those of point 6
unfoldable pub splits : List Case
splits =
    -- document 02, point 6: "A triangle (a,b,c) becomes (a,v,c) and appended (v,b,c). Its partner (b,a,d), if there is one, becomes (b,v,d) and
    -- appended (v,a,d), after the first": the listing's side 3 to 1, and its partner; points 1 and 3 at (0,1,2) and (6,7,8)
    split_is 4 listing 11 0 4 8 (tri 5 2 3 ++ tri 1 5 4 ++ tri 1 2 5 ++ tri 5 3 4) (three 0x4008_0000_0000_0000 0x4010_0000_0000_0000 0x4014_0000_0000_0000) ∷
    split_makes 4 2 (listing ++ blank 8) 5 12 15 69 17 (becomes 5 (tri 5 2 3 ++ tri 1 5 4 ++ tri 5 3 4 ++ tri 1 2 5)) ∷
    -- "a border side may be split", the side 1 to 2; and beside a quadrilateral
    split_is 4 listing 9 1 5 7 (tri 1 5 3 ++ tri 1 3 4 ++ tri 5 2 3) (three 0x3ff8_0000_0000_0000 0x4004_0000_0000_0000 0x400c_0000_0000_0000) ∷
    split_makes 5 2 (mixed ++ blank 4) 6 12 18 54 9 (becomes 6 (tri 1 6 3 ++ quad 1 3 4 5 ++ tri 6 2 3)) ∷
    -- 11; "Refusal 15 is given here only for a quadrilateral or for a border code"
    split_refused 4 2 (listing ++ blank 8) 5 12 4 15 69 0 (refused 11 0 0) (blank 69) ∷
    split_makes 4 2 (listing ++ blank 8) 5 12 15 69 12 (refuses 11) ∷
    split_makes 4 2 (listing ++ blank 8) 5 12 15 69 25 (refuses 11) ∷
    split_makes 4 2 (listing ++ blank 8) 5 12 15 69 40 (refuses 11) ∷
    split_makes 4 2 (listing ++ blank 8) 5 12 15 69 32 (refuses 15) ∷
    split_makes 5 2 (mixed ++ blank 8) 6 16 18 70 11 (refuses 15) ∷
    split_makes 5 2 (mixed ++ blank 8) 6 16 18 70 17 (refuses 15) ∷
    split_makes 5 2 mixed 5 8 15 37 18 (refuses 15) ∷
    -- "19: .. a lent buffer but B2e can't hold the new length; after 15, with 9 by the new k last"
    split_makes 4 2 (listing ++ blank 7) 5 12 15 69 11 (refuses 19) ∷
    split_makes 4 2 (listing ++ blank 8) 4 12 15 69 11 (refuses 19) ∷
    split_makes 4 2 (listing ++ blank 8) 5 11 15 69 11 (refuses 19) ∷
    split_makes 4 2 (listing ++ blank 8) 5 12 14 69 11 (refuses 19) ∷
    split_makes 4 2 (listing ++ blank 8) 5 12 15 68 11 (refuses 19) ∷
    split_refused 4 2 (listing ++ blank 8) 5 12 3 15 69 11 (refused 9 4 0) (blank 69) ∷
    split_refused 4 2 (listing ++ blank 4) 5 9 4 15 53 9 (refused 9 5 0) (blank 53) ∷
    -- "Points are lent as 3 × n numbers, under check 2 too"; "The old list must be accepted"
    split_refused 4 2 (listing ++ blank 8) 5 12 4 11 69 11 (refused 2 0 0) (replicate 69 1) ∷
    split_refused 4 2 listing 4 6 4 12 35 11 (refused 2 0 0) (replicate 35 1) ∷
    split_refused 4 2 (tri 1 2 3 ++ tri 1 2 4) 4 6 0 12 36 0 (refused 7 1 1) (blank 36) ∷
    split_refused 1_000_001 2 [] 4 6 4 0 36 11 (refused 1 0 0) (replicate 36 1) ∷
    -- "the sum of the two ends times 0.5": of 1 and 2; of the least number twice, whose half is no number; of the greatest twice, whose sum is
    -- none; of 2^53 and 1, whose sum is rounded; of −0 twice, of −0 and 0, of two infinities
    midway_is 0x3ff0_0000_0000_0000 0x4000_0000_0000_0000 0x3ff8_0000_0000_0000 ∷
    midway_is 1 1 1 ∷
    midway_is 0x7fef_ffff_ffff_ffff 0x7fef_ffff_ffff_ffff 0x7ff0_0000_0000_0000 ∷
    midway_is 0x4340_0000_0000_0000 0x3ff0_0000_0000_0000 0x4330_0000_0000_0000 ∷
    midway_is 0x8000_0000_0000_0000 0x8000_0000_0000_0000 0x8000_0000_0000_0000 ∷
    midway_is 0x8000_0000_0000_0000 0 0 ∷
    midway_is 0x7ff0_0000_0000_0000 0xfff0_0000_0000_0000 0x7ff8_0000_0000_0000 ∷
    []

-- four triangles about vertex 5
unfoldable pub wheel : List ℕ
wheel = tri 1 2 5 ++ tri 2 3 5 ++ tri 3 4 5 ++ tri 4 1 5

-- a band about the rims 1, 2, 3 and 4, 5, 6, in two triangles and two quadrilaterals
unfoldable pub band : List ℕ
band = tri 1 2 5 ++ tri 1 5 4 ++ quad 2 3 6 5 ++ quad 3 1 4 6

-- those of point 8
unfoldable pub contractions : List Case
contractions =
    -- document 02, point 8: "The one or two triangles on the edge go, the higher-numbered first; each time the last row takes the freed number.
    -- Every b becomes a, then the last vertex takes number b": the wheel's side 1 to 2; 5 to 1, where a is the last vertex; and 1 to 5, where b is;
    -- 3 to 5, with row 4 in the place of the two
    contract_makes 5 wheel 9 (becomes 4 (tri 4 1 2 ++ tri 1 3 2 ++ tri 3 4 2)) ∷
    contract_makes 5 wheel 11 (becomes 4 (tri 3 4 1 ++ tri 2 3 1)) ∷
    contract_makes 5 wheel 34 (becomes 4 (tri 3 4 1 ++ tri 2 3 1)) ∷
    contract_makes 5 wheel 18 (becomes 4 (tri 1 2 3 ++ tri 4 1 3)) ∷
    -- the last row alone; beside a quadrilateral
    contract_makes 4 listing 18 (becomes 3 (tri 1 2 3)) ∷
    contract_makes 5 mixed 10 (becomes 4 (quad 1 2 4 3)) ∷
    -- "quadrilaterals on the edge or a border code give 15", after 11
    contract_makes 4 listing 0 (refuses 11) ∷
    contract_makes 4 listing 40 (refuses 11) ∷
    contract_makes 4 listing 32 (refuses 15) ∷
    contract_makes 5 mixed 11 (refuses 15) ∷
    contract_makes 5 mixed 18 (refuses 15) ∷
    -- "20: a and b have a common neighbour that is not a third corner of those triangles", 3 by the rim; before 21, with a triangle 2, 1, 7 beyond
    -- the edge; a diagonal makes no neighbour
    contract_makes 6 band 9 (refuses 20) ∷
    contract_makes 7 (band ++ tri 2 1 7) 9 (refuses 20) ∷
    contract_makes 5 (tri 1 2 3 ++ tri 1 3 4 ++ quad 3 2 5 4) 9 (becomes 4 (quad 3 1 2 4 ++ tri 1 3 4)) ∷
    -- "21: a vertex that was used would be left unused": all, the side's own third corner, and that of its partner; not one that was spare
    contract_makes 3 (tri 1 2 3) 9 (refuses 21) ∷
    contract_makes 5 (listing ++ tri 1 4 5) 11 (refuses 21) ∷
    contract_makes 5 (listing ++ tri 1 4 5) 17 (refuses 21) ∷
    contract_makes 5 listing 18 (becomes 4 (tri 1 2 3)) ∷
    -- the whole call: "Entries between the new and the old length become 0, but not in B2e", and of the points
    contract_is 5 wheel 9 1 3 6 (tri 4 1 2 ++ tri 1 3 2 ++ tri 3 4 2) (0 ∷ 1 ∷ 2 ∷ 12 ∷ 13 ∷ 14 ∷ 6 ∷ 7 ∷ 8 ∷ 9 ∷ 10 ∷ 11 ∷ 0 ∷ 0 ∷ 0 ∷ 15 ∷ []) ∷
    contract_is 4 listing 18 2 3 3 (tri 1 2 3) (0 ∷ 1 ∷ 2 ∷ 3 ∷ 4 ∷ 5 ∷ 6 ∷ 7 ∷ 8 ∷ 0 ∷ 0 ∷ 0 ∷ 12 ∷ 13 ∷ []) ∷
    -- "which build must accept": two fans about one vertex; two triangles on the same corners; 9 by the new k
    contract_refused 6 4 (listing ++ tri 2 1 5 ++ tri 4 3 6) 6 12 0 18 70 11 (refused 8 3 0) (blank 70) ∷
    contract_refused 4 4 tetrahedron 4 12 0 12 68 9 (refused 18 1 2) (blank 68) ∷
    contract_refused 4 2 listing 4 6 2 12 36 9 (refused 9 3 0) (blank 36) ∷
    -- "The old list must be accepted"; the points under check 2
    contract_refused 4 2 (tri 1 2 3 ++ tri 1 2 4) 4 6 0 12 36 0 (refused 7 1 1) (blank 36) ∷
    contract_refused 4 2 listing 4 6 4 11 36 9 (refused 2 0 0) (replicate 36 1) ∷
    contract_refused 1_000_001 2 [] 4 6 4 0 36 9 (refused 1 0 0) (replicate 36 1) ∷
    []

-- a tube bent into a ring, in the fewest triangles, and with an opening where its last vertex was
unfoldable pub pierced : List ℕ
pierced = tri 1 2 4 ++ tri 1 4 3 ++ tri 2 3 5 ++ tri 2 5 4 ++ tri 3 4 6 ++ tri 3 6 5 ++ tri 5 6 1 ++ tri 6 2 1

unfoldable pub torus : List ℕ
torus = pierced ++ (tri 4 5 7 ++ tri 4 7 6 ++ tri 5 1 7 ++ tri 6 7 2 ++ tri 7 1 3 ++ tri 7 3 2)

-- those of point 9
unfoldable pub shapes : List Case
shapes =
    -- document 02, point 9: "vertices − edges + elements, spare vertices counted. It may be negative or zero": nothing, and one vertex; closed
    -- housings, with a spare vertex too; plates; two plates apart; a band; the ring, and with its opening
    shape_is 0 [] (pos 0) ∷
    shape_is 1 [] (pos 1) ∷
    shape_is 4 tetrahedron (pos 2) ∷
    shape_is 5 tetrahedron (pos 3) ∷
    shape_is 4 listing (pos 1) ∷
    shape_is 5 mixed (pos 1) ∷
    shape_is 6 apart (pos 2) ∷
    shape_is 6 band (pos 0) ∷
    shape_is 7 torus (pos 0) ∷
    shape_is 6 pierced (neg_ℤ (pos 1)) ∷
    -- "distinct joined vertex pairs": three sides on one pair, two that run alike, a diagonal on none
    shape_is 5 (tri 1 2 3 ++ tri 2 1 4 ++ tri 1 2 5) (pos 1) ∷
    shape_is 4 (tri 1 2 3 ++ tri 1 2 4) (pos 1) ∷
    shape_is 6 diagonal (pos 1) ∷
    -- "signed", in 56 bits: about 0, and beyond 28 bits
    signed_is (pos 0) (gives 0 0) ∷
    signed_is (pos 1) (gives 0 1) ∷
    signed_is (pos 268_435_457) (gives 1 1) ∷
    signed_is (neg_ℤ (pos 1)) (gives 268_435_455 268_435_455) ∷
    signed_is (neg_ℤ (pos 2)) (gives 268_435_455 268_435_454) ∷
    signed_is (neg_ℤ (pos 268_435_457)) (gives 268_435_454 268_435_455) ∷
    -- the query, in a work buffer of just the length that is needed, and a longer one
    shape_asked 4 listing 36 (gives 0 1) (blank 36) ∷
    shape_asked 5 listing 39 (gives 0 2) (blank 39) ∷
    -- it "refuses as build does but for 9"; check 2 asks for the work buffer alone
    shape_asked 4 (tri 1 2 3 ++ tri 1 2 4) 36 (refused 7 1 1) (blank 36) ∷
    shape_asked 5 (tri 1 2 3 ++ tri 1 4 5) 37 (refused 8 1 0) (blank 37) ∷
    shape_asked 4 three_corners 36 (refused 18 1 2) (blank 36) ∷
    shape_asked 2 (tri 1 2 3) 17 (refused 2 0 0) (replicate 17 1) ∷
    shape_asked 3 (1 ∷ 2 ∷ 3 ∷ []) 2 (refused 1 0 0) (1 ∷ 1 ∷ []) ∷
    shape_asked 1_000_001 [] 3 (refused 1 0 0) (1 ∷ 1 ∷ 1 ∷ []) ∷
    []
