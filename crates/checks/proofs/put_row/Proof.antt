-- `checks::put_row` meets its contract: four places, from the last to the first.
-- Assumes nothing.
use mathlib.Core.Path.{refl}
use mathlib.Core.List.{List}
use Prim.Native.Nat.{ℕ, ◌+◌}
use native.Mathlib.Omega.{arith}
use borrow.Author.Rules.{rules}
use Rattle.checks.proofs.Putting.{Sofar, begins, asked, goes_on}
use Rattle.checks.proofs.put_row.Statement.{statement}
use Rattle.checks.proofs.put_row.Tie as tie

-- the work has become W, with the places from corner j of the row on
abbrev Since : tie.After-row-corners → List ℕ → ℕ → Type 0
Since c W j = let a = c.args in Sofar a.n a.list.now a.work.now W (a.a + j)

start : (c : tie.After-row-corners) → Since c c.args.work.now 4
start c = let p = c.requires in begins p.0 p.1 p.3

from_4 : (c : tie.After-put_first) → Since c.before.before c.put_first.new.work 3
from_4 c = goes_on (start c.before.before) c.put_first.ensures

-- states by how far they lie back
abbrev put_first_of_put_first_2 : tie.After-put_first-2 → tie.After-put_first
put_first_of_put_first_2 c = c.before.before.before.before

abbrev row_corners_of_put_first_2 : tie.After-put_first-2 → tie.After-row-corners
row_corners_of_put_first_2 c = (put_first_of_put_first_2 c).before.before

abbrev put_first_2_of_put_first_3 : tie.After-put_first-3 → tie.After-put_first-2
put_first_2_of_put_first_3 c = c.before.before.before.before

abbrev row_corners_of_put_first_3 : tie.After-put_first-3 → tie.After-row-corners
row_corners_of_put_first_3 c = (put_first_2_of_put_first_3 c).before.before.before.before.before.before

abbrev put_first_3_of_slice_known_5_1 : tie.After-slice_known-5-1 → tie.After-put_first-3
put_first_3_of_slice_known_5_1 c = c.before.before.before.before.before.before

from_3 : (c : tie.After-put_first-2) → Since (row_corners_of_put_first_2 c) c.put_first-2.new.work 2
from_3 c = goes_on (from_4 (put_first_of_put_first_2 c)) c.put_first-2.ensures

from_2 : (c : tie.After-put_first-3) → Since (row_corners_of_put_first_3 c) c.put_first-3.new.work 1
from_2 c = goes_on (from_3 (put_first_2_of_put_first_3 c)) c.put_first-3.ensures

add_e : tie.Need-overflow_add-e
add_e c = search rules

mul_row : tie.Need-offset_bounds-list-a
mul_row c = search rules

sub_row : tie.Need-slice_bounds-row-count
sub_row c = search rules

part_row_start : tie.Need-slice_bounds-row-start
part_row_start c = search rules

part_row_end : tie.Need-slice_bounds-row-end
part_row_end c = search rules

row_requires : tie.Need-row-corners-requires
row_requires c κs = search rules

add_put_first : tie.Need-overflow_add-a
add_put_first c = search rules

array_read_put_first : tie.Need-bounds-corners-3
array_read_put_first c = search rules

put_first_requires : tie.Need-put_first-requires
put_first_requires c κs =
    let a = c.args.a in
    asked (start c.before) a 3 (a + 3) c.row-corners.ensures c.requires.2 (omega arith) refl (omega arith)

add_put_first_2 : tie.Need-overflow_add-a-2
add_put_first_2 c = search rules

array_read_put_first_2 : tie.Need-bounds-corners-2
array_read_put_first_2 c = search rules

put_first_requires_2 : tie.Need-put_first-requires-2
put_first_requires_2 c κs =
    let a = c.args.a in
    asked (from_4 c.before.before.before) a 2 (a + 2) c.row-corners.ensures c.requires.2 (omega arith) refl (omega arith)

add_put_first_3 : tie.Need-overflow_add-a-3
add_put_first_3 c = search rules

array_read_put_first_3 : tie.Need-bounds-corners-1
array_read_put_first_3 c = search rules

put_first_requires_3 : tie.Need-put_first-requires-3
put_first_requires_3 c κs =
    let a = c.args.a in
    asked (from_3 c.before.before.before) a 1 (a + 1) c.row-corners.ensures c.requires.2 (omega arith) refl (omega arith)

array_read_put_first_4 : tie.Need-bounds-corners-0
array_read_put_first_4 c = search rules

put_first_requires_4 : tie.Need-put_first-requires-4
put_first_requires_4 c κs =
    let a = c.args.a in
    asked (from_2 c.before.before.before) a 0 a c.row-corners.ensures c.requires.2 (omega arith) (omega arith) refl

same_length : tie.Need-shape_of-work
same_length c = search rules

returns : tie.Need-returns
returns c =
    let done = goes_on (from_2 (put_first_3_of_slice_known_5_1 c)) c.put_first-4.ensures in (done.kept, done.firsts)

pub put_row_spec : {M : Type 1} → statement M
put_row_spec =
    tie.close
    (tie.spec
    add_e
    mul_row
    sub_row
    part_row_start
    part_row_end
    row_requires
    add_put_first
    array_read_put_first
    put_first_requires
    add_put_first_2
    array_read_put_first_2
    put_first_requires_2
    add_put_first_3
    array_read_put_first_3
    put_first_requires_3
    array_read_put_first_4
    put_first_requires_4
    same_length
    returns)
