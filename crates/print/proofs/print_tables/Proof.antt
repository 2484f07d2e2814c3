-- `print::print_tables` meets its contract: the line of V2e, those of the elements, the line of B2e.
-- Assumes nothing.
use borrow.Author.Rules.{rules}
use mathlib.Core.List.{List, ◌++◌}
use mathlib.Core.Path.{refl}
use Prim.Native.Nat.{ℕ, ◌+◌, ◌*◌, ◌/◌, ◌≤◌}
use lib.ListN.{length}
use Rattle.print.specs.Lines.{joined, width_of, row_line, line_of, table_lines}
use Rattle.print.specs.LineLaws.{rows_inside, rows_same, has_room_lem, no_room, nothing_shown, written_next, counts}
use native.Mathlib.Omega.{arith}
use Rattle.print.proofs.print_tables.Statement.{statement}
use Rattle.print.proofs.print_tables.Tie as tie

abbrev begun : tie.After-shared_slice_known-3-1 → tie.Start
begun c = c.before.before.before.before

abbrev numbers : tie.Start → ℕ
numbers s = length s.args.v2e.now + length s.args.b2e.now + 5 * (length s.args.e2e.now / width_of s.args.columns) + 1

abbrev lines : tie.Start → List ℕ
lines s = table_lines (width_of s.args.columns) s.args.v2e.now s.args.e2e.now s.args.b2e.now

-- the rows were counted
abbrev counted : tie.After-row_count-m → tie.Start
counted c = begun c.before

row_count_requires : tie.Need-row_count-m-requires
row_count_requires c κs = search rules

add_if1 : tie.Need-overflow_add-v2e
add_if1 c = search rules

mul_if1 : tie.Need-overflow_mul-m
mul_if1 c = let few = c.row_count-m.ensures.1 in search rules

add_if1_2 : tie.Need-overflow_add-v2e-2
add_if1_2 c = let few = c.row_count-m.ensures.1 in search rules

add_if1_3 : tie.Need-overflow_add-v2e-3
add_if1_3 c = let few = c.row_count-m.ensures.1 in search rules

returns : tie.Need-returns-then-out-v2e
returns c =
    let s = counted c.before in
    let rows = c.before.row_count-m.ensures.0 in
    let w = nothing_shown s.args.out.now (lines s) 0 (no_room (length s.args.out.now) 0 (numbers s) (omega arith)) in
    (w, (omega arith, refl))

put_line_requires : tie.Need-put_line-p-requires
put_line_requires c κs = search rules

width_requires : tie.Need-width-requires
width_requires c κs = search rules

-- states by how far they lie back
abbrev put_line_p_of_width : tie.After-width → tie.After-put_line-p
put_line_p_of_width c = c.before.before.before.before

put_rows_requires : tie.Need-put_rows-q-requires
put_rows_requires c κs =
    let first = (put_line_p_of_width c) in
    let tested = first.before.before in
    let a = (counted tested.before).args in
    let rows = tested.before.row_count-m.ensures.0 in
    (omega (arith, first.put_line-p.ensures.1, tested.if-out-v2e.false), rows_inside a.columns (length a.e2e.now) c.width.ensures rows)

put_line_requires_2 : tie.Need-put_line-requires
put_line_requires_2 c κs = search rules

same_length : tie.Need-shape_of-out
same_length c = search rules

returns_2 : tie.Need-returns
returns_2 c =
    let ended = c.before.before in
    let rowed = ended.before.before.before.before in
    let first = rowed.before.before.before.before.before in
    let tested = first.before.before in
    let s = counted tested.before in
    let a = s.args in
    let width = width_of a.columns in
    let rows = joined (row_line width a.e2e.now) (length a.e2e.now / width) in
    let last = line_of 66 a.b2e.now in
    let h = tested.if-out-v2e.false in
    let room = has_room_lem (length a.out.now) 0 (numbers s) (omega arith) in
    let v = first.put_line-p.ensures in
    let counting = tested.before.row_count-m.ensures.0 in
    let e = rowed.put_rows-q.ensures in
    let own = rows_same a.e2e.now rowed.before.width.ensures counting in
    let b = ended.put_line.ensures in
    let fits : ended.put_line.result ≤ length a.out.now = omega (arith, v.1, e.1, b.1) in
    let w = written_next a.out.now (line_of 86 a.v2e.now) (rows ++ last) 0 v.0 (written_next _ rows last _ (rw own at e.0) b.0) in
    (rw room w, counts a.out.now (lines s) fits w)

pub print_tables_spec : {M : Type 1} → statement M
print_tables_spec =
    tie.close
    (tie.spec
    row_count_requires
    add_if1
    mul_if1
    add_if1_2
    add_if1_3
    returns
    put_line_requires
    width_requires
    put_rows_requires
    put_line_requires_2
    same_length
    returns_2)
