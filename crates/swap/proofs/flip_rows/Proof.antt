-- `swap::flip_rows` meets its contract.
-- Assumes nothing.
use mathlib.Core.Path.{◌≡◌}
use Prim.Native.Nat.{◌/◌, ◌%◌}
use native.Mathlib.Omega.{arith}
use lib.ListN.{length}
use Rattle.swap.specs.Swaps.{inside, flips}
use borrow.Author.Rules.{rules}
use Rattle.swap.proofs.flip_rows.Statement.{statement}
use Rattle.swap.proofs.flip_rows.Tie as tie

-- the two codes taken apart
split : (c : tie.After-number_of-j) →
    let a = c.args in
    (c.element_of-f.result ≡ a.s / 8)
    × (c.number_of-i.result ≡ a.s % 8) × (c.element_of-g.result ≡ a.t / 8) × (c.number_of-j.result ≡ a.t % 8)
split c = (c.element_of-f.ensures, c.number_of-i.ensures, c.element_of-g.ensures, c.number_of-j.ensures)

element_of_requires : tie.Need-element_of-f-requires
element_of_requires c κs = search rules

number_of_requires : tie.Need-number_of-i-requires
number_of_requires c κs = search rules

element_of_requires_2 : tie.Need-element_of-g-requires
element_of_requires_2 c κs = search rules

number_of_requires_2 : tie.Need-number_of-j-requires
number_of_requires_2 c κs = search rules

row_at_requires : tie.Need-row_at-row-requires
row_at_requires c κs = omega (arith, inside c.requires, split c)

row_at_requires_2 : tie.Need-row_at-other-requires
row_at_requires_2 c κs =
    omega (arith, inside c.requires, split c.before)

third_requires : tie.Need-third-c-requires
third_requires c κs = search rules

third_requires_2 : tie.Need-third-d-requires
third_requires_2 c κs = search rules

flip_requires : tie.Need-flip-requires
flip_requires c κs = search rules

-- states by how far they lie back
abbrev number_of_j_of_put_row_arg_1 : tie.After-put_row-arg-1 → tie.After-number_of-j
number_of_j_of_put_row_arg_1 c = c.before.before.before.before.before.before

abbrev row_at_other_of_put_row_arg_2_1 : tie.After-put_row-arg-2-1 → tie.After-row_at-other
row_at_other_of_put_row_arg_2_1 c = c.before.before.before.before.before.before.before.before.before

abbrev number_of_j_of_put_row_arg_2_1 : tie.After-put_row-arg-2-1 → tie.After-number_of-j
number_of_j_of_put_row_arg_2_1 c = (row_at_other_of_put_row_arg_2_1 c).before.before

abbrev flip_of_slice_known_3_1 : tie.After-slice_known-3-1 → tie.After-flip
flip_of_slice_known_3_1 c = c.before.before.before.before.before.before.before.before.before

abbrev number_of_j_of_slice_known_3_1 : tie.After-slice_known-3-1 → tie.After-number_of-j
number_of_j_of_slice_known_3_1 c = (flip_of_slice_known_3_1 c).before.before.before.before.before

put_row_requires : tie.Need-put_row-requires
put_row_requires c κs =
    omega (arith, inside c.requires, split (number_of_j_of_put_row_arg_1 c))

flip_requires_2 : tie.Need-flip-requires-2
flip_requires_2 c κs = search rules

put_row_requires_2 : tie.Need-put_row-requires-2
put_row_requires_2 c κs =
    let same : length c.put_row.new.list ≡ length c.args.list.now = search rules in
    omega (arith, inside c.requires, split (number_of_j_of_put_row_arg_2_1 c))

same_length : tie.Need-shape_of-list
same_length c = search rules

returns : tie.Need-returns
returns c =
    let (f, i, g, j) = split (number_of_j_of_slice_known_3_1 c) in
    flips c.requires f i g j c.row_at-row.ensures c.row_at-other.ensures c.third-c.ensures c.third-d.ensures
    c.flip.ensures c.flip-2.ensures c.put_row.ensures c.put_row-2.ensures

pub flip_rows_spec : {M : Type 1} → statement M
flip_rows_spec =
    tie.close
    (tie.spec
    element_of_requires
    number_of_requires
    element_of_requires_2
    number_of_requires_2
    row_at_requires
    row_at_requires_2
    third_requires
    third_requires_2
    flip_requires
    put_row_requires
    flip_requires_2
    put_row_requires_2
    same_length
    returns)
