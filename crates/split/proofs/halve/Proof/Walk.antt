-- `split::halve` meets its contract.
-- Assumes nothing.
use mathlib.Core.Path.{◌≡◌, ap, ◌∙◌}
use Prim.Native.Nat.{ℕ, ◌/◌, ◌%◌}
use native.Mathlib.Omega.{arith}
use Rattle.rules.specs.Elements.{row}
use Rattle.edit_rules.specs.Edits.{with_row}
use Rattle.halfedge.specs.Rows.{row_of}
use Rattle.split.specs.NewRows.{row_there, number_there, next_read, halves}
use borrow.Author.Rules.{rules}
use Rattle.split.proofs.halve.Tie as tie

element_is : (c : tie.After-row_at-row) → c.element_of-f.result ≡ c.args.s / 8
element_is c = c.element_of-f.ensures

number_is : (c : tie.After-row_at-row) → c.number_of-i.result ≡ c.args.s % 8
number_is c = c.number_of-i.ensures

row_is : (c : tie.After-row_at-row) → c.row_at-row.result ≡ row_of (row c.args.list.now (c.args.s / 8))
row_is c = c.row_at-row.ensures ∙ ap (λ (f : ℕ). row_of (row c.args.list.now f)) (element_is c)

pub element_of_requires : tie.Need-element_of-f-requires
element_of_requires c κs = search rules

pub number_of_requires : tie.Need-number_of-i-requires
number_of_requires c κs = search rules

pub row_at_requires : tie.Need-row_at-row-requires
row_at_requires c κs =
    omega (arith, row_there c.requires, c.element_of-f.ensures)

pub next_side_requires : tie.Need-next_side-j-requires
next_side_requires c κs = search rules

pub with_corner_requires : tie.Need-with_corner-requires
with_corner_requires c κs = (next_read c.requires (row_is c.before) (number_is c.before) c.next_side-j.ensures).1

pub put_row_requires : tie.Need-put_row-requires
put_row_requires c κs = omega (arith, row_there c.requires, element_is c.before.before.before)

pub add_put_row : tie.Need-overflow_add-m
add_put_row c = search rules

pub with_corner_requires_2 : tie.Need-with_corner-requires-2
with_corner_requires_2 c κs = omega (arith, number_there c.requires, number_is c.before.before.before.before.before.before)

pub put_row_requires_2 : tie.Need-put_row-requires-2
put_row_requires_2 c κs = search rules

pub same_length : tie.Need-shape_of-list
same_length c = search rules

pub returns : tie.Need-returns
returns c =
    let list = c.args.list.now in
    halves c.requires c.args.v (row_is c.before.before.before.before.before.before.before.before.before.before.before) (number_is c.before.before.before.before.before.before.before.before.before.before.before) c.next_side-j.ensures c.with_corner.ensures c.with_corner-2.ensures
    (c.put_row.ensures ∙ ap (λ (f : ℕ). with_row f (row_of c.with_corner.result) list) (element_is c.before.before.before.before.before.before.before.before.before.before.before)) c.put_row-2.ensures
