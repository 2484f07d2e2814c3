-- `split::split_rows` meets its contract.
-- Assumes nothing.
use Rattle.halfedge.specs.Codes.{of_border, of_side}
use Rattle.split.specs.NewRows.{first_half, split_at_border, second_half, split_at_inner}
use borrow.Author.Rules.{rules}
use Rattle.split.proofs.split_rows.Statement.{statement}
use Rattle.split.proofs.split_rows.Tie as tie

halve_requires : tie.Need-halve-requires
halve_requires c κs = first_half c.requires

is_border_requires : tie.Need-is_border-requires
is_border_requires c κs = search rules

same_length : tie.Need-shape_of-list-then-is_border
same_length c = search rules

returns : tie.Need-returns-then-is_border
returns c =
    split_at_border c.requires c.halve.ensures (of_border _ c.is_border.ensures c.if-is_border.true)

add_halve : tie.Need-overflow_add-m
add_halve c = let h = (first_half c.requires).size in search rules

halve_requires_2 : tie.Need-halve-requires-2
halve_requires_2 c κs =
    second_half c.requires c.halve.ensures (of_side _ c.is_border.ensures c.if-is_border.false)

same_length_2 : tie.Need-shape_of-list
same_length_2 c = search rules

returns_2 : tie.Need-returns
returns_2 c =
    split_at_inner c.requires c.halve.ensures (of_side _ c.is_border.ensures c.if-is_border.false) c.halve-2.ensures

pub split_rows_spec : {M : Type 1} → statement M
split_rows_spec =
    tie.close
    (tie.spec
    halve_requires
    is_border_requires
    same_length
    returns
    add_halve
    halve_requires_2
    same_length_2
    returns_2)
