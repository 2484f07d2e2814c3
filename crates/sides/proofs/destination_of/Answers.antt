-- `sides::destination_of` meets its contract.
-- Assumes nothing.
use Rattle.sides.proofs.Sided.{row_there, destination_read}
use Rattle.sides.proofs.destination_of.Goals as goal

pub row_at-row-requires : goal.row_at-row-requires
row_at-row-requires c = row_there _ _ c.before.before.requires c.element_of.ensures

pub returns : goal.returns
returns c =
    let turned = c.before in
    let numbered = turned.before in
    let read = numbered.before in
    let split = read.before in
    destination_read _ _ split.before.before.requires split.element_of.ensures numbered.number_of.ensures read.row_at-row.ensures
    turned.next_side.ensures c.corner.ensures
