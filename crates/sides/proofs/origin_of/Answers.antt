-- `sides::origin_of` meets its contract.
-- Assumes nothing.
use Rattle.sides.proofs.Sided.{row_there, origin_read}
use Rattle.sides.proofs.origin_of.Goals as goal

pub part_at-requires : goal.part_at-requires
part_at-requires c = row_there _ _ c.before.before.requires c.element_of.ensures

pub returns : goal.returns
returns c =
    let numbered = c.before in
    let read = numbered.before in
    let split = read.before in
    origin_read _ _ split.before.before.requires split.element_of.ensures numbered.number_of.ensures read.part_at.ensures c.corner_at.ensures
