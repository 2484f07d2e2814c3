-- `split::halve` meets its contract, by its walk.
-- Assumes nothing.
mod Walk
use Rattle.split.proofs.halve.Proof.Walk.{element_of_requires, number_of_requires, row_at_requires, next_side_requires, with_corner_requires, put_row_requires, add_put_row, with_corner_requires_2, put_row_requires_2, same_length, returns}
use Rattle.split.proofs.halve.Statement.{statement}
use Rattle.split.proofs.halve.Tie as tie

pub halve_spec : {M : Type 1} → statement M
halve_spec =
    tie.close
    (tie.spec
    element_of_requires
    number_of_requires
    row_at_requires
    next_side_requires
    with_corner_requires
    put_row_requires
    add_put_row
    with_corner_requires_2
    put_row_requires_2
    same_length
    returns)
