-- `off::read_row` meets its contract: i corners stand in the row, and zeros after them.
-- Assumes nothing.
use Rattle.off.specs.Writing.{Reading}
use Rattle.off.proofs.read_row.Given as goal

abbrev pub invariant-loop-i : goal.invariant-loop-i
invariant-loop-i l = Reading l.text l.p l.i l.end l.row
