-- `borders::number` meets its contract: the places before p are done.
-- Assumes nothing.
use Rattle.borders.specs.Numbers.{Numbering}
use Rattle.borders.proofs.number.Given as goal

abbrev pub invariant-loop-p : goal.invariant-loop-p
invariant-loop-p l = Numbering l.n l.list l.p l.counts.borders l.counts.sides l.work
