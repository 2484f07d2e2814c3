-- `off_items::pass` meets its contract: the items passed so far are of the kind.
-- Assumes nothing.
use Rattle.off_items.specs.Reading.{Going}
use Rattle.off_items.proofs.pass.Given as goal

abbrev pub invariant-loop : goal.invariant-loop
invariant-loop l = Going l.kind l.text l.p l.counter l.at
