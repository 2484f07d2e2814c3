-- `recover::propose` meets its contract.
-- Assumes nothing.
use Rattle.recover.specs.Recovering.{proposed}
use Rattle.recover.proofs.propose.Goals as goal

pub returns : goal.returns
returns c =
    proposed c.requires c.walk_tables.ensures c.copy.ensures c.copy-2.ensures
