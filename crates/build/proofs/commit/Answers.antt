-- `build::commit` meets its contract.
-- Assumes nothing.
use Rattle.build.specs.Building.{copied}
use Rattle.build.proofs.commit.Goals as goal

pub returns : goal.returns
returns c =
    let a = c.args in
    copied a.n a.columns a.m a.k a.work.now a.v2e.now a.e2e.now a.b2e.now c.requires.k_in_bounds
    c.copy.ensures c.put.ensures c.copy-2.ensures
