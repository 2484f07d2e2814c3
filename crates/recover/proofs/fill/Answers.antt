-- `recover::fill` meets its contract.
-- Assumes nothing.
use Rattle.recover.specs.Recovering.{filled}
use Rattle.recover.proofs.fill.Goals as goal

pub returns : goal.returns
returns c =
    filled c.args.n c.args.m c.args.v2e.now c.args.e2e.now c.args.work.now _ c.requires.0 c.requires.1 c.copy.ensures c.spread.ensures
