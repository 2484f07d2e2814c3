-- `recover::walk_tables` meets its contract.
-- Assumes nothing.
use Rattle.recover.specs.Recovering.{walk_filled}
use Rattle.recover.proofs.walk_tables.Goals as goal

pub returns : goal.returns
returns c =
    let h = c.requires in
    walk_filled h.0 h.1 c.fill.ensures c.link.ensures c.walk.ensures
