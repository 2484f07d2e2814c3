-- `contract::clear_between` meets its contract.
-- Assumes nothing.
use Rattle.contract.specs.Clearing.{cleared_between}
use Rattle.contract.proofs.clear_between.Goals as goal

pub returns : goal.returns
returns c =
    cleared_between c.args.new c.args.old c.args.out.now c.requires.0 c.requires.1 c.clear.ensures
