-- `points::close_point` meets its contract.
-- Assumes nothing.
use lib.Ieee
use Rattle.points.specs.Placing.{closed}
use Rattle.points.proofs.close_point.Goals as goal

pub returns : goal.returns
unfolding Ieee.of_bits
returns c = closed c.args.n c.args.b c.args.points.now c.of-last.ensures c.put.ensures c.put-2.ensures
