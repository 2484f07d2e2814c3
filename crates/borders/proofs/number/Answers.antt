-- `borders::number` meets its contract: the places before p are done.
-- Assumes nothing.
use Rattle.std.proofs.Common.{◌≡◌, length, arith}
use Rattle.borders.proofs.number.Goals as goal

pub returns : goal.returns
returns c = let e : c.loop-p.p ≡ length c.args.list.now = omega arith in rw e at c.loop-p.invariant
