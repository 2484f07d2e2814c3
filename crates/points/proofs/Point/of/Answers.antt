-- `points::Point::of` meets its contract.
-- Assumes nothing.
use Rattle.std.proofs.Common.{refl, arith}
use Rattle.points.specs.Placing.{point_got}
use Rattle.points.proofs.Point.of.Goals as goal

pub returns : goal.returns
returns c =
    let got = point_got c.args.v c.args.points.now c.wide-i.ensures in
    (got 0 _ (omega arith), got 1 _ refl, got 2 _ refl)
