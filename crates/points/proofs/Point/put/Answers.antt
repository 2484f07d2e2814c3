-- `points::Point::put` meets its contract.
-- Assumes nothing.
use Rattle.points.specs.Placing.{point_put}
use Rattle.points.proofs.Point.put.Goals as goal

pub returns : goal.returns
returns c =
    let a = c.args in point_put a.n a.self.x a.self.y a.self.z a.points.now c.wide-i.ensures c.requires
