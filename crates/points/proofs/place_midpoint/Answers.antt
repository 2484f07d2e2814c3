-- `points::place_midpoint` meets its contract.
-- Assumes nothing.
use Rattle.std.proofs.Common.{ap, ◌∙◌, List}
use lib.Ieee.{Float}
use Rattle.edit_rules.specs.Split.{with_point}
use Rattle.points.specs.Placing.{middle}
use Rattle.points.proofs.place_midpoint.Goals as goal

pub returns : goal.returns
returns c =
    let a = c.args in
    let P = a.points.now in
    let same = middle P a.a a.b c.of-p.ensures c.of-q.ensures c.midpoint.ensures in
    c.put.ensures ∙ ap (λ (p : List Float). with_point a.n p P) same
