-- `links::link_place` meets its contract.
-- Assumes nothing.
use Rattle.std.proofs.Common.{rules, ◌+◌, arith}
use Rattle.lists.specs.Search.{at}
use Rattle.halfedge.specs.Codes.{of_border}
use Rattle.links.specs.Links.{link_put}
use Rattle.links.proofs.link_place.Goals as goal

pub returns : goal.returns
returns c =
    let entry = at c.args.work.now (c.args.n + c.args.p) in
    let border = of_border entry c.is_border.ensures (search rules) in
    link_put c.requires.0 c.requires.1 c.wide-b.result _ (omega arith) (omega arith) (omega arith) (omega arith) c.code_at.ensures
