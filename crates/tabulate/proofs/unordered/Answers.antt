-- `tabulate::unordered` meets its contract.
-- Assumes nothing.
use Rattle.tabulate.specs.Results.{walk_needs, walked, left_out}
use Rattle.tabulate.proofs.unordered.Goals as goal

pub walk-requires : goal.walk-requires
walk-requires c = walk_needs c.requires c.wide-vertices.ensures

pub unordered_vertex-requires : goal.unordered_vertex-requires
unordered_vertex-requires c =
    let s = c.requires in (walked s c.wide-vertices.ensures c.walk.ensures, s.fit)

pub returns : goal.returns
returns c =
    (left_out c.requires c.wide-vertices.ensures c.walk.ensures c.unordered_vertex.ensures, c.walk.ensures.long)
