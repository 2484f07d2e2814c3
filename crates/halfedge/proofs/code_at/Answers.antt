-- `halfedge::code_at` meets its contract.
-- Assumes nothing.
use Rattle.rules.specs.Elements.{side_at}
use Rattle.halfedge.proofs.code_at.Goals as goal

pub returns : goal.returns
unfolding side_at
returns c = c.side_code.ensures
