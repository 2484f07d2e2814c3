-- `swap::third` meets its contract.
-- Assumes nothing.
use mathlib.Core.Path.{ap, ◌∙◌}
use Rattle.halfedge.specs.Rows.{corner_of}
use Rattle.swap.proofs.third.Goals as goal

pub returns : goal.returns
returns c = c.corner.ensures ∙ ap (corner_of c.args.row) c.previous_side.ensures
