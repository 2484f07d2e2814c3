-- `contract::third_of` meets its contract.
-- Assumes nothing.
use mathlib.Core.Path.{ap, ◌∙◌}
use Rattle.rules.specs.Elements.{origin}
use Rattle.edit_rules.specs.Swap.{third}
use Rattle.theory.specs.Steps.{previous_side_lem}
use Rattle.contract.proofs.third_of.Goals as goal

pub origin_of-requires : goal.origin_of-requires
origin_of-requires c = rw c.previous_code.ensures (previous_side_lem c.args.list.now c.args.s c.requires)

pub returns : goal.returns
unfolding third
returns c = c.origin_of.ensures ∙ ap (origin c.args.list.now) c.previous_code.ensures
