-- `shape::give_signed` meets its contract.
-- Assumes nothing.
use mathlib.Core.Path.{◌∙◌}
use Rattle.shape.specs.Shapes.{not_negative, negative}
use Rattle.shape.proofs.give_signed.Goals as goal

pub returns-then-less-more : goal.returns-then-less-more
returns-then-less-more c =
    c.give_two.ensures ∙ not_negative c.args.more c.args.less c.requires.0 c.if-less-more.true

pub returns : goal.returns
returns c =
    c.give_two-2.ensures ∙ negative c.args.more c.args.less c.requires.1 c.if-less-more.false
