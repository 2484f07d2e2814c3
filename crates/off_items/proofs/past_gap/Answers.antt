-- `off_items::past_gap` meets its contract.
-- Assumes nothing.
use Rattle.off_items.specs.Parting.{past_comment, past_blank}
use Rattle.off_items.proofs.past_gap.Goals as goal

pub returns-then-text-p-eq35 : goal.returns-then-text-p-eq35
returns-then-text-p-eq35 c = past_comment _ c.requires.0 c.if-text-p-eq35.true c.line_end.ensures

pub returns-else-text-p-eq35 : goal.returns-else-text-p-eq35
returns-else-text-p-eq35 c = past_blank _ c.requires.0 c.requires.1 c.if-text-p-eq35.false
