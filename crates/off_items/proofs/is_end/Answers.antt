-- `off_items::is_end` meets its contract.
-- Assumes nothing.
use borrow.Author.Tests.{le-leb, lt-leb}
use Rattle.off_items.specs.Words.{is_end}
use Rattle.off_items.proofs.is_end.Goals as goal

pub returns-then-text-p : goal.returns-then-text-p
unfolding is_end
returns-then-text-p c = simp (le-leb _ _ c.if-text-p.true)

pub returns-else-text-p : goal.returns-else-text-p
unfolding is_end
returns-else-text-p c = rw (lt-leb _ _ c.if-text-p.false) c.is_gap.ensures
