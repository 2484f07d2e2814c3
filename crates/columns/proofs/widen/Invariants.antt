-- `columns::widen` meets its contract: up to p the entries are in their four columns.
-- Assumes nothing.
use Rattle.std.proofs.Common.{◌≡◌, ℕ, ◌<◌}
use Rattle.lists.specs.Search.{at}
use Rattle.rules.specs.Elements.{side_at}
use Rattle.rules.specs.Tables.{entry_of}
use Rattle.columns.proofs.widen.Given as goal

abbrev pub invariant-loop-p : goal.invariant-loop-p
invariant-loop-p l = (k : ℕ) → k < l.p → at l.out k ≡ entry_of 3 l.e2e (side_at k)
