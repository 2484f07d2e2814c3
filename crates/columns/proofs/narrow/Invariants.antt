-- `columns::narrow` meets its contract: up to p the entries are in their three columns.
-- Assumes nothing.
use Rattle.std.proofs.Common.{◌≡◌, ℕ, ◌+◌, ◌/◌, ◌<◌}
use Rattle.lists.specs.Search.{at}
use Rattle.columns.proofs.narrow.Given as goal

abbrev pub invariant-loop-p : goal.invariant-loop-p
invariant-loop-p l = (k : ℕ) → k < l.p → at l.out k ≡ at l.table (k + k / 3)
