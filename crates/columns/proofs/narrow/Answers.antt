-- `columns::narrow` meets its contract: up to p the entries are in their three columns.
-- Assumes nothing.
use Rattle.std.proofs.Common.{◌+◌, ◌*◌, ◌/◌, arith}
use Rattle.lists.specs.Search.{at}
use Rattle.lists.specs.SearchLaws.{is_tab}
use Rattle.rules.specs.Elements.{elements}
use Rattle.theory.specs.Columns.{narrowed}
use Rattle.columns.proofs.narrow.Goals as goal

pub returns : goal.returns
unfolding narrowed
returns c =
    let table = c.args.table.now in
    is_tab (3 * elements table) (λ k. at table (k + k / 3)) c.loop-p.out (omega arith) (λ k h. c.loop-p.invariant k (omega arith))
