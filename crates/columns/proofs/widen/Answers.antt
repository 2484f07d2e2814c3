-- `columns::widen` meets its contract: up to p the entries are in their four columns.
-- Assumes nothing.
use Rattle.std.proofs.Common.{length, arith}
use Rattle.lists.specs.SearchLaws.{is_tab}
use Rattle.rules.specs.Elements.{side_at}
use Rattle.rules.specs.Tables.{entry_of}
use Rattle.columns.proofs.widen.Goals as goal

pub returns : goal.returns
returns c =
    let a = c.args in
    is_tab (length a.out.now) (λ k. entry_of 3 a.e2e.now (side_at k)) c.loop-p.out (omega arith) (λ k h. c.loop-p.invariant k (omega arith))
