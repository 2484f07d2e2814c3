-- `halfedge::by_kind` meets its contract.
-- Assumes nothing.
use borrow.Author.Tests.{eq-eqb, ne_eqb}
use Rattle.lists.specs.Search.{at}
use Rattle.halfedge.specs.Rows.{by_kind}
use Rattle.halfedge.proofs.by_kind.Goals as goal

pub returns-then-row-eq0 : goal.returns-then-row-eq0
unfolding by_kind
returns-then-row-eq0 c = rw (eq-eqb (at c.args.row 3) 0 c.if-row-eq0.true, by_kind)

pub returns-else-row-eq0 : goal.returns-else-row-eq0
unfolding by_kind
returns-else-row-eq0 c = rw (ne_eqb _ _ c.if-row-eq0.false, by_kind)
