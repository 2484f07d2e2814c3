-- `halfedge::next_side` meets its contract.
-- Assumes nothing.
use Prim.Native.Nat.{ℕ}
use Rattle.rules.specs.Elements.{next_number}
use Rattle.halfedge.specs.Rows.{step_in, turned}
use Rattle.halfedge.proofs.Turns.{by_kinds}
use Rattle.halfedge.proofs.next_side.Goals as goal

pub returns : goal.returns
unfolding turned
returns c =
    let quadrilateral = c.before in
    let triangle = quadrilateral.before in
    let args = triangle.before.args in
    by_kinds (λ (k : ℕ). step_in next_number k args.i) args.row triangle.next.ensures quadrilateral.next-2.ensures c.by_kind.ensures
