-- `halfedge::corner_at` meets its contract. Each way out goes by the range test.
-- Assumes nothing.
use native.Mathlib.Omega.{arith}
use Prim.Native.Nat.{◌≤◌}
use Rattle.halfedge.specs.Rows.{corner_of}
use Rattle.halfedge.proofs.Within.{inside, failed, passed}
use Rattle.halfedge.proofs.corner_at.Goals as goal
use Rattle.halfedge.proofs.corner_at.Goals.{Else-not-is_within}

bounds : (c : Else-not-is_within) → let i = c.before.before.before.args.i in (1 ≤ i) × (i ≤ 4)
bounds c = inside 1 4 _ (passed c.before.is_within.ensures c.if-not-is_within.false-raw)

pub returns-then-not-is_within : goal.returns-then-not-is_within
unfolding corner_of
returns-then-not-is_within c = simp (failed c.before.is_within.ensures c.if-not-is_within.true-raw)

pub overflow_sub-i : goal.overflow_sub-i
overflow_sub-i c = omega (arith, bounds c)

pub returns : goal.returns
unfolding corner_of
returns c =
    let widened = c.before in
    let tested = widened.before in
    simp (passed tested.before.is_within.ensures tested.if-not-is_within.false-raw, c.entry.ensures, widened.wide.ensures)
