-- `halfedge::HalfEdge::border` meets its contract. Each way out goes by the range test.
-- Assumes nothing.
use mathlib.Core.Path.{◌∙◌, sym}
use Prim.Native.Nat.{◌≤◌}
use Rattle.rules.specs.Elements.{max_border}
use Rattle.halfedge.specs.Codes.{border_code, border_code_lem}
use Rattle.halfedge.proofs.Within.{inside, failed, passed}
use Rattle.halfedge.proofs.HalfEdge.border.Goals as goal
use Rattle.halfedge.proofs.HalfEdge.border.Goals.{Else-not-is_within}

bounds : (c : Else-not-is_within) → let b = c.before.before.args.b in (1 ≤ b) × (b ≤ max_border)
bounds c = inside 1 max_border c.before.before.args.b (passed c.before.is_within.ensures c.if-not-is_within.false-raw)

pub returns-then-not-is_within : goal.returns-then-not-is_within
unfolding border_code
returns-then-not-is_within c = simp (failed c.before.is_within.ensures c.if-not-is_within.true-raw)

pub border_code-requires : goal.border_code-requires
border_code-requires c = (bounds c).1

pub returns : goal.returns
returns c = c.border_code.ensures ∙ sym (border_code_lem _ (bounds c.before).0 (bounds c.before).1)
