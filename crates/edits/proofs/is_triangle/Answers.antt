-- `edits::is_triangle` meets its contract.
-- Assumes nothing.
use mathlib.Core.Path.{ap, ◌∙◌}
use Prim.Native.Nat.{ℕ}
use lib.Dec.{eqb}
use mathlib.Core.List.{List}
use Rattle.rules.specs.Elements.{sides_by}
use Rattle.lists.specs.Search.{at}
use Rattle.halfedge.specs.Rows.{row_sides}
use Rattle.edits.proofs.is_triangle.Goals as goal

pub returns : goal.returns
returns c =
    let a = c.args in
    ap (λ (k : ℕ). eqb k 3) (c.side_count.ensures ∙ ap (λ (r : List ℕ). sides_by (at r 3)) c.row_at.ensures ∙ row_sides a.list.now a.f)
