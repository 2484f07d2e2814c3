-- `borders::put_vertex` meets its contract.
-- Assumes nothing.
use mathlib.Core.Path.{refl}
use borrow.Author.Tests.{not-true, not-false}
use Rattle.halfedge.specs.Codes.{of_border, of_side}
use Rattle.borders.specs.Numbers.{kept, put}
use Rattle.borders.proofs.put_vertex.Goals as goal

pub returns-then-not-is_border : goal.returns-then-not-is_border
returns-then-not-is_border c = put (of_side _ c.is_border.ensures (not-true _ c.if-not-is_border.true-raw)) refl

pub returns-else-not-is_border : goal.returns-else-not-is_border
returns-else-not-is_border c = kept (of_border _ c.is_border.ensures (not-false _ c.if-not-is_border.false-raw)) refl
