-- `sides::is_side` meets its contract.
-- Assumes nothing.
use native.Mathlib.Omega.{arith}
use mathlib.Core.Logic.{inl, inr}
use Rattle.sides.proofs.Sided.{no_element, by_count}
use Rattle.sides.proofs.is_side.Goals.{then-f-lt1-via-then-f-lt1, then-f-lt1-via-else-f-lt1+then-list-wide}
use Rattle.sides.proofs.is_side.Goals as goal

pub returns-then-f-lt1 : goal.returns-then-f-lt1
returns-then-f-lt1 c =
    elim c.then-f-lt1.branch [
      | then-f-lt1-via-then-f-lt1 w ↦ no_element _ _ _ _ c.element_of-f.ensures c.number_of-i.ensures (inl w.if-f-lt1.true)
      | then-f-lt1-via-else-f-lt1+then-list-wide w ↦ no_element _ _ _ _ c.element_of-f.ensures c.number_of-i.ensures (inr (omega (arith, w.wide.ensures, w.if-list-wide.true)))
    ]

pub returns-else-i-lt4 : goal.returns-else-i-lt4
returns-else-i-lt4 c =
    by_count _ _ _ _ c.element_of-f.ensures c.number_of-i.ensures (omega arith) (omega arith) (omega arith) c.row_at.ensures c.side_count.ensures
