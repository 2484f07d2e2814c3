-- `columns::is_put` meets its contract.
-- Assumes nothing.
use mathlib.Core.Path.{ap, sym, ◌∙◌}
use mathlib.Core.List.{List}
use Prim.Native.Nat.{ℕ}
use Rattle.lists.specs.Tests.{same}
use Rattle.theory.specs.Columns.{narrowed}
use Rattle.columns.proofs.Narrowing.{as_it_is}
use Rattle.columns.proofs.is_put.Goals as goal

pub returns-then-columns-eq3 : goal.returns-then-columns-eq3
returns-then-columns-eq3 c =
    let a = c.args in
    c.is_narrow.ensures ∙ ap (λ (x : ℕ). same (narrowed x a.table.now) a.e2e.now) (sym c.if-columns-eq3.true)

pub returns : goal.returns
returns c =
    let a = c.args in
    c.is_same.ensures ∙ ap (λ (X : List ℕ). same X a.e2e.now) (sym (as_it_is a.table.now c.if-columns-eq3.false))
