-- `corners::first_repeated` meets its contract.
-- Assumes nothing.
use Rattle.std.proofs.Common.{◌≡◌, ◌+◌, ◌-◌, ◌∙◌, refl, ap, arith}
use Rattle.lists.specs.Search.{at}
use Rattle.rules.specs.Elements.{side_at}
use Rattle.corners.specs.Faults.{none, new}
use Rattle.corners.specs.Scan.{first_le_four}
use Rattle.corners.proofs.first_repeated.Goals as goal

pub overflow_add-a : goal.overflow_add-a
overflow_add-a c = omega (arith, first_le_four (at c.args.row 3) c.in-Some.ensures)

pub code_at-requires : goal.code_at-requires
code_at-requires c = omega (arith, first_le_four (at c.args.row 3) c.in-Some.ensures)

pub returns-in-Some : goal.returns-in-Some
returns-in-Some c =
    let i = c.in-Some.i in
    let e : c.args.a + i ≡ c.args.a + (i + 1) - 1 = omega arith in
    new (i + 1) c.if-found-ne0.false (λ z. omega arith) c.in-Some.ensures (c.code_at.ensures ∙ ap side_at e)

pub returns-in-None : goal.returns-in-None
returns-in-None c = none c.if-found-ne0.false c.in-None.ensures refl
