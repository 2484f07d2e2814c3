-- `columns::columns_of` meets its contract.
-- Assumes nothing.
use Rattle.std.proofs.Common.{◌≡◌, ◌+◌, ◌*◌, ◌-◌, ap, sym, ◌∙◌, arith}
use Rattle.lists.specs.Search.{at}
use Rattle.theory.specs.Turns.{triangles, quadrilateral}
use Rattle.columns.proofs.columns_of.Goals as goal

pub returns-then-has_fourth : goal.returns-then-has_fourth
returns-then-has_fourth c =
    let L = c.args.list.now in
    let (k, h, d) = c.has_fourth.ensures.found c.if-has_fourth.true in
    let here : 4 * (k + 1 - 1) + 3 ≡ k * 4 + 3 = omega arith in
    sym ((quadrilateral L).1 (k + 1, omega arith, omega arith, λ z. d (sym (ap (at L) here) ∙ z)))

pub returns-else-has_fourth : goal.returns-else-has_fourth
returns-else-has_fourth c =
    let L = c.args.list.now in
    sym ((triangles L).1 (λ f a b.
    let here : 4 * (f - 1) + 3 ≡ (f - 1) * 4 + 3 = omega arith in
    ap (at L) here ∙ c.has_fourth.ensures.none c.if-has_fourth.false (f - 1) (omega arith)))
