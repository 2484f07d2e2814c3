-- `corners::check_rows` meets its contract: row after row, the rows before hold no unfit corner.
-- Assumes nothing.
use Rattle.std.proofs.Common.{◌≡◌, ◌+◌, ◌-◌, ◌*◌, ◌∙◌, refl, ap, arith}
use Rattle.lists.specs.Search.{at}
use Rattle.rules.specs.Elements.{side_at}
use Rattle.corners.specs.Scan.{scan_unfit, scan_row, scan_repeated, scan_nothing, first_le_four}
use Rattle.corners.proofs.check_rows.Goals as goal

pub overflow_add-a-in-Some : goal.overflow_add-a-in-Some
overflow_add-a-in-Some c = omega (arith, first_le_four (at c.row-corners.result 3) c.in-Some.ensures)

pub code_at-requires : goal.code_at-requires
code_at-requires c = omega (arith, first_le_four (at c.row-corners.result 3) c.in-Some.ensures)

pub returns-in-Some : goal.returns-in-Some
returns-in-Some c =
    let a = 4 * c.loop-f.f in
    let i = c.in-Some.i in
    let e : a + i ≡ a + (i + 1) - 1 = omega arith in
    let unfit = rw c.row-corners.ensures at c.in-Some.ensures in
    rw c.at_side.ensures (scan_unfit c.loop-f.invariant refl (omega arith) unfit (λ z. omega arith) refl (c.code_at.ensures ∙ ap side_at e))

pub loop-f-preserved : goal.loop-f-preserved
loop-f-preserved c =
    let e : 4 * (c.loop-f.f + 1) ≡ 4 * c.loop-f.f + 4 = omega arith in
    let fit = rw c.row-corners.ensures at c.in_default.ensures in
    let repeated = rw c.row-corners.ensures at c.first_repeated-repeated.ensures in
    rw e (scan_row c.loop-f.invariant refl (omega arith) fit repeated)

pub returns-then-repeated-ne0 : goal.returns-then-repeated-ne0
returns-then-repeated-ne0 c = rw c.at_side-then-repeated-ne0.ensures (scan_repeated c.loop-f.invariant (omega arith) c.if-repeated-ne0.true)

pub returns : goal.returns
returns c = scan_nothing c.loop-f.invariant (omega arith) c.if-repeated-ne0.false
