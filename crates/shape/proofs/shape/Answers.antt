-- `shape::shape` meets its contract.
-- Assumes nothing.
use mathlib.Core.Path.{◌≡◌, sym, ◌∙◌}
use mathlib.Core.Bool.{true}
use Rattle.rules.specs.Pairing.{call_sizes, sizes_fit}
use Rattle.shape.specs.Shapes.{too_short, long_enough, checked, unsized, unlengthened, done}
use Rattle.shape.proofs.shape.Goals as goal

pub returns-then-not-sizes_fit : goal.returns-then-not-sizes_fit
unfolding call_sizes sizes_fit
returns-then-not-sizes_fit c =
    let a = c.args in
    let x = unsized a.n a.list.now a.work.now (sym c.if-not-sizes_fit.ensures) c.refuse.ensures in
    record { result_value = x.0; work_after = x.1 }

pub returns-then-work-wide : goal.returns-then-work-wide
unfolding call_sizes sizes_fit
returns-then-work-wide c =
    let a = c.args in
    let x = unlengthened a.n a.list.now a.work.now (sym c.if-not-sizes_fit.ensures)
    (too_short a.n a.list.now a.work.now c.wide.ensures c.if-work-wide.true) c.refuse-then-work-wide.ensures in
    record { result_value = x.0; work_after = x.1 }

pub shape_fit-a-requires : goal.shape_fit-a-requires
unfolding call_sizes sizes_fit
shape_fit-a-requires c =
    let a = c.args in
    checked a.n a.list.now a.work.now
    (sym c.if-not-sizes_fit.ensures, long_enough a.n a.list.now a.work.now c.wide.ensures c.if-work-wide.false)

pub returns : goal.returns
unfolding call_sizes sizes_fit
returns c =
    let a = c.args in
    let y = c.shape_fit-a.ensures in
    let x = done a.n a.list.now a.work.now
    (sym c.if-not-sizes_fit.ensures, long_enough a.n a.list.now a.work.now c.wide.ensures c.if-work-wide.false)
    (y.result_value, y.work_len_unchanged) c.clear.ensures in
    record { result_value = x.0; work_after = x.1 }
