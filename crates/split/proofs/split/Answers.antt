-- `split::split` meets its contract. The laws of the whole call are those of any edit with points.
-- Assumes nothing.
use Rattle.std.proofs.lemmas.Result.{err_from_is_err_and}
use Rattle.edit_rules.specs.Split.{has_points, split, split_points, placed}
use Rattle.edits.specs.Holding.{lent_sized}
use Rattle.edits.specs.Fronts.{ready}
use Rattle.edits.specs.Leaving.{admitted}
use Rattle.edits.specs.Pointed.{denied, finished}
use Rattle.split.proofs.split.Goals as goal

pub returns-in_err-columns : goal.returns-in_err-columns
unfolding split_points has_points
returns-in_err-columns c =
    let a = c.args in
    let w = lent_sized a.size.now a.list.now a.v2e.now a.e2e.now a.b2e.now a.work.now in
    let p = err_from_is_err_and c.from_residual.result c.from_residual.ensures.1 in
    let x = denied w a.points.now (split w a.points.now a.code) (placed w a.points.now a.code)
    (rw c.wide.ensures at c.in_err-columns.ensures) in
    record { result_value = rw (p.1, p.2) x.0; work_after = x.1.0; points_after = x.1.1 }

pub split_fit-a-requires : goal.split_fit-a-requires
split_fit-a-requires c =
    let a = c.args in
    let w = lent_sized a.size.now a.list.now a.v2e.now a.e2e.now a.b2e.now a.work.now in ready w c.in_ok-columns.ensures

pub returns : goal.returns
unfolding split_points has_points
returns c =
    let a = c.args in
    let w = lent_sized a.size.now a.list.now a.v2e.now a.e2e.now a.b2e.now a.work.now in
    let edit = split w a.points.now a.code in
    let fit = c.split_fit-a.ensures in
    let x = finished w a.points.now edit (placed w a.points.now a.code)
    (admitted w (has_points w.n a.points.now) edit (rw c.wide.ensures at c.in_ok-columns.ensures))
    (fit.outcome, fit.work_len_unchanged) c.clear.ensures in
    record { result_value = x.0; work_after = x.1.0; points_after = x.1.1 }
