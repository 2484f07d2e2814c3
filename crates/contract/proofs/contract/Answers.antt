-- `contract::contract` meets its contract. The laws of the whole call are those of any edit with points.
-- Assumes nothing.
use Prim.Native.Nat.{◌*◌}
use lib.ListN.{length}
use Rattle.std.proofs.lemmas.Result.{err_from_is_err_and}
use Rattle.lists.specs.TestLaws.{means_le}
use Rattle.edit_rules.specs.Edits.{held}
use Rattle.edit_rules.specs.Split.{has_points}
use Rattle.edit_rules.specs.Contract.{contract, contract_points}
use Rattle.edits.specs.Holding.{lent_sized, passed}
use Rattle.edits.specs.Fronts.{ready}
use Rattle.edits.specs.Leaving.{admitted}
use Rattle.edits.specs.Pointed.{denied, finished}
use Rattle.contract.specs.Stages.{closed}
use Rattle.contract.proofs.contract.Goals as goal

pub returns-in_err-columns : goal.returns-in_err-columns
unfolding contract_points has_points
returns-in_err-columns c =
    let a = c.args in
    let w = lent_sized a.size.now a.list.now a.v2e.now a.e2e.now a.b2e.now a.work.now in
    let p = err_from_is_err_and c.from_residual.result c.from_residual.ensures.1 in
    let x = denied w a.points.now (contract w.n (held w) a.code) (closed w a.points.now a.code)
    (rw c.wide.ensures at c.in_err-columns.ensures) in
    record { result_value = rw (p.1, p.2) x.0; work_after = x.1.0; points_after = x.1.1 }

pub contract_fit-a-requires : goal.contract_fit-a-requires
contract_fit-a-requires c =
    let a = c.args in
    let w = lent_sized a.size.now a.list.now a.v2e.now a.e2e.now a.b2e.now a.work.now in
    let many = (passed (rw c.wide.ensures at c.in_ok-columns.ensures)).1 in
    (ready w c.in_ok-columns.ensures, (means_le (3 * w.n) (length a.points.now)).says (rw many tt))

pub returns : goal.returns
unfolding contract_points has_points
returns c =
    let a = c.args in
    let w = lent_sized a.size.now a.list.now a.v2e.now a.e2e.now a.b2e.now a.work.now in
    let edit = contract w.n (held w) a.code in
    let fit = c.contract_fit-a.ensures in
    let x = finished w a.points.now edit (closed w a.points.now a.code)
    (admitted w (has_points w.n a.points.now) edit (rw c.wide.ensures at c.in_ok-columns.ensures))
    (fit.outcome, fit.work_len_unchanged) c.clear.ensures in
    record { result_value = x.0; work_after = x.1.0; points_after = x.1.1 }
