-- `rings::border_loop` meets its contract: a walk over the border numbers from b.
-- Assumes nothing.
use Rattle.std.proofs.lemmas.Result.{err_from_is_err_and}
use Rattle.rings.proofs.Answering.{loop_refused, loop_done}
use Rattle.rings.proofs.border_loop.Goals as goal

pub returns-in_err-fitting-clause-result_value : goal.returns-in_err-fitting-clause-result_value
returns-in_err-fitting-clause-result_value c =
    let p = err_from_is_err_and c.from_residual.result c.from_residual.ensures.1 in
    rw (p.1, p.2) (loop_refused _ _ _ c.is_border_number.ensures c.in_err-fitting.ensures).0

pub returns-in_err-fitting-clause-out_after : goal.returns-in_err-fitting-clause-out_after
returns-in_err-fitting-clause-out_after c = (loop_refused _ _ _ c.is_border_number.ensures c.in_err-fitting.ensures).1

pub returns-clause-result_value : goal.returns-clause-result_value
returns-clause-result_value c = (loop_done _ _ _ c.is_border_number.ensures c.in_ok-fitting.ensures c.border_count.ensures.count c.list_walk.ensures).0

pub returns-clause-out_after : goal.returns-clause-out_after
returns-clause-out_after c = (loop_done _ _ _ c.is_border_number.ensures c.in_ok-fitting.ensures c.border_count.ensures.count c.list_walk.ensures).1
