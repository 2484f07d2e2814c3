-- `rings::ring` meets its contract: a walk over the elements from the start side.
-- Assumes nothing.
use mathlib.Core.Path.{sym}
use Rattle.std.proofs.lemmas.Result.{err_from_is_err_and}
use Rattle.admission.proofs.Admitted.{same_error}
use Rattle.rings.proofs.Rings.{start_side_lem}
use Rattle.rings.proofs.Answering.{ring_refused, ring_broken, ring_done}
use Rattle.rings.proofs.ring.Goals as goal

pub returns-in_err-fitting-clause-result_value : goal.returns-in_err-fitting-clause-result_value
returns-in_err-fitting-clause-result_value c =
    let p = err_from_is_err_and c.from_residual.result c.from_residual.ensures.1 in
    rw (p.1, p.2) (ring_refused _ _ _ c.is_vertex.ensures c.in_err-fitting.ensures).0

pub returns-in_err-fitting-clause-out_after : goal.returns-in_err-fitting-clause-out_after
returns-in_err-fitting-clause-out_after c = (ring_refused _ _ _ c.is_vertex.ensures c.in_err-fitting.ensures).1

pub returns-in_err-start-clause-result_value : goal.returns-in_err-start-clause-result_value
returns-in_err-start-clause-result_value c =
    let p = err_from_is_err_and c.from_residual-in_err-start.result c.from_residual-in_err-start.ensures.1 in
    let same = same_error c.in_err-start.ensures.value c.in_err-start.ensures.ok_part in
    rw (p.1, p.2, same, c.of.ensures) (ring_broken _ _ _ c.is_vertex.ensures c.in_ok-fitting.ensures (rw c.in_err-start.ensures.ok_part at (sym c.start_side.ensures))).0

pub returns-in_err-start-clause-out_after : goal.returns-in_err-start-clause-out_after
returns-in_err-start-clause-out_after c =
    (ring_broken _ _ _ c.is_vertex.ensures c.in_ok-fitting.ensures (rw c.in_err-start.ensures.ok_part at (sym c.start_side.ensures))).1

pub list_walk-requires-clause-begins : goal.list_walk-requires-clause-begins
list_walk-requires-clause-begins c = start_side_lem _ _ _ (rw c.in_ok-start.ensures.ok_part at (sym c.start_side.ensures))

pub returns-clause-result_value : goal.returns-clause-result_value
returns-clause-result_value c = (ring_done _ _ _ c.is_vertex.ensures c.in_ok-fitting.ensures (rw c.in_ok-start.ensures.ok_part at (sym c.start_side.ensures)) c.element_count.ensures.count c.list_walk.ensures).0

pub returns-clause-out_after : goal.returns-clause-out_after
returns-clause-out_after c = (ring_done _ _ _ c.is_vertex.ensures c.in_ok-fitting.ensures (rw c.in_ok-start.ensures.ok_part at (sym c.start_side.ensures)) c.element_count.ensures.count c.list_walk.ensures).1
