-- `contract::write` meets its contract. The laws of its ways out are in Writing.
-- Assumes nothing.
use mathlib.Core.Path.{◌≡◌, refl}
use Prim.Native.Nat.{◌*◌, ◌-◌}
use native.Mathlib.Omega.{arith}
use Rattle.std.proofs.lemmas.Result.{err_from_is_err_and}
use Rattle.edits.specs.Holding.{lent_sized}
use Rattle.contract.specs.Writing.{edge_there, fewer_there, to_try, none_written, closable, all_written}
use Rattle.contract.proofs.write.Goals as goal

pub edge_of-edge-requires : goal.edge_of-edge-requires
edge_of-edge-requires c =
    let a = c.args in
    let w = lent_sized a.size.now a.list.now a.v2e.now a.e2e.now a.b2e.now a.work.now in
    edge_there w a.points.now c.requires (omega arith)

pub try_new-requires : goal.try_new-requires
try_new-requires c =
    let a = c.args in
    let w = lent_sized a.size.now a.list.now a.v2e.now a.e2e.now a.b2e.now a.work.now in
    let rows : 4 * c.wide-rows.result - 0 ≡ 4 * w.m = omega arith in
    let x = to_try w a.points.now c.requires rows c.edge_of-edge.ensures in record { contractible = x.0; roomy = x.1 }

pub returns-in_err-built-clause-written : goal.returns-in_err-built-clause-written
returns-in_err-built-clause-written c =
    let a = c.args in
    let w = lent_sized a.size.now a.list.now a.v2e.now a.e2e.now a.b2e.now a.work.now in
    let p = err_from_is_err_and c.from_residual.result c.from_residual.ensures.1 in
    let rows : 4 * c.wide-rows.result - 0 ≡ 4 * w.m = omega arith in
    rw (p.1, p.2) (none_written w a.points.now c.requires rows c.edge_of-edge.ensures c.in_err-built.ensures.tried refl)

pub fewer-requires : goal.fewer-requires
fewer-requires c =
    let a = c.args in
    let w = lent_sized a.size.now a.list.now a.v2e.now a.e2e.now a.b2e.now a.work.now in
    let rows : 4 * c.wide-rows.result - 0 ≡ 4 * w.m = omega arith in fewer_there w a.points.now c.requires rows

pub close-requires : goal.close-requires
close-requires c =
    let a = c.args in
    let w = lent_sized a.size.now a.list.now a.v2e.now a.e2e.now a.b2e.now a.work.now in
    let rows : 4 * c.wide-rows.result - 0 ≡ 4 * w.m = omega arith in
    closable w a.points.now c.requires rows c.edge_of-edge.ensures c.in_ok-built.ensures.tried refl c.fewer.ensures

pub returns-clause-written : goal.returns-clause-written
returns-clause-written c =
    let a = c.args in
    let w = lent_sized a.size.now a.list.now a.v2e.now a.e2e.now a.b2e.now a.work.now in
    let rows : 4 * c.wide-rows.result - 0 ≡ 4 * w.m = omega arith in
    all_written w a.points.now c.requires rows c.edge_of-edge.ensures c.in_ok-built.ensures.tried refl c.fewer.ensures
    c.close.ensures
