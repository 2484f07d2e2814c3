-- `holes::holes` meets its contract.
-- Assumes nothing.
use native.Mathlib.Omega.{arith}
use mathlib.Core.Path.{ap, ◌∙◌}
use Prim.Native.Nat.{◌+◌, ◌*◌, ◌≤◌, ◌<◌}
use lib.ListN.{length}
use Rattle.std.proofs.lemmas.Result.{err_from_is_err_and}
use Rattle.rules.specs.Elements.{elements}
use Rattle.rules.specs.Queries.{Mesh}
use Rattle.holes.proofs.Whole.{turned_away, short, done}
use Rattle.holes.proofs.holes.Goals as goal

pub returns-in_err-fitting-clause-result_value : goal.returns-in_err-fitting-clause-result_value
returns-in_err-fitting-clause-result_value c =
    let p = err_from_is_err_and c.from_residual.result c.from_residual.ensures.1 in
    rw (p.1, p.2) (turned_away _ _ _ _ c.in_err-fitting.ensures).0

pub returns-in_err-fitting-clause-work_after : goal.returns-in_err-fitting-clause-work_after
returns-in_err-fitting-clause-work_after c = (turned_away _ _ _ _ c.in_err-fitting.ensures).1

pub returns-then-work-wide-clause-result_value : goal.returns-then-work-wide-clause-result_value
returns-then-work-wide-clause-result_value c =
    let few : length c.args.work.now < c.args.mesh.now.n + 16 * elements c.args.mesh.now.list =
    omega (arith, c.if-work-wide.true, c.wide.ensures, c.wide-2.ensures, c.element_count.ensures.count, ap (λ (M : Mesh). M.n) c.mesh.view_is, ap (λ (M : Mesh). elements M.list) c.in_ok-fitting.ensures.passed.0) in
    c.refuse.ensures ∙ (short _ _ _ _ c.in_ok-fitting.ensures few).0

pub returns-then-work-wide-clause-work_after : goal.returns-then-work-wide-clause-work_after
returns-then-work-wide-clause-work_after c =
    let few : length c.args.work.now < c.args.mesh.now.n + 16 * elements c.args.mesh.now.list =
    omega (arith, c.if-work-wide.true, c.wide.ensures, c.wide-2.ensures, c.element_count.ensures.count, ap (λ (M : Mesh). M.n) c.mesh.view_is, ap (λ (M : Mesh). elements M.list) c.in_ok-fitting.ensures.passed.0) in
    (short _ _ _ _ c.in_ok-fitting.ensures few).1

pub returns-clause-result_value : goal.returns-clause-result_value
returns-clause-result_value c =
    let enough : c.args.mesh.now.n + 16 * elements c.args.mesh.now.list ≤ length c.args.work.now =
    omega (arith, c.if-work-wide.false, c.wide.ensures, c.wide-2.ensures, c.element_count.ensures.count, ap (λ (M : Mesh). M.n) c.mesh.view_is, ap (λ (M : Mesh). elements M.list) c.in_ok-fitting.ensures.passed.0) in
    let outcome = rw c.in_ok-fitting.ensures.passed.0 at c.holes_fit-answer.ensures.outcome in
    (done _ _ _ _ c.in_ok-fitting.ensures enough (outcome, c.holes_fit-answer.ensures.work_len_unchanged) c.clear.ensures).0

pub returns-clause-work_after : goal.returns-clause-work_after
returns-clause-work_after c =
    let enough : c.args.mesh.now.n + 16 * elements c.args.mesh.now.list ≤ length c.args.work.now =
    omega (arith, c.if-work-wide.false, c.wide.ensures, c.wide-2.ensures, c.element_count.ensures.count, ap (λ (M : Mesh). M.n) c.mesh.view_is, ap (λ (M : Mesh). elements M.list) c.in_ok-fitting.ensures.passed.0) in
    let outcome = rw c.in_ok-fitting.ensures.passed.0 at c.holes_fit-answer.ensures.outcome in
    (done _ _ _ _ c.in_ok-fitting.ensures enough (outcome, c.holes_fit-answer.ensures.work_len_unchanged) c.clear.ensures).1
