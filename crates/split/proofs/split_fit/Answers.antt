-- `split::split_fit` meets its contract. The laws of its ways out are in Outcomes.
-- Assumes nothing.
use mathlib.Core.Path.{◌≡◌, refl}
use Prim.Native.Nat.{◌*◌, ◌-◌}
use native.Mathlib.Omega.{arith}
use Rattle.std.proofs.lemmas.Result.{err_from_is_err_and}
use Rattle.edits.specs.Holding.{lent_sized}
use Rattle.edits.specs.Fronts.{fitting, to_try}
use Rattle.split.specs.Outcomes.{old_denied, admissible, new_denied, new_allowed, all_done}
use Rattle.split.proofs.split_fit.Goals as goal

pub tabulate_front-requires : goal.tabulate_front-requires
tabulate_front-requires c =
    let a = c.args in
    let w = lent_sized a.size.now a.list.now a.v2e.now a.e2e.now a.b2e.now a.work.now in
    to_try w (fitting w c.requires) (omega arith)

pub returns-in_err-k-clause-outcome : goal.returns-in_err-k-clause-outcome
returns-in_err-k-clause-outcome c =
    let a = c.args in
    let w = lent_sized a.size.now a.list.now a.v2e.now a.e2e.now a.b2e.now a.work.now in
    let p = err_from_is_err_and c.from_residual.result c.from_residual.ensures.1 in
    let rows : 4 * c.wide-rows.result - 0 ≡ 4 * w.m = omega arith in
    rw (p.1, p.2) (old_denied w a.points.now a.code c.requires rows c.in_err-k.ensures refl).0

pub admit-requires : goal.admit-requires
admit-requires c =
    let a = c.args in
    let w = lent_sized a.size.now a.list.now a.v2e.now a.e2e.now a.b2e.now a.work.now in
    let rows : 4 * c.wide-rows.result - 0 ≡ 4 * w.m = omega arith in
    admissible w a.points.now a.code c.requires rows c.in_ok-k.ensures refl

pub returns-in_err-allowed-clause-outcome : goal.returns-in_err-allowed-clause-outcome
returns-in_err-allowed-clause-outcome c =
    let a = c.args in
    let w = lent_sized a.size.now a.list.now a.v2e.now a.e2e.now a.b2e.now a.work.now in
    let p = err_from_is_err_and c.from_residual-in_err-allowed.result c.from_residual-in_err-allowed.ensures.1 in
    let rows : 4 * c.wide-rows.result - 0 ≡ 4 * w.m = omega arith in
    rw (p.1, p.2) (new_denied w a.points.now a.code c.requires rows c.in_ok-k.ensures refl refl c.in_err-allowed.ensures).0

pub write-requires : goal.write-requires
write-requires c =
    let a = c.args in
    let w = lent_sized a.size.now a.list.now a.v2e.now a.e2e.now a.b2e.now a.work.now in
    let rows : 4 * c.wide-rows.result - 0 ≡ 4 * w.m = omega arith in
    record {
      to_write = new_allowed w a.points.now a.code c.requires rows c.in_ok-k.ensures refl refl c.in_ok-allowed.ensures;
      columns_value = c.requires.long.columned;
    }

pub returns-clause-outcome : goal.returns-clause-outcome
returns-clause-outcome c =
    let a = c.args in
    let w = lent_sized a.size.now a.list.now a.v2e.now a.e2e.now a.b2e.now a.work.now in
    let rows : 4 * c.wide-rows.result - 0 ≡ 4 * w.m = omega arith in
    let may = new_allowed w a.points.now a.code c.requires rows c.in_ok-k.ensures refl refl c.in_ok-allowed.ensures in
    all_done w a.points.now a.code c.requires rows c.in_ok-k.ensures refl may c.write.ensures.written
