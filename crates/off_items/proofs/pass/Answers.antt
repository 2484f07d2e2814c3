-- `off_items::pass` meets its contract.
-- Assumes nothing.
use Rattle.std.specs.Prelude.{◌≡◌, Err}
use Rattle.std.proofs.Common.{rules, arith}
use Rattle.off_items.specs.Reading.{going_more, pass_bad, pass_all}
use Rattle.off_items.proofs.pass.Goals as goal

pub returns-in_err-at : goal.returns-in_err-at
returns-in_err-at c =
    let e : c.from_residual.result ≡ Err c.in_err-at.field-0.0 = search rules in
    rw e (pass_bad c.args.kind c.args.text.now c.args.p c.loop.invariant c.loop-test.true c.in_err-at.ensures)

pub loop-preserved : goal.loop-preserved
loop-preserved c = going_more c.args.kind c.args.text.now c.args.p c.loop.invariant c.in_ok-at.ensures

pub returns : goal.returns
returns c = pass_all c.args.kind c.args.text.now c.args.p c.loop.invariant (omega arith)
