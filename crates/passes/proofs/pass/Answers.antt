-- `passes::pass` meets its contract: by what holds after its steps.
-- Assumes nothing.
use mathlib.Core.Logic.{inl, inr}
use mathlib.Core.Path.{sym, ◌∙◌}
use native.Mathlib.Omega.{arith}
use Rattle.theory.specs.Reads.{nothing}
use Rattle.passes.proofs.Passes.{passing_none, counted, written, overlong, lost, passing_put, passing_over}
use Rattle.passes.proofs.pass.Goals.{then-wide-out, else-wide-out}
use Rattle.passes.proofs.pass.Goals as goal

pub loop-x-init : goal.loop-x-init
loop-x-init g c = passing_none _ _ _ _ _ _ c.requires

pub returns-then-limit-count-clause-size : goal.returns-then-limit-count-clause-size
returns-then-limit-count-clause-size g c = overlong _ _ _ _ _ c.loop-x.invariant c.loop-x-test.true c.if-limit-count.true

pub returns-then-limit-count-clause-written : goal.returns-then-limit-count-clause-written
returns-then-limit-count-clause-written g c p =
    absurd (nothing (overlong _ _ _ _ _ c.loop-x.invariant c.loop-x-test.true c.if-limit-count.true ∙ p))

pub returns-in_err-shown-clause-size : goal.returns-in_err-shown-clause-size
returns-in_err-shown-clause-size g c =
    rw c.from_residual.ensures
    (lost _ _ _ _ _ c.loop-x.invariant c.loop-x-test.true c.if-limit-count.false (inl (sym c.in_err-shown.ensures)))

pub returns-in_err-shown-clause-written : goal.returns-in_err-shown-clause-written
returns-in_err-shown-clause-written g c p =
    absurd (nothing (lost _ _ _ _ _ c.loop-x.invariant c.loop-x-test.true c.if-limit-count.false (inl (sym c.in_err-shown.ensures)) ∙ p))

pub returns-in_err-x-clause-size : goal.returns-in_err-x-clause-size
returns-in_err-x-clause-size g c =
    rw c.from_residual-in_err-x.ensures
    (lost _ _ _ _ _ c.loop-x.invariant c.loop-x-test.true c.if-limit-count.false (inr (sym c.in_err-x.ensures.next)))

pub returns-in_err-x-clause-written : goal.returns-in_err-x-clause-written
returns-in_err-x-clause-written g c p =
    absurd (nothing (lost _ _ _ _ _ c.loop-x.invariant c.loop-x-test.true c.if-limit-count.false (inr (sym c.in_err-x.ensures.next)) ∙ p))

pub loop-x-preserved : goal.loop-x-preserved
loop-x-preserved g c =
    let inv = c.loop-x.invariant in
    let d = c.loop-x-test.true in
    let h = c.if-limit-count.false in
    let p = sym c.in_ok-shown.ensures in
    let q = sym c.in_ok-x.ensures.next in
    let s = c.in_ok-x.ensures.goes_on _ q in
    elim c.if-wide-out.branch [
      | then-wide-out w ↦
          rw (w.out-is, w.wide-then-wide-out.ensures)
          (passing_put _ _ _ _ _ inv d h _ _ p q s (omega (arith, w.if-wide-out.true, c.wide.ensures)))
      | else-wide-out w ↦
          rw w.out-is (passing_over _ _ _ _ _ inv d h _ _ p q s (omega (arith, w.if-wide-out.false, c.wide.ensures)))
    ]

pub returns-clause-size : goal.returns-clause-size
returns-clause-size g c = counted _ _ _ _ _ c.loop-x.invariant c.loop-x-test.false

pub returns-clause-written : goal.returns-clause-written
returns-clause-written g c p = written _ _ _ _ _ c.loop-x.invariant c.loop-x-test.false p
