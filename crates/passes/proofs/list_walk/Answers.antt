-- `passes::list_walk` meets its contract: what was counted is what is written.
-- Assumes nothing.
use Rattle.std.proofs.lemmas.Result.{err_from_is_err_and}
use mathlib.Core.Option.{some}
use mathlib.Core.Path.{◌≡◌, refl, sym, ◌∙◌, ap}
use Prim.Native.Nat.{◌-◌}
use native.Mathlib.Omega.{arith}
use Rattle.reads.specs.Readings.{read_of}
use Rattle.admission.proofs.Admitted.{same_error}
use Rattle.passes.proofs.Following.{size_some}
use Rattle.passes.proofs.Listing.{none_listed, short_listed, all_listed, first_is, led, led_none, led_some, length_part, filled}
use Rattle.passes.proofs.list_walk.Goals.{then-prior-ne0, else-prior-ne0}
use Rattle.passes.proofs.list_walk.Goals as goal

pub returns-in_err-size : goal.returns-in_err-size
returns-in_err-size g c =
    let p = err_from_is_err_and c.from_residual.result c.from_residual.ensures.1 in
    let same = same_error c.in_err-size.ensures.value c.in_err-size.ensures.ok_part in
    rw (p.1, p.2, same, c.of.ensures)
    (none_listed _ _ _ (sym (rw c.in_err-size.ensures.ok_part at c.pass.ensures.size)) refl)

pub returns-then-out-wide : goal.returns-then-out-wide
returns-then-out-wide g c =
    let (is, long) = size_some _ _ (sym c.pass.ensures.size ∙ ap read_of c.in_ok-size.ensures.ok_part) in
    short_listed _ _ _ is (c.from-first.ensures ∙ first_is c.args.prior) long (omega (arith, c.if-out-wide.true, c.wide.ensures)) c.refuse_at.ensures

pub returns : goal.returns
returns g c =
    let begun : c.if-prior-ne0.out ≡ led c.args.prior c.args.out.now =
    elim c.if-prior-ne0.branch [
      | then-prior-ne0 w ↦ w.out-is ∙ sym (led_some c.args.out.now w.if-prior-ne0.true)
      | else-prior-ne0 w ↦ w.out-is ∙ sym (led_none c.args.out.now w.if-prior-ne0.false)
    ] in
    let by_first = c.wide-2.ensures in
    let by_size : c.wide-3.result - c.wide-2.result ≡ c.in_ok-size.size = omega (arith, c.wide-3.ensures, c.wide-2.ensures) in
    let sized = sym c.pass.ensures.size ∙ ap read_of c.in_ok-size.ensures.ok_part in
    let (is, long) = size_some _ _ sized in
    all_listed _ _ _ is (c.from-first.ensures ∙ first_is c.args.prior) long (omega (arith, c.if-out-wide.false, c.wide.ensures)) c.give.ensures
    (filled begun by_first by_size (c.pass-2.ensures.written (sized ∙ ap some (sym (length_part _ _ c.if-prior-ne0.out (omega (arith, c.if-out-wide.false, c.wide.ensures, c.wide-2.ensures, c.wide-3.ensures, c.if-prior-ne0.auto.out)) ∙ by_size)))))
