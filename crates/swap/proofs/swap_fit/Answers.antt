-- `swap::swap_fit` meets its contract. The laws of its steps are in Swaps.
-- Assumes nothing.
use mathlib.Core.Path.{ap, sym}
use lib.ListN.{length}
use Rattle.std.proofs.lemmas.Result.{err_from_is_err_and}
use Rattle.edit_rules.specs.Swap.{swap}
use Rattle.theory.specs.Swapping.{means_swappable}
use Rattle.answer.specs.Numbers.{numbers}
use Rattle.build.specs.Building.{roomy}
use Rattle.edits.specs.Leaving.{old_refused, new_refused, new_tried}
use Rattle.edits.specs.Trying.{number, tabled}
use Rattle.swap.specs.Swaps.{gone, unfit, swaps, to_swap}
use Rattle.swap.proofs.swap_fit.Goals as goal

pub tabulate_front-requires : goal.tabulate_front-requires
tabulate_front-requires c = roomy c.requires.0

pub returns-in_err-k-clause-left : goal.returns-in_err-k-clause-left
returns-in_err-k-clause-left c =
    let a = c.args in
    let p = err_from_is_err_and c.from_residual.result c.from_residual.ensures.1 in
    let told = ap numbers c.in_err-k.was in
    rw (p.1, p.2, ← told) (old_refused a.n a.list.now (swap a.n a.list.now a.code) (length a.b2e.now) c.tabulate_front.ensures.stated told)

pub is_there-requires : goal.is_there-requires
is_there-requires c = number c.requires.0 c.tabulate_front.ensures (ap numbers c.in_ok-k.was)

pub returns-then-not-is_there-clause-left : goal.returns-then-not-is_there-clause-left
returns-then-not-is_there-clause-left c =
    let a = c.args in
    new_refused a.n a.list.now (swap a.n a.list.now a.code) (length a.b2e.now) c.tabulate_front.ensures.stated (ap numbers c.in_ok-k.was)
    (gone a.n a.list.now a.code (sym c.if-not-is_there.ensures)) c.refuse.ensures

pub is_swappable-requires : goal.is_swappable-requires
is_swappable-requires c = tabled c.requires.0 c.tabulate_front.ensures (ap numbers c.in_ok-k.was) c.wide-vertices.ensures

pub returns-then-not-is_swappable-clause-left : goal.returns-then-not-is_swappable-clause-left
returns-then-not-is_swappable-clause-left c =
    let a = c.args in
    new_refused a.n a.list.now (swap a.n a.list.now a.code) (length a.b2e.now) c.tabulate_front.ensures.stated (ap numbers c.in_ok-k.was)
    (unfit a.n a.list.now a.code (sym c.if-not-is_there.ensures) (sym c.if-not-is_swappable.ensures))
    c.refuse-then-not-is_swappable.ensures

pub entry_of-partner-requires : goal.entry_of-partner-requires
entry_of-partner-requires c =
    let a = c.args in
    (tabled c.requires.0 c.tabulate_front.ensures (ap numbers c.in_ok-k.was) c.wide-vertices.ensures, ((means_swappable a.list.now a.code).says (rw (sym c.if-not-is_swappable.ensures) tt)).side)

pub swap_rows-requires : goal.swap_rows-requires
swap_rows-requires c =
    (to_swap c.requires.0 c.tabulate_front.ensures (ap numbers c.in_ok-k.was) c.args.code (sym c.if-not-is_swappable.ensures) c.entry_of-partner.ensures, c.requires.1)

pub returns-clause-left : goal.returns-clause-left
returns-clause-left c =
    let a = c.args in
    new_tried a.n a.list.now (swap a.n a.list.now a.code) (length a.b2e.now) c.tabulate_front.ensures.stated (ap numbers c.in_ok-k.was)
    (swaps a.n a.list.now a.code (sym c.if-not-is_there.ensures) (sym c.if-not-is_swappable.ensures)) c.swap_rows.ensures.left
