-- `holes::mark_next` meets its contract: the next border half-edge is marked, or its loop is.
-- Assumes nothing.
use mathlib.Core.Path.{◌≡◌, ap}
use Prim.Native.Nat.{◌+◌, ◌<◌}
use native.Mathlib.Omega.{arith}
use lib.ListN.{length}
use Rattle.lists.specs.Search.{at}
use Rattle.holes.proofs.Numbering.{holes_short, numbered, marked_already, opens, never_back, one_hole_more}
use Rattle.holes.proofs.mark_next.Goals as goal

pub returns-then-work-wide-clause-numbered : goal.returns-then-work-wide-clause-numbered
returns-then-work-wide-clause-numbered c M size i m =
    numbered M _ _ _ (marked_already M _ _ _ m i (omega (arith, size, ap (at c.args.work.now) c.wide.ensures, c.if-work-wide.true)))

pub overflow_add-h : goal.overflow_add-h
overflow_add-h c = let (M, size, i, m) = c.requires in omega (arith, size, i, holes_short M _ _ _ m, c.ranges.k.fits)

pub mark_loop-requires : goal.mark_loop-requires
mark_loop-requires c =
    let (M, size, i, m) = c.requires in
    (M, size, opens M _ _ _ m i (omega (arith, size, ap (at c.args.work.now) c.wide.ensures, c.if-work-wide.false)))

pub returns-in_err-length-clause-numbered : goal.returns-in_err-length-clause-numbered
returns-in_err-length-clause-numbered c M size i m =
    let free : length M.border < at c.args.work.now c.args.b = omega (arith, size, ap (at c.args.work.now) c.wide.ensures, c.if-work-wide.false) in
    rw c.from_residual.ensures (never_back M _ _ _ m i free _ (c.in_err-length.ensures M size (opens M _ _ _ m i free)))

pub bounds-work-wide-2 : goal.bounds-work-wide-2
bounds-work-wide-2 c =
    let (M, size, i, m) = c.requires in
    omega (arith, size, i, m.room, holes_short M _ _ _ m, c.wide-2.ensures, c.wide-3.ensures, c.mark_loop.auto.work)

pub overflow_add-result : goal.overflow_add-result
overflow_add-result c = let (M, size, i, m) = c.requires in omega (arith, size, i, holes_short M _ _ _ m, c.ranges.k.fits)

pub returns-clause-numbered : goal.returns-clause-numbered
returns-clause-numbered c M size i m =
    let free : length M.border < at c.args.work.now c.args.b = omega (arith, size, ap (at c.args.work.now) c.wide.ensures, c.if-work-wide.false) in
    let place : c.wide-2.result + c.wide-3.result ≡ length M.border + c.args.h = omega (arith, size, c.wide-2.ensures, c.wide-3.ensures) in
    rw place (numbered M _ _ _ (one_hole_more M _ _ _ m i free _ _ (c.in_ok-length.ensures M size (opens M _ _ _ m i free))))
