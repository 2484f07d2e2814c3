-- `holes::mark_loop` meets its contract: each turn marks one more border half-edge of the walk from b.
-- Assumes nothing.
use mathlib.Core.Path.{ap, sym, ◌∙◌}
use Prim.Native.Nat.{ℕ, ◌-◌, ◌<◌}
use native.Mathlib.Omega.{arith}
use Rattle.lists.specs.Search.{at}
use Rattle.holes.proofs.Marking.{walk_short, walk_begins, walk_step, is_marked, lost_there, loop_whole}
use Rattle.holes.proofs.mark_loop.Goals as goal

pub loop-work-init : goal.loop-work-init
loop-work-init c M size o = walk_begins M _ _ _ o

pub loop-work-preserved : goal.loop-work-preserved
loop-work-preserved c M size o =
    let place = ap (λ (i : ℕ). i - 1) c.wide-p.ensures in
    let same = ap (λ (i : ℕ). i - 1) c.wide.ensures in
    let next : c.args.k < at c.loop-work.work (c.wide-p.result - 1) = rw (place ∙ sym same) c.loop-work-test.true in
    walk_step M _ _ _ o _ _ _ (c.loop-work.invariant M size o) size place next

pub overflow_add-count : goal.overflow_add-count
overflow_add-count c =
    let (M, size, o) = c.requires in
    let place = ap (λ (i : ℕ). i - 1) c.wide-p.ensures in
    let same = ap (λ (i : ℕ). i - 1) c.wide.ensures in
    let next : c.args.k < at c.loop-work.work (c.wide-p.result - 1) = rw (place ∙ sym same) c.loop-work-test.true in
    omega (arith, size, c.ranges.k.fits, walk_short M _ _ _ _ _ _ (walk_step M _ _ _ o _ _ _ (c.loop-work.invariant M size o) size place next))

pub loop-work-smaller : goal.loop-work-smaller
loop-work-smaller c =
    let (M, size, o) = c.requires in
    let place = ap (λ (i : ℕ). i - 1) c.wide-p.ensures in
    let same = ap (λ (i : ℕ). i - 1) c.wide.ensures in
    let next : c.args.k < at c.loop-work.work (c.wide-p.result - 1) = rw (place ∙ sym same) c.loop-work-test.true in
    omega (arith, size, walk_short M _ _ _ _ _ _ (walk_step M _ _ _ o _ _ _ (c.loop-work.invariant M size o) size place next))

pub returns-then-x-b : goal.returns-then-x-b
returns-then-x-b c M size o =
    let w = c.loop-work.invariant M size o in
    lost_there M _ _ _ o _ _ _ w (is_marked M _ _ _ o _ _ _ w size (ap (λ (i : ℕ). i - 1) c.wide.ensures) c.loop-work-test.false) c.if-x-b.true

pub returns : goal.returns
returns c M size o =
    let w = c.loop-work.invariant M size o in
    loop_whole M _ _ _ o _ _ _ w (is_marked M _ _ _ o _ _ _ w size (ap (λ (i : ℕ). i - 1) c.wide.ensures) c.loop-work-test.false) c.if-x-b.false
