-- `checks::first_sides` meets its contract: the rows from f on are done.
-- Assumes nothing.
use Rattle.std.proofs.Common.{◌≡◌, ◌*◌, ◌/◌, ◌+◌, ◌-◌, length, arith}
use Rattle.lists.specs.Stores.{kept_on}
use Rattle.checks.specs.Firsts.{firsts_none, firsts_all}
use Rattle.checks.proofs.Putting.{begins, goes_on}
use Rattle.checks.proofs.first_sides.Goals as goal

pub loop-f-init : goal.loop-f-init
loop-f-init c =
    let L = c.args.list.now in
    let made = c.clear_first.ensures in
    let e : length L ≡ 4 * (length L / 4) = omega (arith, c.requires.0.fours) in
    begins c.requires.0 (omega (arith, made.kept.long, c.requires.1)) (rw e at (firsts_none _ L c.clear_first.new.out made.by_index))

pub put_row-requires : goal.put_row-requires
put_row-requires c =
    let sofar = c.loop-f.invariant in
    let e : 4 * c.loop-f.f ≡ 4 * (c.loop-f.f - 1) + 4 = omega arith in
    (sofar.fit, sofar.room, omega arith, rw e at sofar.firsts)

pub loop-f-preserved : goal.loop-f-preserved
loop-f-preserved c = goes_on c.loop-f.invariant c.put_row.ensures

pub returns : goal.returns
returns c =
    let done = c.loop-f.invariant in
    let e : 4 * c.loop-f.f ≡ 0 = omega arith in
    (kept_on c.clear_first.ensures.kept done.kept, firsts_all _ _ c.loop-f.work (rw e at done.firsts))
