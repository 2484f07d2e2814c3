-- `pinched::mark_by_element` meets its contract.
-- Assumes nothing.
use Rattle.std.proofs.Common.{arith, ◌≡◌, refl, ◌+◌, ◌*◌}
use Rattle.pinched.specs.Marks.{Joined, marked_none, marked_by, before_first, in_element, joined_to}
use Rattle.pinched.specs.Corners.{other_fits, marked_next, read}
use Rattle.pinched.proofs.mark_by_element.Goals as goal

pub loop-i-init : goal.loop-i-init
loop-i-init c =
    let a = c.args in marked_none (Joined a.list.now (8 * a.f) (8 * a.f + 1) a.a) _ (λ v j. before_first a.f j)

pub mark-requires : goal.mark-requires
mark-requires c =
    let a = c.args in
    let told = read a.list.now a.f c.requires.1 c.row_at-row.ensures c.side_count-k.ensures in
    omega (arith, other_fits c.requires.0.fit (told.runs_on c.loop-i.i (omega arith) (omega arith)) c.other_corner.ensures, c.requires.0.room, c.loop-i.invariant.long)

pub loop-i-preserved : goal.loop-i-preserved
loop-i-preserved c =
    let a = c.args in
    let told = read a.list.now a.f c.requires.1 c.row_at-row.ensures c.side_count-k.ensures in
    marked_next c.requires.0.fit (told.runs_on c.loop-i.i (omega arith) (omega arith)) c.other_corner.ensures c.loop-i.invariant c.mark.ensures (omega arith) (omega arith)

pub mark-requires-2 : goal.mark-requires-2
mark-requires-2 c =
    let a = c.args in
    let told = read a.list.now a.f c.requires.1 c.row_at-row.ensures c.side_count-k.ensures in
    omega (arith, other_fits c.requires.0.fit told.runs_back c.other_corner-2.ensures, c.requires.0.room, c.loop-i.invariant.long)

pub returns : goal.returns
returns c =
    let a = c.args in
    let k = c.side_count-k.result in
    let told = read a.list.now a.f c.requires.1 c.row_at-row.ensures c.side_count-k.ensures in
    let e : c.loop-i.i ≡ k = omega (arith, told.from) in
    let before = rw e at c.loop-i.invariant in
    let last = marked_next c.requires.0.fit told.runs_back c.other_corner-2.ensures before c.mark-2.ensures (omega arith) refl in
    marked_by last (λ v j. joined_to j (omega arith) (omega (arith, told.to))) (λ v j. in_element a.f k told.counted j)
