-- `corners::repeated_in` meets its contract: each test settles one corner.
-- Assumes nothing.
use Rattle.std.proofs.Common.{lit≤}
use Rattle.corners.specs.RowLaws.{repeats_two, repeats_three, repeats_none_of_three, repeats_four, repeats_none_of_four}
use Rattle.corners.proofs.repeated_in.Goals as goal
use Rattle.corners.proofs.repeated_in.Goals.{then-row-2-via-then-row-2, then-row-2-via-else-row-2+then-row-3}
use Rattle.corners.proofs.repeated_in.Goals.{then-row-4-via-then-row-4, then-row-4-via-else-row-4+then-row-5, then-row-4-via-else-row-4+else-row-5+then-row-6}

pub returns-then-row : goal.returns-then-row
returns-then-row c = repeats_two c.args.row c.if-row.true

pub returns-then-row-2 : goal.returns-then-row-2
returns-then-row-2 c =
    let three = repeats_three c.args.row c.if-row.false in
    elim c.then-row-2.branch [
      | then-row-2-via-then-row-2 w ↦ three 1 (lit≤ tt) (lit≤ tt) w.if-row-2.true
      | then-row-2-via-else-row-2+then-row-3 w ↦ three 2 (lit≤ tt) (lit≤ tt) w.if-row-3.true
    ]

pub returns-then-row-eq0 : goal.returns-then-row-eq0
returns-then-row-eq0 c = repeats_none_of_three c.args.row c.if-row.false c.if-row-2.false c.if-row-3.false c.if-row-eq0.true

pub returns-then-row-4 : goal.returns-then-row-4
returns-then-row-4 c =
    let four = repeats_four c.args.row c.if-row.false c.if-row-2.false c.if-row-3.false c.if-row-eq0.false in
    elim c.then-row-4.branch [
      | then-row-4-via-then-row-4 w ↦ four 1 (lit≤ tt) (lit≤ tt) w.if-row-4.true
      | then-row-4-via-else-row-4+then-row-5 w ↦ four 2 (lit≤ tt) (lit≤ tt) w.if-row-5.true
      | then-row-4-via-else-row-4+else-row-5+then-row-6 w ↦ four 3 (lit≤ tt) (lit≤ tt) w.if-row-6.true
    ]

pub returns : goal.returns
returns c =
    repeats_none_of_four c.args.row c.if-row.false c.if-row-2.false c.if-row-3.false c.if-row-eq0.false
    c.if-row-4.false c.if-row-5.false c.if-row-6.false
