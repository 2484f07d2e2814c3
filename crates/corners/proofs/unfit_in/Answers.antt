-- `corners::unfit_in` meets its contract: each test settles one corner.
-- Assumes nothing.
use mathlib.Core.Path.{◌≡◌, sym, ◌∙◌}
use mathlib.Core.Bool.{false}
use Rattle.lists.specs.Search.{at}
use Rattle.corners.specs.Faults.{no_vertex}
use Rattle.corners.specs.RowLaws.{unfit_one, unfit_two, unfit_three, unfit_four, unfit_none}
use Rattle.corners.proofs.unfit_in.Goals as goal
use Rattle.corners.proofs.unfit_in.Goals.{Else-no_vertex, Else-no_vertex-2, Else-no_vertex-3, Start}

-- what the tests left behind
abbrev begun : Else-no_vertex → Start
begun c = c.before.before

one : (c : Else-no_vertex) → no_vertex (begun c).args.n (at (begun c).args.row 0) ≡ false
one c = sym c.before.no_vertex.ensures ∙ c.if-no_vertex.false

abbrev first : Else-no_vertex-2 → Else-no_vertex
first c = c.before.before

two : (c : Else-no_vertex-2) → no_vertex (begun (first c)).args.n (at (begun (first c)).args.row 1) ≡ false
two c = sym c.before.no_vertex-2.ensures ∙ c.if-no_vertex-2.false

abbrev second : Else-no_vertex-3 → Else-no_vertex-2
second c = c.before.before

three : (c : Else-no_vertex-3) → no_vertex (begun (first (second c))).args.n (at (begun (first (second c))).args.row 2) ≡ false
three c = sym c.before.no_vertex-3.ensures ∙ c.if-no_vertex-3.false

pub returns-then-no_vertex : goal.returns-then-no_vertex
returns-then-no_vertex c = let s = c.args in unfit_one s.n s.row (sym c.no_vertex.ensures ∙ c.if-no_vertex.true)

pub returns-then-no_vertex-2 : goal.returns-then-no_vertex-2
returns-then-no_vertex-2 c =
    let e = c.before.before in
    let s = e.args in unfit_two s.n s.row (one e) (sym c.no_vertex-2.ensures ∙ c.if-no_vertex-2.true)

pub returns-then-no_vertex-3 : goal.returns-then-no_vertex-3
returns-then-no_vertex-3 c =
    let e = c.before.before in
    let s = e.args in
    unfit_three s.n s.row (one e.before.before) (two e) (sym c.no_vertex-3.ensures ∙ c.if-no_vertex-3.true)

pub returns-then-n-row : goal.returns-then-n-row
returns-then-n-row c =
    let e = c.before.before.before in
    let s = e.args in unfit_four s.n s.row (one e.before.before) (two e) (three c.before) c.if-n-row.true

pub returns : goal.returns
returns c =
    let e = c.before.before.before in
    let s = e.args in unfit_none s.n s.row (one e.before.before) (two e) (three c.before) c.if-n-row.false
