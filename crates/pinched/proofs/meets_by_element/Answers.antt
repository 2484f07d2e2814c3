-- `pinched::meets_by_element` meets its contract.
-- Assumes nothing.
use Rattle.std.proofs.Common.{rules, arith, Bool, ℕ, ◌+◌, ◌*◌, ◌≤◌, ◌<◌, length}
use Rattle.std.proofs.iter.Serving.{serving}
use Rattle.lists.specs.TestLaws.{Means, means_true, means_by, passed, failed}
use Rattle.halfedge.specs.Rows.{corner_of}
use Rattle.sides.specs.Asked.{up_below, any_asked}
use Rattle.pinched.specs.Marks.{in_element}
use Rattle.pinched.specs.Corners.{Other, other_fits, read}
use Rattle.pinched.specs.Common.{Counts, Met, means_here, means_last, unmet_before, met_in}
use Rattle.pinched.proofs.meets_by_element.Goals as goal

pub any-requires-clause-callable : goal.any-requires-clause-callable
any-requires-clause-callable c =
    let a = c.args in
    let told = read a.list.now a.f c.requires.1 c.row_at-row.ensures c.side_count-k.ensures in
    let four = told.to in
    let fits : (i r : ℕ) → 1 ≤ i → i < c.side_count-k.result → Other (corner_of c.row_at-row.result i) (corner_of c.row_at-row.result (i + 1)) a.b r → r ≤ length a.marks.now =
    λ i r b d o. omega (arith, other_fits c.requires.0.fit (told.runs_on i b d) o, c.requires.0.room) in
    grind (serving, fits, four)

pub counts-requires : goal.counts-requires
counts-requires c =
    let a = c.args in
    let told = read a.list.now a.f c.requires.1 c.row_at-row.ensures c.side_count-k.ensures in
    omega (arith, other_fits c.requires.0.fit told.runs_back c.other_corner.ensures, c.requires.0.room)

pub returns-then-any : goal.returns-then-any
returns-then-any c =
    let a = c.args in
    let told = read a.list.now a.f c.requires.1 c.row_at-row.ensures c.side_count-k.ensures in
    let (p, begins, found) = c.any.ensures.runs in
    let C = Counts a.marks.now a.c a.d in
    let met = any_asked p _ _ (up_below p begins) _ _ (λ a b d e. search rules) (λ i. Met a.list.now (8 * a.f + i) (8 * a.f + i + 1) a.b C)
    (λ x b i j k. let here : (q : Bool) (r : ℕ) → Other (corner_of c.row_at-row.result x) (corner_of c.row_at-row.result (x + 1)) a.b r → Means q (C r) → Means q (Met a.list.now (8 * a.f + x) (8 * a.f + x + 1) a.b C) = λ q r o m. means_here c.requires.0.fit (told.runs_on x i j) o m in search (rules, here)) c.any.result found in
    let (x, i, j, y) = passed met c.if-any.true in
    rw c.if-any.true (means_true (met_in y (omega arith) (omega (arith, told.to))))

pub returns-else-any : goal.returns-else-any
returns-else-any c =
    let a = c.args in
    let k = c.side_count-k.result in
    let told = read a.list.now a.f c.requires.1 c.row_at-row.ensures c.side_count-k.ensures in
    let (p, begins, found) = c.any.ensures.runs in
    let C = Counts a.marks.now a.c a.d in
    let met = any_asked p _ _ (up_below p begins) _ _ (λ a b d e. search rules) (λ i. Met a.list.now (8 * a.f + i) (8 * a.f + i + 1) a.b C)
    (λ x b i j k. let here : (q : Bool) (r : ℕ) → Other (corner_of c.row_at-row.result x) (corner_of c.row_at-row.result (x + 1)) a.b r → Means q (C r) → Means q (Met a.list.now (8 * a.f + x) (8 * a.f + x + 1) a.b C) = λ q r o m. means_here c.requires.0.fit (told.runs_on x i j) o m in search (rules, here)) c.any.result found in
    let unmet = unmet_before a.f k (λ x i j y. failed met c.if-any.false (x, i, j, y)) (omega (arith, told.to)) in
    let last = means_last c.requires.0.fit told.runs_back c.other_corner.ensures (omega arith) unmet c.counts.ensures in
    means_by last (λ x. met_in x (omega arith) (omega (arith, told.to))) (λ (v, j, x). (v, in_element a.f k told.counted j, x))
