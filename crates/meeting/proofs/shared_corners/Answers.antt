-- `meeting::shared_corners` meets its contract.
-- Assumes nothing.
use Rattle.std.proofs.Common.{rules, arith, ◌∙◌, ap, refl, sym, cond, ◌≡◌, ℕ, ◌+◌, Bool}
use Rattle.rules.specs.Elements.{corner, sides}
use Rattle.rules.specs.Pairing.{is_corner, shared_corners}
use Rattle.halfedge.specs.Rows.{corner_of}
use Rattle.meeting.specs.Numbers.{sides_read, corner_read}
use Rattle.sides.specs.Asked.{up_to, one_if, count_asked, count_alike}
use Rattle.meeting.proofs.shared_corners.Goals as goal

pub returns : goal.returns
unfolding shared_corners
returns c =
    let a = c.args in
    let t : ℕ → Bool = λ i. is_corner a.list.now a.g (corner_of c.row_at-row.result i) in
    let (u, from, whole, many) = c.count.ensures.runs in
    let (p, begins, filtered) = c.filter.ensures.runs u u.seen from in
    let n = sides_read a.list.now a.f c.row_at-row.ensures c.side_count.ensures in
    many ∙ filtered.5 (one_if t) (λ x b d m k. let e : b ≡ t x = search rules in (search rules, ap (λ (z : Bool). m + cond z 1 0) (sym e)))
    ∙ count_asked p _ (up_to c.new.ensures.start (c.new.ensures.end ∙ n) c.new.ensures.exhausted p begins) t (filtered.0 ∙ whole)
    ∙ count_alike (λ j. t (j + 1)) (λ j. is_corner a.list.now a.g (corner a.list.now a.f (j + 1))) (sides a.list.now a.f)
    (λ j h. ap (is_corner a.list.now a.g) (corner_read a.list.now a.f c.row_at-row.ensures (omega arith) (omega arith) refl))
