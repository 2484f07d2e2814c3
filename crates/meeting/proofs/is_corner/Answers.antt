-- `meeting::is_corner` meets its contract.
-- Assumes nothing.
use Rattle.std.proofs.Common.{rules, ◌∙◌, ap, arith, eqb, ◌≡◌, refl}
use Rattle.rules.specs.Elements.{corner}
use Rattle.rules.specs.Pairing.{is_corner}
use Rattle.halfedge.specs.Rows.{corner_of}
use Rattle.meeting.specs.Numbers.{sides_read, corner_read}
use Rattle.sides.specs.Asked.{up_to, some_asked}
use Rattle.meeting.proofs.is_corner.Goals as goal

pub returns : goal.returns
unfolding is_corner
returns c =
    let a = c.args in
    let (p, begins, found) = c.any.ensures.runs in
    let n = sides_read a.list.now a.f c.row_at-row.ensures c.side_count.ensures in
    some_asked p _ _ (up_to c.new.ensures.start (c.new.ensures.end ∙ n) c.new.ensures.exhausted p begins) _ _ (λ a b d e. search rules) (λ j. eqb (corner a.list.now a.f j) a.v) refl refl
    (λ x b l h k.
    let e : b ≡ eqb (corner_of c.row_at-row.result x) a.v = search rules in
    e ∙ ap (λ y. eqb y a.v) (corner_read a.list.now a.f c.row_at-row.ensures (omega arith) h refl)) c.any.result found
