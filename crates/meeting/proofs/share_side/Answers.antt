-- `meeting::share_side` meets its contract.
-- Assumes nothing.
use Rattle.std.proofs.Common.{rules, ◌∙◌, refl, ◌+◌, ◌*◌}
use Rattle.std.proofs.iter.Serving.{serving}
use Rattle.rules.specs.Elements.{sides, some_number}
use Rattle.rules.specs.Pairing.{joins, share_side}
use Rattle.meeting.specs.Numbers.{sides_read, sides_few, side_read}
use Rattle.sides.specs.Asked.{up_to, some_asked}
use Rattle.meeting.proofs.share_side.Goals as goal

pub any-requires-clause-callable : goal.any-requires-clause-callable
any-requires-clause-callable c =
    let a = c.args in
    let its = side_read a.list.now a.f c.row_at.ensures c.side_count.ensures c.requires.0 in
    let four = sides_few a.list.now a.f c.row_at.ensures c.side_count.ensures in
    grind (serving, its, four)

pub returns : goal.returns
unfolding share_side
returns c =
    let a = c.args in
    let (p, begins, found) = c.any.ensures.runs in
    let n = sides_read a.list.now a.f c.row_at.ensures c.side_count.ensures in
    some_asked p _ _ (up_to c.new.ensures.start (c.new.ensures.end ∙ n) c.new.ensures.exhausted p begins) _ _ (λ a b d e. search rules) (λ i. some_number (sides a.list.now a.g) (λ j. joins a.list.now (8 * a.f + i) (8 * a.g + j))) refl refl (λ x b l h k. search rules) c.any.result found
