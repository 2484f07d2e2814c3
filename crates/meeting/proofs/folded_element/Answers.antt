-- `meeting::folded_element` meets its contract.
-- Assumes nothing.
use Rattle.std.proofs.Common.{rules, ◌∙◌, refl, arith}
use Rattle.meeting.specs.Folds.{is_folded, folded_element}
use Rattle.sides.specs.Asked.{up_to, first_asked}
use Rattle.meeting.proofs.folded_element.Goals as goal

pub returns : goal.returns
unfolding folded_element
returns c =
    let (p, begins, found) = c.find.ensures.runs in
    c.unwrap_or.ensures ∙ first_asked p _ _ (up_to c.new.ensures.start c.new.ensures.end c.new.ensures.exhausted p begins) _ _ (λ a b d e. search rules) (is_folded c.args.list.now) (omega arith) refl (λ x a b. absurd (omega arith)) (λ x b l h k. search rules) c.find.result found
