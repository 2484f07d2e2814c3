-- `meeting::clash_of` meets its contract.
-- Assumes nothing.
use Rattle.std.proofs.Common.{rules, arith, ◌∙◌, refl, ◌≡◌, ltb, not}
use Rattle.std.proofs.Math.Dec.{not_T}
use Rattle.lists.specs.Tests.{both}
use Rattle.lists.specs.TestLaws.{passes, true_of, means_lt}
use Rattle.rules.specs.Pairing.{meet_well}
use Rattle.rules.specs.Refusals.{clash_of}
use Rattle.sides.specs.Asked.{up_to, first_asked}
use Rattle.meeting.proofs.clash_of.Goals as goal

pub returns : goal.returns
unfolding clash_of
returns c =
    let a = c.args in
    let (p, begins, found) = c.find.ensures.runs in
    c.unwrap_or.ensures ∙ first_asked p _ _ (up_to c.new.ensures.start c.new.ensures.end c.new.ensures.exhausted p begins) _ _ (λ a b d e. search rules) (λ h. both (ltb a.f h) (not (meet_well a.list.now a.f h))) (omega arith) refl
    (λ x i j.
    not_T (both (ltb a.f x) (not (meet_well a.list.now a.f x)))
    (λ t. let (k, u) = passes (ltb a.f x) (not (meet_well a.list.now a.f x)) t in omega (arith, (means_lt a.f x).says k)))
    (λ x b l h k. let e : b ≡ not (meet_well a.list.now a.f x) = search rules in rw (true_of (ltb a.f x) ((means_lt a.f x).shows (omega arith))) e) c.find.result found
