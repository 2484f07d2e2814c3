-- `checks::alike_side` meets its contract: what was found is the first place where a side begins that another runs alike with.
-- Assumes nothing.
use Rattle.std.proofs.Common.{rules, arith, ◌∙◌}
use Rattle.std.proofs.lemmas.Iterator.{first_from_Range}
use Rattle.checks.specs.Maps.{AlikeAt, alike_found, alike_nowhere, two_by_two}
use Rattle.checks.proofs.Finding.{not_alike, unmet}
use Rattle.checks.proofs.alike_side.Goals as goal

pub code_at-requires : goal.code_at-requires
code_at-requires c =
    let L = c.args.list.now in
    let m = first_from_Range _ _ _ c.find.result (AlikeAt L) (λ x. AlikeAt L x → ⊥) c.find.ensures.ran (λ x q k. search rules) (λ x q k. (search rules, unmet (search rules))) in
    let found = rw c.in-Some.is at m in
    let fit = c.requires.0.fit in
    omega (arith, found.1, fit.size, fit.fours)

pub returns-in-Some : goal.returns-in-Some
returns-in-Some c =
    let L = c.args.list.now in
    let m = first_from_Range _ _ _ c.find.result (AlikeAt L) (λ x. AlikeAt L x → ⊥) c.find.ensures.ran (λ x q k. search rules) (λ x q k. (search rules, unmet (search rules))) in
    let found = rw c.in-Some.is at m in
    let two = two_by_two c.args.n L c.requires.0.fit c.requires.1 in
    c.code_at.ensures ∙ alike_found L two c.in-Some.p (not_alike L two c.in-Some.p (λ k h. found.3 k (omega arith) h)) found.2

pub returns-in-None : goal.returns-in-None
returns-in-None c =
    let L = c.args.list.now in
    let m = first_from_Range _ _ _ c.find.result (AlikeAt L) (λ x. AlikeAt L x → ⊥) c.find.ensures.ran (λ x q k. search rules) (λ x q k. (search rules, unmet (search rules))) in
    let none = rw c.in-None.is at m in
    let two = two_by_two c.args.n L c.requires.0.fit c.requires.1 in
    alike_nowhere L two _ (omega arith) (not_alike L two _ (λ k h. none k (omega arith) h))
