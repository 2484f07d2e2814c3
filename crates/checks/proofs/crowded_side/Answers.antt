-- `checks::crowded_side` meets its contract: what was found is the first place where a crowded side begins.
-- Assumes nothing.
use Rattle.std.proofs.Common.{rules, arith, ◌∙◌}
use Rattle.std.proofs.lemmas.Iterator.{first_from_Range}
use Rattle.checks.specs.Maps.{CrowdedAt, crowded_found, crowded_nowhere}
use Rattle.checks.proofs.Finding.{not_crowded, unmet}
use Rattle.checks.proofs.crowded_side.Goals as goal

pub code_at-requires : goal.code_at-requires
code_at-requires c =
    let L = c.args.list.now in
    let m = first_from_Range _ _ _ c.find.result (CrowdedAt L) (λ x. CrowdedAt L x → ⊥) c.find.ensures.ran (λ x q k. search rules) (λ x q k. (search rules, unmet (search rules))) in
    let found = rw c.in-Some.is at m in
    let fit = c.requires.fit in
    omega (arith, found.1, fit.size, fit.fours)

pub returns-in-Some : goal.returns-in-Some
returns-in-Some c =
    let L = c.args.list.now in
    let m = first_from_Range _ _ _ c.find.result (CrowdedAt L) (λ x. CrowdedAt L x → ⊥) c.find.ensures.ran (λ x q k. search rules) (λ x q k. (search rules, unmet (search rules))) in
    let found = rw c.in-Some.is at m in
    let fit = c.requires.fit in
    c.code_at.ensures ∙ crowded_found _ L fit c.in-Some.p (not_crowded _ L fit c.in-Some.p (λ k h. found.3 k (omega arith) h)) found.2

pub returns-in-None : goal.returns-in-None
returns-in-None c =
    let L = c.args.list.now in
    let m = first_from_Range _ _ _ c.find.result (CrowdedAt L) (λ x. CrowdedAt L x → ⊥) c.find.ensures.ran (λ x q k. search rules) (λ x q k. (search rules, unmet (search rules))) in
    let none = rw c.in-None.is at m in
    let fit = c.requires.fit in
    crowded_nowhere _ L fit _ (omega arith) (not_crowded _ L fit _ (λ k h. none k (omega arith) h))
