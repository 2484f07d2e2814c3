-- Where no side before a place is crowded, or runs alike with another, by the places.
-- Assumes nothing.
use Rattle.std.proofs.Common.{ℕ, zero, suc, List, ◌+◌, ◌<◌, ◌≡◌, arith, false}
use Rattle.lists.specs.TestLaws.{Means}
use Rattle.rules.specs.Elements.{Side}
use Rattle.rules.specs.Siblings.{sibling}
use Rattle.theory.specs.FitRows.{Fit}
use Rattle.checks.specs.Maps.{CrowdedAt, AlikeAt, NotCrowded, NotAlike, crowded_later, alike_later}

pub not_crowded : (n : ℕ) (L : List ℕ) → Fit n L → (p : ℕ) → ((q : ℕ) → q < p → CrowdedAt L q → ⊥) → NotCrowded L p
not_crowded n L fit zero f = λ s a h. absurd (omega arith)
not_crowded n L fit (suc p) f =
    let e : p + 1 ≡ suc p = omega arith in
    rw e at (crowded_later n L fit p (not_crowded n L fit p (λ q h. f q (omega arith))) (f p (omega arith)))

pub not_alike : (L : List ℕ) (two : (s : ℕ) → Side L s → sibling L (sibling L s) ≡ s) (p : ℕ) → ((q : ℕ) → q < p → AlikeAt L q → ⊥) → NotAlike L p
not_alike L two zero f = λ s a h. absurd (omega arith)
not_alike L two (suc p) f =
    let e : p + 1 ≡ suc p = omega arith in
    rw e at (alike_later L two p (not_alike L two p (λ q h. f q (omega arith))) (f p (omega arith)))

-- what a failed test denies
pub unmet : {P : Type 0} → Means false P → P → ⊥
unmet m p = m.shows p
