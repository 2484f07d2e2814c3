-- Refusals 20 and 21, document 02, point 8, as statements about sides: that neither is due, and what makes each of them.
-- Assumes nothing.
use Rattle.std.specs.Prelude.{◌≡◌, true, false, List, ℕ, ◌/◌}
use Rattle.std.proofs.Common.{sym, ◌∙◌, inl, inr, arith}
use Rattle.lists.specs.TestLaws.{true_of, false_of, decide, means_not}
use Rattle.rules.specs.Elements.{Side, origin, destination}
use Rattle.edit_rules.specs.Contract.{merged, pinches, strands}
use Rattle.theory.specs.FitRows.{Fit}
use Rattle.theory.specs.Splitting.{Splittable}
use Rattle.theory.specs.Coarsening.{Stays, merged_to}
use Rattle.theory.specs.ContractTests.{Neighbours, neighbour_in, Third, means_third, means_pinches}
use Rattle.theory.specs.Using.{Used, means_used, means_strands}
use Rattle.theory.specs.Contracting.{merged_coarsened}

-- the ends of side s, a and b, have no common neighbour but the third corners of the triangles on it
abbrev pub Unpinched : List ℕ → ℕ → Type 0
Unpinched L s = (v : ℕ) → Neighbours L (origin L s) v → Neighbours L (destination L s) v → Third L s v

-- every vertex but b that was used is used still, once b is merged into a
abbrev pub KeepsUsed : List ℕ → ℕ → Type 0
KeepsUsed L s = (v : ℕ) → (v ≡ destination L s → ⊥) → Used L v → Used (merged L s) v

-- what the tests of 20 and 21 say of a list with fit rows
module _ (n : ℕ) (L : List ℕ) (fit : Fit n L) (s : ℕ) where
  pub pinched_by : (v : ℕ) → Neighbours L (origin L s) v → Neighbours L (destination L s) v → (Third L s v → ⊥) → pinches n L s ≡ true
  pinched_by v f g no_third =
      let (l, h) = neighbour_in fit f in
      true_of (pinches n L s)
      ((means_pinches n L s).shows (v, record { from = l; to = h; of_origin = f; of_destination = g; no_third = no_third }))

  pub unpinched : Unpinched L s → pinches n L s ≡ false
  unpinched f =
      false_of (pinches n L s)
      ((means_not (means_pinches n L s)).shows (λ (v, x). x.no_third (f v x.of_origin x.of_destination)))

  pub says_unpinched : pinches n L s ≡ false → Unpinched L s
  says_unpinched e v f g = elim (decide (means_third L s v)) [
    | inl t ↦ t
    | inr d ↦ let z = sym (pinched_by v f g d) ∙ e in let y : ◌≡◌ {A = ℕ} 0 1 = cc in absurd (omega arith)
  ]

  pub stranded_by : (v : ℕ) → (v ≡ destination L s → ⊥) → Used L v → (Used (merged L s) v → ⊥) → strands n L s ≡ true
  stranded_by v d (q, (a, e)) left =
      true_of (strands n L s)
      ((means_strands n L s).shows
      (v, record { from = omega (arith, fit.from q a); to = omega (arith, fit.to q a); other = d; used = (q, (a, e)); left = left }))

  pub keeps_used : KeepsUsed L s → strands n L s ≡ false
  keeps_used f =
      false_of (strands n L s) ((means_not (means_strands n L s)).shows (λ (v, x). x.left (f v x.other x.used)))

  pub says_used : strands n L s ≡ false → KeepsUsed L s
  says_used e v d u = elim (decide (means_used (merged L s) v)) [
    | inl t ↦ t
    | inr left ↦ let z = sym (stranded_by v d u left) ∙ e in let y : ◌≡◌ {A = ℕ} 0 1 = cc in absurd (omega arith)
  ]

  -- a vertex is left unused where no element that stays has it for a corner; b counts as a
  pub left_unused : Splittable L s → (v : ℕ) → ((q : ℕ) → Side L q → merged_to L s (origin L q) ≡ v → Stays L s (q / 8) → ⊥) → Used (merged L s) v → ⊥
  left_unused x v none (q, (i, e)) =
      let c = merged_coarsened n L fit s x in
      none (c.old q) (c.side q i) (sym (c.from q i) ∙ e) (c.stays q i)
