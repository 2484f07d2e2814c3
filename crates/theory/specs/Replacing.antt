-- A list in which two triangles are replaced by two others: its sides have the codes that they had, and follow one another as they did.
-- Assumes nothing.
use Rattle.std.specs.Prelude.{◌≡◌, ◌⊎◌, Bool, List, ℕ, ◌+◌, ◌*◌, ◌-◌, ◌/◌, ◌%◌, length}
use Rattle.std.proofs.Math.Path.{ap}
use Rattle.std.proofs.Common.{sym, ◌∙◌, inl, inr, arith}
use Rattle.std.proofs.Math.Bool.{true, false}
use Rattle.std.proofs.Math.Dec.{eqb}
use Rattle.lists.specs.Tests.{both, within}
use Rattle.lists.specs.TestLaws.{decide, means_eq}
use Rattle.lists.specs.Search.{at}
use Rattle.rules.specs.Elements.{elements, element, number, corner, sides, sides_by, is_side, Side, slot, origin, next_number, next, destination, first_side}
use Rattle.rules.specs.Pairing.{Element}
use Rattle.rules.specs.Tables.{columns}
use Rattle.theory.specs.Sides.{side_facts}
use Rattle.theory.specs.Least.{First, nobody, somebody, first_side_lem, first_is}
use Rattle.theory.specs.Steps.{next_numbered}

-- L' is L with other triangles for f and g
pub record Replaced (L L' : List ℕ) (f g : ℕ) : Type 0 where
  pub mine : Element L f
  pub other : Element L g
  pub long : length L' ≡ length L
  pub mine_three : corner L f 4 ≡ 0
  pub other_three : corner L g 4 ≡ 0
  pub mine_still : corner L' f 4 ≡ 0
  pub other_still : corner L' g 4 ≡ 0
  pub rest : (p : ℕ) → (p / 4 + 1 ≡ f → ⊥) → (p / 4 + 1 ≡ g → ⊥) → at L' p ≡ at L p

module _ {L L' : List ℕ} {f g : ℕ} (x : Replaced L L' f g) where
  -- the fourth entries are the same
  fourth : (p : ℕ) → p % 4 ≡ 3 → at L' p ≡ at L p
  fourth p h = go (decide (means_eq (p / 4 + 1) f)) (decide (means_eq (p / 4 + 1) g))
    where
      go : (p / 4 + 1 ≡ f) ⊎ (p / 4 + 1 ≡ f → ⊥) → (p / 4 + 1 ≡ g) ⊎ (p / 4 + 1 ≡ g → ⊥) → at L' p ≡ at L p
      go (inl e) c = let q : p ≡ 4 * (f - 1) + 3 = omega arith in ap (at L') q ∙ x.mine_still ∙ sym (ap (at L) q ∙ x.mine_three)
      go (inr d) (inl e) = let q : p ≡ 4 * (g - 1) + 3 = omega arith in ap (at L') q ∙ x.other_still ∙ sym (ap (at L) q ∙ x.other_three)
      go (inr d) (inr e) = x.rest p d e

  pub same_size : elements L' ≡ elements L
  same_size = ap (λ (k : ℕ). k / 4) x.long

  pub same_sides : (e : ℕ) → sides L' e ≡ sides L e
  same_sides e = ap sides_by (fourth (4 * (e - 1) + 3) (omega arith))

  pub same_side : (s : ℕ) → is_side L' s ≡ is_side L s
  unfolding is_side
  same_side s =
      ap (λ (m : ℕ). both (within 1 m (element s)) (within 1 (sides L' (element s)) (number s))) same_size
      ∙ ap (λ (k : ℕ). both (within 1 (elements L) (element s)) (within 1 k (number s))) (same_sides (element s))

  pub side_still : (s : ℕ) → Side L s → Side L' s
  side_still s a = rw (same_side s) a

  pub side_before : (s : ℕ) → Side L' s → Side L s
  side_before s a = rw (sym (same_side s)) a

  pub same_next : (s : ℕ) → next L' s ≡ next L s
  unfolding next
  same_next s = ap (λ (k : ℕ). 8 * element s + next_number k (number s)) (same_sides (element s))

  -- a side of another element runs as it did
  module _ (s : ℕ) (a : Side L s) (d : s / 8 ≡ f → ⊥) (e : s / 8 ≡ g → ⊥) where
    pub same_origin : origin L' s ≡ origin L s
    unfolding origin slot
    same_origin = let i = side_facts L s a in x.rest (slot s) (λ z. d (omega (arith, i))) (λ z. e (omega (arith, i)))

  pub same_destination : (s : ℕ) → Side L s → (s / 8 ≡ f → ⊥) → (s / 8 ≡ g → ⊥) → destination L' s ≡ destination L s
  same_destination s a d e =
      let b = next_numbered L s a in
      ap (origin L') (same_next s) ∙ same_origin (next L s) b.side (λ z. d (sym b.same ∙ z)) (λ z. e (sym b.same ∙ z))

  -- the least side with a test is the same, and so are the columns
  pub same_first : (t : ℕ → Bool) → first_side L' t ≡ first_side L t
  same_first t = sym (first_is L t (first_side L' t) (go (first_side_lem L' t)))
    where
      go : {r : ℕ} → First L' t r → First L t r
      go (nobody e h) = nobody e (λ s a. h s (side_still s a))
      go (somebody a u h) = somebody (side_before _ a) u (λ s b. h s (side_still s b))

  pub same_columns : columns L' ≡ columns L
  unfolding columns
  same_columns = ap (λ (s : ℕ). elim (eqb s 0) [ true ↦ 3 | false ↦ 4 ]) (same_first (λ s. eqb (number s) 4))
