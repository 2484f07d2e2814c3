-- Elements whose first two sides have their siblings in one other element, as triangles back to back have.
-- Assumes nothing.
use Rattle.std.specs.Prelude.{◌≡◌, Bool, not, ◌⊎◌, List, ℕ, ◌+◌, ◌*◌, ◌≤◌, eqb}
use Rattle.lists.specs.Tests.{both}
use Rattle.rules.specs.Elements.{elements, element, first_number}
use Rattle.rules.specs.Siblings.{sibling}

unfoldable pub is_folded : List ℕ → ℕ → Bool
is_folded L f =
    both (eqb (element (sibling L (8 * f + 1))) (element (sibling L (8 * f + 2)))) (not (eqb (element (sibling L (8 * f + 1))) f))

unfoldable pub folded_element : List ℕ → ℕ
folded_element L = first_number (elements L) (is_folded L)

-- r is the lesser of a and b, 0 being none
pub record LesserOf (a b r : ℕ) : Type 0 where
  pub either : (r ≡ 0 → ⊥) → (r ≡ a) ⊎ (r ≡ b)
  pub first : (a ≡ 0 → ⊥) → (1 ≤ r) × (r ≤ a)
  pub second : (b ≡ 0 → ⊥) → (1 ≤ r) × (r ≤ b)
