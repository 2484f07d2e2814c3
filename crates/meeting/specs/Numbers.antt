-- What the row of an element tells.
-- Assumes nothing.
use Rattle.std.specs.Prelude.{◌≡◌, refl, Bool, true, false, ◌&&◌, List, ℕ, ◌+◌, ◌*◌, ◌≤◌}
use Rattle.std.proofs.Common.{ap, ◌∙◌, arith}
use Rattle.lists.specs.Tests.{both}
use Rattle.rules.specs.Elements.{corner, sides, row, Side}
use Rattle.rules.specs.Pairing.{Element}
use Rattle.theory.specs.Links.{at_corner}
use Rattle.theory.specs.Meeting.{few}
use Rattle.halfedge.specs.Rows.{row_of, corner_of, sides_of, row_sides, row_corner}

-- the row r of element f, and k sides by it
module _ (L : List ℕ) (f : ℕ) {r : List ℕ} (is : r ≡ row_of (row L f)) where
  pub sides_read : {k : ℕ} → k ≡ sides_of r → k ≡ sides L f
  sides_read q = q ∙ ap sides_of is ∙ row_sides L f

  pub sides_few : {k : ℕ} → k ≡ sides_of r → k ≤ 4
  sides_few q = omega (arith, sides_read q, few L f)

  pub corner_read : {i x : ℕ} → 1 ≤ i → i ≤ sides L f → x ≡ corner_of r i → x ≡ corner L f i
  corner_read {i} a b q =
      q ∙ ap (λ (p : List ℕ). corner_of p i) is ∙ row_corner L f i a (omega (arith, few L f))

  -- the sides that the row counts
  pub side_read : {k : ℕ} → k ≡ sides_of r → Element L f → (i : ℕ) → 1 ≤ i → i ≤ k → Side L (8 * f + i)
  side_read q a i b d =
      let h : i ≤ sides L f = omega (arith, sides_read q) in
      (at_corner L f i a.0 a.1 b (omega (arith, few L f)) h).is_side_lem

-- the two operators
pub both_and : (a b : Bool) → (a && b) ≡ both a b
both_and true b = refl
both_and false b = refl
