-- Refusal 15 of a split and of a contraction by the tests that are made.
-- Assumes nothing.
use Rattle.std.specs.Prelude.{◌≡◌, true, false, List, ℕ, ◌/◌, eqb}
use Rattle.std.proofs.Math.Path.{refl, sym}
use Rattle.lists.specs.TestLaws.{true_of, false_of, means_not}
use Rattle.rules.specs.Elements.{sides, is_side, Side}
use Rattle.rules.specs.Tables.{partner, is_border}
use Rattle.edit_rules.specs.Split.{is_splittable}
use Rattle.theory.specs.Entries.{means_border}

-- a side: none, not of a triangle, with nothing across it, or by the element across it
module _ (L : List ℕ) (s : ℕ) where
  pub not_side : is_side L s ≡ false → false ≡ is_splittable L s
  unfolding is_splittable
  not_side e = sym (rw e refl)

  pub not_triangle : Side L s → eqb (sides L (s / 8)) 3 ≡ false → false ≡ is_splittable L s
  unfolding is_splittable
  not_triangle a e = sym (rw (true_of (is_side L s) a, e) refl)

  pub nothing_across : Side L s → eqb (sides L (s / 8)) 3 ≡ true → partner L s ≡ 0 → true ≡ is_splittable L s
  unfolding is_splittable
  nothing_across a e z = sym (rw (true_of (is_side L s) a, e, true_of (is_border L s) ((means_border L s).shows z)) refl)

  pub by_across : Side L s → eqb (sides L (s / 8)) 3 ≡ true → (partner L s ≡ 0 → ⊥) → is_splittable L s ≡ eqb (sides L (partner L s / 8)) 3
  unfolding is_splittable
  by_across a e d = rw (true_of (is_side L s) a, e, false_of (is_border L s) ((means_not (means_border L s)).shows d)) refl
