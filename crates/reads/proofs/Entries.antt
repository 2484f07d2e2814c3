-- Where E2e has the entry of a side.
-- Assumes nothing.
use mathlib.Core.Logic.{◌⊎◌, inl, inr}
use mathlib.Core.Path.{◌≡◌}
use Prim.Native.Nat.{ℕ, ◌-◌, ◌*◌, ◌/◌, ◌%◌, ◌≤◌, ◌<◌}
use native.Mathlib.Omega.{arith}
use lib.ListN.{length}
use Rattle.rules.specs.Elements.{max_border, Side}
use Rattle.rules.specs.Tables.{e2e_slot}
use Rattle.rules.specs.Queries.{Mesh}
use Rattle.theory.specs.Sides.{side_facts}
use Rattle.theory.specs.Columns.{by_bounds, slot_within}
use Rattle.reads.specs.Meshes.{Fit}

module _ (M : Mesh) (s : ℕ) (fit : Fit M) (a : Side M.list s) where
  pub entry_inside : s % 8 ≤ M.columns → e2e_slot M.columns s < length M.opposites
  entry_inside h =
      let f = side_facts M.list s a in
      rw fit.opposites (slot_within M.columns _ s (by_bounds M.columns fit.columns_from fit.columns_to) f.element_from f.element_to f.number_from h)

  pub row_inside : M.columns * (s / 8 - 1) ≤ max_border
  row_inside = few M.columns (by_bounds M.columns fit.columns_from fit.columns_to)
    where
      few : (c : ℕ) → (c ≡ 3) ⊎ (c ≡ 4) → c * (s / 8 - 1) ≤ max_border
      few c (inl e) = rw e (omega (arith, fit.elements, side_facts M.list s a))
      few c (inr e) = rw e (omega (arith, fit.elements, side_facts M.list s a))
