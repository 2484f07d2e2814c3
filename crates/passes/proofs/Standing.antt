-- Where a walk goes on.
-- Assumes nothing.
use mathlib.Core.Bool.{Bool, true, false}
use mathlib.Core.Logic.{◌⊎◌, inl, inr}
use mathlib.Core.Option.{Option, some}
use mathlib.Core.Path.{◌≡◌, sym, subst, ◌∙◌}
use Prim.Native.Nat.{ℕ, ◌%◌, ◌≤◌}
use lib.Dec.{T, eqb}
use lib.ListN.{length}
use Rattle.lists.specs.TestLaws.{zero_or}
use Rattle.rules.specs.Elements.{Side, next}
use Rattle.rules.specs.Queries.{Mesh, by_side, is_half_edge, read_opposite, onward, next_border, loop_next}
use Rattle.theory.specs.Steps.{next_side_lem}
use Rattle.theory.specs.Reads.{was_valid, and_some}
use Rattle.theory.specs.Reaching.{next_in}
use Rattle.reads.proofs.Readings.{at_border, at_side}
use Rattle.reads.proofs.Tested.{half_side}

-- y where it is not the start, 0 where it is
unless : (y start z : ℕ) → ◌≡◌ {A = Option ℕ} (elim (eqb y start) [ true ↦ some 0 | false ↦ some y ]) (some z) → (z ≡ 0 → ⊥) → y ≡ z
unless y start z e d = go (eqb y start) e
  where
    go : (b : Bool) → ◌≡◌ {A = Option ℕ} (elim b as (λ _. Option ℕ) [ true ↦ some 0 | false ↦ some y ]) (some z) → y ≡ z
    go true p = let q : 0 ≡ z = cc in absurd (d (sym q))
    go false p = cc

module _ (M : Mesh) (start x y : ℕ) (d : y ≡ 0 → ⊥) where
  pub onward_side : onward M start x ≡ some y → Side M.list y
  unfolding onward read_opposite
  onward_side e =
      let (t, p, q) = and_some (read_opposite M x) _ y e in by t (was_valid (is_half_edge M) _ t p) q (zero_or (t % 8))
    where
      by : (t : ℕ) → T (is_half_edge M t) → by_side t (elim (eqb (next M.list t) start) [ true ↦ some 0 | false ↦ some (next M.list t) ]) (some 0) ≡ some y →
          (t % 8 ≡ 0) ⊎ (t % 8 ≡ 0 → ⊥) → Side M.list y
      by t h q (inl z) = let r : some 0 ≡ some y = sym (at_border t _ (some 0) z) ∙ q in let f : 0 ≡ y = cc in absurd (d (sym f))
      by t h q (inr n) =
          subst (λ (u : ℕ). Side M.list u) (unless (next M.list t) start y (sym (at_side t _ (some 0) n) ∙ q) d) (next_side_lem M.list t (half_side M t h n))

  pub loop_border : loop_next M start x ≡ some y → (1 ≤ y) × (y ≤ length M.border)
  unfolding loop_next
  loop_border e =
      let (z, p, q) = and_some (next_border M x) _ y e in
      let f : z ≡ y = unless z start y q d in
      rw f at (next_in M x z p)
