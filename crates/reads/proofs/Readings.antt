-- Laws of what is read by the number of a code.
-- Assumes nothing.
use mathlib.Core.Path.{◌≡◌}
use Prim.Native.Nat.{ℕ, ◌%◌}
use borrow.Author.Tests.{eq-eqb, ne_eqb}
use Rattle.rules.specs.Queries.{by_side, by_entry}

-- by the number of a code
pub at_border {ℓ} : {A : Type ℓ} (c : ℕ) (x y : A) → c % 8 ≡ 0 → by_side c x y ≡ y
at_border c x y z = rw (eq-eqb (c % 8) 0 z, by_side)

pub at_side {ℓ} : {A : Type ℓ} (c : ℕ) (x y : A) → (c % 8 ≡ 0 → ⊥) → by_side c x y ≡ x
at_side c x y d = rw (ne_eqb (c % 8) 0 d, by_side)

-- by the V2e entry of a vertex
pub at_unused {ℓ} : {A : Type ℓ} (c : ℕ) (x y z : A) → c ≡ 0 → by_entry c x y z ≡ x
at_unused c x y z e = rw (eq-eqb c 0 e, by_entry)

pub at_used {ℓ} : {A : Type ℓ} (c : ℕ) (x y z : A) → (c ≡ 0 → ⊥) → by_entry c x y z ≡ by_side c y z
at_used c x y z d = rw (ne_eqb c 0 d, by_entry)
