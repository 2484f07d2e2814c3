-- A table of four columns by the columns it goes to.
-- Assumes nothing.
use mathlib.Core.Path.{◌≡◌, ap, ◌∙◌}
use mathlib.Core.Logic.{◌⊎◌, inl, inr}
use mathlib.Core.List.{List}
use Prim.Native.Nat.{ℕ, ◌*◌}
use borrow.Author.Tests.{ne_eqb}
use Rattle.theory.specs.Columns.{narrowed}

pub not_three : {c : ℕ} → (c ≡ 3) ⊎ (c ≡ 4) → (c ≡ 3 → ⊥) → c ≡ 4
not_three (inl e) d = absurd (d e)
not_three (inr e) d = e

-- not in three it stays as it is
pub as_it_is : {c : ℕ} (W : List ℕ) → (c ≡ 3 → ⊥) → narrowed c W ≡ W
unfolding narrowed
as_it_is {c} W d = rw (ne_eqb c 3 d, narrowed)

pub long_by : {c d l : ℕ} (m : ℕ) → l ≡ c * m → c ≡ d → l ≡ d * m
long_by m h e = h ∙ ap (λ (x : ℕ). x * m) e
