-- `columns::seen` meets its contract.
-- Assumes nothing.
use mathlib.Core.Path.{◌≡◌, sym, ◌∙◌}
use mathlib.Core.List.{List}
use Prim.Native.Nat.{ℕ}
use native.Mathlib.Omega.{arith}
use borrow.Author.Tests.{eq-eqb, ne_eqb}
use Rattle.rules.specs.Tables.{columns}
use Rattle.rules.specs.Queries.{seen}
use Rattle.columns.proofs.seen.Goals as goal

looks : (told : ℕ) (L : List ℕ) → told ≡ 0 → seen told L ≡ columns L
unfolding seen
looks told L e = rw (eq-eqb told 0 e, seen)

believes : (told : ℕ) (L : List ℕ) → (told ≡ 0 → ⊥) → seen told L ≡ told
unfolding seen
believes told L d = rw (ne_eqb told 0 d, seen)

pub returns-then-told-eq0 : goal.returns-then-told-eq0
returns-then-told-eq0 c = c.columns_of.ensures ∙ sym (looks _ _ (omega arith))

pub returns : goal.returns
returns c = sym (believes _ _ (λ e. omega arith))
