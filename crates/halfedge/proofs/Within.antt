-- What a passed range test says of the number.
-- Assumes nothing.
use mathlib.Core.Bool.{Bool, true, false, not}
use mathlib.Core.Path.{◌≡◌, refl, sym, ◌∙◌}
use Prim.Native.Nat.{ℕ, ◌≤◌}
use lib.Dec.{leb}
use borrow.Author.Tests.{leb-true, not-true, not-false}
use Rattle.lists.specs.Tests.{both, within}

both_true : (s t : Bool) → both s t ≡ true → (s ≡ true) × (t ≡ true)
both_true true true h = (refl, refl)
both_true true false h = (refl, h)
both_true false t h = (h, cc)

pub inside : (a b x : ℕ) → within a b x ≡ true → (a ≤ x) × (x ≤ b)
inside a b x h =
    let p = both_true (leb a x) (leb x b) h in (leb-true a x p.0, leb-true x b p.1)

-- in the code, `if !r { return .. }` with r the answer of a test t
pub failed : {r t : Bool} → r ≡ t → not r ≡ true → t ≡ false
failed {r} e h = sym e ∙ not-true r h

pub passed : {r t : Bool} → r ≡ t → not r ≡ false → t ≡ true
passed {r} e h = sym e ∙ not-false r h
