-- The faults of a row.
-- Assumes nothing.
use Rattle.std.specs.Prelude.{◌≡◌, Option, Some, None, Bool, not, List, ℕ, ◌+◌, ◌-◌, eqb, ltb}
use Rattle.lists.specs.Tests.{either}
use Rattle.lists.specs.Search.{at}
use Rattle.rules.specs.Elements.{sides_by, side_at, first_number}
use Rattle.theory.specs.Least.{FirstNumber}

-- a corner's number by its place in the row; 0 where there is none
abbrev pub number_in : Option ℕ → ℕ
number_in None = 0
number_in (Some i) = i + 1

-- a corner x is no vertex
abbrev pub no_vertex : ℕ → ℕ → Bool
no_vertex n x = either (eqb x 0) (ltb n x)

-- corner i of a row equals an earlier one
unfoldable pub repeats : List ℕ → ℕ → Bool
repeats row i = not (eqb (first_number (i - 1) (λ j. eqb (at row (j - 1)) (at row (i - 1)))) 0)

-- r is the first corner of a row that is no vertex, or that equals an earlier one; 0 where there is none
abbrev pub UnfitIn : ℕ → List ℕ → ℕ → Type 0
UnfitIn n row r = FirstNumber (sides_by (at row 3)) (λ i. no_vertex n (at row (i - 1))) r

abbrev pub RepeatedIn : List ℕ → ℕ → Type 0
RepeatedIn row r = FirstNumber (sides_by (at row 3)) (repeats row) r

-- r is the first repeated corner, as a side's code: the one found before, or else that of the row at a
pub data Repeating (a : ℕ) (row : List ℕ) (found r : ℕ) : Type 0 where
  kept : (found ≡ 0 → ⊥) → r ≡ found → Repeating a row found r
  none : found ≡ 0 → RepeatedIn row 0 → r ≡ 0 → Repeating a row found r
  new : (i : ℕ) → found ≡ 0 → (i ≡ 0 → ⊥) → RepeatedIn row i → r ≡ side_at (a + i - 1) → Repeating a row found r
