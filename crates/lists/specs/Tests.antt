-- Tests that compute, and how they are put together. `T b` says that the test b passes.
-- Assumes nothing.
use Rattle.std.specs.Prelude.{Bool, true, false, List, [], ◌∷◌, ℕ, leb, eqb}

-- both tests pass
abbrev pub both : Bool → Bool → Bool
both true b = b
both false b = false

-- at least one of the tests passes
abbrev pub either : Bool → Bool → Bool
either true b = true
either false b = b

-- x is from a to b
abbrev pub within : ℕ → ℕ → ℕ → Bool
within a b x = both (leb a x) (leb x b)

-- two lists agree in length and in every entry
unfoldable pub same : List ℕ → List ℕ → Bool
same [] [] = true
same [] (y ∷ ys) = false
same (x ∷ xs) [] = false
same (x ∷ xs) (y ∷ ys) = both (eqb x y) (same xs ys)

-- x stands in the list
unfoldable pub has : List ℕ → ℕ → Bool
has [] x = false
has (y ∷ ys) x = either (eqb y x) (has ys x)
