-- The walks of the list queries, and the lists that they leave.
-- Assumes nothing.
use Rattle.std.specs.Prelude.{List, [], ◌∷◌, ◌≡◌, ℕ, zero, suc, length}
use Rattle.std.proofs.Math.Option.{Option, none, some}
use Rattle.rules.specs.Refusals.{Answer}
use Rattle.rules.specs.Queries.{listed, list_leaves, prepend, follow, over}

-- the list of a walk of at most j steps from x: `shows` of each, one after the other by `goes`
abbrev pub walked : (ℕ → Option ℕ) → (ℕ → Option ℕ) → ℕ → ℕ → Option (List ℕ)
walked shows goes j x = over shows (follow goes j x)

-- a list's length; the list, and [] for none
unfoldable pub size_of : Option (List ℕ) → Option ℕ
size_of (some xs) = some (length xs)
size_of none = none

unfoldable pub list_of : Option (List ℕ) → List ℕ
list_of (some xs) = xs
list_of none = []

-- the vertex before a list, where there is one
unfoldable pub leading : ℕ → List ℕ
leading zero = []
leading (suc u) = suc u ∷ []

unfoldable pub preceded : ℕ → Option (List ℕ) → Option (List ℕ)
preceded zero xs = xs
preceded (suc u) xs = prepend (suc u) xs

-- the answer of a list query that lists xs, and the output that it leaves
pub record Lists (xs : Option (List ℕ)) (out : List ℕ) (r : Answer) (after : List ℕ) : Type 0 where
  pub answer : r ≡ listed (length out) xs
  pub leaves : after ≡ list_leaves (listed (length out) xs) xs out
