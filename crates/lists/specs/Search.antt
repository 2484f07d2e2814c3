-- Searching, counting and listing below a bound.
-- Assumes nothing.
use Rattle.std.specs.Prelude.{Bool, true, false, List, [], ◌∷◌, ◌++◌, ℕ, zero, suc, ◌+◌, ltb, eqb, length, get_or}

-- what stands at place i of a list of numbers, 0 past its end
abbrev pub at : List ℕ → ℕ → ℕ
at xs i = get_or xs i 0

-- the least i below n with p i; n where there is none
unfoldable pub least : (ℕ → Bool) → ℕ → ℕ
least p zero = 0
least p (suc n) =
    let r = least p n in elim (ltb r n) [ true ↦ r | false ↦ elim (p n) [ true ↦ n | false ↦ suc n ] ]

-- how many i below n have p i
unfoldable pub count : (ℕ → Bool) → ℕ → ℕ
count p zero = 0
count p (suc n) = elim (p n) [ true ↦ suc (count p n) | false ↦ count p n ]

-- f of each i below n with p i, in order
unfoldable pub upto : (ℕ → Bool) → (ℕ → ℕ) → ℕ → List ℕ
upto p f zero = []
upto p f (suc n) = elim (p n) [ true ↦ upto p f n ++ (f n ∷ []) | false ↦ upto p f n ]

-- f of each i below n, in order
unfoldable pub tab : ℕ → (ℕ → ℕ) → List ℕ
tab zero f = []
tab (suc n) f = tab n f ++ (f n ∷ [])

-- how many entries are 0
unfoldable pub zeros : List ℕ → ℕ
zeros xs = count (λ i. eqb (at xs i) 0) (length xs)

-- the entries added up
unfoldable pub total : List ℕ → ℕ
total [] = 0
total (x ∷ xs) = x + total xs
