-- Document 01, "The listing program": the lines that it prints.
-- Assumes nothing.
use Rattle.std.specs.Prelude.{Bool, true, false, List, [], ◌∷◌, ◌++◌, ◌≡◌, ℕ, zero, suc, ◌+◌, ◌*◌, ◌-◌, ◌/◌, ◌%◌, ◌≤◌, ltb, eqb, length, take, drop}
use Rattle.std.proofs.lemmas.List.Edits.{sets}
use Rattle.lists.specs.Search.{at}

-- the decimal digits of x, as many as there are, at most k
unfoldable pub last_digits : ℕ → ℕ → List ℕ
last_digits zero x = []
last_digits (suc k) x = elim (ltb x 10) [ true ↦ (48 + x) ∷ [] | false ↦ last_digits k (x / 10) ++ ((48 + x % 10) ∷ []) ]

-- the decimal digits of x, the first of them 0 only where x is 0
unfoldable pub digits : ℕ → List ℕ
digits x = last_digits (suc x) x

-- the texts f 0 to f (k - 1), one after the other
unfoldable pub joined : (ℕ → List ℕ) → ℕ → List ℕ
joined f zero = []
joined f (suc k) = joined f k ++ f k

-- a comma before each number
abbrev pub item : List ℕ → ℕ → List ℕ
item xs i = 44 ∷ digits (at xs i)

abbrev pub items : List ℕ → List ℕ
items xs = joined (item xs) (length xs)

-- "It prints V with the V2e entries, .., all joined by commas": a letter and numbers, on a line
abbrev pub line_of : ℕ → List ℕ → List ℕ
line_of letter xs = letter ∷ (items xs ++ (10 ∷ []))

-- "one E line for each element", with as many entries as E2e has columns (document 02, point 10)
abbrev pub row_line : ℕ → List ℕ → ℕ → List ℕ
row_line c e k = line_of 69 (take c (drop (c * k) e))

-- "It prints V with the V2e entries, one E line for each element, B with the B2e entries"; E2e in c columns
abbrev pub table_lines : ℕ → List ℕ → List ℕ → List ℕ → List ℕ
table_lines c v e b = line_of 86 v ++ (joined (row_line c e) (length e / c) ++ line_of 66 b)

-- three columns, or four
abbrev pub width_of : ℕ → ℕ
width_of c = elim (eqb c 3) [ true ↦ 3 | false ↦ 4 ]

-- "A refusal prints R, number, and the two place numbers"
abbrev pub refusal_line : ℕ → ℕ → ℕ → List ℕ
refusal_line r a b = line_of 82 (r ∷ a ∷ b ∷ [])

-- s stands in a buffer from place i up to place r, and the rest is as it was before
abbrev pub Written : List ℕ → ℕ → List ℕ → List ℕ → ℕ → Type 0
Written before i s after r = (r ≡ i + length s) × (after ≡ sets before i s)

-- n bytes at the start of a buffer can be lent
abbrev pub Counts : ℕ → List ℕ → Type 0
Counts n out = (n ≤ length out) × (n ≡ length (take n out))

-- what is shown where there is room: all of it, or nothing
abbrev pub shown_if : Bool → List ℕ → List ℕ
shown_if true s = s
shown_if false s = []

-- `size` bytes have room from place p on for 11 bytes, and 11 more for each of k numbers
abbrev pub has_room : ℕ → ℕ → ℕ → Bool
has_room size p k = ltb k ((size - p) / 11)

abbrev pub shown_line : ℕ → ℕ → ℕ → List ℕ → List ℕ
shown_line size p letter xs = shown_if (has_room size p (length xs)) (line_of letter xs)

abbrev pub shown_refusal : ℕ → ℕ → ℕ → ℕ → List ℕ
shown_refusal size r a b = shown_if (has_room size 0 3) (refusal_line r a b)

-- a row counts as five numbers, for its own 11 bytes
abbrev pub shown_tables : ℕ → ℕ → List ℕ → List ℕ → List ℕ → List ℕ
shown_tables size c v e b =
    shown_if (has_room size 0 (length v + length b + 5 * (length e / c) + 1)) (table_lines c v e b)
