-- Document 01, "Element list and half-edge numbers". L is an element list; a half-edge is its code.
-- Assumes nothing.
use Rattle.std.specs.Prelude.{Bool, true, false, not, List, ℕ, ◌+◌, ◌*◌, ◌-◌, ◌/◌, ◌%◌, T, ltb, eqb, length, take, drop}
use Rattle.lists.specs.Tests.{both, within}
use Rattle.lists.specs.Search.{at, least, count}

-- "The largest vertex, element and border numbers (1,000,000, 1,000,000 and 4,000,000)"
abbrev pub max_vertex : ℕ
max_vertex = 1_000_000

abbrev pub max_element : ℕ
max_element = 1_000_000

abbrev pub max_border : ℕ
max_border = 4_000_000

-- "m is a quarter of the element list's length"
abbrev pub elements : List ℕ → ℕ
elements L = length L / 4

-- "The row of element f is the four entries that start at entry 4 × (f − 1), entries counted from 0"
abbrev pub row : List ℕ → ℕ → List ℕ
row L f = take 4 (drop (4 * (f - 1)) L)

-- corner i of element f
abbrev pub corner : List ℕ → ℕ → ℕ → ℕ
corner L f i = at L (4 * (f - 1) + (i - 1))

-- "A fourth entry of 0 makes a triangle": the number of sides by a row's fourth entry, and of element f
unfoldable pub sides_by : ℕ → ℕ
sides_by fourth = elim (eqb fourth 0) [ true ↦ 3 | false ↦ 4 ]

abbrev pub sides : List ℕ → ℕ → ℕ
sides L f = sides_by (corner L f 4)

-- "Its code is 8 × f + i. Border half-edge ⟨b,0⟩ has code 8 × b": the element or border number of a code, and the side number in it
abbrev pub element : ℕ → ℕ
element s = s / 8

abbrev pub number : ℕ → ℕ
number s = s % 8

-- "i is 1 to 3 or 1 to 4": s is the code of a side of L
unfoldable pub is_side : List ℕ → ℕ → Bool
is_side L s = both (within 1 (elements L) (element s)) (within 1 (sides L (element s)) (number s))

abbrev pub Side : List ℕ → ℕ → Type 0
Side L s = T (is_side L s)

-- "Side ⟨f,i⟩ runs from corner i of element f (its origin)": where that corner stands in the list
unfoldable pub slot : ℕ → ℕ
slot s = 4 * (element s - 1) + (number s - 1)

unfoldable pub origin : List ℕ → ℕ → ℕ
origin L s = at L (slot s)

-- "the last corner being followed by the first": the number of the side that follows side i of k, and of the one before it
unfoldable pub next_number : ℕ → ℕ → ℕ
next_number k i = elim (eqb i k) [ true ↦ 1 | false ↦ i + 1 ]

unfoldable pub previous_number : ℕ → ℕ → ℕ
previous_number k i = elim (eqb i 1) [ true ↦ k | false ↦ i - 1 ]

-- the side that follows s in its element, and the one before it
unfoldable pub next : List ℕ → ℕ → ℕ
next L s = 8 * element s + next_number (sides L (element s)) (number s)

unfoldable pub previous : List ℕ → ℕ → ℕ
previous L s = 8 * element s + previous_number (sides L (element s)) (number s)

-- "to the next corner (its destination)"
abbrev pub destination : List ℕ → ℕ → ℕ
destination L s = origin L (next L s)

-- "Sides are ordered by code": that is the order in which their corners stand in the list. The code of the side whose corner stands at p
unfoldable pub side_at : ℕ → ℕ
side_at p = 8 * (p / 4 + 1) + (p % 4 + 1)

-- a side of L with the test t stands at p
abbrev pub side_with : List ℕ → (ℕ → Bool) → ℕ → Bool
side_with L t p = both (is_side L (side_at p)) (t (side_at p))

-- the least side with the test t; 0 where there is none ("Code 0 names nothing")
unfoldable pub first_side : List ℕ → (ℕ → Bool) → ℕ
first_side L t =
    let p = least (side_with L t) (length L) in elim (ltb p (length L)) [ true ↦ side_at p | false ↦ 0 ]

-- how many sides have the test t
unfoldable pub count_sides : List ℕ → (ℕ → Bool) → ℕ
count_sides L t = count (side_with L t) (length L)

-- "both are numbered from 1": the least of the vertices, or elements, 1 to n with the test t; 0 where there is none
unfoldable pub first_number : ℕ → (ℕ → Bool) → ℕ
first_number n t =
    let i = least (λ j. t (j + 1)) n in elim (ltb i n) [ true ↦ i + 1 | false ↦ 0 ]

-- one of them has the test t
abbrev pub some_number : ℕ → (ℕ → Bool) → Bool
some_number n t = not (eqb (first_number n t) 0)

-- how many of them have it
abbrev pub count_numbers : ℕ → (ℕ → Bool) → ℕ
count_numbers n t = count (λ j. t (j + 1)) n
