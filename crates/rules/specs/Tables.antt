-- Document 01, "The three tables", with E2e's columns by document 02, point 10.
-- Assumes nothing.
use Rattle.std.specs.Prelude.{Bool, true, false, List, ℕ, ◌+◌, ◌*◌, ◌-◌, ◌/◌, ◌%◌, leb, eqb, length}
use Rattle.lists.specs.Tests.{both}
use Rattle.lists.specs.Search.{at, count, upto, tab}
use Rattle.rules.specs.Elements.{elements, element, number, is_side, slot, origin, destination, side_at, side_with, first_side, count_sides}
use Rattle.rules.specs.Pairing.{opposed}

-- the side paired with s, as a side that runs opposed to it; 0 for "border"
unfoldable pub partner : List ℕ → ℕ → ℕ
partner L s = first_side L (opposed L s)

unfoldable pub is_border : List ℕ → ℕ → Bool
is_border L s = eqb (partner L s) 0

-- "B2e: border sides in order of code get b = 1, 2, ..; entry b is the code of that side"
unfoldable pub b2e : List ℕ → List ℕ
b2e L = upto (side_with L (is_border L)) side_at (length L)

-- the b of the border side s
unfoldable pub border_number : List ℕ → ℕ → ℕ
border_number L s = count (side_with L (is_border L)) (slot s) + 1

-- "Their number is k"
unfoldable pub borders : List ℕ → ℕ
borders L = count_sides L (is_border L)

-- document 02, point 10: "as many columns as the widest element has sides. Lists without a quadrilateral now use three entries for an element
-- in E2e; others keep four": whether some element has a fourth side
unfoldable pub columns : List ℕ → ℕ
columns L = elim (eqb (first_side L (λ s. eqb (number s) 4)) 0) [ true ↦ 3 | false ↦ 4 ]

-- the code whose entry stands at p in c columns, and where the entry of a side stands
unfoldable pub code_at : ℕ → ℕ → ℕ
code_at c p = 8 * (p / c + 1) + (p % c + 1)

unfoldable pub e2e_slot : ℕ → ℕ → ℕ
e2e_slot c s = c * (element s - 1) + (number s - 1)

-- "The entry of a paired side is its partner's code, of a border side 8 × b, and a triangle's fourth entry is 0"
unfoldable pub e2e_entry : List ℕ → ℕ → ℕ
e2e_entry L s =
    elim (is_side L s) [ true ↦ elim (is_border L s) [ true ↦ 8 * border_number L s | false ↦ partner L s ] | false ↦ 0 ]

unfoldable pub e2e : List ℕ → List ℕ
e2e L = tab (columns L * elements L) (λ p. e2e_entry L (code_at (columns L) p))

-- the entry of s in a table of any content with c columns; 0, nothing, for a fourth side in three columns
unfoldable pub entry_of : ℕ → List ℕ → ℕ → ℕ
entry_of c E2e s = elim (leb (number s) c) [ true ↦ at E2e (e2e_slot c s) | false ↦ 0 ]

-- the same entries in four columns whatever the list: the table over which a walk goes
unfoldable pub wide : List ℕ → List ℕ
wide L = tab (4 * elements L) (λ p. e2e_entry L (side_at p))

-- "V2e: for a vertex with a border side ending there, the border half-edge opposite that side; otherwise the least code of a side with
-- origin there"; document 02, point 2: for "vertices that no plate uses", "V2e entry 0", since no side is found
unfoldable pub border_into : List ℕ → ℕ → ℕ
border_into L v = first_side L (λ s. both (is_border L s) (eqb (destination L s) v))

abbrev pub least_side : List ℕ → ℕ → ℕ
least_side L v = first_side L (λ s. eqb (origin L s) v)

unfoldable pub v2e_entry : List ℕ → ℕ → ℕ
v2e_entry L v =
    elim (eqb (border_into L v) 0)
    [ true ↦ least_side L v | false ↦ 8 * border_number L (border_into L v) ]

unfoldable pub v2e : ℕ → List ℕ → List ℕ
v2e n L = tab n (λ i. v2e_entry L (i + 1))

-- "the number of edges, (number of sides + k) / 2"
unfoldable pub edges : List ℕ → ℕ
edges L = (count_sides L (λ s. true) + borders L) / 2
