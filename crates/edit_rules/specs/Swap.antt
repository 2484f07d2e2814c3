-- Document 02, point 1: "Swap the diagonal of two triangles".
-- Assumes nothing.
use Rattle.std.specs.Prelude.{Bool, true, false, not, List, [], ◌∷◌, ℕ, eqb}
use Rattle.lists.specs.Tests.{both}
use Rattle.rules.specs.Elements.{sides, element, is_side, origin, previous}
use Rattle.rules.specs.Tables.{partner, is_border}
use Rattle.rules.specs.Refusals.{Answer}
use Rattle.edit_rules.specs.Edits.{Edited, becomes, refuses, Lent, with_row, is_there, held, edit_answer, edit_leaves}

-- "With side a to b, its third corner c": the corner before a
unfoldable pub third : List ℕ → ℕ → ℕ
third L s = origin L (previous L s)

-- "the side's row becomes (c,a,d)", where d is the third corner of its partner t. The partner runs from b to a: with s and t exchanged this is
-- "and the partner's (d,b,c)"
unfoldable pub flipped : List ℕ → ℕ → ℕ → List ℕ
flipped L s t = third L s ∷ origin L s ∷ third L t ∷ 0 ∷ []

-- the list with the diagonal s swapped
unfoldable pub swapped : List ℕ → ℕ → List ℕ
swapped L s =
    let t = partner L s in
    with_row (element t) (flipped L t s) (with_row (element s) (flipped L s t) L)

-- "15: the side, or the code given, is a border or either element is a quadrilateral": none of these
unfoldable pub is_swappable : List ℕ → ℕ → Bool
is_swappable L s =
    both (is_side L s)
    (both (not (is_border L s))
    (both (eqb (sides L (element s)) 3) (eqb (sides L (element (partner L s))) 3)))

-- 11, then 15, then the new list
unfoldable pub swap : ℕ → List ℕ → ℕ → Edited
swap n L s =
    elim (is_there L s)
    [ true ↦ elim (is_swappable L s) [ true ↦ becomes n (swapped L s) | false ↦ refuses 15 ] | false ↦ refuses 11 ]

-- nothing else is lent
abbrev pub swap_answer : Lent → ℕ → Answer
swap_answer w s = edit_answer w true (swap w.n (held w) s)

-- what the call leaves of what it is lent
abbrev pub swap_leaves : Lent → ℕ → Lent
swap_leaves w s = edit_leaves w true (swap w.n (held w) s)
