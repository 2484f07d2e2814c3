-- Document 02, point 6: "Split an edge and place its midpoint".
-- Assumes nothing.
use Rattle.std.specs.Prelude.{Bool, true, false, List, [], ◌∷◌, ◌++◌, ℕ, ◌+◌, ◌*◌, ◌-◌, leb, eqb, negsuc, Float, length, take, drop, set, get_or}
use Rattle.std.specs.Float.{fin, nan, binary64}
use Rattle.std.specs.Float.Ieee.{add, mul}
use Rattle.lists.specs.Tests.{both, either}
use Rattle.rules.specs.Elements.{elements, row, sides, element, is_side, slot, origin, next, destination}
use Rattle.rules.specs.Tables.{partner, is_border}
use Rattle.rules.specs.Refusals.{Answer, after}
use Rattle.edit_rules.specs.Edits.{Edited, becomes, refuses, Lent, is_there, counts_fit, held, has_room, edit_answer, edit_leaves}

-- "v takes the position of the corner it replaces": the list with v for the corner where side s begins
unfoldable pub with_corner : List ℕ → ℕ → ℕ → List ℕ
with_corner L s v = set L (slot s) v

-- "A triangle (a,b,c) becomes (a,v,c) and appended (v,b,c)", where s is its side from a to b. With the partner t of s for s this is "(b,a,d)
-- .. becomes (b,v,d) and appended (v,a,d)"
unfoldable pub halved : List ℕ → ℕ → ℕ → List ℕ
halved L s v = with_corner L (next L s) v ++ row (with_corner L s v) (element s)

-- the list with the new vertex v on side s: "Its partner .., if there is one, .. after the first"
unfoldable pub split_at : List ℕ → ℕ → ℕ → List ℕ
split_at L s v =
    elim (is_border L s) [ true ↦ halved L s v | false ↦ halved (halved L s v) (partner L s) v ]

-- "Refusal 15 is given here only for a quadrilateral or for a border code; a border side may be split": none of these
unfoldable pub is_splittable : List ℕ → ℕ → Bool
is_splittable L s =
    both (is_side L s)
    (both (eqb (sides L (element s)) 3)
    (either (is_border L s) (eqb (sides L (element (partner L s))) 3)))

-- "Points are lent as 3 × n numbers": there are as many for n vertices
unfoldable pub has_points : ℕ → List Float → Bool
has_points n P = leb (3 * n) (length P)

-- "19: n or m would pass its maximum, or a lent buffer but B2e can't hold the new length": none of these
unfoldable pub can_hold : Lent → List Float → ℕ → List ℕ → Bool
can_hold w P n L =
    both (counts_fit n (elements L)) (both (has_points n P) (has_room w n (elements L)))

-- 11, then 15, then 19, then the new list, with "v = n + 1"
unfoldable pub split : Lent → List Float → ℕ → Edited
split w P s =
    let L = held w in
    let v = w.n + 1 in
    elim (is_there L s) [
      | true ↦ elim (is_splittable L s) [
        | true ↦ elim (can_hold w P v (split_at L s v)) [ true ↦ becomes v (split_at L s v) | false ↦ refuses 19 ]
        | false ↦ refuses 15
      ]
      | false ↦ refuses 11
    ]

-- "Points are lent .., under check 2 too"
abbrev pub split_answer : Lent → List Float → ℕ → Answer
split_answer w P s = edit_answer w (has_points w.n P) (split w P s)

-- what the call leaves of what it is lent, but for the points
abbrev pub split_leaves : Lent → List Float → ℕ → Lent
split_leaves w P s = edit_leaves w (has_points w.n P) (split w P s)

-- "the sum of the two ends times 0.5", each operation rounded as IEEE 754 says; 0.5 is 1 × 2^-1
abbrev pub one_half : Float
one_half = fin false 1 (negsuc 0)

unfoldable pub midway : Float → Float → Float
midway x y = mul binary64 (add binary64 x y) one_half

-- "Each vertex has a point of three f64 numbers": number i of vertex v, counted from 0
unfoldable pub coordinate : List Float → ℕ → ℕ → Float
coordinate P v i = get_or P (3 * (v - 1) + i) nan

-- "The new point is, for each number", midway between the two ends
unfoldable pub midpoint : List Float → ℕ → ℕ → List Float
midpoint P a b =
    midway (coordinate P a 0) (coordinate P b 0)
    ∷ midway (coordinate P a 1) (coordinate P b 1)
    ∷ midway (coordinate P a 2) (coordinate P b 2)
    ∷ []

-- the points with this one after those of n vertices; "old points stay"
unfoldable pub with_point : ℕ → List Float → List Float → List Float
with_point n p P = take (3 * n) P ++ (p ++ drop (3 * n + 3) P)

-- the points once the new one is placed
abbrev pub placed : Lent → List Float → ℕ → List Float
placed w P s = with_point w.n (midpoint P (origin (held w) s) (destination (held w) s)) P

-- what the call leaves of the points
unfoldable pub split_points : Lent → List Float → ℕ → List Float
split_points w P s = after (split_answer w P s) (placed w P s) P
