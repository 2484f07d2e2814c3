-- Document 02, point 8: "Contract an edge and close the gaps". Side s runs from a to b: "Coarsening merges the destination b of a side into its
-- origin a".
-- Assumes nothing.
use Rattle.std.specs.Prelude.{Bool, true, false, not, List, [], ◌∷◌, ℕ, ◌*◌, ◌-◌, ltb, eqb, pos, Float, length, take}
use Rattle.std.specs.Float.{fin}
use Rattle.lists.specs.Tests.{both, either}
use Rattle.lists.specs.Search.{at, tab}
use Rattle.rules.specs.Elements.{elements, row, element, origin, destination, first_side, some_number}
use Rattle.rules.specs.Tables.{partner, is_border, least_side}
use Rattle.rules.specs.Refusals.{Answer, after}
use Rattle.edit_rules.specs.Edits.{Edited, becomes, refuses, Lent, with_row, is_there, held, edit_answer, edit_leaves}
use Rattle.edit_rules.specs.Swap.{third}
use Rattle.edit_rules.specs.Split.{is_splittable, has_points, coordinate, with_point}

-- a triangle goes: "the last row takes the freed number"; "Where the row .. that goes is itself the last, nothing takes its number"
unfoldable pub without_row : ℕ → List ℕ → List ℕ
without_row f L = take (4 * (elements L - 1)) (with_row f (row L (elements L)) L)

-- two go, "the higher-numbered first"
unfoldable pub without_both : ℕ → ℕ → List ℕ → List ℕ
without_both f g L = elim (ltb f g) [ true ↦ without_row f (without_row g L) | false ↦ without_row g (without_row f L) ]

-- "The one or two triangles on the edge go"
unfoldable pub without_edge : List ℕ → ℕ → List ℕ
without_edge L s =
    elim (is_border L s) [ true ↦ without_row (element s) L | false ↦ without_both (element s) (element (partner L s)) L ]

-- one number for another, in every entry
unfoldable pub instead : ℕ → ℕ → ℕ → ℕ
instead old new c = elim (eqb c old) [ true ↦ new | false ↦ c ]

unfoldable pub renamed : ℕ → ℕ → List ℕ → List ℕ
renamed old new L = tab (length L) (λ p. instead old new (at L p))

-- "Every b becomes a"
unfoldable pub merged : List ℕ → ℕ → List ℕ
merged L s = renamed (destination L s) (origin L s) (without_edge L s)

-- "then the last vertex takes number b"; where b is the last, it is in no row any more and "nothing takes its number"
unfoldable pub contracted : ℕ → List ℕ → ℕ → List ℕ
contracted n L s = renamed n (destination L s) (merged L s)

-- vertices u and v are neighbours: a side joins them
unfoldable pub is_neighbour : List ℕ → ℕ → ℕ → Bool
is_neighbour L u v =
    not
    (eqb
    (first_side L
    (λ s.
    either (both (eqb (origin L s) u) (eqb (destination L s) v)) (both (eqb (origin L s) v) (eqb (destination L s) u))))
    0)

-- "a third corner of those triangles"
unfoldable pub is_third : List ℕ → ℕ → ℕ → Bool
is_third L s v = either (eqb v (third L s)) (both (not (is_border L s)) (eqb v (third L (partner L s))))

-- 20: "a and b have a common neighbour that is not a third corner of those triangles"
unfoldable pub pinches : ℕ → List ℕ → ℕ → Bool
pinches n L s =
    some_number n
    (λ v. both (is_neighbour L (origin L s) v) (both (is_neighbour L (destination L s) v) (not (is_third L s v))))

-- v is used: it is a corner of some element
unfoldable pub is_used : List ℕ → ℕ → Bool
is_used L v = not (eqb (least_side L v) 0)

-- 21: "a vertex that was used would be left unused"; b isn't left, it goes
unfoldable pub strands : ℕ → List ℕ → ℕ → Bool
strands n L s =
    some_number n (λ v. both (not (eqb v (destination L s))) (both (is_used L v) (not (is_used (merged L s) v))))

-- 11, then "quadrilaterals on the edge or a border code give 15", as in point 6; "after 15, 20 before 21, both before the new list is tried"
unfoldable pub contract : ℕ → List ℕ → ℕ → Edited
contract n L s =
    elim (is_there L s) [
      | true ↦ elim (is_splittable L s) [
        | true ↦ elim (pinches n L s) [
          | true ↦ refuses 20
          | false ↦ elim (strands n L s) [ true ↦ refuses 21 | false ↦ becomes (n - 1) (contracted n L s) ]
        ]
        | false ↦ refuses 15
      ]
      | false ↦ refuses 11
    ]

-- the points are under check 2, as in point 6
abbrev pub contract_answer : Lent → List Float → ℕ → Answer
contract_answer w P s = edit_answer w (has_points w.n P) (contract w.n (held w) s)

-- what the call leaves of what it is lent, but for the points
abbrev pub contract_leaves : Lent → List Float → ℕ → Lent
contract_leaves w P s = edit_leaves w (has_points w.n P) (contract w.n (held w) s)

-- the point of vertex v
unfoldable pub point_of : List Float → ℕ → List Float
point_of P v = coordinate P v 0 ∷ coordinate P v 1 ∷ coordinate P v 2 ∷ []

-- "Entries between the new and the old length become 0": this is +0.0
abbrev pub float_zero : Float
float_zero = fin false 0 (pos 0)

-- the points of n vertices once vertex b has gone: "the last vertex takes number b with its point. The point of a stays"
unfoldable pub without_point : ℕ → ℕ → List Float → List Float
without_point n b P = with_point (n - 1) (float_zero ∷ float_zero ∷ float_zero ∷ []) (with_point (b - 1) (point_of P n) P)

-- what the call leaves of the points
unfoldable pub contract_points : Lent → List Float → ℕ → List Float
contract_points w P s = after (contract_answer w P s) (without_point w.n (destination (held w) s) P) P
