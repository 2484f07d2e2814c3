-- Document 01, "Recovery".
-- Assumes nothing.
use Rattle.std.specs.Prelude.{◌≡◌, true, false, List, ℕ, zero, suc, ◌*◌, eqb, length, set, replicate}
use Rattle.lists.specs.Tests.{both, within}
use Rattle.lists.specs.Search.{at, tab, zeros}
use Rattle.rules.specs.Elements.{elements, element, number, is_side, slot, next, side_at, first_side}
use Rattle.rules.specs.Pairing.{Accepted}
use Rattle.rules.specs.Tables.{entry_of, v2e, e2e}

-- "An accepted list of m elements on n vertices has these tables when the rules above give for it this V2e and this E2e, in length and in
-- every entry; its B2e isn't asked about"; document 02, point 10: "in recovery the m it is told"
pub record HasTables (n m : ℕ) (L V2e E2e : List ℕ) : Type 0 where
  pub accepted : Accepted n L
  pub size : elements L ≡ m
  pub vertices : v2e n L ≡ V2e
  pub opposites : e2e L ≡ E2e

-- document 02, point 10: recovery "takes either length": the columns by length and m, and the table in four, where three columns have no
-- fourth entry
unfoldable pub columns_by : ℕ → List ℕ → ℕ
columns_by m E2e = elim (eqb (length E2e) (3 * m)) [ true ↦ 3 | false ↦ 4 ]

unfoldable pub widened : ℕ → List ℕ → List ℕ
widened m E2e = tab (4 * m) (λ p. entry_of (columns_by m E2e) E2e (side_at p))

-- The walk over a V2e and an E2e in four columns of any content, which gives every accepted list back from its tables. A triangle's fourth
-- entry is 0 in E2e as in the element list, so the sides that E2e speaks of are `is_side E2e`.

-- the least side whose entry is the border c; 0 where there is none. Borders are numbered from 1, and there are no more of them than entries
unfoldable pub side_of_border : List ℕ → ℕ → ℕ
side_of_border E2e c =
    elim (within 1 (length E2e) (element c)) [ true ↦ first_side E2e (λ t. eqb (at E2e (slot t)) c) | false ↦ 0 ]

-- the side where the walk about a vertex begins: its V2e entry, or for a border the side following the one with this border; 0, no walk,
-- where there is none, so for the entry 0 of an unused vertex
unfoldable pub walk_start : List ℕ → ℕ → ℕ
walk_start E2e c =
    elim (eqb (number c) 0)
    [ true ↦ elim (eqb (side_of_border E2e c) 0) [ true ↦ 0 | false ↦ next E2e (side_of_border E2e c) ] | false ↦ c ]

-- the turn of s by E2e; 0 where it has none
unfoldable pub turn_by : List ℕ → ℕ → ℕ
turn_by E2e s =
    elim (is_side E2e (at E2e (slot s))) [ true ↦ next E2e (at E2e (slot s)) | false ↦ 0 ]

-- from the side s on by turns, v is written where each side's origin belongs, up to a place that is written or something that is no side.
-- Each step fills an empty place of W, so their number bounds the steps
unfoldable pub trace : ℕ → List ℕ → ℕ → ℕ → List ℕ → List ℕ
trace zero E2e v s W = W
trace (suc k) E2e v s W =
    elim (both (is_side E2e s) (eqb (at W (slot s)) 0))
    [ true ↦ trace k E2e v (turn_by E2e s) (set W (slot s) v) | false ↦ W ]

-- the vertices 1 to v one after another, over a list that is empty at first
unfoldable pub walk_to : List ℕ → List ℕ → ℕ → List ℕ
walk_to V2e E2e zero = replicate (length E2e) 0
walk_to V2e E2e (suc v) =
    let W = walk_to V2e E2e v in trace (zeros W) E2e (suc v) (walk_start E2e (at V2e v)) W

unfoldable pub walk : List ℕ → List ℕ → List ℕ
walk V2e E2e = walk_to V2e E2e (length V2e)
