-- Document 01, "Pairing and turn order"; and document 02, point 5, how plates may meet.
-- Assumes nothing.
use Rattle.std.specs.Prelude.{◌≡◌, Bool, not, ◌⊎◌, List, ℕ, suc, ◌+◌, ◌*◌, ◌-◌, ◌≤◌, ◌<◌, T, leb, ltb, eqb, length}
use Rattle.lists.specs.Tests.{both, either}
use Rattle.lists.specs.Search.{at}
use Rattle.rules.specs.Elements.{max_vertex, max_element, elements, corner, sides, element, Side, origin, destination, next, first_side}
use Rattle.rules.specs.Elements.{some_number, count_numbers}

-- two sides run alike between the same two vertices; "in opposite directions"; "join the same two vertices"
unfoldable pub alike : List ℕ → ℕ → ℕ → Bool
alike L s t = both (eqb (origin L s) (origin L t)) (eqb (destination L s) (destination L t))

unfoldable pub opposed : List ℕ → ℕ → ℕ → Bool
opposed L s t = both (eqb (origin L s) (destination L t)) (eqb (destination L s) (origin L t))

unfoldable pub joins : List ℕ → ℕ → ℕ → Bool
joins L s t = either (alike L s t) (opposed L s t)

-- "A pairing sends every side to a side or to 'border'": π, with 0 for "border", "so that:"
pub record Pairing (L : List ℕ) (π : ℕ → ℕ) : Type 0 where
  -- "a side sent to another is what that other is sent to"
  pub mutually : (s : ℕ) → Side L s → (π s ≡ 0 → ⊥) → Side L (π s) × (π (π s) ≡ s)
  -- "two paired sides differ and run between the same two vertices in opposite directions"
  pub opposite : (s : ℕ) → Side L s → (π s ≡ 0 → ⊥) → (π s ≡ s → ⊥) × T (opposed L s (π s))
  -- "any two different sides that join the same two vertices are paired with each other"
  pub paired : (s t : ℕ) → Side L s → Side L t → (s ≡ t → ⊥) → T (joins L s t) → π s ≡ t

-- "the turn of a side s is the side that follows, in its element, the side paired with s. A border side has no turn": t is the turn of s
abbrev pub Turn : List ℕ → (ℕ → ℕ) → ℕ → ℕ → Type 0
Turn L π s t = (π s ≡ 0 → ⊥) × (next L (π s) ≡ t)

-- s is a side with origin v
abbrev pub SideAt : List ℕ → ℕ → ℕ → Type 0
SideAt L v s = Side L s × (origin L s ≡ v)

-- "A turn order at vertex v is a list"
pub record TurnOrder (L : List ℕ) (π : ℕ → ℕ) (v : ℕ) (o : List ℕ) : Type 0 where
  -- "of all sides with origin v"
  pub sides : (i : ℕ) → i < length o → SideAt L v (at o i)
  pub all : (s : ℕ) → SideAt L v s → (i : ℕ) × (i < length o) × (at o i ≡ s)
  -- "each one once"
  pub once : (i j : ℕ) → i < length o → j < length o → at o i ≡ at o j → i ≡ j
  -- "each the turn of the one before"
  pub turns : (i : ℕ) → suc i < length o → Turn L π (at o i) (at o (suc i))
  -- "Either the first is the turn of the last, or the last is a border side and the first is nobody's turn"; document 02, point 2: "an
  -- empty turn order counts", that of a vertex without sides
  pub ends :
      0 < length o →
      Turn L π (at o (length o - 1)) (at o 0)
      ⊎ ((π (at o (length o - 1)) ≡ 0) × ((s : ℕ) → Side L s → Turn L π s (at o 0) → ⊥))

-- a pairing with a turn order about every vertex
pub record Ordered (n : ℕ) (L : List ℕ) (π : ℕ → ℕ) : Type 0 where
  pub pairing : Pairing L π
  pub orders : (v : ℕ) → 1 ≤ v → v ≤ n → (o : List ℕ) × TurnOrder L π v o

-- check 1: "n or m over its maximum, or element list .. not in fours"; document 02, point 10: "check 1 drops E2e's fours"
unfoldable pub call_sizes : ℕ → ℕ → List ℕ → Bool
call_sizes n m L = both (leb n max_vertex) (both (leb m max_element) (eqb (length L) (4 * elements L)))

-- where the element list says m
unfoldable pub sizes_fit : ℕ → List ℕ → Bool
sizes_fit n L = call_sizes n (elements L) L

-- check 3: "corner 1 to 3 is 0, or any corner above n"; the least such corner, as the side that begins there
unfoldable pub unfit_corner : ℕ → List ℕ → ℕ
unfit_corner n L = first_side L (λ s. either (eqb (origin L s) 0) (ltb n (origin L s)))

-- check 4: "a nonzero corner equals an earlier one of its element"
unfoldable pub repeated_corner : List ℕ → ℕ
repeated_corner L =
    first_side L
    (λ s.
    both (not (eqb (origin L s) 0))
    (not (eqb (first_side L (λ t. both (eqb (element t) (element s)) (both (ltb t s) (eqb (origin L t) (origin L s))))) 0)))

-- "Rows are fit when checks 1, 3 and 4 below find nothing"
unfoldable pub rows_fit : ℕ → List ℕ → Bool
rows_fit n L = both (sizes_fit n L) (both (eqb (unfit_corner n L) 0) (eqb (repeated_corner L) 0))

-- document 02, point 5: v is a corner of element f
unfoldable pub is_corner : List ℕ → ℕ → ℕ → Bool
is_corner L f v = some_number (sides L f) (λ i. eqb (corner L f i) v)

-- how many corners of f are corners of g too
unfoldable pub shared_corners : List ℕ → ℕ → ℕ → ℕ
shared_corners L f g = count_numbers (sides L f) (λ i. is_corner L g (corner L f i))

-- a side of f and a side of g join the same two vertices
unfoldable pub share_side : List ℕ → ℕ → ℕ → Bool
share_side L f g = some_number (sides L f) (λ i. some_number (sides L g) (λ j. joins L (8 * f + i) (8 * g + j)))

-- "two different elements share no corner, one corner, or exactly two corners that are also a side of both"
unfoldable pub meet_well : List ℕ → ℕ → ℕ → Bool
meet_well L f g = either (leb (shared_corners L f g) 1) (both (eqb (shared_corners L f g) 2) (share_side L f g))

-- f is an element of L
abbrev pub Element : List ℕ → ℕ → Type 0
Element L f = (1 ≤ f) × (f ≤ elements L)

-- "conformal": every two different elements meet well
abbrev pub Conformal : List ℕ → Type 0
Conformal L = (f g : ℕ) → Element L f → Element L g → (f ≡ g → ⊥) → T (meet_well L f g)

-- "The list is accepted when its rows are fit, a pairing exists and every vertex has a turn order"; document 02, point 5: "From now on a
-- list is accepted only if two different elements" meet well
pub record Accepted (n : ℕ) (L : List ℕ) : Type 0 where
  pub rows : T (rows_fit n L)
  pub pairing : ℕ → ℕ
  pub ordered : Ordered n L pairing
  pub meeting : Conformal L
