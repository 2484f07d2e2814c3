-- A list with a new vertex on a side, document 02, point 6: what the new list has of the old one. Each triangle on the side has become two,
-- and all other elements stay.
-- Assumes nothing.
use Rattle.std.specs.Prelude.{◌≡◌, ◌⊎◌, List, ℕ, ◌+◌, ◌*◌, ◌/◌, ◌≤◌, ◌<◌, length}
use Rattle.rules.specs.Elements.{max_vertex, max_element, elements, sides, Side, origin, next, previous, destination}
use Rattle.rules.specs.Tables.{partner}
use Rattle.theory.specs.Triangles.{TriangleSide}

-- r is s or its partner: a side that is split
pub record Cut (L : List ℕ) (s r : ℕ) : Type 0 where
  pub side : Side L r
  pub is : (r ≡ s) ⊎ (r ≡ partner L s)

-- "A triangle (a,b,c) becomes (a,v,c) and appended (v,b,c)": r is the side from a to b, which now runs from a to v, and r⁺ the one from v to b
pub record Half (L L' : List ℕ) (v r r⁺ : ℕ) : Type 0 where
  pub old : TriangleSide L r (origin L r) (destination L r) (origin L (previous L r))
  pub near : TriangleSide L' r (origin L r) v (origin L (previous L r))
  pub far : TriangleSide L' r⁺ v (destination L r) (origin L (previous L r))
  pub appended : elements L < r⁺ / 8

-- where side q of L' stands, `twin r` being the r⁺ of r: in an element that stayed, or in one of the two that a triangle has become
pub data Place (L : List ℕ) (s : ℕ) (twin : ℕ → ℕ) (q : ℕ) : Type 0 where
  stayed : Side L q → ((r : ℕ) → Cut L s r → q / 8 ≡ r / 8 → ⊥) → Place L s twin q
  near : (r : ℕ) → Cut L s r → q / 8 ≡ r / 8 → Place L s twin q
  far : (r : ℕ) → Cut L s r → q / 8 ≡ twin r / 8 → Place L s twin q

-- what stays of a side
pub record Kept (L L' : List ℕ) (r : ℕ) : Type 0 where
  pub side : Side L' r
  pub from : origin L' r ≡ origin L r
  pub follows : next L' r ≡ next L r
  pub sided : sides L' (r / 8) ≡ sides L (r / 8)

-- L' is L with the vertex n + 1 on side s
pub record Refined (n : ℕ) (L L' : List ℕ) (s : ℕ) : Type 0 where
  pub vertices : n + 1 ≤ max_vertex
  pub size : elements L' ≤ max_element
  pub fours : length L' ≡ 4 * elements L'
  pub side : Side L s
  pub twin : ℕ → ℕ
  pub halves : (r : ℕ) → Cut L s r → Half L L' (n + 1) r (twin r)
  -- the two that are cut, if there are two, are of different triangles, and so are their twins
  pub apart : (r q : ℕ) → Cut L s r → Cut L s q → r / 8 ≡ q / 8 → r ≡ q
  pub twins_apart : (r q : ℕ) → Cut L s r → Cut L s q → twin r / 8 ≡ twin q / 8 → r ≡ q
  pub kept : (r : ℕ) → Side L r → ((q : ℕ) → Cut L s q → r / 8 ≡ q / 8 → ⊥) → Kept L L' r
  pub place : (q : ℕ) → Side L' q → Place L s twin q
