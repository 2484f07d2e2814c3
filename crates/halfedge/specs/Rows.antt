-- Document 01, "Element list and half-edge numbers": an element row as one value.
-- Assumes nothing.
use Rattle.std.specs.Prelude.{true, false, List, [], ◌∷◌, ◌≡◌, refl, ℕ, zero, suc, ◌+◌, ◌*◌, ◌-◌, ◌≤◌, ◌<◌, eqb, take, drop}
use Rattle.std.proofs.Common.{ap, ◌∙◌, get_or-take, get_or-drop, ne_eqb}
use native.Mathlib.Omega.{arith}
use Rattle.lists.specs.Tests.{within}
use Rattle.lists.specs.TestLaws.{Test, pass, fail, test}
use Rattle.lists.specs.Search.{at}
use Rattle.rules.specs.Elements.{row, corner, sides, sides_by, next_number, previous_number}
use Rattle.halfedge.specs.Codes.{or_nothing, within_true}

-- "An element row of four numbers travels as one value": the row in an element's part of the list
abbrev pub row_of : List ℕ → List ℕ
row_of p = at p 0 ∷ at p 1 ∷ at p 2 ∷ at p 3 ∷ []

-- corner i of a row; 0 where there is none
unfoldable pub corner_of : List ℕ → ℕ → ℕ
corner_of r i = or_nothing (within 1 4 i) (at r (i - 1))

-- "A fourth entry of 0 makes a triangle"
abbrev pub sides_of : List ℕ → ℕ
sides_of r = sides_by (at r 3)

-- the same test for any two numbers: the first for a triangle, the second for a quadrilateral
unfoldable pub by_kind : List ℕ → ℕ → ℕ → ℕ
by_kind r t q = elim (eqb (at r 3) 0) [ true ↦ t | false ↦ q ]

-- the side that a step gives from side i of k; 0 where there is no side i
unfoldable pub step_in : (ℕ → ℕ → ℕ) → ℕ → ℕ → ℕ
step_in step k i = or_nothing (within 1 k i) (step k i)

-- the side that a turn gives from side i of a row; 0 where the row has no side i
unfoldable pub turned : (ℕ → ℕ → ℕ) → List ℕ → ℕ → ℕ
turned turn r i = step_in turn (sides_of r) i

-- "the last corner being followed by the first"
abbrev pub next_side : List ℕ → ℕ → ℕ
next_side = turned next_number

abbrev pub previous_side : List ℕ → ℕ → ℕ
previous_side = turned previous_number

-- a step from a side that the row has
pub turned_there : (turn : ℕ → ℕ → ℕ) (r : List ℕ) (i : ℕ) → 1 ≤ i → i ≤ sides_of r → turned turn r i ≡ turn (sides_of r) i
unfolding turned step_in
turned_there turn r i l h = rw (within_true l h)

-- a row has three sides at least, so sides 1 and 2 are followed by 2 and 3
pub three_sides : (r : List ℕ) → 3 ≤ sides_of r
unfolding sides_by
three_sides r = go (test (eqb (at r 3) 0))
  where
    go : Test (eqb (at r 3) 0) → 3 ≤ sides_of r
    go (pass t e) = rw (e, sides_by) (omega arith)
    go (fail t e) = rw (e, sides_by) (omega arith)

pub next_early : (r : List ℕ) (i : ℕ) → 1 ≤ i → i < 3 → next_side r i ≡ i + 1
unfolding next_number
next_early r i l h =
    let n : i ≤ sides_of r = omega (arith, three_sides r) in
    let d : i ≡ sides_of r → ⊥ = λ e. omega (arith, three_sides r) in
    turned_there next_number r i l n ∙ (rw (ne_eqb i (sides_of r) d, next_number))

-- the entries of a row are the first four of its part
pub row_entry_lem : (p : List ℕ) (j : ℕ) → j < 4 → at (row_of p) j ≡ at p j
row_entry_lem p zero h = refl
row_entry_lem p (suc zero) h = refl
row_entry_lem p (suc (suc zero)) h = refl
row_entry_lem p (suc (suc (suc zero))) h = refl
row_entry_lem p (suc (suc (suc (suc j)))) h = omega arith

-- "The row of element f is the four entries that start at entry 4 × (f − 1)"; "that part alone is handed to whatever reads the element"
pub part_row : (L : List ℕ) (f a e : ℕ) → a ≡ 4 * (f - 1) → e ≡ a + 4 → take (e - a) (drop a L) ≡ row L f
part_row L f a e s q = let n : e - a ≡ 4 = omega arith in rw (n, s)

pub part_at : (L : List ℕ) (a e j : ℕ) → e ≡ a + 4 → j < 4 → at (row_of (take (e - a) (drop a L))) j ≡ at L (a + j)
part_at L a e j q h = let n : j < e - a = omega arith in rw (row_entry_lem, get_or-take, get_or-drop)

-- what the reader finds in element f of L: in its part of the list, and in its row
module _ (L : List ℕ) (f : ℕ) where
  pub part_entry : (j : ℕ) → j < 4 → at (row L f) j ≡ at L (4 * (f - 1) + j)
  part_entry j h = rw (get_or-take, get_or-drop)

  pub row_at : (j : ℕ) → j < 4 → at (row_of (row L f)) j ≡ at L (4 * (f - 1) + j)
  row_at j h = row_entry_lem (row L f) j h ∙ part_entry j h

  pub row_sides : sides_of (row_of (row L f)) ≡ sides L f
  row_sides = ap sides_by (row_at 3 (omega arith))

  corner_in : (p : List ℕ) → ((j : ℕ) → j < 4 → at p j ≡ at L (4 * (f - 1) + j)) → (i : ℕ) → 1 ≤ i → i ≤ 4 → corner_of p i ≡ corner L f i
  unfolding corner_of
  corner_in p entries i l h = let t = within_true l h in let j : i - 1 < 4 = omega arith in simp t (entries (i - 1) j)

  pub part_corner : (i : ℕ) → 1 ≤ i → i ≤ 4 → corner_of (row L f) i ≡ corner L f i
  part_corner = corner_in (row L f) part_entry

  pub row_corner : (i : ℕ) → 1 ≤ i → i ≤ 4 → corner_of (row_of (row L f)) i ≡ corner L f i
  row_corner = corner_in (row_of (row L f)) row_at

  pub row_turned : (turn : ℕ → ℕ → ℕ) (i : ℕ) → 1 ≤ i → i ≤ sides L f → turned turn (row_of (row L f)) i ≡ turn (sides L f) i
  row_turned turn i l h =
      let there : i ≤ sides_of (row_of (row L f)) = rw row_sides h in
      turned_there turn (row_of (row L f)) i l there ∙ ap (λ (k : ℕ). turn k i) row_sides
