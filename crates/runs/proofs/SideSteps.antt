-- Document 02, point 4, over runs of halfedge::next_side and halfedge::previous_side, for every row and every side of it: "each step undoes the
-- other, and .. next first comes back after exactly three or four steps, by kind".
-- Assumes nothing.
use Rattle.std.specs.Prelude.{◌≡◌, List, ℕ, suc, ◌≤◌}
use Rattle.std.proofs.Math.Path.{ap}
use Rattle.std.proofs.Common.{◌∙◌, ne_eqb}
use Rattle.lists.specs.Search.{at}
use Rattle.rules.specs.Elements.{sides_by, next_number, previous_number}
use Rattle.theory.specs.Steps.{FirstBack, next_in, previous_in, previous_next_number, next_previous_number, next_first_back}
use Rattle.halfedge.specs.Rows.{sides_of, turned, next_side, previous_side, turned_there}

-- side i of a row
pub record SideOf (row : List ℕ) (i : ℕ) : Type 0 where
  pub from : 1 ≤ i
  pub to : i ≤ sides_of row

-- runs of next_side one after the other from side i on, each asked of what the one before answered
pub record Round (row : List ℕ) (i : ℕ) (sides : ℕ → ℕ) : Type 0 where
  pub begins : sides 0 ≡ i
  pub steps : (j : ℕ) → sides (suc j) ≡ next_side row (sides j)

module _ (row : List ℕ) (i : ℕ) (side : SideOf row i) where
  -- a step there and the other one back
  undone : (there back : ℕ → ℕ → ℕ) → ((k i : ℕ) → 1 ≤ i → i ≤ k → (1 ≤ there k i) × (there k i ≤ k))
      → ((k i : ℕ) → 1 ≤ i → i ≤ k → back k (there k i) ≡ i) → (j r : ℕ) → j ≡ turned there row i → r ≡ turned back row j → r ≡ i
  undone there back stays undoes j r a b =
      let k = sides_of row in
      let e = a ∙ turned_there there row i side.from side.to in
      let (l, h) = stays k i side.from side.to in
      b ∙ ap (turned back row) e ∙ turned_there back row (there k i) l h ∙ undoes k i side.from side.to

  -- previous of next is the side
  pub next_side_undone : (j r : ℕ) → j ≡ next_side row i → r ≡ previous_side row j → r ≡ i
  next_side_undone = undone next_number previous_number next_in previous_next_number

  -- next of previous is the side
  pub previous_side_undone : (j r : ℕ) → j ≡ previous_side row i → r ≡ next_side row j → r ≡ i
  previous_side_undone = undone previous_number next_number previous_in next_previous_number

  module _ (sides : ℕ → ℕ) (x : Round row i sides) where
    back_after : FirstBack i (sides_of row) sides
    back_after =
        next_first_back (sides_of row) i sides side.from side.to x.begins
        (λ j l h. x.steps j ∙ turned_there next_number row (sides j) l h)

    -- in a triangle next first comes back after exactly three steps
    pub three_steps : at row 3 ≡ 0 → FirstBack i 3 sides
    unfolding sides_by
    three_steps z = let e : sides_of row ≡ 3 = ap sides_by z in rw e at back_after

    -- in a quadrilateral after exactly four
    pub four_steps : (at row 3 ≡ 0 → ⊥) → FirstBack i 4 sides
    unfolding sides_by
    four_steps n = let e : sides_of row ≡ 4 = rw (ne_eqb (at row 3) 0 n, sides_by) in rw e at back_after
