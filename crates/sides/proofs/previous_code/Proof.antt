-- `sides::previous_code` meets its contract.
-- Assumes nothing.
use mathlib.Core.Path.{◌≡◌}
use native.Mathlib.Omega.{arith}
use Prim.Native.Nat.{◌/◌, ◌%◌}
use Rattle.rules.specs.Elements.{sides, previous, previous_number}
use Rattle.theory.specs.Steps.{previous_numbered}
use Rattle.sides.proofs.Sided.{row_there, turn_read, step_four, step_read}
use borrow.Author.Rules.{rules}
use Rattle.sides.proofs.previous_code.Statement.{statement}
use Rattle.sides.proofs.previous_code.Tie as tie

abbrev begun : tie.After-element_of-f → tie.Start
begun c = c.before.before

-- the side that was stepped to
stepped : (c : tie.After-previous_side)
    → let a = (begun c.before.before.before).args in c.previous_side.result ≡ previous_number (sides a.list.now (a.s / 8)) (a.s % 8)
stepped c =
    let numbered = c.before in
    let split = numbered.before.before in
    turn_read _ _ (begun split).requires split.element_of-f.ensures numbered.number_of.ensures numbered.before.row_at.ensures
    previous_number c.previous_side.ensures

element_of_requires : tie.Need-element_of-f-requires
element_of_requires c κs = search rules

row_at_requires : tie.Need-row_at-requires
row_at_requires c κs = row_there _ _ (begun c).requires c.element_of-f.ensures

number_of_requires : tie.Need-number_of-requires
number_of_requires c κs = search rules

previous_side_requires : tie.Need-previous_side-requires
previous_side_requires c κs = search rules

side_code_requires : tie.Need-side_code-requires
side_code_requires c κs =
    let split = c.before.before.before in
    let s = begun split in (
      omega (arith, split.element_of-f.ensures),
      step_four _ _ s.requires split.element_of-f.ensures previous_number (stepped c) (previous_numbered _ _ s.requires),
    )

-- states by how far they lie back
abbrev element_of_f_of_side_code : tie.After-side_code → tie.After-element_of-f
element_of_f_of_side_code c = c.before.before.before.before

returns : tie.Need-returns
unfolding previous
returns c =
    let split = (element_of_f_of_side_code c) in
    step_read _ _ (begun split).requires split.element_of-f.ensures previous_number (stepped c.before) c.side_code.ensures

pub previous_code_spec : {M : Type 1} → statement M
previous_code_spec =
    tie.close
    (tie.spec
    element_of_requires
    row_at_requires
    number_of_requires
    previous_side_requires
    side_code_requires
    returns)
