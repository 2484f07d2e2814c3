-- `sides::next_code` meets its contract.
-- Assumes nothing.
use mathlib.Core.Path.{◌≡◌}
use native.Mathlib.Omega.{arith}
use Prim.Native.Nat.{ℕ, ◌/◌, ◌%◌}
use Rattle.rules.specs.Elements.{sides, next, next_number}
use Rattle.theory.specs.Steps.{next_numbered}
use Rattle.sides.proofs.Sided.{row_there, early_read, turn_read, step_four, step_read}
use borrow.Author.Rules.{rules}
use Rattle.sides.proofs.next_code.Statement.{statement}
use Rattle.sides.proofs.next_code.Tie as tie

abbrev begun : tie.After-number_of-i → tie.Start
begun c = c.before.before.before

-- the number of the side that follows
abbrev number : tie.Start → ℕ
number c = next_number (sides c.args.list.now (c.args.s / 8)) (c.args.s % 8)

early : (c : tie.After-next_side) → c.next_side.result ≡ number (begun c.before.before)
early c =
    let split = c.before.before in
    early_read _ _ (begun split).requires split.before.element_of-f.ensures split.number_of-i.ensures c.before.if-i-lt3.true _ c.next_side.ensures

late : (c : tie.After-next_side-2) → c.next_side-2.result ≡ number (begun c.before.before.before)
late c =
    let read = c.before in
    let split = read.before.before in
    turn_read _ _ (begun split).requires split.before.element_of-f.ensures split.number_of-i.ensures read.row_at.ensures next_number c.next_side-2.ensures

element_of_requires : tie.Need-element_of-f-requires
element_of_requires c κs = search rules

number_of_requires : tie.Need-number_of-i-requires
number_of_requires c κs = search rules

next_side_requires : tie.Need-next_side-requires
next_side_requires c κs = search rules

side_code_requires : tie.Need-side_code-requires
side_code_requires c κs =
    let split = c.before.before in
    let s = begun split in
    (omega arith, step_four _ _ s.requires split.before.element_of-f.ensures next_number (early c) (next_numbered _ _ s.requires))

returns : tie.Need-returns-then-i-lt3
unfolding next
returns c =
    let split = c.before.before.before in
    step_read _ _ (begun split).requires split.before.element_of-f.ensures next_number (early c.before) c.side_code.ensures

row_at_requires : tie.Need-row_at-requires
row_at_requires c κs = row_there _ _ (begun c.before).requires c.before.before.element_of-f.ensures

next_side_requires_2 : tie.Need-next_side-requires-2
next_side_requires_2 c κs = search rules

side_code_requires_2 : tie.Need-side_code-requires-2
side_code_requires_2 c κs =
    let split = c.before.before.before in
    let s = begun split in
    (omega arith, step_four _ _ s.requires split.before.element_of-f.ensures next_number (late c) (next_numbered _ _ s.requires))

returns_2 : tie.Need-returns
unfolding next
returns_2 c =
    let stepped = c.before in
    let split = stepped.before.before.before in
    step_read _ _ (begun split).requires split.before.element_of-f.ensures next_number (late stepped) c.side_code-2.ensures

pub next_code_spec : {M : Type 1} → statement M
next_code_spec =
    tie.close
    (tie.spec
    element_of_requires
    number_of_requires
    next_side_requires
    side_code_requires
    returns
    row_at_requires
    next_side_requires_2
    side_code_requires_2
    returns_2)
