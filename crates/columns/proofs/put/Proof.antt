-- `columns::put` meets its contract.
-- Assumes nothing.
use mathlib.Core.Path.{◌≡◌, ap, sym, ◌∙◌}
use Prim.Native.Nat.{ℕ}
use native.Mathlib.Omega.{arith}
use borrow.Author.Rules.{rules}
use lib.ListN.{length}
use Rattle.theory.specs.Columns.{narrowed}
use Rattle.buffers.specs.Whole.{onto_full}
use Rattle.columns.proofs.Narrowing.{not_three, as_it_is, long_by}
use Rattle.columns.proofs.put.Statement.{statement}
use Rattle.columns.proofs.put.Tie as tie

-- four columns are as long as the table
as_long : (c : tie.Else-columns-eq3) → let a = c.args in length a.table.now ≡ length a.out.now
as_long c =
    let s = c.before.before.before in
    let (fours, long) = s.requires.1 in
    omega (arith, long_by _ long (not_three s.requires.0 c.if-columns-eq3.false))

-- states by how far they lie back
abbrev start_of_narrow_arg_1 : tie.After-narrow-arg-1 → tie.Start
start_of_narrow_arg_1 c = c.before.before.before.before

narrow_requires : tie.Need-narrow-requires
narrow_requires c κs =
    let s = (start_of_narrow_arg_1 c) in
    let (fours, long) = s.requires.1 in (fours, long_by _ long c.if-columns-eq3.true)

same_length : tie.Need-shape_of-out-then-columns-eq3
same_length c = search rules

returns : tie.Need-returns-then-columns-eq3
returns c =
    let narrow = c.before.before in
    let tested = narrow.before.before in
    narrow.narrow.ensures ∙ ap (λ (x : ℕ). narrowed x tested.args.table.now) (sym tested.if-columns-eq3.true)

copy_requires : tie.Need-copy-requires
copy_requires c κs = omega (arith, as_long c.before)

same_length_2 : tie.Need-shape_of-out
same_length_2 c = search rules

returns_2 : tie.Need-returns
returns_2 c =
    let copied = c.before.before in
    let tested = copied.before.before in
    let a = tested.args in
    copied.copy.ensures ∙ onto_full a.table.now a.out.now (as_long tested) ∙ sym (as_it_is a.table.now tested.if-columns-eq3.false)

pub put_spec : {M : Type 1} → statement M
put_spec =
    tie.close (tie.spec narrow_requires same_length returns copy_requires same_length_2 returns_2)
