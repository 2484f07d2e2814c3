-- `columns::spread` meets its contract.
-- Assumes nothing.
use mathlib.Core.Path.{◌≡◌, ap, sym, ◌∙◌}
use mathlib.Core.Logic.{inl, inr}
use Prim.Native.Nat.{ℕ, ◌*◌}
use native.Mathlib.Omega.{arith}
use borrow.Author.Rules.{rules}
use lib.ListN.{length}
use Rattle.lists.specs.Search.{tab}
use Rattle.rules.specs.Elements.{side_at}
use Rattle.rules.specs.Tables.{entry_of}
use Rattle.theory.specs.Columns.{widened_three, widened_four}
use Rattle.buffers.specs.Whole.{onto_full}
use Rattle.columns.proofs.spread.Statement.{statement}
use Rattle.columns.proofs.spread.Tie as tie

-- what isn't as long as four columns has three
three : (c : tie.Else-e2e-out) → let a = c.args in length a.e2e.now ≡ 3 * a.m
three c =
    let s = c.before.before.before in
    elim s.requires.0 [ inl e ↦ e | inr e ↦ absurd (c.if-e2e-out.false (e ∙ sym s.requires.1)) ]

copy_requires : tie.Need-copy-requires
copy_requires c κs = search rules

same_length : tie.Need-shape_of-out-then-e2e-out
same_length c = search rules

returns : tie.Need-returns-then-e2e-out
returns c =
    let copied = c.before.before in
    let tested = copied.before.before in
    let s = tested.before.before.before in
    copied.copy.ensures
    ∙ onto_full s.args.e2e.now s.args.out.now tested.if-e2e-out.true
    ∙ sym (widened_four s.args.m s.args.e2e.now (tested.if-e2e-out.true ∙ s.requires.1))

-- states by how far they lie back
abbrev start_of_widen_arg_1 : tie.After-widen-arg-1 → tie.Start
start_of_widen_arg_1 c = c.before.before.before.before

widen_requires : tie.Need-widen-requires
widen_requires c κs = let s = (start_of_widen_arg_1 c) in omega (arith, three c.before, s.requires.1)

same_length_2 : tie.Need-shape_of-out
same_length_2 c = search rules

returns_2 : tie.Need-returns
returns_2 c =
    let widened = c.before.before in
    let tested = widened.before.before in
    let s = tested.before.before.before in
    widened.widen.ensures
    ∙ ap (λ (k : ℕ). tab k (λ p. entry_of 3 s.args.e2e.now (side_at p))) s.requires.1
    ∙ sym (widened_three s.args.m s.args.e2e.now (three tested))

pub spread_spec : {M : Type 1} → statement M
spread_spec =
    tie.close (tie.spec copy_requires same_length returns widen_requires same_length_2 returns_2)
