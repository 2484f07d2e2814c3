-- `edits::entry_of` meets its contract.
-- Assumes nothing.
use mathlib.Core.Path.{ap, ◌∙◌}
use Prim.Native.Nat.{ℕ, ◌+◌, ◌<◌}
use native.Mathlib.Omega.{arith}
use lib.ListN.{length}
use borrow.Author.Rules.{rules}
use Rattle.lists.specs.Search.{at}
use Rattle.theory.specs.Sides.{side_from}
use Rattle.edits.specs.Trying.{slot_inside, entry_read}
use Rattle.edits.proofs.entry_of.Goals as goal

pub slot_of-requires : goal.slot_of-requires
slot_of-requires c = side_from c.args.list.now c.args.s c.requires.1

pub overflow_add-result : goal.overflow_add-result
overflow_add-result c =
    let h : c.args.n + c.slot_of.result < length c.args.work.now = omega (arith, slot_inside c.requires.0 c.args.s c.requires.1, c.slot_of.ensures) in
    search rules

pub offset_bounds-work-n : goal.offset_bounds-work-n
offset_bounds-work-n c =
    let h : c.args.n + c.slot_of.result < length c.args.work.now = omega (arith, slot_inside c.requires.0 c.args.s c.requires.1, c.slot_of.ensures) in
    search rules

pub bounds-work-n : goal.bounds-work-n
bounds-work-n c = omega (arith, slot_inside c.requires.0 c.args.s c.requires.1, c.slot_of.ensures)

pub returns : goal.returns
returns c =
    ap (λ (k : ℕ). at c.args.work.now (c.args.n + k)) c.slot_of.ensures ∙ entry_read c.requires.0 c.args.s c.requires.1
