-- `gaps::rename` meets its contract.
-- Assumes nothing.
use Rattle.std.proofs.Common.{arith, ◌≡◌, ap, sym, ◌∙◌}
use Rattle.lists.specs.Search.{at}
use Rattle.edit_rules.specs.Contract.{instead}
use Rattle.theory.specs.Renaming.{instead_old, instead_other}
use Rattle.gaps.specs.Renaming.{one_more, all_renamed}
use Rattle.gaps.proofs.rename.Goals.{then-c-old, else-c-old}
use Rattle.gaps.proofs.rename.Goals as goal

pub loop-c-preserved : goal.loop-c-preserved
loop-c-preserved c =
    let a = c.args in
    let l = c.loop-c in
    let is : c.if-c-old.c ≡ instead a.old a.new (at l.list l.c-index) =
    elim c.if-c-old.branch [
      | then-c-old w ↦ w.c-is ∙ sym (ap (instead a.old a.new) w.if-c-old.true ∙ instead_old a.old a.new)
      | else-c-old w ↦ w.c-is ∙ sym (instead_other a.old a.new (at l.list l.c-index) w.if-c-old.false)
    ] in
    one_more a.old a.new a.list.now l.invariant (omega arith) is

pub returns : goal.returns
returns c =
    let a = c.args in
    all_renamed a.old a.new a.list.now c.loop-c.invariant (omega arith)
