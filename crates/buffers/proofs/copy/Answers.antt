-- `buffers::copy` meets its contract: up to i the entries are copied.
-- Assumes nothing.
use mathlib.Core.Path.{refl, ap, ◌∙◌}
use mathlib.Core.List.{List}
use Prim.Native.Nat.{ℕ}
use native.Mathlib.Omega.{arith}
use lib.ListN.{set}
use Rattle.lists.specs.Search.{at}
use Rattle.lists.specs.Parts.{copy_more, copy_all}
use Rattle.rules.specs.Refusals.{onto}
use Rattle.buffers.proofs.copy.Goals as goal

pub loop-i-init : goal.loop-i-init
loop-i-init c = refl

pub loop-i-preserved : goal.loop-i-preserved
loop-i-preserved c =
    let i = c.loop-i.i in
    let from = c.args.from.now in
    ap (λ (l : List ℕ). set l i (at from i)) c.loop-i.invariant ∙ copy_more from c.args.out.now i (omega arith) (omega arith)

pub returns : goal.returns
unfolding onto
returns c = c.loop-i.invariant ∙ copy_all c.args.from.now c.args.out.now c.loop-i.i (omega arith)
