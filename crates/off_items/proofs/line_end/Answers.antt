-- `off_items::line_end` meets its contract.
-- Assumes nothing.
use Rattle.std.specs.Prelude.{◌≡◌, length, Bool, ℕ, eqb}
use Rattle.std.proofs.Common.{◌∙◌, ap, arith}
use borrow.Author.Tests.{eq-eqb, ne_eqb}
use Rattle.off_items.specs.Scanning.{passed_none, passed_more, found_at, found_end}
use Rattle.off_items.proofs.line_end.Goals as goal

abbrev newline : ℕ → Bool
newline b = eqb b 10

pub loop-at-init : goal.loop-at-init
loop-at-init c = passed_none newline _ c.requires

pub loop-at-preserved : goal.loop-at-preserved
loop-at-preserved c = passed_more newline _ c.loop-at.invariant (omega arith) (ne_eqb _ _ c.if-text-at-eq10.false)

pub returns-then-text-at-eq10 : goal.returns-then-text-at-eq10
returns-then-text-at-eq10 c = found_at newline _ c.loop-at.invariant (eq-eqb _ _ c.if-text-at-eq10.true)

pub returns : goal.returns
returns c =
    let i = c.loop-at.invariant in
    let e : length c.args.text.now ≡ c.loop-at.at = omega (arith, i.inside) in
    e ∙ found_end newline _ i (omega arith)
