-- `off_items::digits_end` meets its contract.
-- Assumes nothing.
use Rattle.std.specs.Prelude.{◌≡◌, length, Bool, not, ℕ}
use Rattle.std.proofs.Common.{sym, ap, ◌∙◌, arith}
use Rattle.digits.specs.Digits.{digit}
use Rattle.off_items.specs.Scanning.{passed_none, passed_more, found_at, found_end}
use Rattle.off_items.proofs.digits_end.Goals as goal

abbrev other : ℕ → Bool
other b = not (digit b)

pub loop-at-init : goal.loop-at-init
loop-at-init c = passed_none other _ c.requires

pub loop-at-preserved : goal.loop-at-preserved
loop-at-preserved c = passed_more other _ c.loop-at.invariant (omega arith) (ap not (sym c.is_digit.ensures ∙ c.if-not-is_digit.false))

pub returns-then-not-is_digit : goal.returns-then-not-is_digit
returns-then-not-is_digit c = found_at other _ c.loop-at.invariant (ap not (sym c.is_digit.ensures ∙ c.if-not-is_digit.true))

pub returns : goal.returns
returns c =
    let i = c.loop-at.invariant in
    let e : length c.args.text.now ≡ c.loop-at.at = omega (arith, i.inside) in
    e ∙ found_end other _ i (omega arith)
