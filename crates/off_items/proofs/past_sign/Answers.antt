-- `off_items::past_sign` meets its contract.
-- Assumes nothing.
use Rattle.std.proofs.Common.{sym, ap, ◌∙◌}
use Rattle.off_rules.specs.Off.{is_sign}
use Rattle.off_items.specs.Decimals.{sign_there, sign_missing}
use Rattle.off_items.proofs.past_sign.Goals as goal

pub returns-then-is_sign : goal.returns-then-is_sign
returns-then-is_sign c =
    sym (sign_there c.args.text.now c.args.p (ap is_sign (sym c.byte.ensures) ∙ sym c.is_sign.ensures ∙ c.if-is_sign.true))

pub returns-else-is_sign : goal.returns-else-is_sign
returns-else-is_sign c =
    sym (sign_missing c.args.text.now c.args.p (ap is_sign (sym c.byte.ensures) ∙ sym c.is_sign.ensures ∙ c.if-is_sign.false))
