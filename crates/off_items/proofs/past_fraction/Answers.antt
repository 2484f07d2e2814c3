-- `off_items::past_fraction` meets its contract.
-- Assumes nothing.
use Rattle.off_items.specs.Decimals.{fraction_none, fraction_bare, fraction_is}
use Rattle.off_items.proofs.past_fraction.Goals as goal

pub returns-then-byte-ne46 : goal.returns-then-byte-ne46
returns-then-byte-ne46 c = fraction_none c.args.text.now c.args.p c.byte.ensures c.if-byte-ne46.true

pub returns-then-end-p : goal.returns-then-end-p
returns-then-end-p c =
    fraction_bare c.args.text.now c.args.p c.byte.ensures c.digits_end-end.ensures c.if-byte-ne46.false c.if-end-p.true

pub returns-else-end-p : goal.returns-else-end-p
returns-else-end-p c =
    fraction_is c.args.text.now c.args.p c.byte.ensures c.digits_end-end.ensures c.if-byte-ne46.false c.if-end-p.false
