-- `off_items::decimal_at` meets its contract.
-- Assumes nothing.
use Rattle.std.specs.Prelude.{refl}
use Rattle.std.proofs.Common.{sym, ◌∙◌}
use Rattle.off_items.specs.Kinds.{sign_inside, decimal_none, decimal_open, decimal_is, decimal_end}
use Rattle.off_items.specs.Reading.{is_of, value_of, read_good, read_bad}
use Rattle.off_items.specs.declared.Kind.TheVariants.{Decimal}
use Rattle.off_items.proofs.decimal_at.Goals as goal

pub digits_end-point-requires : goal.digits_end-point-requires
digits_end-point-requires c = sign_inside c.args.text.now c.requires c.past_sign-start.ensures

pub returns-then-point-start : goal.returns-then-point-start
unfolding is_of
returns-then-point-start c =
    read_bad Decimal c.args.text.now c.args.s
    (decimal_none c.args.text.now c.requires c.past_sign-start.ensures c.digits_end-point.ensures c.if-point-start.true)
    refl

pub returns-then-not-is_end : goal.returns-then-not-is_end
unfolding is_of
returns-then-not-is_end c =
    read_bad Decimal c.args.text.now c.args.s
    (decimal_open c.args.text.now c.requires c.past_sign-start.ensures c.digits_end-point.ensures c.past_fraction-end.ensures (sym c.is_end.ensures ∙ c.if-not-is_end.true))
    refl

pub returns : goal.returns
unfolding is_of value_of
returns c =
    let t = c.args.text.now in
    let sign = c.past_sign-start.ensures in
    let digits = c.digits_end-point.ensures in
    let fraction = c.past_fraction-end.ensures in
    let ended = sym c.is_end.ensures ∙ c.if-not-is_end.false in
    read_good Decimal t c.args.s
    (decimal_is t c.requires sign digits fraction ended c.if-point-start.false)
    refl
    (decimal_end t c.requires sign digits fraction ended)
    refl
