-- `off_items::whole_at` meets its contract.
-- Assumes nothing.
use Rattle.std.specs.Prelude.{refl}
use Rattle.std.proofs.Common.{sym, ◌∙◌}
use Rattle.off_items.specs.Kinds.{whole_none, whole_long, whole_open, whole_is, whole_end, whole_number}
use Rattle.off_items.specs.Reading.{is_of, value_of, read_good, read_bad}
use Rattle.off_items.specs.declared.Kind.TheVariants.{Whole}
use Rattle.off_items.proofs.whole_at.Goals.{then-digits-lt1-via-then-digits-lt1, then-digits-lt1-via-else-digits-lt1+then-digits-gt-MAX_DIGITS, then-digits-lt1-via-else-digits-lt1+else-digits-gt-MAX_DIGITS+then-not-is_end}
use Rattle.off_items.proofs.whole_at.Goals as goal

pub returns-then-digits-lt1 : goal.returns-then-digits-lt1
unfolding is_of
returns-then-digits-lt1 c =
    let t = c.args.text.now in
    let counted = c.number_at-number.ensures.digits_value.0 in
    read_bad Whole t c.args.s
    (elim c.then-digits-lt1.branch [
      | then-digits-lt1-via-then-digits-lt1 w ↦ whole_none t c.requires counted w.if-digits-lt1.true
      | then-digits-lt1-via-else-digits-lt1+then-digits-gt-MAX_DIGITS w ↦ whole_long t c.requires counted w.if-digits-gt-MAX_DIGITS.true
      | then-digits-lt1-via-else-digits-lt1+else-digits-gt-MAX_DIGITS+then-not-is_end w ↦
          whole_open t c.requires counted w.if-digits-gt-MAX_DIGITS.false (sym w.is_end.ensures ∙ w.if-not-is_end.true)
    ])
    refl

pub returns : goal.returns
unfolding is_of value_of
returns c =
    let t = c.args.text.now in
    let counted = c.number_at-number.ensures.digits_value.0 in
    let few = c.if-digits-gt-MAX_DIGITS.false in
    let ended = sym c.is_end.ensures ∙ c.if-not-is_end.false in
    read_good Whole t c.args.s
    (whole_is t c.requires counted few ended c.if-digits-lt1.false)
    (whole_number t c.requires counted few ended c.number_at-number.ensures.digits_value.1)
    (whole_end t c.requires counted few ended)
    refl
