-- `off_items::word_at` meets its contract.
-- Assumes nothing.
use Rattle.std.specs.Prelude.{refl}
use Rattle.std.proofs.Common.{sym, ◌∙◌}
use Rattle.off_items.specs.Kinds.{off_end}
use Rattle.off_items.specs.Reading.{is_of, value_of, read_good, read_bad}
use Rattle.off_items.specs.declared.Kind.TheVariants.{Word}
use Rattle.off_items.proofs.word_at.Goals as goal

pub returns-then-not-is_off : goal.returns-then-not-is_off
unfolding is_of
returns-then-not-is_off c = read_bad Word c.args.text.now c.args.s (sym c.is_off.ensures ∙ c.if-not-is_off.true) refl

pub returns : goal.returns
unfolding is_of value_of
returns c =
    let w = sym c.is_off.ensures ∙ c.if-not-is_off.false in
    read_good Word c.args.text.now c.args.s w refl (off_end c.args.text.now c.requires w) refl
