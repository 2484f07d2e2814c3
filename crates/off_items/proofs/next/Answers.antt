-- `off_items::next` meets its contract.
-- Assumes nothing.
use Rattle.off_items.specs.Reading.{next_told}
use Rattle.off_items.specs.declared.Kind.TheVariants.{Word, Whole, Decimal}
use Rattle.off_items.proofs.next.Goals as goal

pub returns-in-Word : goal.returns-in-Word
returns-in-Word c = rw c.in-Word.is (next_told Word c.item_from-s.ensures c.word_at.ensures)

pub returns-in-Whole : goal.returns-in-Whole
returns-in-Whole c = rw c.in-Whole.is (next_told Whole c.item_from-s.ensures c.whole_at.ensures)

pub returns-in-Decimal : goal.returns-in-Decimal
returns-in-Decimal c = rw c.in-Decimal.is (next_told Decimal c.item_from-s.ensures c.decimal_at.ensures)
