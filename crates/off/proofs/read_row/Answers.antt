-- `off::read_row` meets its contract.
-- Assumes nothing.
use Rattle.std.specs.Prelude.{◌≡◌, refl, List, ℕ}
use Rattle.std.proofs.Common.{◌∙◌, arith}
use Rattle.off_rules.specs.Off.{word, number_of}
use Rattle.off_items.specs.Parting.{rest}
use Rattle.off_items.specs.Reading.{IsNext}
use Rattle.off_items.specs.declared.Kind.TheVariants.{Whole}
use Rattle.off_items.specs.declared.Found.{Found}
use Rattle.off.specs.Writing.{Fit, count_first, counted, none_read, corner_first, corner_value, one_more, row_read}
use Rattle.off.proofs.read_row.Goals as goal

-- the corner count, as an index
corners_are : (t : List ℕ) (p : ℕ) {f : Found} {k : ℕ} → Fit (rest t p) → IsNext Whole t p f → k ≡ f.value → k ≡ number_of (word (rest t p) 0)
corners_are t p fit n e = e ∙ counted t p fit n

pub unwrap-count-requires : goal.unwrap-count-requires
unwrap-count-requires c = count_first c.args.text.now c.args.p c.requires.1 c.next.result c.next.ensures

pub loop-i-init : goal.loop-i-init
loop-i-init c = none_read c.args.text.now c.args.p c.requires.1 (rw c.unwrap-count.ensures at c.next.ensures)

pub unwrap-corner-requires : goal.unwrap-corner-requires
unwrap-corner-requires c =
    let k = corners_are c.args.text.now c.args.p c.requires.1 (rw c.unwrap-count.ensures at c.next.ensures) c.wide-i-end.ensures in
    corner_first c.args.text.now c.args.p c.requires.1 c.loop-i.invariant (omega arith) c.next-in-loop-i.result c.next-in-loop-i.ensures

pub overflow_add-row : goal.overflow_add-row
overflow_add-row c =
    let k = corners_are c.args.text.now c.args.p c.requires.1 (rw c.unwrap-count.ensures at c.next.ensures) c.wide-i-end.ensures in
    let v = corner_value c.args.text.now c.args.p c.requires.1 c.loop-i.invariant (omega arith) (rw c.unwrap-corner.ensures at c.next-in-loop-i.ensures) in
    omega arith

pub bounds-row-i : goal.bounds-row-i
bounds-row-i c =
    let k = corners_are c.args.text.now c.args.p c.requires.1 (rw c.unwrap-count.ensures at c.next.ensures) c.wide-i-end.ensures in
    omega (arith, c.requires.1.few)

pub loop-i-preserved : goal.loop-i-preserved
loop-i-preserved c =
    let k = corners_are c.args.text.now c.args.p c.requires.1 (rw c.unwrap-count.ensures at c.next.ensures) c.wide-i-end.ensures in
    one_more c.args.text.now c.args.p c.requires.1 c.loop-i.invariant (omega arith) (rw c.unwrap-corner.ensures at c.next-in-loop-i.ensures) refl

pub returns : goal.returns
returns c =
    let k = corners_are c.args.text.now c.args.p c.requires.1 (rw c.unwrap-count.ensures at c.next.ensures) c.wide-i-end.ensures in
    row_read c.args.text.now c.args.p c.requires.1 c.loop-i.invariant (omega arith)
