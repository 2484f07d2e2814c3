-- `text::go_over` meets its contract.
-- Assumes nothing.
use Rattle.std.specs.Prelude.{Bool, not, List, ◌≡◌, refl, ℕ}
use Rattle.std.proofs.Common.{sym, ap, ◌∙◌, arith}
use Rattle.lists.specs.Steps.{none_yet, none_more, found_here, found_none}
use Rattle.text.specs.Form.{good_field, place, first_bad_field}
use Rattle.text.specs.FormLaws.{place_next, good_at}
use Rattle.text.proofs.go_over.Goals as goal

abbrev bad : List ℕ → ℕ → Bool
bad t i = not (good_field t i)

pub loop-i-init : goal.loop-i-init
unfolding place
loop-i-init c = (omega arith, refl, none_yet (bad c.args.text.now))

pub returns-then-not-is_field-clause-bad : goal.returns-then-not-is_field-clause-bad
unfolding first_bad_field
returns-then-not-is_field-clause-bad c =
    let l = c.loop-i.invariant in
    let g = good_at c.args.text.now c.loop-i.i l.1 c.mark.ensures c.is_field.ensures in
    (found_here (bad c.args.text.now) l.2 c.args.count (omega arith) (ap not (sym g ∙ c.if-not-is_field.true)), omega arith)

pub loop-i-preserved : goal.loop-i-preserved
loop-i-preserved c =
    let l = c.loop-i.invariant in
    let g = good_at c.args.text.now c.loop-i.i l.1 c.mark.ensures c.is_field.ensures in
    (omega arith, place_next c.args.text.now c.loop-i.i l.1 c.next-at.ensures.value, none_more (bad c.args.text.now) l.2 (ap not (sym g ∙ c.if-not-is_field.false)))

pub returns-clause-good : goal.returns-clause-good
unfolding first_bad_field
returns-clause-good c =
    let l = c.loop-i.invariant in
    let e : c.loop-i.i ≡ c.args.count = omega arith in
    (sym (found_none (bad c.args.text.now) l.2 c.args.count e) ∙ e, l.1 ∙ ap (place c.args.text.now) e)
