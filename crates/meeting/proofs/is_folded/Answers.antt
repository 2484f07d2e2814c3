-- `meeting::is_folded` meets its contract. The entries of sides 1 and 2 stand side by side.
-- Assumes nothing.
use Rattle.std.proofs.Common.{arith, ◌≡◌, ◌∙◌, ap, sym, eqb, refl, false, ◌+◌, ◌*◌}
use Rattle.lists.specs.TestLaws.{true_of, false_of, means_eq, means_not}
use Rattle.rules.specs.Elements.{element}
use Rattle.rules.specs.Siblings.{sibling}
use Rattle.meeting.specs.Folds.{is_folded}
use Rattle.meeting.specs.Places.{first_place, second_place, places_below}
use Rattle.meeting.proofs.is_folded.Goals as goal

pub overflow_add-place : goal.overflow_add-place
overflow_add-place c =
    let below = places_below c.requires.0 c.args.f c.requires.1 c.side_code.ensures c.slot_of.ensures in omega (arith, below)

pub offset_bounds-work-place : goal.offset_bounds-work-place
offset_bounds-work-place c =
    let below = places_below c.requires.0 c.args.f c.requires.1 c.side_code.ensures c.slot_of.ensures in omega (arith, below)

pub bounds-work-place : goal.bounds-work-place
bounds-work-place c =
    let below = places_below c.requires.0 c.args.f c.requires.1 c.side_code.ensures c.slot_of.ensures in omega (arith, below)

pub overflow_add-place-2 : goal.overflow_add-place-2
overflow_add-place-2 c =
    let below = places_below c.requires.0 c.args.f c.requires.1 c.side_code.ensures c.slot_of.ensures in omega (arith, below)

pub offset_bounds-work-place-2 : goal.offset_bounds-work-place-2
offset_bounds-work-place-2 c =
    let below = places_below c.requires.0 c.args.f c.requires.1 c.side_code.ensures c.slot_of.ensures in omega (arith, below)

pub bounds-work-place-2 : goal.bounds-work-place-2
bounds-work-place-2 c =
    let below = places_below c.requires.0 c.args.f c.requires.1 c.side_code.ensures c.slot_of.ensures in omega (arith, below)

pub returns-then-g-element_of : goal.returns-then-g-element_of
unfolding is_folded
returns-then-g-element_of c =
    let a = c.args in
    let x = element (sibling a.list.now (8 * a.f + 1)) in
    let y = element (sibling a.list.now (8 * a.f + 2)) in
    let one : c.element_of-g.result ≡ x = c.element_of-g.ensures ∙ ap element (first_place c.requires.0 a.f c.requires.1 c.side_code.ensures c.slot_of.ensures) in
    let two : c.element_of.result ≡ y = c.element_of.ensures ∙ ap element (second_place c.requires.0 a.f c.requires.1 c.side_code.ensures c.slot_of.ensures) in
    rw (true_of (eqb x y) ((means_eq x y).shows (sym one ∙ c.if-g-element_of.true ∙ two)), sym one) refl

pub returns-else-g-element_of : goal.returns-else-g-element_of
unfolding is_folded
returns-else-g-element_of c =
    let a = c.args in
    let x = element (sibling a.list.now (8 * a.f + 1)) in
    let y = element (sibling a.list.now (8 * a.f + 2)) in
    let one : c.element_of-g.result ≡ x = c.element_of-g.ensures ∙ ap element (first_place c.requires.0 a.f c.requires.1 c.side_code.ensures c.slot_of.ensures) in
    let two : c.element_of.result ≡ y = c.element_of.ensures ∙ ap element (second_place c.requires.0 a.f c.requires.1 c.side_code.ensures c.slot_of.ensures) in
    let differ : eqb x y ≡ false = false_of (eqb x y) ((means_not (means_eq x y)).shows (λ z. c.if-g-element_of.false (one ∙ z ∙ sym two))) in
    rw (one, two, differ) refl
