-- `tabulate::tabulate_paired` meets its contract. The laws of its steps are in Results.
-- Assumes nothing.
use native.Mathlib.Omega.{arith}
use borrow.Author.Rules.{rules}
use borrow.Author.Tests.{not-true, not-false}
use Rattle.tabulate.specs.Results.{Tabled, standing, to_decide, not_ordered, ordered, few, clashes, refuses_8, refuses_18, gives_tables}
use Rattle.tabulate.proofs.tabulate_paired.Statement.{statement}
use Rattle.tabulate.proofs.tabulate_paired.Tie as tie

tables : (c : tie.After-number_borders-counts) →
    let k = c.number_borders-counts.result in
    let a = c.args in Tabled a.n c.wide-vertices.result k.borders k.sides a.list.now a.work.now c.number_borders-counts.new.work
tables c =
    record { ready = c.requires.0; index = c.wide-vertices.ensures; numbered = c.number_borders-counts.ensures }

wide_requires : tie.Need-wide-vertices-requires
wide_requires c κs = search rules

number_borders_requires : tie.Need-number_borders-counts-requires
number_borders_requires c κs = rw c.wide-vertices.ensures c.requires.0

is_ordered_requires : tie.Need-is_ordered-requires
is_ordered_requires c κs = to_decide (tables c.before.before)

unordered_requires : tie.Need-unordered-requires
unordered_requires c κs = standing (tables c.before.before.before.before.before)

refuse_at_requires : tie.Need-refuse_at-requires
refuse_at_requires c κs = search rules

same_length : tie.Need-shape_of-work-then-not-is_ordered
same_length c = search rules

returns : tie.Need-returns-then-not-is_ordered
returns c =
    refuses_8 (tables c.before.before.before.before.before.before.before.before.before) (not_ordered (tables c.before.before.before.before.before.before.before.before.before) c.is_ordered.ensures (not-true _ c.if-not-is_ordered.true-raw)) c.unordered.ensures.0
    c.unordered.ensures.1 c.refuse_at.ensures

clash_of_requires : tie.Need-clash_of-requires
clash_of_requires c κs =
    (clashes c.args.list.now c.args.f c.requires.1 c.if-f-ne0.true, c.requires.0.mapped.fit.size)

refuse_at_requires_2 : tie.Need-refuse_at-requires-then-f-ne0
refuse_at_requires_2 c κs = search rules

same_length_2 : tie.Need-shape_of-work-then-f-ne0
same_length_2 c = search rules

add_give_two : tie.Need-overflow_add-sides
add_give_two c = omega (arith, few (tables c.before.before.before.before.before))

give_two_requires : tie.Need-give_two-requires
give_two_requires c κs = search rules

same_length_3 : tie.Need-shape_of-work
same_length_3 c = search rules

returns_3 : tie.Need-returns
returns_3 c =
    gives_tables (tables c.before.before.before.before.before.before) (ordered (tables c.before.before.before.before.before.before) c.is_ordered.ensures (not-false _ c.if-not-is_ordered.false-raw)) c.requires.1 c.if-f-ne0.false c.give_two.ensures

pub tabulate_paired_spec : {M : Type 1} → statement M
tabulate_paired_spec =
    tie.close
    (tie.spec
    wide_requires
    number_borders_requires
    is_ordered_requires
    unordered_requires
    refuse_at_requires
    same_length
    returns
    clash_of_requires
    refuse_at_requires_2
    same_length_2
    (λ c. refuses_18 (tables c.before.before.before.before.before.before.before) (ordered (tables c.before.before.before.before.before.before.before) c.is_ordered.ensures (not-false _ c.if-not-is_ordered.false-raw)) c.requires.1 c.if-f-ne0.true c.clash_of.ensures c.refuse_at-then-f-ne0.ensures)
    add_give_two
    give_two_requires
    same_length_3
    returns_3)
