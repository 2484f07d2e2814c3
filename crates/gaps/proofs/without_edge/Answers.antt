-- `gaps::without_edge` meets its contract.
-- Assumes nothing.
use Rattle.std.proofs.Common.{arith, ap, sym, ◌∙◌, ◌*◌, take}
use Rattle.edit_rules.specs.Contract.{without_row, without_both}
use Rattle.halfedge.specs.Codes.{of_border, of_side}
use Rattle.gaps.specs.Closing.{row_there, border_goes, other_there, rows_differ, inner_goes}
use Rattle.gaps.proofs.without_edge.Goals as goal

pub without_row-requires : goal.without_row-requires
without_row-requires c = omega (arith, row_there c.requires, c.element_of.ensures, c.requires.inside)

pub returns-then-is_border : goal.returns-then-is_border
returns-then-is_border c =
    let (long, front) = c.without_row.ensures in
    let L = take (4 * c.args.m) c.args.list.now in
    border_goes c.requires (of_border _ c.is_border.ensures c.if-is_border.true) c.without_row.new.list
    (long, front ∙ ap (λ f. without_row f L) c.element_of.ensures)

pub without_both-requires-clause-le_f : goal.without_both-requires-clause-le_f
without_both-requires-clause-le_f c =
    let x = c.requires in
    let d = of_side _ c.is_border.ensures c.if-is_border.false in
    omega (arith, row_there x, other_there x d, c.element_of-2.ensures, c.element_of-3.ensures, x.inside)

pub without_both-requires-clause-fact : goal.without_both-requires-clause-fact
without_both-requires-clause-fact c =
    let d = of_side _ c.is_border.ensures c.if-is_border.false in
    λ z. rows_differ c.requires d (sym c.element_of-2.ensures ∙ z ∙ c.element_of-3.ensures)

pub returns : goal.returns
returns c =
    let e = c.element_of-2.ensures in
    let f = c.element_of-3.ensures in
    let (long, front) = c.without_both.ensures in
    let L = take (4 * c.args.m) c.args.list.now in
    inner_goes c.requires (of_side _ c.is_border.ensures c.if-is_border.false) c.without_both.new.list (long, front ∙ (λ i. without_both (e i) (f i) L))
