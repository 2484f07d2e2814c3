-- `borders::number_place` meets its contract.
-- Assumes nothing.
use Rattle.std.proofs.Common.{sym, ◌∙◌, arith}
use Rattle.borders.proofs.Stepping.{few, room, side_here, ends_fit, none_on, paired_on, border_on}
use Rattle.borders.proofs.number_place.Goals as goal

pub returns-then-sibling-eq0 : goal.returns-then-sibling-eq0
returns-then-sibling-eq0 c = let r = c.requires in none_on r.cases r.numbering r.p_in_bounds c.if-sibling-eq0.true

pub overflow_add-sides : goal.overflow_add-sides
overflow_add-sides c =
    let r = c.requires in omega (arith, few r.cases r.numbering r.p_in_bounds, room r.cases r.numbering r.p_in_bounds)

pub returns-then-sibling-code_at : goal.returns-then-sibling-code_at
returns-then-sibling-code_at c =
    let r = c.requires in
    paired_on r.cases r.numbering r.p_in_bounds c.if-sibling-eq0.false (λ e. c.if-sibling-code_at.true (e ∙ sym c.code_at.ensures))

pub overflow_add-borders : goal.overflow_add-borders
overflow_add-borders c =
    let r = c.requires in omega (arith, few r.cases r.numbering r.p_in_bounds, room r.cases r.numbering r.p_in_bounds)

pub put_border-requires-clause-p_in_bounds : goal.put_border-requires-clause-p_in_bounds
put_border-requires-clause-p_in_bounds c =
    let r = c.requires in
    let (elements, long) = room r.cases r.numbering r.p_in_bounds in
    (r.p_in_bounds, omega arith, omega (arith, few r.cases r.numbering r.p_in_bounds), elements, long)

pub put_border-requires-clause-side : goal.put_border-requires-clause-side
put_border-requires-clause-side c =
    let r = c.requires in
    let side = side_here r.cases r.numbering r.p_in_bounds c.if-sibling-eq0.false in
    let own = c.if-sibling-code_at.false ∙ c.code_at.ensures in
    let (from, to) = ends_fit r.cases r.numbering r.p_in_bounds side own in (side, from, to)

pub returns : goal.returns
returns c =
    let r = c.requires in
    let side = side_here r.cases r.numbering r.p_in_bounds c.if-sibling-eq0.false in
    let own = c.if-sibling-code_at.false ∙ c.code_at.ensures in
    border_on r.cases r.numbering r.p_in_bounds side own c.put_border.ensures
