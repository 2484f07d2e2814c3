-- `split::admit` meets its contract: each way out goes by the tests before it.
-- Assumes nothing.
use Rattle.std.proofs.Common.{◌≡◌, refl, sym, ap, ◌∙◌, true, List, ℕ, ◌+◌, ◌*◌, ◌-◌, ◌≤◌, take, rules, arith}
use Rattle.lists.specs.Search.{at}
use Rattle.rules.specs.Elements.{max_element, slot}
use Rattle.rules.specs.Tables.{wide}
use Rattle.edit_rules.specs.Edits.{Lent, is_there, held}
use Rattle.edit_rules.specs.Split.{is_splittable}
use Rattle.theory.specs.Columns.{three_or_four}
use Rattle.theory.specs.Built.{borders_bound}
use Rattle.theory.specs.Splitting.{means_splittable}
use Rattle.edits.specs.Holding.{lent_edit}
use Rattle.edits.specs.Trying.{tabled_at}
use Rattle.edits.specs.HeldRows.{held_length}
use Rattle.split.specs.Admitting.{gone, unfit, full, tried, counted, crowded, admitted}
use Rattle.split.proofs.admit.Goals as goal

pub returns-then-not-is_there : goal.returns-then-not-is_there
returns-then-not-is_there c =
    let a = c.args in
    let w = lent_edit a.n a.m a.list.now a.v2e.now a.e2e.now a.b2e.now a.work.now in
    let rows : 4 * c.wide-rows.result - 0 ≡ 4 * a.m = omega (arith, c.wide-rows.ensures) in
    rw c.of.ensures (gone w a.points.now a.code (rw rows at (sym c.if-not-is_there.ensures)) refl)

pub returns-then-not-is_splittable : goal.returns-then-not-is_splittable
returns-then-not-is_splittable c =
    let a = c.args in
    let w = lent_edit a.n a.m a.list.now a.v2e.now a.e2e.now a.b2e.now a.work.now in
    let rows : 4 * c.wide-rows.result - 0 ≡ 4 * a.m = omega (arith, c.wide-rows.ensures) in
    let there = rw rows at (sym c.if-not-is_there.ensures) in
    rw c.of-then-not-is_splittable.ensures (unfit w a.points.now a.code there (rw rows at (sym c.if-not-is_splittable.ensures)) refl)

pub entry_of-t-requires : goal.entry_of-t-requires
entry_of-t-requires c =
    let a = c.args in
    let L = take (4 * a.m) a.list.now in
    let rows : 4 * c.wide-rows.result - 0 ≡ 4 * a.m = omega (arith, c.wide-rows.ensures) in
    let fit = rw rows at (sym c.if-not-is_splittable.ensures) in
    rw (rows, c.wide-vertices.ensures) (c.requires.tabled, ((means_splittable L a.code).says (rw fit tt)).side)

pub can_hold-requires : goal.can_hold-requires
can_hold-requires c = rw c.requires.columned (three_or_four (take (4 * c.args.m) c.args.list.now))

pub returns-then-not-can_hold : goal.returns-then-not-can_hold
returns-then-not-can_hold c =
    let a = c.args in
    let w = lent_edit a.n a.m a.list.now a.v2e.now a.e2e.now a.b2e.now a.work.now in
    let rows : 4 * c.wide-rows.result - 0 ≡ 4 * a.m = omega (arith, c.wide-rows.ensures) in
    let there = rw rows at (sym c.if-not-is_there.ensures) in
    let fit = rw rows at (sym c.if-not-is_splittable.ensures) in
    let entry = rw rows at c.entry_of-t.ensures in
    let none = tried w a.points.now a.code there fit c.requires entry c.by_border-elements.ensures c.if-not-can_hold.ensures in
    rw c.of-then-not-can_hold.ensures (full w a.points.now a.code there fit none refl)

pub overflow_add-k : goal.overflow_add-k
overflow_add-k c =
    let L = take (4 * c.args.m) c.args.list.now in
    let few : c.args.k ≤ 4 * max_element =
    omega (arith, c.requires.number, borders_bound L, held_length c.args.m c.args.list.now c.requires.inside, c.requires.tabled.size) in
    search rules

pub returns-then-b2e-wide : goal.returns-then-b2e-wide
returns-then-b2e-wide c =
    let a = c.args in
    let w = lent_edit a.n a.m a.list.now a.v2e.now a.e2e.now a.b2e.now a.work.now in
    let rows : 4 * c.wide-rows.result - 0 ≡ 4 * a.m = omega (arith, c.wide-rows.ensures) in
    let there = rw rows at (sym c.if-not-is_there.ensures) in
    let fit = rw rows at (sym c.if-not-is_splittable.ensures) in
    let entry = rw rows at c.entry_of-t.ensures in
    let room = tried w a.points.now a.code there fit c.requires entry c.by_border-elements.ensures c.if-not-can_hold.ensures in
    rw c.at.ensures (crowded w a.points.now a.code there fit c.requires entry room c.by_border-borders.ensures
    (omega (arith, c.if-b2e-wide.true, c.wide.ensures)) refl)

pub returns : goal.returns
returns c =
    let a = c.args in
    let w = lent_edit a.n a.m a.list.now a.v2e.now a.e2e.now a.b2e.now a.work.now in
    let rows : 4 * c.wide-rows.result - 0 ≡ 4 * a.m = omega (arith, c.wide-rows.ensures) in
    let there = rw rows at (sym c.if-not-is_there.ensures) in
    let fit = rw rows at (sym c.if-not-is_splittable.ensures) in
    let entry = rw rows at c.entry_of-t.ensures in
    let room = tried w a.points.now a.code there fit c.requires entry c.by_border-elements.ensures c.if-not-can_hold.ensures in
    let elements = counted w a.points.now a.code there fit c.requires entry c.by_border-elements.ensures in
    admitted w a.points.now a.code there fit c.requires entry room c.by_border-borders.ensures elements
    (omega (arith, c.if-b2e-wide.false, c.wide.ensures)) refl
