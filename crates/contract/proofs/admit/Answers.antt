-- `contract::admit` meets its contract.
-- Assumes nothing.
use Rattle.std.proofs.Common.{refl, sym, arith}
use Rattle.theory.specs.FitRows.{means_fit}
use Rattle.contract.specs.Admitting.{gone, unfit, side_there, pinched, admitted}
use Rattle.contract.proofs.admit.Goals as goal

pub returns-then-not-is_there-clause-admitted : goal.returns-then-not-is_there-clause-admitted
returns-then-not-is_there-clause-admitted c =
    let a = c.args in rw c.of.ensures (gone a.n a.list.now a.code (sym c.if-not-is_there.ensures) refl)

pub returns-then-not-is_splittable-clause-admitted : goal.returns-then-not-is_splittable-clause-admitted
returns-then-not-is_splittable-clause-admitted c =
    let a = c.args in
    rw c.of-then-not-is_splittable.ensures
    (unfit a.n a.list.now a.code (sym c.if-not-is_there.ensures) (sym c.if-not-is_splittable.ensures) refl)

pub entry_of-t-requires : goal.entry_of-t-requires
entry_of-t-requires c =
    let a = c.args in
    let side = side_there a.n a.list.now a.code (sym c.if-not-is_there.ensures) (sym c.if-not-is_splittable.ensures) in
    rw c.wide-vertices.ensures (c.requires.tabled, side)

pub edge_of-edge-requires : goal.edge_of-edge-requires
edge_of-edge-requires c =
    let a = c.args in
    (side_there a.n a.list.now a.code (sym c.if-not-is_there.ensures) (sym c.if-not-is_splittable.ensures), c.entry_of-t.ensures)

pub is_pinched-requires : goal.is_pinched-requires
is_pinched-requires c =
    let p = c.requires in ((means_fit c.args.n c.args.list.now).says p.accepted.rows, omega (arith, p.tabled.room))

pub returns-then-is_pinched-clause-admitted : goal.returns-then-is_pinched-clause-admitted
returns-then-is_pinched-clause-admitted c =
    let a = c.args in
    rw c.of-then-is_pinched.ensures
    (pinched a.n a.list.now a.code (sym c.if-not-is_there.ensures) (sym c.if-not-is_splittable.ensures) c.edge_of-edge.ensures
    c.is_pinched.ensures.value c.if-is_pinched.true refl)

pub returns-clause-admitted : goal.returns-clause-admitted
returns-clause-admitted c =
    let a = c.args in
    admitted a.n a.list.now a.code (sym c.if-not-is_there.ensures) (sym c.if-not-is_splittable.ensures) c.edge_of-edge.ensures
    c.is_pinched.ensures.value c.requires.accepted c.entry_of-t.ensures c.if-is_pinched.false refl
