-- `recover::has_own_tables` meets its contract.
-- Assumes nothing.
use mathlib.Core.Path.{refl, ap}
use Rattle.answer.specs.Numbers.{found}
use Rattle.recover.specs.Faults.{refused_faulted, clash_faulted, to_number, tables_stand}
use Rattle.recover.proofs.has_own_tables.Goals as goal

pub returns-in_default : goal.returns-in_default
returns-in_default c = refused_faulted c.pair.ensures (ap found c.in_default.is)

pub returns-then-f-ne0 : goal.returns-then-f-ne0
returns-then-f-ne0 c =
    clash_faulted c.in-Ok.ensures refl c.if-f-ne0.true

pub number_borders-requires : goal.number_borders-requires
number_borders-requires c = to_number c.in-Ok.ensures refl c.wide.ensures

pub returns : goal.returns
returns c = tables_stand c.in-Ok.ensures refl c.if-f-ne0.false c.wide.ensures c.number_borders.ensures
