-- `checks::is_alike` meets its contract. What the entry tells is in Maps.
-- Assumes nothing.
use Rattle.std.proofs.Common.{eq-eqb}
use Rattle.checks.specs.Maps.{side_there, sibling_there, none_alike, lone_alike, alike_by}
use Rattle.checks.proofs.is_alike.Goals as goal

pub returns-then-t-eq0 : goal.returns-then-t-eq0
returns-then-t-eq0 c = none_alike _ c.requires c.if-t-eq0.true

pub origin_of-requires : goal.origin_of-requires
origin_of-requires c = sibling_there _ c.requires c.if-t-eq0.false

pub origin_of-requires-then-t-s : goal.origin_of-requires-then-t-s
origin_of-requires-then-t-s c = rw c.code_at-s.ensures (side_there _ c.requires c.if-t-eq0.false)

pub returns-then-t-s : goal.returns-then-t-s
returns-then-t-s c =
    alike_by _ c.requires c.if-t-eq0.false c.code_at-s.ensures c.if-t-s.true c.origin_of.ensures c.origin_of-then-t-s.ensures

pub returns-else-t-s : goal.returns-else-t-s
returns-else-t-s c = rw (eq-eqb _ _ c.if-t-s.false) (lone_alike _ c.requires c.code_at-s.ensures c.if-t-s.false)
