-- `checks::check_pairs` meets its contract.
-- Assumes nothing.
use Rattle.std.proofs.Common.{sym}
use Rattle.checks.specs.Pairs.{none_alike, crowded_refuses, alike_refuses}
use Rattle.checks.proofs.check_pairs.Goals as goal

pub returns-then-paired : goal.returns-then-paired
returns-then-paired c = sym (none_alike _ c.requires.1 _ c.requires.0.fit c.if-paired.true)

pub returns-then-s-ne0 : goal.returns-then-s-ne0
returns-then-s-ne0 c = rw c.at_side.ensures (sym (crowded_refuses _ c.requires.1 c.crowded_side-s.ensures c.if-s-ne0.true))

pub returns : goal.returns
returns c =
    rw c.at_side-2.ensures
    (sym (alike_refuses _ c.requires.1 c.if-paired.false c.crowded_side-s.ensures c.if-s-ne0.false c.alike_side.ensures))
