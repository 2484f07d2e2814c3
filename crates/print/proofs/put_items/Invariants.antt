-- `print::put_items` meets its contract: the items of the numbers before i are written.
-- Assumes nothing.
use Rattle.std.specs.Prelude.{◌+◌, ◌*◌, ◌≤◌}
use Rattle.print.specs.Lines.{joined, item, Written}
use Rattle.print.proofs.put_items.Given as goal

abbrev pub invariant-loop-i : goal.invariant-loop-i
invariant-loop-i l = (l.p ≤ l.at + 11 * l.i) × Written l.initial.out l.at (joined (item l.numbers) l.i) l.out l.p
