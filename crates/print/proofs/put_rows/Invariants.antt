-- `print::put_rows` meets its contract: the lines of the elements before k + 1 are written.
-- Assumes nothing.
use Rattle.std.specs.Prelude.{◌+◌, ◌*◌, ◌≤◌}
use Rattle.print.specs.Lines.{joined, row_line, Written}
use Rattle.print.proofs.put_rows.Given as goal

abbrev pub invariant-loop-k : goal.invariant-loop-k
invariant-loop-k l = (l.p ≤ l.at + 55 * l.k) × Written l.initial.out l.at (joined (row_line l.c l.e2e) l.k) l.out l.p
