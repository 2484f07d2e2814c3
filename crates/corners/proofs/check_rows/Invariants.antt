-- `corners::check_rows` meets its contract: row after row, the rows before hold no unfit corner.
-- Assumes nothing.
use Rattle.std.proofs.Common.{◌*◌}
use Rattle.corners.specs.Scan.{Scanned}
use Rattle.corners.proofs.check_rows.Given as goal

abbrev pub invariant-loop-f : goal.invariant-loop-f
invariant-loop-f l = Scanned l.n l.list (4 * l.f) l.repeated
