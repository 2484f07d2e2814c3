-- `off_items::line_end` meets its contract: no newline was passed.
-- Assumes nothing.
use Rattle.std.specs.Prelude.{eqb}
use Rattle.off_items.specs.Scanning.{Passed}
use Rattle.off_items.proofs.line_end.Given as goal

abbrev pub invariant-loop-at : goal.invariant-loop-at
invariant-loop-at l = Passed (λ b. eqb b 10) l.text l.p l.at
