-- `off_items::digits_end` meets its contract: only digits were passed.
-- Assumes nothing.
use Rattle.std.specs.Prelude.{not}
use Rattle.digits.specs.Digits.{digit}
use Rattle.off_items.specs.Scanning.{Passed}
use Rattle.off_items.proofs.digits_end.Given as goal

abbrev pub invariant-loop-at : goal.invariant-loop-at
invariant-loop-at l = Passed (λ b. not (digit b)) l.text l.p l.at
