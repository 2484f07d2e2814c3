use Rattle.std.proofs.Common.{◌≤◌, length}
use Rattle.cases.proofs.numbers_in.Given as goal

abbrev pub invariant-loop-b : goal.invariant-loop-b
invariant-loop-b l = length l.numbers.items ≤ 127
