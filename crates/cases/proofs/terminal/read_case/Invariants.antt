use Rattle.std.proofs.Common.{◌≡◌, length}
use Rattle.cases.proofs.terminal.read_case.Given as goal

abbrev pub invariant-loop : goal.invariant-loop
invariant-loop g l = length l.numbers.items ≡ l.counter
