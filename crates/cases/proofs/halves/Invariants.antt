use Rattle.std.proofs.Common.{◌≡◌, ◌*◌, length}
use Rattle.cases.proofs.halves.Given as goal

abbrev pub invariant-loop-x : goal.invariant-loop-x
invariant-loop-x l = length l.halves.items ≡ 2 * l.x-index
