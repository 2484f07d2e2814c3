use Rattle.std.proofs.Common.{length}
use Rattle.cases.proofs.run_input.Given as goal

abbrev pub decreases-loop-rest : goal.decreases-loop-rest
decreases-loop-rest g l = length l.rest
