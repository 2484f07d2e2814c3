-- `off::newlines_in` meets its contract.
-- Assumes nothing.
use Rattle.std.specs.Prelude.{◌≡◌, eqb, take, count_by}
use Rattle.off.proofs.newlines_in.Given as goal

abbrev pub invariant-loop-b : goal.invariant-loop-b
invariant-loop-b l = l.newlines ≡ count_by (λ b. eqb b 10) (take l.b-index l.part)
