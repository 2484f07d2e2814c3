-- `buffers::copy` meets its contract: up to i the entries are copied.
-- Assumes nothing.
use Rattle.std.specs.Prelude.{◌≡◌, ◌++◌, take, drop}
use Rattle.buffers.proofs.copy.Given as goal

abbrev pub invariant-loop-i : goal.invariant-loop-i
invariant-loop-i l = l.out ≡ take l.i l.from ++ drop l.i l.initial.out
