-- The entries before the one at hand are renamed.
use Rattle.gaps.specs.Renaming.{Begun}
use Rattle.gaps.proofs.rename.Given as goal

abbrev pub invariant-loop-c : goal.invariant-loop-c
invariant-loop-c l = Begun l.fn.old l.fn.new l.initial.list l.list l.c-index
