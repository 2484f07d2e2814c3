-- What the sides of the elements before f join to a is marked.
use Rattle.std.proofs.Common.{◌*◌}
use Rattle.pinched.specs.Marks.{Marked, Joined}
use Rattle.pinched.proofs.mark_neighbours.Given as goal

abbrev pub invariant-loop-f : goal.invariant-loop-f
invariant-loop-f l = Marked (Joined l.list 0 (8 * l.f) l.a) l.fn.marks l.marks
