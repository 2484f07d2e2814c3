-- What the sides before side i join to a is marked.
use Rattle.std.proofs.Common.{◌+◌, ◌*◌}
use Rattle.pinched.specs.Marks.{Marked, Joined}
use Rattle.pinched.proofs.mark_by_element.Given as goal

abbrev pub invariant-loop-i : goal.invariant-loop-i
invariant-loop-i l = Marked (Joined l.list (8 * l.f) (8 * l.f + l.i) l.a) l.fn.marks l.marks
