-- `holes::mark_all`: the first b border half-edges are marked, in h holes.
-- Assumes nothing.
use Rattle.std.proofs.Common.{◌≡◌, length}
use Rattle.rules.specs.Queries.{Mesh}
use Rattle.holes.specs.Marks.{Of, Marked}
use Rattle.holes.proofs.mark_all.Given as goal

abbrev pub invariant-loop-b : goal.invariant-loop-b
invariant-loop-b l =
    ((M : Mesh) → Of M l.fn.k → Marked M 0 0 l.fn.work → Marked M l.b l.h l.work) × (length l.work ≡ length l.fn.work)
