-- `split::can_hold` meets its contract.
-- Assumes nothing.
use mathlib.Core.Path.{refl, sym, ◌∙◌}
use Rattle.edits.specs.Holding.{counts_say}
use Rattle.split.specs.Testing.{held_by}
use Rattle.split.proofs.can_hold.Goals as goal
use Rattle.split.proofs.can_hold.Goals.{then-counts_fit, else-counts_fit}

pub has_room-requires : goal.has_room-requires
has_room-requires c =
    elim c.if-counts_fit.branch [
      | then-counts_fit w ↦
          let h = counts_say c.args.n c.args.m (sym w.if-counts_fit.ensures) in (h.0, h.1, c.requires)
      | else-counts_fit w ↦ absurd (cc)
    ]

pub returns-then-wide-points : goal.returns-then-wide-points
returns-then-wide-points c =
    let a = c.args in
    elim c.if-counts_fit.branch [
      | then-counts_fit w ↦
          c.has_room.ensures
          ∙ sym (held_by a.n a.m a.columns a.list a.v2e a.e2e a.points a.work (sym w.if-counts_fit.ensures)
          (rw w.wide.ensures at (sym w.value-is ∙ c.if-wide-points.true)))
      | else-counts_fit w ↦ absurd (cc)
    ]

pub returns-else-wide-points : goal.returns-else-wide-points
returns-else-wide-points c =
    let a = c.args in
    elim c.if-counts_fit.branch [
      | then-counts_fit w ↦
          c.if-wide-points.false
          ∙ sym (held_by a.n a.m a.columns a.list a.v2e a.e2e a.points a.work (sym w.if-counts_fit.ensures)
          (rw w.wide.ensures at (sym w.value-is ∙ c.if-wide-points.false)))
      | else-counts_fit w ↦
          c.if-wide-points.false
          ∙ sym (held_by a.n a.m a.columns a.list a.v2e a.e2e a.points a.work (sym w.if-counts_fit.ensures) refl)
    ]
