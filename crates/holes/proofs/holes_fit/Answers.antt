-- `holes::holes_fit` meets its contract.
-- Assumes nothing.
use native.Mathlib.Omega.{arith}
use mathlib.Core.Path.{refl, ap, ◌∙◌}
use lib.Dec.{not_T}
use Rattle.std.proofs.lemmas.Result.{err_from_is_err_and}
use Rattle.lists.specs.TestLaws.{true_of, false_of}
use Rattle.theory.specs.Holes.{room, means_room}
use Rattle.admission.proofs.Admitted.{same_error}
use Rattle.reads.specs.Readings.{read_of}
use Rattle.holes.proofs.Numbering.{holes_short}
use Rattle.holes.proofs.Leaving.{refuses_12, refuses_13, answers}
use Rattle.holes.proofs.holes_fit.Goals.{then-hole-wide-via-then-hole-wide, then-hole-wide-via-else-hole-wide+then-lengths-wide}
use Rattle.holes.proofs.holes_fit.Goals as goal

pub returns-in_err-h-clause-outcome : goal.returns-in_err-h-clause-outcome
returns-in_err-h-clause-outcome c =
    let p = err_from_is_err_and c.from_residual.result c.from_residual.ensures.1 in
    let same = same_error c.in_err-h.ensures.value c.in_err-h.ensures.ok_part in
    let (b, i, e) = c.number_holes.ensures.numbered.broken (ap read_of c.in_err-h.ensures.ok_part) in
    rw (p.1, p.2, same, c.of.ensures) (refuses_12 c.args.fitting.now _ _ b i e refl)

pub returns-then-hole-wide-clause-outcome : goal.returns-then-hole-wide-clause-outcome
returns-then-hole-wide-clause-outcome c =
    let a = c.args in
    let size = c.border_count-k.ensures.count in
    let found = c.number_holes.ensures.numbered.counted _ (ap read_of c.in_ok-h.ensures.ok_part) in
    let no =
    false_of (room a.fitting.now a.hole.now a.lengths.now)
    (not_T (room a.fitting.now a.hole.now a.lengths.now)
    (λ t.
    let (l, m) = (means_room a.fitting.now a.hole.now a.lengths.now).says t in
    elim c.then-hole-wide.branch [
      | then-hole-wide-via-then-hole-wide w ↦ omega (arith, l, size, c.wide.ensures, w.if-hole-wide.true)
      | then-hole-wide-via-else-hole-wide+then-lengths-wide w ↦ omega (arith, m, size, w.wide-else-hole-wide.ensures, w.if-lengths-wide.true)
    ])) in
    refuses_13 a.fitting.now _ _ _ _ found no (rw size at c.refuse_at.ensures)

pub write-requires : goal.write-requires
write-requires c =
    let found = c.number_holes.ensures.numbered.counted _ (ap read_of c.in_ok-h.ensures.ok_part) in
    omega (arith, found.room, holes_short c.args.fitting.now _ _ _ found, c.border_count-k.ensures.count, c.wide.ensures, c.wide-2.ensures, c.wide-3.ensures, c.wide-else-hole-wide.ensures, c.if-hole-wide.false, c.if-lengths-wide.false)

pub returns-clause-outcome : goal.returns-clause-outcome
returns-clause-outcome c =
    let a = c.args in
    let size = c.border_count-k.ensures.count in
    let found = c.number_holes.ensures.numbered.counted _ (ap read_of c.in_ok-h.ensures.ok_part) in
    let enough =
    true_of (room a.fitting.now a.hole.now a.lengths.now)
    ((means_room a.fitting.now a.hole.now a.lengths.now).shows
    (omega (arith, size, c.wide.ensures, c.if-hole-wide.false), omega (arith, size, c.wide-else-hole-wide.ensures, c.if-lengths-wide.false))) in
    answers a.fitting.now _ _ _ _ found enough c.give.ensures
    (rw (c.wide-2.ensures ∙ size) at c.write.ensures.hole_after)
    (rw (c.wide-2.ensures ∙ size, c.wide-3.ensures) at c.write.ensures.lengths_after)
