-- `holes::mark_all` meets its contract.
-- Assumes nothing.
use mathlib.Core.Path.{refl, ◌∙◌}
use native.Mathlib.Omega.{arith}
use Rattle.holes.proofs.mark_all.Goals as goal

pub loop-b-preserved : goal.loop-b-preserved
loop-b-preserved c =
    let (marked, long) = c.loop-b.invariant in (
      (λ M size m. (c.in_ok-h.ensures.numbered M size (omega arith, omega (arith, size, c.loop-b-test.true)) (marked M size m)).counted _ refl),
      c.mark_next.ensures.work_len_unchanged ∙ long,
    )
