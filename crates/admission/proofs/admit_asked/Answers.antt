-- `admission::admit_asked` meets its contract: by what the earlier checks found, and by the test.
-- Assumes nothing.
use Rattle.std.proofs.lemmas.Result.{err_from_is_err_and}
use Rattle.admission.proofs.Admitted.{earlier, missing}
use Rattle.admission.proofs.admit_asked.Goals as goal

pub returns-in_err-fitting : goal.returns-in_err-fitting
returns-in_err-fitting c =
    let p = err_from_is_err_and c.from_residual.result c.from_residual.ensures.1 in
    rw (p.1, p.2) (earlier _ c.in_err-fitting.ensures)

pub returns-then-not-there : goal.returns-then-not-there
returns-then-not-there c = rw c.of.ensures (missing _ c.in_ok-fitting.ensures c.if-not-there.true)
