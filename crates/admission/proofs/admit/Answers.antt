-- `admission::admit` meets its contract: by the two tests.
-- Assumes nothing.
use Rattle.std.proofs.Common.{sym, ◌∙◌}
use Rattle.admission.proofs.Admitted.{fit_of}
use Rattle.admission.proofs.admit.Goals as goal

pub invariant_of-result : goal.invariant_of-result
invariant_of-result c =
    fit_of _ (sym c.sizes_fit.ensures ∙ c.if-not-sizes_fit.false) (sym c.lengths_fit.ensures ∙ c.if-not-lengths_fit.false)
