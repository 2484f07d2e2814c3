-- `tabulate::tabulate` meets its contract.
-- Assumes nothing.
use mathlib.Core.Path.{refl}
use Rattle.std.proofs.lemmas.Result.{err_from_is_err_and}
use Rattle.tabulate.specs.Results.{list_refuse, pairs_found, list_on}
use Rattle.tabulate.proofs.tabulate.Goals as goal

pub returns-in_err-f : goal.returns-in_err-f
returns-in_err-f c =
    let p = err_from_is_err_and c.from_residual.result c.from_residual.ensures.1 in
    rw (p.1, p.2) (list_refuse c.in_err-f.ensures refl)

pub tabulate_paired-requires : goal.tabulate_paired-requires
tabulate_paired-requires c = pairs_found c.in_ok-f.ensures refl

pub returns : goal.returns
returns c = list_on c.in_ok-f.ensures refl c.tabulate_paired.ensures
