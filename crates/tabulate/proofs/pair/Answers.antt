-- `tabulate::pair` meets its contract.
-- Assumes nothing.
use mathlib.Core.Path.{refl}
use Rattle.std.proofs.lemmas.Result.{err_from_is_err_and}
use Rattle.theory.specs.FitRows.{means_sizes}
use Rattle.tabulate.specs.Results.{rows_refuse, rows_fit_lem, pairs_on}
use Rattle.tabulate.proofs.pair.Goals as goal

pub check_rows-requires : goal.check_rows-requires
check_rows-requires c = let (a, (b, d)) = (means_sizes _ _).says c.requires.sizes in (d, b)

pub returns-in_err-check_rows : goal.returns-in_err-check_rows
returns-in_err-check_rows c =
    let p = err_from_is_err_and c.from_residual.result c.from_residual.ensures.1 in
    rw (p.1, p.2) (rows_refuse c.in_err-check_rows.ensures refl)

pub pair_fit-requires : goal.pair_fit-requires
pair_fit-requires c = rows_fit_lem c.in_ok-check_rows.ensures refl c.requires

pub returns : goal.returns
returns c = pairs_on c.in_ok-check_rows.ensures refl c.pair_fit.ensures
