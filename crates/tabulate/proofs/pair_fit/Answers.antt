-- `tabulate::pair_fit` meets its contract. The laws of its steps are in Results.
-- Assumes nothing.
use mathlib.Core.Path.{refl}
use Rattle.std.proofs.lemmas.Result.{err_from_is_err_and}
use Rattle.tabulate.specs.Results.{room, grouping, pairs_refuse, none_found, still, gives_pairs}
use Rattle.tabulate.proofs.pair_fit.Goals as goal

pub siblings-found-requires : goal.siblings-found-requires
siblings-found-requires c = room c.requires c.wide-vertices.ensures

pub check_pairs-requires : goal.check_pairs-requires
check_pairs-requires c =
    let here = grouping c.requires c.wide-vertices.ensures c.siblings-found.ensures.0 in
    (here.mapped, c.siblings-found.ensures.2)

pub returns-in_err-check_pairs : goal.returns-in_err-check_pairs
returns-in_err-check_pairs c =
    let here = grouping c.requires c.wide-vertices.ensures c.siblings-found.ensures.0 in
    let p = err_from_is_err_and c.from_residual.result c.from_residual.ensures.1 in
    rw (p.1, p.2) (pairs_refuse here c.in_err-check_pairs.ensures refl)

pub clashing_element-f-requires : goal.clashing_element-f-requires
clashing_element-f-requires c =
    let here = grouping c.requires c.wide-vertices.ensures c.siblings-found.ensures.0 in
    (here.mapped, (none_found here c.in_ok-check_pairs.ensures refl).0, c.siblings-found.ensures.1)

pub first_sides-requires : goal.first_sides-requires
first_sides-requires c =
    let here = grouping c.requires c.wide-vertices.ensures c.siblings-found.ensures.0 in
    still here c.in_ok-check_pairs.ensures refl

pub returns : goal.returns
returns c =
    let here = grouping c.requires c.wide-vertices.ensures c.siblings-found.ensures.0 in
    gives_pairs here c.in_ok-check_pairs.ensures refl c.first_sides.ensures c.clashing_element-f.ensures refl
