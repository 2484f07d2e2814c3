-- `sibling_map::map_fit` meets its contract.
-- Assumes nothing.
use mathlib.Core.Path.{refl}
use Rattle.std.proofs.lemmas.Result.{err_from_is_err_and}
use Rattle.theory.specs.FitRows.{means_sizes}
use Rattle.sibling_map.specs.Mapping.{unmapped, writes, mapped}
use Rattle.sibling_map.proofs.map_fit.Goals as goal

pub check_rows-requires : goal.check_rows-requires
check_rows-requires c =
    let (a, (b, d)) = (means_sizes _ _).says c.requires.sizes in (d, b)

pub returns-in_err-check_rows : goal.returns-in_err-check_rows
returns-in_err-check_rows c =
    let p = err_from_is_err_and c.from_residual.result c.from_residual.ensures.1 in
    record { mapped = rw (p.1, p.2) (unmapped c.requires c.in_err-check_rows.ensures refl); work_len_unchanged = refl }

pub write-requires : goal.write-requires
write-requires c = writes c.requires c.in_ok-check_rows.ensures refl c.wide.ensures

pub returns : goal.returns
returns c =
    record {
      mapped = rw c.give_two.ensures (mapped c.requires c.in_ok-check_rows.ensures refl c.wide.ensures c.write.ensures.v2e_after);
      work_len_unchanged = c.write.ensures.work_len_unchanged;
    }
