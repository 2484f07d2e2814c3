-- `contract::merge_ends` meets its contract.
-- Assumes nothing.
use mathlib.Core.Path.{◌≡◌, ap, ◌∙◌}
use Prim.Native.Nat.{ℕ, ◌*◌}
use native.Mathlib.Omega.{arith}
use Rattle.gaps.specs.Closing.{fewer_by, fewer_fits}
use Rattle.contract.specs.Replacing.{merged_rows, rows_inside}
use borrow.Author.Rules.{rules}
use Rattle.contract.proofs.merge_ends.Statement.{statement}
use Rattle.contract.proofs.merge_ends.Tie as tie

rows : (c : tie.After-wide-rows) → let a = c.args in 4 * c.wide-rows.result ≡ 4 * fewer_by a.m a.t
rows c = ap (λ (k : ℕ). 4 * k) (c.wide-rows.ensures ∙ c.fewer.ensures)

merge_requires : tie.Need-merge-requires
merge_requires c κs = search rules

fewer_requires : tie.Need-fewer-requires
fewer_requires c κs = fewer_fits c.requires.0.0

wide_requires : tie.Need-wide-rows-requires
wide_requires c κs = search rules

mul_rows : tie.Need-overflow_mul-rows
mul_rows c = search rules

clear_between_requires : tie.Need-clear_between-requires
clear_between_requires c κs =
    (rows_inside c.requires.0.0 c.requires.1 c.merge.new.list c.merge.ensures.0 (rows c.before), omega arith)

same_length : tie.Need-shape_of-list
same_length c = search rules

-- states by how far they lie back
abbrev wide_rows_of_slice_known_3_1 : tie.After-slice_known-3-1 → tie.After-wide-rows
wide_rows_of_slice_known_3_1 c = c.before.before.before.before

returns : tie.Need-returns
returns c =
    merged_rows c.requires.0.0 c.requires.1 c.merge.new.list c.merge.ensures (rows (wide_rows_of_slice_known_3_1 c)) c.clear_between.ensures

pub merge_ends_spec : {M : Type 1} → statement M
merge_ends_spec =
    tie.close
    (tie.spec
    merge_requires
    fewer_requires
    wide_requires
    mul_rows
    clear_between_requires
    same_length
    returns)
