-- `contract::replace` meets its contract.
-- Assumes nothing.
use mathlib.Core.Path.{◌≡◌, refl, ◌∙◌}
use Prim.Native.Nat.{◌*◌, ◌-◌, ◌≤◌}
use native.Mathlib.Omega.{arith}
use lib.ListN.{length}
use borrow.Author.Tests.{not-true, not-false}
use Rattle.gaps.specs.Closing.{fewer_by, fewer_fits}
use Rattle.contract.specs.Replacing.{fours, to_close, last_there, to_merge, front_inside, to_ask, left_unused, fits, made}
use borrow.Author.Rules.{rules}
use Rattle.contract.proofs.replace.Statement.{statement}
use Rattle.contract.proofs.replace.Tie as tie

-- where the rows that stay end
rows : (c : tie.After-wide-rows) → let a = c.args in 4 * c.wide-rows.result - 0 ≡ 4 * fewer_by a.m a.t
rows c = omega (arith, c.wide-rows.ensures ∙ c.fewer-left.ensures)

inside : (c : tie.After-wide-rows) → 4 * c.wide-rows.result - 0 ≤ length c.merge_ends.new.list
inside c =
    let p = c.requires.0 in front_inside p.0 p.1 p.2 c.merge_ends.ensures (rows c)

merge_ends_requires : tie.Need-merge_ends-requires
merge_ends_requires c κs = let p = c.requires.0 in (to_merge p.0 p.1 p.2, fours p.0 p.1)

fewer_requires : tie.Need-fewer-left-requires
fewer_requires c κs = let p = c.requires.0 in fewer_fits (to_close p.0 p.1)

wide_requires : tie.Need-wide-rows-requires
wide_requires c κs = search rules

mul_rows : tie.Need-overflow_mul-rows
mul_rows c = search rules

sub_all_used : tie.Need-slice_bounds-all_used-count
sub_all_used c = search rules

part_all_used_start : tie.Need-slice_bounds-all_used-start
part_all_used_start c = search rules

part_all_used_end : tie.Need-slice_bounds-all_used-end
part_all_used_end c = let h = inside c in search rules

all_used_requires : tie.Need-all_used-requires
all_used_requires c κs =
    let p = c.requires.0 in to_ask p.0 p.1 p.2 c.merge_ends.ensures (rows c.before)

refuse_requires : tie.Need-refuse-requires
refuse_requires c κs = search rules

same_length : tie.Need-shape_of-list-then-not-all_used
same_length c = search rules

-- states by how far they lie back
abbrev wide_rows_of_refuse : tie.After-refuse → tie.After-wide-rows
wide_rows_of_refuse c = c.before.before.before.before

abbrev all_used_of_build_front_arg_4_1 : tie.After-build_front-arg-4-1 → tie.After-all_used
all_used_of_build_front_arg_4_1 c = c.before.before.before.before.before.before.before.before.before

abbrev wide_rows_of_build_front_arg_4_1 : tie.After-build_front-arg-4-1 → tie.After-wide-rows
wide_rows_of_build_front_arg_4_1 c = (all_used_of_build_front_arg_4_1 c).before.before

abbrev build_front_arg_4_1_of_slice_known_11_1 : tie.After-slice_known-11-1 → tie.After-build_front-arg-4-1
build_front_arg_4_1_of_slice_known_11_1 c = c.before.before.before.before.before.before.before.before.before

abbrev all_used_of_slice_known_11_1 : tie.After-slice_known-11-1 → tie.After-all_used
all_used_of_slice_known_11_1 c = (build_front_arg_4_1_of_slice_known_11_1 c).before.before.before.before.before.before.before.before.before

abbrev wide_rows_of_slice_known_11_1 : tie.After-slice_known-11-1 → tie.After-wide-rows
wide_rows_of_slice_known_11_1 c = (all_used_of_slice_known_11_1 c).before.before

returns : tie.Need-returns-then-not-all_used
returns c =
    let p = c.requires.0 in (
      left_unused p.0 p.1 p.2 c.merge_ends.ensures (rows (wide_rows_of_refuse c)) c.all_used.ensures (not-true _ c.if-not-all_used.true-raw)
          c.refuse.ensures,
      refl,
    )

sub_rename : tie.Need-slice_bounds-rename-count
sub_rename c = search rules

part_rename_start : tie.Need-slice_bounds-rename-start
part_rename_start c = search rules

part_rename_end : tie.Need-slice_bounds-rename-end
part_rename_end c = let h = inside c.before.before.before in search rules

rename_requires : tie.Need-rename-requires
rename_requires c κs = search rules

sub_build_front : tie.Need-overflow_sub-n
sub_build_front c =
    let p = c.requires.0 in
    let h = last_there p.0 p.1 in search rules

build_front_requires : tie.Need-build_front-requires
build_front_requires c κs =
    let p = c.requires.0 in
    fits p.0 p.1 p.2 c.merge_ends.ensures (rows (wide_rows_of_build_front_arg_4_1 c)) c.rename.ensures c.fewer-left.ensures c.requires.1.0 c.requires.1.1

same_length_2 : tie.Need-shape_of-list
same_length_2 c = search rules

same_length_3 : tie.Need-shape_of-v2e
same_length_3 c = search rules

same_length_4 : tie.Need-shape_of-e2e
same_length_4 c = search rules

same_length_5 : tie.Need-shape_of-b2e
same_length_5 c = search rules

same_length_6 : tie.Need-shape_of-work
same_length_6 c = search rules

returns_2 : tie.Need-returns
returns_2 c =
    let p = c.requires.0 in (
      made p.0 p.1 p.2 c.merge_ends.ensures (rows (wide_rows_of_slice_known_11_1 c)) c.rename.ensures c.fewer-left.ensures c.all_used.ensures
          (not-false _ c.if-not-all_used.false-raw) c.build_front.ensures.0,
      c.build_front.ensures.1,
    )

pub replace_spec : {M : Type 1} → statement M
replace_spec =
    tie.close
    (tie.spec
    merge_ends_requires
    fewer_requires
    wide_requires
    mul_rows
    sub_all_used
    part_all_used_start
    part_all_used_end
    all_used_requires
    refuse_requires
    same_length
    returns
    sub_rename
    part_rename_start
    part_rename_end
    rename_requires
    sub_build_front
    build_front_requires
    same_length_2
    same_length_3
    same_length_4
    same_length_5
    same_length_6
    returns_2)
