-- `split::write` meets its contract. The laws of its steps are in Writing.
-- Assumes nothing.
use mathlib.Core.List.{List}
use lib.Ieee.{Float}
use Rattle.edit_rules.specs.Edits.{Lent}
use Rattle.edits.specs.Holding.{lent_sized}
use Rattle.split.specs.Writing.{side_there, ends_there, mid, to_split, fits_then, all_written}
use borrow.Author.Rules.{rules}
use Rattle.split.proofs.write.Statement.{statement}
use Rattle.split.proofs.write.Tie as tie

-- what is lent
abbrev lends : tie.Start → Lent
lends c = let a = c.args in lent_sized a.size.now a.list.now a.v2e.now a.e2e.now a.b2e.now a.work.now

abbrev points : tie.Start → List Float
points c = c.args.points.now

element_copy_out_n : tie.Need-bounds-size-0
element_copy_out_n c = search rules

element_copy_out_m : tie.Need-bounds-size-1
element_copy_out_m c = search rules

add_v : tie.Need-overflow_add-v
add_v c = let h = c.requires.0.holds.vertices in search rules

-- states by how far they lie back
abbrev start_of_m_1 : tie.After-m-1 → tie.Start
start_of_m_1 c = c.before.before.before.before.before.before.before.before.before

abbrev slice_known_1_of_origin_of_a : tie.After-origin_of-a → tie.After-slice_known-1
slice_known_1_of_origin_of_a c = c.before.before.before.before.before.before.before.before.before

abbrev start_of_origin_of_a : tie.After-origin_of-a → tie.Start
start_of_origin_of_a c = (slice_known_1_of_origin_of_a c).before

abbrev slice_known_3_1_of_place_midpoint_arg_1 : tie.After-place_midpoint-arg-1 → tie.After-slice_known-3-1
slice_known_3_1_of_place_midpoint_arg_1 c = c.before.before.before.before.before.before.before.before.before

abbrev start_of_place_midpoint_arg_1 : tie.After-place_midpoint-arg-1 → tie.Start
start_of_place_midpoint_arg_1 c = (slice_known_3_1_of_place_midpoint_arg_1 c).before.before.before

abbrev way_told_1_of_split_rows_arg_1 : tie.After-split_rows-arg-1 → tie.After-way_told-1
way_told_1_of_split_rows_arg_1 c = c.before.before.before.before.before.before.before.before.before

abbrev start_of_split_rows_arg_1 : tie.After-split_rows-arg-1 → tie.Start
start_of_split_rows_arg_1 c = (way_told_1_of_split_rows_arg_1 c).before.before.before.before.before.before.before

abbrev slice_known_7_1_of_build_front_arg_4_1 : tie.After-build_front-arg-4-1 → tie.After-slice_known-7-1
slice_known_7_1_of_build_front_arg_4_1 c = c.before.before.before.before.before.before.before.before.before

abbrev slice_known_6_1_of_build_front_arg_4_1 : tie.After-build_front-arg-4-1 → tie.After-slice_known-6-1
slice_known_6_1_of_build_front_arg_4_1 c = (slice_known_7_1_of_build_front_arg_4_1 c).before.before.before.before.before.before.before.before.before

abbrev start_of_build_front_arg_4_1 : tie.After-build_front-arg-4-1 → tie.Start
start_of_build_front_arg_4_1 c = (slice_known_6_1_of_build_front_arg_4_1 c).before.before.before.before.before.before

abbrev build_front_arg_4_1_of_slice_known_12_1 : tie.After-slice_known-12-1 → tie.After-build_front-arg-4-1
build_front_arg_4_1_of_slice_known_12_1 c = c.before.before.before.before.before.before.before.before.before

abbrev slice_known_7_1_of_slice_known_12_1 : tie.After-slice_known-12-1 → tie.After-slice_known-7-1
slice_known_7_1_of_slice_known_12_1 c = (build_front_arg_4_1_of_slice_known_12_1 c).before.before.before.before.before.before.before.before.before

abbrev slice_known_6_1_of_slice_known_12_1 : tie.After-slice_known-12-1 → tie.After-slice_known-6-1
slice_known_6_1_of_slice_known_12_1 c = (slice_known_7_1_of_slice_known_12_1 c).before.before.before.before.before.before.before.before.before

abbrev start_of_slice_known_12_1 : tie.After-slice_known-12-1 → tie.Start
start_of_slice_known_12_1 c = (slice_known_6_1_of_slice_known_12_1 c).before.before.before.before.before.before

origin_of_requires : tie.Need-origin_of-a-requires
origin_of_requires c κs = side_there (lends (start_of_m_1 c)) (points (start_of_m_1 c)) c.requires.0

destination_of_requires : tie.Need-destination_of-b-requires
destination_of_requires c κs = side_there (lends (start_of_origin_of_a c)) (points (start_of_origin_of_a c)) c.requires.0

place_midpoint_requires : tie.Need-place_midpoint-requires
place_midpoint_requires c κs =
    ends_there (lends (start_of_place_midpoint_arg_1 c)) (points (start_of_place_midpoint_arg_1 c)) c.requires.0 c.origin_of-a.ensures c.destination_of-b.ensures

split_rows_requires : tie.Need-split_rows-requires
split_rows_requires c κs = to_split (lends (start_of_split_rows_arg_1 c)) (points (start_of_split_rows_arg_1 c)) c.requires.0

build_front_requires : tie.Need-build_front-requires
build_front_requires c κs =
    fits_then (lends (start_of_build_front_arg_4_1 c)) (points (start_of_build_front_arg_4_1 c)) c.requires.0 c.split_rows.ensures c.requires.1

same_length : tie.Need-shape_of-list
same_length c = search rules

same_length_2 : tie.Need-shape_of-v2e
same_length_2 c = search rules

same_length_3 : tie.Need-shape_of-e2e
same_length_3 c = search rules

same_length_4 : tie.Need-shape_of-b2e
same_length_4 c = search rules

same_length_5 : tie.Need-shape_of-points
same_length_5 c = search rules

same_length_6 : tie.Need-shape_of-work
same_length_6 c = search rules

returns : tie.Need-returns
returns c =
    let half = mid (lends (start_of_slice_known_12_1 c)) (points (start_of_slice_known_12_1 c)) c.requires.0 c.origin_of-a.ensures c.destination_of-b.ensures c.place_midpoint.ensures in
    let (built, long) = c.build_front.ensures in
    (all_written (lends (start_of_slice_known_12_1 c)) (points (start_of_slice_known_12_1 c)) c.requires.0 c.split_rows.ensures built half, long)

pub write_spec : {M : Type 1} → statement M
write_spec =
    tie.close
    (tie.spec
    element_copy_out_n
    element_copy_out_m
    add_v
    origin_of_requires
    destination_of_requires
    place_midpoint_requires
    split_rows_requires
    build_front_requires
    same_length
    same_length_2
    same_length_3
    same_length_4
    same_length_5
    same_length_6
    returns)
