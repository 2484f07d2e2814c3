-- The rules of edits and of the shape give every row of their tables of cases (specs/Cases).
-- Assumes nothing.
use Rattle.std.specs.Prelude.{T}
use Rattle.std.specs.Int.Count.{count_trailing_zeros}
use Rattle.std.specs.Float.Ieee.{span, climb, size, odd, units, round, sum, add, mul, of_int, of_fields, of_bits, to_bits}
use Rattle.lists.specs.Tests.{same}
use Rattle.lists.specs.Search.{least, count, upto, tab, zeros, total}
use Rattle.rules.specs.Elements.{sides_by, is_side, slot, origin, next_number, previous_number, next, previous, side_at, first_side, count_sides, first_number}
use Rattle.rules.specs.Pairing.{alike, opposed, joins, call_sizes, sizes_fit, unfit_corner, repeated_corner, is_corner, shared_corners, share_side, meet_well}
use Rattle.rules.specs.Tables.{partner, is_border, b2e, border_number, borders, columns, code_at, e2e_entry, e2e, wide, border_into, v2e_entry, v2e, edges}
use Rattle.rules.specs.Recovery.{side_of_border, walk_start, turn_by, trace, walk_to, walk}
use Rattle.rules.specs.Refusals.{crowded_side, alike_side, missed, unordered_vertex, clash_of, clashing, check_found, list_answer}
use Rattle.rules.specs.Refusals.{call_lengths, build_lengths, length_checks, room_check, build_answer, after, onto, work_after, build_leaves}
use Rattle.rules.specs.Cases.{three, quad, tri, blank, room, left, same_answer, every, listing, tetrahedron, mixed, diagonal, three_corners, apart}
use Rattle.edit_rules.specs.Edits.{over_old, with_row, once_accepted, new_answer}
use Rattle.edit_rules.specs.Edits.{is_there, counts_fit, has_room, edit_sizes, edit_lengths, edit_answer, written, edit_leaves}
use Rattle.edit_rules.specs.Swap.{third, flipped, swapped, is_swappable, swap}
use Rattle.edit_rules.specs.Split.{with_corner, halved, split_at, is_splittable, has_points, can_hold, split, midway, coordinate, midpoint, with_point, split_points}
use Rattle.edit_rules.specs.Contract.{without_row, without_both, without_edge, instead, renamed, merged}
use Rattle.edit_rules.specs.Contract.{contracted, is_neighbour, is_third, pinches, is_used, strands, contract}
use Rattle.edit_rules.specs.Contract.{point_of, without_point, contract_points}
use Rattle.edit_rules.specs.Shape.{lower_neighbours, joined_pairs, shape, complement, signed, shape_lengths, list_shape, shape_answer, shape_work}
use Rattle.edit_rules.specs.Cases.{edit_room, wholes, counted, bits, same_edited, same_number, held_in, same_lent, holds, fan, swaps, splits, wheel, band, contractions, pierced, torus, shapes}

pub swaps_hold : T (every holds swaps)
unfolding three quad tri blank room left same_answer same_edited holds every listing mixed tetrahedron fan swaps least count upto tab zeros same
    sides_by is_side slot origin next_number previous_number next previous side_at first_side count_sides first_number alike opposed joins call_sizes sizes_fit
    unfit_corner repeated_corner is_corner shared_corners share_side meet_well partner is_border b2e border_number borders columns code_at e2e_entry e2e wide
    border_into v2e_entry v2e edges side_of_border walk_start turn_by trace walk_to walk crowded_side alike_side missed unordered_vertex clash_of clashing
    check_found list_answer call_lengths build_lengths length_checks room_check build_answer after onto build_leaves work_after
    edit_room over_old once_accepted new_answer is_there counts_fit has_room edit_sizes edit_lengths edit_answer written edit_leaves
    third flipped with_row swapped is_swappable swap held_in same_lent
swaps_hold = tt

pub splits_hold : T (every holds splits)
unfolding three quad tri blank room left same_answer same_edited holds every listing mixed splits least count upto tab zeros same
    sides_by is_side slot origin next_number next side_at first_side count_sides first_number alike opposed joins call_sizes sizes_fit unfit_corner repeated_corner
    is_corner shared_corners share_side meet_well partner is_border b2e border_number borders columns code_at e2e_entry e2e wide border_into v2e_entry v2e edges
    side_of_border walk_start turn_by trace walk_to walk crowded_side alike_side missed unordered_vertex clash_of clashing check_found list_answer call_lengths
    build_lengths length_checks room_check build_answer after onto build_leaves work_after
    edit_room over_old once_accepted new_answer is_there counts_fit has_room edit_sizes edit_lengths edit_answer written edit_leaves counted bits held_in same_lent
    with_corner halved split_at is_splittable has_points can_hold split midway coordinate midpoint with_point split_points
    of_int of_bits of_fields to_bits round size span climb units odd count_trailing_zeros sum add mul
splits_hold = tt

pub contractions_hold : T (every holds contractions)
unfolding three quad tri blank room left same_answer same_edited holds every listing mixed tetrahedron wheel band contractions least count upto tab zeros same
    sides_by is_side slot origin next_number previous_number next previous side_at first_side count_sides first_number alike opposed joins call_sizes sizes_fit
    unfit_corner repeated_corner is_corner shared_corners share_side meet_well partner is_border b2e border_number borders columns code_at e2e_entry e2e wide
    border_into v2e_entry v2e edges side_of_border walk_start turn_by trace walk_to walk crowded_side alike_side missed unordered_vertex clash_of clashing
    check_found list_answer call_lengths build_lengths length_checks room_check build_answer after onto build_leaves work_after
    edit_room over_old once_accepted new_answer is_there counts_fit has_room edit_sizes edit_lengths edit_answer written edit_leaves counted wholes bits held_in same_lent
    is_splittable has_points coordinate with_point third with_row
    without_row without_both without_edge instead renamed merged contracted is_neighbour is_third pinches is_used strands contract point_of without_point contract_points
    of_int of_bits of_fields to_bits round size span climb units odd count_trailing_zeros sum add mul
contractions_hold = tt

pub shapes_hold : T (every holds shapes)
unfolding quad tri blank same_answer same_number holds every listing tetrahedron mixed diagonal three_corners apart band pierced torus shapes least count upto tab zeros
    total same sides_by is_side slot origin next_number next side_at first_side count_sides first_number alike opposed joins call_sizes sizes_fit unfit_corner
    repeated_corner is_corner shared_corners share_side meet_well partner is_border b2e border_number borders e2e_entry wide border_into v2e_entry v2e edges
    side_of_border walk_start turn_by trace walk_to walk crowded_side alike_side missed unordered_vertex clash_of clashing check_found list_answer length_checks
    work_after once_accepted is_neighbour lower_neighbours joined_pairs shape complement signed shape_lengths list_shape shape_answer shape_work
shapes_hold = tt
