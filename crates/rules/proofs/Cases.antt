-- The rules give every row of the table of cases (specs/Cases).
-- Assumes nothing.
use Rattle.std.specs.Prelude.{T}
use Rattle.lists.specs.Tests.{same, has}
use Rattle.lists.specs.Search.{least, count, upto, tab, zeros}
use Rattle.rules.specs.Elements.{sides_by, is_side, slot, origin, next_number, next, side_at, first_side, count_sides, first_number}
use Rattle.rules.specs.Pairing.{alike, opposed, joins, call_sizes, sizes_fit, unfit_corner, repeated_corner, rows_fit, is_corner, shared_corners, share_side, meet_well}
use Rattle.rules.specs.Tables.{partner, is_border, b2e, border_number, borders, columns, code_at, e2e_slot, e2e_entry, e2e, entry_of, wide, border_into, v2e_entry, v2e, edges}
use Rattle.rules.specs.Recovery.{columns_by, widened, side_of_border, walk_start, turn_by, trace, walk_to, walk}
use Rattle.rules.specs.Refusals.{crowded_side, alike_side, missed, unordered_vertex, clash_of, clashing, check_found, list_answer, accepts}
use Rattle.rules.specs.Refusals.{call_lengths, build_lengths, length_checks, room_check, build_answer, after, onto, work_after, build_leaves, recover_lengths, recovers, recover_answer, recover_list}
use Rattle.rules.specs.Siblings.{sibling, sibling_entry, sibhe, v2he, sibling_lengths, siblings_answer, siblings_leaves}
use Rattle.rules.specs.Queries.{seen, columns_answer, query_lengths, asked, defined, found, listed, list_leaves, and_then, prepend, read_all, follow, over, is_border_code, is_half_edge, is_entry, is_vertex}
use Rattle.rules.specs.Queries.{read_opposite, read_border_side, read_vertex_entry, read_origin, read_destination, opposite, opposite_answer, border_next, vertex_border_answer, start_side, onward, ring_sides}
use Rattle.rules.specs.Queries.{ring, neighbours, next_border, loop_next, border_loop, listed_answer}
use Rattle.rules.specs.Queries.{ring_answer, ring_leaves, neighbours_answer, neighbours_leaves, border_loop_answer, border_loop_leaves}
use Rattle.rules.specs.Holes.{lists, broken, least_of, holes_up_to, hole_of, holes, hole_count}
use Rattle.rules.specs.Holes.{hole_lengths, holes_found, holes_fit, holes_answer, holes_leaves}
use Rattle.rules.specs.Cases.{three, quad, tri, blank, room, left, built, sibling_room, hole_room, openings, same_answer, gave, holds, every, listing, listing_e2e, tetrahedron, mixed, triangles, quadrilaterals, shared, diagonal, three_corners, apart, between, cases}

-- the rules give every row of the table
pub cases_hold : T (every holds cases)
unfolding three quad tri blank room left built same_answer gave holds every listing listing_e2e tetrahedron mixed triangles
    quadrilaterals shared diagonal three_corners cases least count upto tab zeros same
    sides_by is_side slot origin next_number next side_at first_side count_sides first_number alike opposed joins call_sizes sizes_fit unfit_corner
    repeated_corner rows_fit is_corner shared_corners share_side meet_well partner is_border b2e border_number borders columns code_at e2e_slot e2e_entry e2e entry_of wide border_into v2e_entry v2e
    edges columns_by widened side_of_border walk_start turn_by trace walk_to walk crowded_side alike_side missed unordered_vertex clash_of clashing check_found list_answer accepts call_lengths
    build_lengths length_checks room_check build_answer after onto build_leaves recover_lengths recovers recover_answer recover_list seen
    columns_answer query_lengths asked defined found listed list_leaves
    and_then prepend read_all follow over is_border_code is_half_edge is_entry is_vertex read_opposite read_border_side read_vertex_entry read_origin
    read_destination opposite opposite_answer border_next vertex_border_answer start_side onward ring_sides ring neighbours next_border loop_next
    border_loop listed_answer ring_answer ring_leaves neighbours_answer neighbours_leaves border_loop_answer border_loop_leaves
    sibling_room work_after sibling sibling_entry sibhe v2he sibling_lengths siblings_answer siblings_leaves
    has hole_room openings apart between lists broken least_of holes_up_to hole_of holes hole_count hole_lengths holes_found holes_fit holes_answer holes_leaves
cases_hold = tt
