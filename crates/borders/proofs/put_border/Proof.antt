-- `borders::put_border` meets its contract.
-- Assumes nothing.
use mathlib.Core.Path.{◌≡◌, ap, ◌∙◌}
use Prim.Native.Nat.{◌*◌}
use native.Mathlib.Omega.{arith}
use borrow.Author.Rules.{rules}
use lib.ListN.{length-set}
use Rattle.rules.specs.Elements.{side_at, destination}
use Rattle.halfedge.specs.Codes.{border_code_lem}
use Rattle.borders.proofs.Stepping.{put_length, put_read}
use Rattle.borders.proofs.put_border.Statement.{statement}
use Rattle.borders.proofs.put_border.Tie as tie

border : (c : tie.After-border-border) → c.border-border.result.code ≡ 8 * c.args.b
border c = c.border-border.ensures ∙ border_code_lem _ (omega arith) (omega arith)

ends : (c : tie.After-wide-2) → let a = c.args in c.wide-2.result ≡ destination a.list.now (side_at a.p)
ends c =
    c.wide-2.ensures
    ∙ c.destination_of.ensures
    ∙ ap (destination _) c.code_at-s.ensures

code_at_requires : tie.Need-code_at-s-requires
code_at_requires c κs = search rules

border_requires : tie.Need-border-border-requires
border_requires c κs = search rules

add_work : tie.Need-overflow_add-work
add_work c = search rules

mul_work : tie.Need-offset_bounds-work-n
mul_work c = search rules

slice_write_work : tie.Need-bounds-work-n
slice_write_work c = search rules

add_work_2 : tie.Need-overflow_add-work-2
add_work_2 c = search rules

wide_requires : tie.Need-wide-requires
wide_requires c κs = search rules

add_work_3 : tie.Need-overflow_add-work-3
add_work_3 c = search rules

sub_work : tie.Need-overflow_sub-work
sub_work c = search rules

mul_work_2 : tie.Need-offset_bounds-work-n-2
mul_work_2 c = search rules

slice_write_work_2 : tie.Need-bounds-work-n-2
slice_write_work_2 c = simp length-set (omega (arith, c.wide.ensures))

destination_of_requires : tie.Need-destination_of-requires
destination_of_requires c κs =
    rw c.code_at-s.ensures c.requires.1.0

wide_requires_2 : tie.Need-wide-requires-2
wide_requires_2 c κs = search rules

sub_put_vertex : tie.Need-overflow_sub-wide
sub_put_vertex c = omega (arith, ends c)

put_vertex_requires : tie.Need-put_vertex-requires
put_vertex_requires c κs = simp length-set (omega (arith, ends c))

same_length : tie.Need-shape_of-work
same_length c = put_length c.put_vertex.ensures ∙ simp length-set

-- states by how far they lie back
abbrev border_border_of_slice_known_2_1 : tie.After-slice_known-2-1 → tie.After-border-border
border_border_of_slice_known_2_1 c = c.before.before.before.before.before.before.before

returns : tie.Need-returns
returns c =
    let a = c.args in
    put_read a.n a.list.now a.work.now a.p a.b (border (border_border_of_slice_known_2_1 c)) c.wide.ensures
    c.code_at-s.ensures (ends c.before.before.before) c.put_vertex.ensures

pub put_border_spec : {M : Type 1} → statement M
put_border_spec =
    tie.close
    (tie.spec
    code_at_requires
    border_requires
    add_work
    mul_work
    slice_write_work
    add_work_2
    wide_requires
    add_work_3
    sub_work
    mul_work_2
    slice_write_work_2
    destination_of_requires
    wide_requires_2
    sub_put_vertex
    put_vertex_requires
    same_length
    returns)
