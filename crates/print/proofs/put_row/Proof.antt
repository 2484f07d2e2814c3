-- `print::put_row` meets its contract: the part of E2e that is handed over is the row.
-- Assumes nothing.
use borrow.Author.Rules.{rules}
use mathlib.Core.List.{List}
use mathlib.Core.Path.{◌≡◌}
use Prim.Native.Nat.{ℕ, ◌+◌, ◌*◌, ◌-◌}
use lib.ListN.{take, drop, length-take, length-drop}
use native.Mathlib.Omega.{arith}
use Rattle.print.proofs.put_row.Statement.{statement}
use Rattle.print.proofs.put_row.Tie as tie

part : (e : List ℕ) (c k : ℕ) → take (c * k + c - c * k) (drop (c * k) e) ≡ take c (drop (c * k) e)
part e c k = let n : c * k + c - c * k ≡ c = omega arith in rw n

mul_a : tie.Need-overflow_mul-a
mul_a c = search rules

add_e : tie.Need-overflow_add-e
add_e c = search rules

mul_put_line : tie.Need-offset_bounds-e2e-a
mul_put_line c = search rules

sub_put_line : tie.Need-slice_bounds-put_line-count
sub_put_line c = search rules

part_put_line_start : tie.Need-slice_bounds-put_line-start
part_put_line_start c = search rules

part_put_line_end : tie.Need-slice_bounds-put_line-end
part_put_line_end c = search rules

put_line_requires : tie.Need-put_line-requires
put_line_requires c κs = simp (length-take, length-drop) (omega arith)

same_length : tie.Need-shape_of-out
same_length c = search rules

returns : tie.Need-returns
returns c = let n = c.before.before in
    (rw part at n.put_line.ensures.0, omega (arith, simp (length-take, length-drop) at n.put_line.ensures.1))

pub put_row_spec : {M : Type 1} → statement M
put_row_spec =
    tie.close
    (tie.spec
    mul_a
    add_e
    mul_put_line
    sub_put_line
    part_put_line_start
    part_put_line_end
    put_line_requires
    same_length
    returns)
