-- `borders::number_borders` meets its contract.
-- Assumes nothing.
use mathlib.Core.Path.{◌≡◌, sym, ◌∙◌}
use Prim.Native.Nat.{◌+◌, ◌-◌}
use native.Mathlib.Omega.{arith}
use borrow.Author.Rules.{rules}
use lib.ListN.{length}
use Rattle.borders.proofs.Starting.{matched, cleared}
use Rattle.borders.proofs.Ending.{numbered}
use Rattle.borders.proofs.number_borders.Statement.{statement}
use Rattle.borders.proofs.number_borders.Tie as tie

add_start : tie.Need-overflow_add-start
add_start c = search rules

add_end : tie.Need-overflow_add-end
add_end c = search rules

mul_clear : tie.Need-offset_bounds-work-start
mul_clear c = search rules

sub_clear : tie.Need-slice_bounds-clear-count
sub_clear c = search rules

part_clear_start : tie.Need-slice_bounds-clear-start
part_clear_start c = search rules

part_clear_end : tie.Need-slice_bounds-clear-end
part_clear_end c = search rules

clear_requires : tie.Need-clear-requires
clear_requires c κs = search rules

number_requires : tie.Need-number-requires
number_requires c κs =
    let n = c.args.n in
    let list = c.args.list.now in
    let k : n + length list + length list - (n + length list) ≡ length list = omega arith in
    (matched _ _ _ c.requires, cleared n list c.args.work.now c.requires _ c.clear.new.out k c.clear.ensures)

same_length : tie.Need-shape_of-work
same_length c = search rules

pub number_borders_spec : {M : Type 1} → statement M
number_borders_spec =
    tie.close
    (tie.spec
    add_start
    add_end
    mul_clear
    sub_clear
    part_clear_start
    part_clear_end
    clear_requires
    number_requires
    same_length
    (λ c.
    let s = c.number.ensures in
    numbered c.args.n c.args.list.now (matched _ _ _ c.requires) _ _ c.args.work.now _ s (s.long ∙ sym c.requires.long)))
