-- `links::link` meets its contract.
-- Assumes nothing.
use mathlib.Core.List.{List, ◌++◌}
use Prim.Native.Nat.{ℕ, ◌+◌, ◌*◌, ◌-◌}
use lib.ListN.{take, drop}
use Rattle.links.specs.Links.{Linking, linking_start, linking_on, linking_all}
use borrow.Author.Rules.{rules}
use Rattle.links.proofs.link.Statement.{statement}
use Rattle.links.proofs.link.Tie as tie

-- the work buffer with the places of the border numbers cleared
abbrev buffer : ℕ → ℕ → List ℕ → List ℕ → List ℕ
buffer n m w ys = take (n + 4 * m) w ++ (ys ++ drop (n + 8 * m - (n + 4 * m)) (drop (n + 4 * m) w))

wiped : (c : tie.After-clear) → let s = c.args in Linking s.n s.m (4 * s.m) s.work.now (buffer s.n s.m s.work.now c.clear.new.out)
wiped c = linking_start c.requires c.clear.ensures

mul_a : tie.Need-overflow_mul-a
mul_a c = search rules

add_a : tie.Need-overflow_add-a
add_a c = search rules

mul_e : tie.Need-overflow_mul-e
mul_e c = search rules

add_e : tie.Need-overflow_add-e
add_e c = search rules

mul_clear : tie.Need-offset_bounds-work-a
mul_clear c = search rules

sub_clear : tie.Need-slice_bounds-clear-count
sub_clear c = search rules

part_clear_start : tie.Need-slice_bounds-clear-start
part_clear_start c = search rules

part_clear_end : tie.Need-slice_bounds-clear-end
part_clear_end c = search rules

clear_requires : tie.Need-clear-requires
clear_requires c κs = search rules

link_places_requires : tie.Need-link_places-requires
link_places_requires c κs = (wiped c.before.before.before).done

same_length : tie.Need-shape_of-work
same_length c = search rules

-- states by how far they lie back
abbrev clear_of_slice_known_3_1 : tie.After-slice_known-3-1 → tie.After-clear
clear_of_slice_known_3_1 c = c.before.before.before.before.before.before

returns : tie.Need-returns
returns c =
    linking_all (linking_on (wiped (clear_of_slice_known_3_1 c)) c.link_places.ensures)

pub link_spec : {M : Type 1} → statement M
link_spec =
    tie.close
    (tie.spec
    mul_a
    add_a
    mul_e
    add_e
    mul_clear
    sub_clear
    part_clear_start
    part_clear_end
    clear_requires
    link_places_requires
    same_length
    returns)
