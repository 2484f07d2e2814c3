-- `walk::walk` meets its contract.
-- Assumes nothing.
use mathlib.Core.List.{List, ◌++◌}
use Prim.Native.Nat.{ℕ, ◌+◌, ◌*◌, ◌-◌}
use borrow.Author.Rules.{rules}
use lib.ListN.{length, drop}
use Rattle.walk.specs.Layout.{tables, written}
use Rattle.walk.specs.Walks.{Cleared, cleared, walks_start, walked_from}
use Rattle.walk.proofs.walk.Statement.{statement}
use Rattle.walk.proofs.walk.Tie as tie

-- the work buffer with its last part cleared
abbrev buffer : (n m : ℕ) → List ℕ → List ℕ → List ℕ
buffer n m w ys = tables n m w ++ (ys ++ drop (length w - (n + 8 * m)) (written n m w))

emptied : (c : tie.After-clear) → Cleared c.args.n c.args.m c.args.work.now
    (buffer c.args.n c.args.m c.args.work.now c.clear.new.out)
emptied c = cleared c.requires.0 c.requires.1 c.clear.ensures

mul_a : tie.Need-overflow_mul-a
mul_a c = search rules

add_a : tie.Need-overflow_add-a
add_a c = search rules

mul_clear : tie.Need-offset_bounds-work-a
mul_clear c = search rules

sub_clear : tie.Need-slice_bounds-clear-count
sub_clear c = search rules

part_clear_start : tie.Need-slice_bounds-clear-start
part_clear_start c = search rules

part_clear_end : tie.Need-slice_bounds-clear-end
part_clear_end c = search rules

clear_requires : tie.Need-clear-requires
clear_requires c κs = search rules

walk_empty_requires : tie.Need-walk_empty-requires
walk_empty_requires c κs = walks_start (emptied c.before.before.before)

same_length : tie.Need-shape_of-work
same_length c = search rules

-- states by how far they lie back
abbrev clear_of_slice_known_3_1 : tie.After-slice_known-3-1 → tie.After-clear
clear_of_slice_known_3_1 c = c.before.before.before.before.before.before

returns : tie.Need-returns
returns c =
    walked_from (emptied (clear_of_slice_known_3_1 c)) c.walk_empty.ensures

pub walk_spec : {M : Type 1} → statement M
walk_spec =
    tie.close
    (tie.spec
    mul_a
    add_a
    mul_clear
    sub_clear
    part_clear_start
    part_clear_end
    clear_requires
    walk_empty_requires
    same_length
    returns)
