-- `contract::close` meets its contract.
-- Assumes nothing.
use mathlib.Core.Path.{◌≡◌, refl}
use Rattle.contract.specs.Writing.{few, entries_inside, closes}
use borrow.Author.Rules.{rules}
use Rattle.contract.proofs.close.Statement.{statement}
use Rattle.contract.proofs.close.Tie as tie

columned : (c : tie.After-wide-3) → c.wide-c.result ≡ c.args.columns
columned c = c.wide-c.ensures

element_copy_out_n : tie.Need-bounds-size-0
element_copy_out_n c = search rules

element_copy_out_m : tie.Need-bounds-size-1
element_copy_out_m c = search rules

wide_requires : tie.Need-wide-c-requires
wide_requires c κs = search rules

sub_wide : tie.Need-overflow_sub-n
sub_wide c = search rules

wide_requires_2 : tie.Need-wide-requires
wide_requires_2 c κs = search rules

wide_requires_3 : tie.Need-wide-requires-2
wide_requires_3 c κs = search rules

clear_between_requires : tie.Need-clear_between-requires
clear_between_requires c κs = search rules

wide_requires_4 : tie.Need-wide-requires-3
wide_requires_4 c κs = search rules

mul_clear_between : tie.Need-overflow_mul-c
mul_clear_between c = let h = (few c.requires (columned c) c.wide-3.ensures refl).0 in search rules

wide_requires_5 : tie.Need-wide-requires-4
wide_requires_5 c κs = search rules

mul_clear_between_2 : tie.Need-overflow_mul-c-2
mul_clear_between_2 c = let h = (few c.requires (columned c.before) c.wide-3.ensures c.wide-4.ensures).1 in search rules

clear_between_requires_2 : tie.Need-clear_between-requires-2
clear_between_requires_2 c κs =
    entries_inside c.requires (columned c.before.before) c.wide-3.ensures c.wide-4.ensures

close_point_requires : tie.Need-close_point-requires
close_point_requires c κs = search rules

sub_t13 : tie.Need-overflow_sub-size
sub_t13 c = search rules

same_length : tie.Need-shape_of-v2e
same_length c = search rules

same_length_2 : tie.Need-shape_of-e2e
same_length_2 c = search rules

same_length_3 : tie.Need-shape_of-points
same_length_3 c = search rules

-- states by how far they lie back
abbrev wide_4_of_size_1 : tie.After-size-1 → tie.After-wide-4
wide_4_of_size_1 c = c.before.before.before.before.before.before.before.before.before

abbrev wide_3_of_size_1 : tie.After-size-1 → tie.After-wide-3
wide_3_of_size_1 c = (wide_4_of_size_1 c).before

returns : tie.Need-returns
returns c =
    closes c.requires (columned (wide_3_of_size_1 c)) c.wide-3.ensures c.wide-4.ensures c.wide.ensures c.wide-2.ensures
    c.clear_between.ensures
    c.clear_between-2.ensures c.close_point.ensures

pub close_spec : {M : Type 1} → statement M
close_spec =
    tie.close
    (tie.spec
    element_copy_out_n
    element_copy_out_m
    wide_requires
    sub_wide
    wide_requires_2
    wide_requires_3
    clear_between_requires
    wide_requires_4
    mul_clear_between
    wide_requires_5
    mul_clear_between_2
    clear_between_requires_2
    close_point_requires
    sub_t13
    same_length
    same_length_2
    same_length_3
    returns)
