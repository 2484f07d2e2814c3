-- `recover::recover_fit` meets its contract.
-- Assumes nothing.
use mathlib.Core.List.{List}
use Prim.Native.Nat.{ℕ, ◌+◌, ◌*◌, ◌≤◌}
use native.Mathlib.Omega.{arith}
use lib.ListN.{length}
use Rattle.recover.specs.Recovering.{Proposed, Tried, roomy, as_many, to_try, kept_inside, recovered_list, recovered_none}
use borrow.Author.Rules.{rules}
use Rattle.recover.proofs.recover_fit.Statement.{statement}
use Rattle.recover.proofs.recover_fit.Tie as tie

-- the list and the work buffer with the walk's list proposed
abbrev list₁ : tie.After-propose → List ℕ
list₁ c = c.propose.new.list

abbrev work₁ : tie.After-propose → List ℕ
work₁ c = c.propose.new.work

proposed : (c : tie.After-propose)
    → let s = c.args in Proposed s.n s.m s.v2e.now s.e2e.now s.list.now s.work.now (list₁ c) (work₁ c)
proposed c = rw c.wide.ensures at c.propose.ensures

-- states by how far they lie back
abbrev propose_of_has_tables : tie.After-has_tables → tie.After-propose
propose_of_has_tables c = c.before.before.before.before.before.before

abbrev propose_of_has_tables_arg_1 : tie.After-has_tables-arg-1 → tie.After-propose
propose_of_has_tables_arg_1 c = c.before.before.before.before.before

abbrev has_tables_of_give : tie.After-give → tie.After-has_tables
has_tables_of_give c = c.before.before.before.before

abbrev propose_of_give : tie.After-give → tie.After-propose
propose_of_give c = (has_tables_of_give c).before.before.before.before.before.before

abbrev has_tables_of_wide_2 : tie.After-wide-2 → tie.After-has_tables
has_tables_of_wide_2 c = c.before.before.before.before

abbrev propose_of_wide_2 : tie.After-wide-2 → tie.After-propose
propose_of_wide_2 c = (has_tables_of_wide_2 c).before.before.before.before.before.before

abbrev work_2_1_of_refuse : tie.After-refuse → tie.After-work-2-1
work_2_1_of_refuse c = c.before.before.before.before.before.before.before.before.before

abbrev has_tables_of_refuse : tie.After-refuse → tie.After-has_tables
has_tables_of_refuse c = (work_2_1_of_refuse c).before

abbrev propose_of_refuse : tie.After-refuse → tie.After-propose
propose_of_refuse c = (has_tables_of_refuse c).before.before.before.before.before.before

-- ... and tried
attempted : (c : tie.After-has_tables)
    → let s = c.args in Tried s.n s.m s.v2e.now s.e2e.now c.has_tables.result (work₁ (propose_of_has_tables c)) c.has_tables.new.work
attempted c =
    rw (as_many c.requires (proposed (propose_of_has_tables c))) at c.has_tables.ensures

-- past the trial
abbrev tried : tie.After-slice_known-5-1 → tie.After-has_tables
tried c = c.before.before

wide_requires : tie.Need-wide-requires
wide_requires c κs = search rules

propose_requires : tie.Need-propose-requires
propose_requires c κs = rw c.wide.ensures (roomy c.requires)

has_tables_requires : tie.Need-has_tables-requires
has_tables_requires c κs = to_try c.requires (proposed (propose_of_has_tables_arg_1 c))

give_requires : tie.Need-give-requires
give_requires c κs = search rules

same_length : tie.Need-shape_of-list-then-has_tables
same_length c = search rules

same_length_2 : tie.Need-shape_of-work-then-has_tables
same_length_2 c = search rules

returns : tie.Need-returns-then-has_tables
returns c =
    recovered_list c.requires (proposed (propose_of_give c)) (attempted (has_tables_of_give c)) c.if-has_tables.true c.give.ensures

wide_requires_2 : tie.Need-wide-requires-2
wide_requires_2 c κs = search rules

mul_a : tie.Need-overflow_mul-a
mul_a c = search rules

add_a : tie.Need-overflow_add-a
add_a c = search rules

mul_e : tie.Need-overflow_mul-e
mul_e c = search rules

add_e : tie.Need-overflow_add-e
add_e c = search rules

mul_copy : tie.Need-offset_bounds-work-a
mul_copy c =
    omega (arith, roomy c.requires, c.wide-2.ensures)

sub_copy : tie.Need-slice_bounds-copy-count
sub_copy c = search rules

part_copy_start : tie.Need-slice_bounds-copy-start
part_copy_start c = search rules

part_copy_end : tie.Need-slice_bounds-copy-end
part_copy_end c =
    let h : c.wide-2.result + 12 * c.args.m + 4 * c.args.m ≤ length c.has_tables.new.work =
    rw c.wide-2.ensures (kept_inside c.requires (proposed (propose_of_wide_2 c)) (attempted (has_tables_of_wide_2 c))) in
    search rules

copy_requires : tie.Need-copy-requires
copy_requires c κs = search rules

refuse_requires : tie.Need-refuse-requires
refuse_requires c κs = search rules

same_length_3 : tie.Need-shape_of-list
same_length_3 c = search rules

same_length_4 : tie.Need-shape_of-work
same_length_4 c = search rules

returns_2 : tie.Need-returns
returns_2 c =
    recovered_none c.requires (proposed (propose_of_refuse c)) (attempted (has_tables_of_refuse c)) c.if-has_tables.false c.refuse.ensures
    (rw c.wide-2.ensures at c.copy.ensures)

pub recover_fit_spec : {M : Type 1} → statement M
recover_fit_spec =
    tie.close
    (tie.spec
    wide_requires
    propose_requires
    has_tables_requires
    give_requires
    same_length
    same_length_2
    returns
    wide_requires_2
    mul_a
    add_a
    mul_e
    add_e
    mul_copy
    sub_copy
    part_copy_start
    part_copy_end
    copy_requires
    refuse_requires
    same_length_3
    same_length_4
    returns_2)
