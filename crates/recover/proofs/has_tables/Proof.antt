-- `recover::has_tables` meets its contract.
-- Assumes nothing.
use mathlib.Core.Path.{◌≡◌}
use Prim.Native.Nat.{◌+◌, ◌*◌, ◌-◌, ◌≤◌}
use native.Mathlib.Omega.{arith}
use lib.ListN.{length}
use Rattle.rules.specs.Elements.{elements}
use Rattle.recover.specs.Recovering.{not_tabled, to_compare, tried}
use borrow.Author.Rules.{rules}
use borrow.Author.Tests.{not-true, not-false}
use Rattle.recover.proofs.has_tables.Statement.{statement}
use Rattle.recover.proofs.has_tables.Tie as tie

wide_requires : tie.Need-wide-requires
wide_requires c κs = search rules

mul_end : tie.Need-overflow_mul-end
mul_end c = search rules

add_end : tie.Need-overflow_add-end
add_end c = search rules

sub_has_own_tables : tie.Need-slice_bounds-has_own_tables-count
sub_has_own_tables c = search rules

part_has_own_tables_start : tie.Need-slice_bounds-has_own_tables-start
part_has_own_tables_start c = search rules

part_has_own_tables_end : tie.Need-slice_bounds-has_own_tables-end
part_has_own_tables_end c =
    let h : c.wide.result + 12 * elements c.args.list.now ≤ length c.args.work.now = omega (arith, c.wide.ensures, c.requires.inside) in search rules

has_own_tables_requires : tie.Need-has_own_tables-requires
has_own_tables_requires c κs =
    let z : c.args.n + 12 * elements c.args.list.now - 0 ≡ c.args.n + 12 * elements c.args.list.now = omega arith in
    rw (c.wide.ensures, z) c.requires.sized

same_length : tie.Need-shape_of-work-then-not-has_own_tables
same_length c = search rules

returns : tie.Need-returns-then-not-has_own_tables
returns c =
    not_tabled c.requires c.wide.ensures c.has_own_tables.ensures (not-true _ c.if-not-has_own_tables.true-raw)

columns_of_requires : tie.Need-columns_of-columns-requires
columns_of_requires c κs = search rules

wide_requires_2 : tie.Need-wide-requires-2
wide_requires_2 c κs = search rules

is_theirs_requires : tie.Need-is_theirs-requires
is_theirs_requires c κs =
    to_compare c.requires c.wide.ensures c.has_own_tables.ensures c.wide-2.ensures c.columns_of-columns.ensures

same_length_2 : tie.Need-shape_of-work
same_length_2 c = search rules

returns_2 : tie.Need-returns
returns_2 c =
    tried c.requires c.wide.ensures c.has_own_tables.ensures c.wide-2.ensures c.columns_of-columns.ensures
    (not-false _ c.if-not-has_own_tables.false-raw) c.is_theirs.ensures

pub has_tables_spec : {M : Type 1} → statement M
has_tables_spec =
    tie.close
    (tie.spec
    wide_requires
    mul_end
    add_end
    sub_has_own_tables
    part_has_own_tables_start
    part_has_own_tables_end
    has_own_tables_requires
    same_length
    returns
    columns_of_requires
    wide_requires_2
    is_theirs_requires
    same_length_2
    returns_2)
