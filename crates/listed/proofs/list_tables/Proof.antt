-- `listed::list_tables` meets its contract.
-- Assumes nothing.
use borrow.Author.Rules.{rules}
use borrow.Author.Tests.{le-leb, lt-leb}
use mathlib.Core.Path.{refl}
use native.Mathlib.Omega.{arith}
use lib.ListN.{length}
use Rattle.print.specs.LineLaws.{nothing_shown}
use Rattle.listed.specs.Listing.{listing}
use Rattle.listed.proofs.list_tables.Statement.{statement}
use Rattle.listed.proofs.list_tables.Tie as tie

returns : tie.Need-returns-then-out-lt22022
returns c =
    (nothing_shown c.args.out.now (listing c.args.text.now) 0 (lt-leb 22_022 (length c.args.out.now) c.if-out-lt22022.true), (omega arith, refl))

slice_aggregate_list_in : tie.Need-slice_bounds-list_in-end
slice_aggregate_list_in c = search rules

slice_aggregate_list_in_2 : tie.Need-slice_bounds-list_in-end-2
slice_aggregate_list_in_2 c = search rules

slice_aggregate_list_in_3 : tie.Need-slice_bounds-list_in-end-3
slice_aggregate_list_in_3 c = search rules

slice_aggregate_list_in_4 : tie.Need-slice_bounds-list_in-end-4
slice_aggregate_list_in_4 c = search rules

slice_aggregate_list_in_5 : tie.Need-slice_bounds-list_in-end-5
slice_aggregate_list_in_5 c = search rules

list_in_requires : tie.Need-list_in-requires
list_in_requires c κs = search rules

same_length : tie.Need-shape_of-out
same_length c = search rules

returns_2 : tie.Need-returns
returns_2 c =
    (rw (le-leb 22_022 (length c.args.out.now) (omega (arith, c.if-out-lt22022.false))) c.list_in.ensures.0, c.list_in.ensures.1)

pub list_tables_spec : {M : Type 1} → statement M
list_tables_spec =
    tie.close
    (tie.spec
    returns
    slice_aggregate_list_in
    slice_aggregate_list_in_2
    slice_aggregate_list_in_3
    slice_aggregate_list_in_4
    slice_aggregate_list_in_5
    list_in_requires
    same_length
    returns_2)
