-- `print::print_refusal` meets its contract.
-- Assumes nothing.
use borrow.Author.Rules.{rules}
use lib.ListN.{length}
use Rattle.print.specs.Lines.{shown_refusal}
use Rattle.print.specs.LineLaws.{counts}
use native.Mathlib.Omega.{arith}
use Rattle.print.proofs.print_refusal.Statement.{statement}
use Rattle.print.proofs.print_refusal.Tie as tie

slice_aggregate_print_line : tie.Need-slice_bounds-print_line-end
slice_aggregate_print_line c = search rules

print_line_requires : tie.Need-print_line-requires
print_line_requires c κs = search rules

same_length : tie.Need-shape_of-out
same_length c = search rules

returns : tie.Need-returns
returns c =
    let n = c.before.before in
    let a = n.before.before.before.before.args in
    let e = n.print_line.ensures in
    (e.0, counts a.out.now (shown_refusal (length a.out.now) a.number a.first a.second) (e.1 (omega arith)) e.0)

pub print_refusal_spec : {M : Type 1} → statement M
print_refusal_spec =
    tie.close (tie.spec slice_aggregate_print_line print_line_requires same_length returns)
