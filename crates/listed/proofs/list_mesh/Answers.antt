-- `listed::list_mesh` meets its contract.
-- Assumes nothing.
use Rattle.std.specs.Prelude.{ℕ}
use Rattle.std.proofs.Common.{sym, ap, ◌∙◌}
use lib.Seq.{length-take-le}
use Rattle.rules.specs.Refusals.{gives, refused}
use Rattle.listed.specs.Fit.{border_long, tables_shown, refusal_shown, written_as}
use Rattle.listed.proofs.list_mesh.Goals as goal

pub slice_bounds-print_tables-end : goal.slice_bounds-print_tables-end
slice_bounds-print_tables-end c = border_long c.requires.fits.0 (ap (λ (i : ℕ). gives i c.in-Ok.built.second) c.wide-k.ensures ∙ c.in-Ok.ensures.result_value) c.build.ensures.work_after

pub slice_bounds-print_tables-end-in-Ok : goal.slice_bounds-print_tables-end-in-Ok
slice_bounds-print_tables-end-in-Ok c =
    let given = ap (λ (i : ℕ). gives i c.in-Ok.built.second) c.wide-k.ensures ∙ c.in-Ok.ensures.result_value in
    sym (length-take-le c.wide-k.result _ (border_long c.requires.fits.0 given c.build.ensures.work_after))

pub returns-in-Ok-clause-written : goal.returns-in-Ok-clause-written
returns-in-Ok-clause-written c =
    let given = ap (λ (i : ℕ). gives i c.in-Ok.built.second) c.wide-k.ensures ∙ c.in-Ok.ensures.result_value in
    let e = tables_shown c.requires.fits.0 given c.build.ensures.work_after c.requires.in_bounds c.requires.fits.1 in
    written_as c.args.out.now e c.print_tables.ensures.written

pub returns-in-Err-clause-written : goal.returns-in-Err-clause-written
returns-in-Err-clause-written c =
    let told = ap (λ (i : ℕ). refused i c.in-Err.refusal.first c.in-Err.refusal.second) c.number-number.ensures ∙ c.in-Err.ensures.result_value in
    let e = refusal_shown c.requires.fits.0 c.requires.in_bounds told in
    written_as c.args.out.now e c.print_refusal.ensures.written
