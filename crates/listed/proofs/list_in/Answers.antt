-- `listed::list_in` meets its contract.
-- Assumes nothing.
use Rattle.std.specs.Prelude.{refl, Err, length, ℕ, ◌*◌}
use Rattle.std.proofs.Common.{sym, ap, ◌∙◌, arith}
use lib.Seq.{length-take-le}
use Rattle.print.specs.Lines.{shown_refusal}
use Rattle.listed.specs.Fit.{read_mesh, bad_shown, never_short, mesh_is, few_entries, fits, written_as}
use Rattle.listed.proofs.list_in.Goals as goal

pub slice_bounds-columns_of-end : goal.slice_bounds-columns_of-end
slice_bounds-columns_of-end c =
    let k = read_mesh c.args.text.now c.args.list.now c.requires.list_len.0 c.parse.ensures.value c.in-Ok.is c.parse.ensures.list_after c.wide-v.ensures (ap (λ (i : ℕ). 4 * i) c.wide-rows.ensures) in
    omega (arith, k.long, k.small)

pub slice_bounds-columns_of-end-in-Ok : goal.slice_bounds-columns_of-end-in-Ok
slice_bounds-columns_of-end-in-Ok c =
    let k = read_mesh c.args.text.now c.args.list.now c.requires.list_len.0 c.parse.ensures.value c.in-Ok.is c.parse.ensures.list_after c.wide-v.ensures (ap (λ (i : ℕ). 4 * i) c.wide-rows.ensures) in
    sym (length-take-le (4 * c.wide-rows.result) c.parse.new.list (omega (arith, k.long, k.small)))

pub slice_bounds-list_mesh-end : goal.slice_bounds-list_mesh-end
slice_bounds-list_mesh-end c =
    let k = read_mesh c.args.text.now c.args.list.now c.requires.list_len.0 c.parse.ensures.value c.in-Ok.is c.parse.ensures.list_after c.wide-v.ensures (ap (λ (i : ℕ). 4 * i) c.wide-rows.ensures) in
    omega (arith, k.long, k.small)

pub slice_bounds-list_mesh-end-in-Ok : goal.slice_bounds-list_mesh-end-in-Ok
slice_bounds-list_mesh-end-in-Ok c =
    let k = read_mesh c.args.text.now c.args.list.now c.requires.list_len.0 c.parse.ensures.value c.in-Ok.is c.parse.ensures.list_after c.wide-v.ensures (ap (λ (i : ℕ). 4 * i) c.wide-rows.ensures) in
    sym (length-take-le (4 * c.wide-rows.result) c.parse.new.list (omega (arith, k.long, k.small)))

pub slice_bounds-list_mesh-end-in-Ok-2 : goal.slice_bounds-list_mesh-end-in-Ok-2
slice_bounds-list_mesh-end-in-Ok-2 c =
    let k = read_mesh c.args.text.now c.args.list.now c.requires.list_len.0 c.parse.ensures.value c.in-Ok.is c.parse.ensures.list_after c.wide-v.ensures (ap (λ (i : ℕ). 4 * i) c.wide-rows.ensures) in
    let (_, v, e, b, w) = c.requires.list_len in
    omega (arith, k.few, k.wide)

pub slice_bounds-list_mesh-end-in-Ok-3 : goal.slice_bounds-list_mesh-end-in-Ok-3
slice_bounds-list_mesh-end-in-Ok-3 c =
    let k = read_mesh c.args.text.now c.args.list.now c.requires.list_len.0 c.parse.ensures.value c.in-Ok.is c.parse.ensures.list_after c.wide-v.ensures (ap (λ (i : ℕ). 4 * i) c.wide-rows.ensures) in
    let (_, v, e, b, w) = c.requires.list_len in
    sym (length-take-le c.wide-v.result c.args.v2e.now (omega (arith, k.few, k.wide)))

pub slice_bounds-list_mesh-end-in-Ok-4 : goal.slice_bounds-list_mesh-end-in-Ok-4
slice_bounds-list_mesh-end-in-Ok-4 c =
    let k = read_mesh c.args.text.now c.args.list.now c.requires.list_len.0 c.parse.ensures.value c.in-Ok.is c.parse.ensures.list_after c.wide-v.ensures (ap (λ (i : ℕ). 4 * i) c.wide-rows.ensures) in
    let o = (few_entries k c.wide-rows.result (c.wide.ensures ∙ c.columns_of-columns.ensures) refl refl).1 in
    let (_, v, e, b, w) = c.requires.list_len in
    omega arith

pub slice_bounds-list_mesh-end-in-Ok-5 : goal.slice_bounds-list_mesh-end-in-Ok-5
slice_bounds-list_mesh-end-in-Ok-5 c =
    let k = read_mesh c.args.text.now c.args.list.now c.requires.list_len.0 c.parse.ensures.value c.in-Ok.is c.parse.ensures.list_after c.wide-v.ensures (ap (λ (i : ℕ). 4 * i) c.wide-rows.ensures) in
    let o = (few_entries k c.wide-rows.result (c.wide.ensures ∙ c.columns_of-columns.ensures) refl refl).1 in
    let (_, v, e, b, w) = c.requires.list_len in
    sym (length-take-le (c.wide.result * c.wide-rows.result) c.args.e2e.now (omega arith))

pub list_mesh-requires-clause-fits : goal.list_mesh-requires-clause-fits
list_mesh-requires-clause-fits c =
    let k = read_mesh c.args.text.now c.args.list.now c.requires.list_len.0 c.parse.ensures.value c.in-Ok.is c.parse.ensures.list_after c.wide-v.ensures (ap (λ (i : ℕ). 4 * i) c.wide-rows.ensures) in
    let (_, v, e, b, w) = c.requires.list_len in
    (fits k c.args.v2e.now c.args.e2e.now c.args.b2e.now c.args.work.now c.wide-rows.result v e b w (c.wide.ensures ∙ c.columns_of-columns.ensures) refl refl, c.columns_of-columns.ensures)

pub returns-in-Ok-clause-written : goal.returns-in-Ok-clause-written
returns-in-Ok-clause-written c =
    let k = read_mesh c.args.text.now c.args.list.now c.requires.list_len.0 c.parse.ensures.value c.in-Ok.is c.parse.ensures.list_after c.wide-v.ensures (ap (λ (i : ℕ). 4 * i) c.wide-rows.ensures) in
    written_as c.args.out.now (mesh_is k) c.list_mesh.ensures.written

pub returns-in-Err-Bad-clause-written : goal.returns-in-Err-Bad-clause-written
returns-in-Err-Bad-clause-written c =
    let is = c.in-Err-Bad.is ∙ ap Err c.in-Err-Bad.field-0-is in
    let e = bad_shown c.args.text.now c.args.list.now c.requires.list_len.0 c.parse.ensures.value c.requires.in_bounds is in
    written_as c.args.out.now (ap (λ (i : ℕ). shown_refusal (length c.args.out.now) i c.in-Err-Bad.line 0) c.number.ensures ∙ e) c.print_refusal.ensures.written

pub returns-in-Err-Short-clause-written : goal.returns-in-Err-Short-clause-written
returns-in-Err-Short-clause-written c =
    absurd (never_short c.args.text.now c.args.list.now c.requires.list_len.0 c.parse.ensures.value (c.in-Err-Short.is ∙ ap Err c.in-Err-Short.field-0-is))
