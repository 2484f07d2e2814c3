-- `swap::swap` meets its contract. The laws of the whole call are in Calling.
-- Assumes nothing.
use mathlib.Core.Path.{◌≡◌, ◌∙◌}
use mathlib.Core.Bool.{true}
use Prim.Native.Nat.{◌*◌, ◌-◌, ◌≤◌}
use native.Mathlib.Omega.{arith}
use lib.ListN.{length, take}
use borrow.Author.Rules.{rules}
use Rattle.std.proofs.lemmas.Result.{err_from_is_err_and}
use Rattle.rules.specs.Elements.{max_element}
use Rattle.edit_rules.specs.Swap.{swap}
use Rattle.theory.specs.Columns.{three_or_four, few_entries}
use Rattle.edits.specs.Holding.{lent_edit, counts_say, passed}
use Rattle.edits.specs.Leaving.{denied, admitted}
use Rattle.swap.specs.Calling.{checked_at, whole}
use Rattle.swap.proofs.swap.Goals as goal

pub returns-in_err-columns : goal.returns-in_err-columns
returns-in_err-columns c =
    let a = c.args in
    let w = lent_edit a.n a.m a.list.now a.v2e.now a.e2e.now a.b2e.now a.work.now in
    let p = err_from_is_err_and c.from_residual.result c.from_residual.ensures.1 in
    let x = denied w true (swap a.n (take (4 * a.m) a.list.now) a.code) c.in_err-columns.ensures in
    record { result_value = rw (p.1, p.2) x.0; work_after = x.1 }

pub overflow_mul-entries : goal.overflow_mul-entries
overflow_mul-entries c =
    let x = passed c.in_ok-columns.ensures in
    let few : c.wide-elements.result ≤ max_element = omega (arith, counts_say c.args.n c.args.m x.0) in
    omega (arith, few_entries _ c.wide-elements.result (three_or_four _) (c.wide.ensures ∙ x.2.columned) few)

pub slice_bounds-swap_fit-end : goal.slice_bounds-swap_fit-end
slice_bounds-swap_fit-end c =
    let h : 4 * c.wide-elements.result ≤ length c.args.list.now = omega (arith, (passed c.in_ok-columns.ensures).2.list) in
    search rules

pub slice_bounds-swap_fit-end-2 : goal.slice_bounds-swap_fit-end-2
slice_bounds-swap_fit-end-2 c =
    let h : c.wide-vertices.result ≤ length c.args.v2e.now = omega (arith, (passed c.in_ok-columns.ensures).2.vertices) in
    search rules

pub slice_bounds-swap_fit-end-3 : goal.slice_bounds-swap_fit-end-3
slice_bounds-swap_fit-end-3 c =
    let product : c.wide.result * c.wide-elements.result ≡ c.in_ok-columns.columns * c.args.m =
    λ i. c.wide.ensures i * c.wide-elements.ensures i in
    let h : c.wide.result * c.wide-elements.result ≤ length c.args.e2e.now = rw product (passed c.in_ok-columns.ensures).2.opposites in
    search rules

pub swap_fit-a-requires : goal.swap_fit-a-requires
swap_fit-a-requires c =
    let a = c.args in
    let x = passed c.in_ok-columns.ensures in
    let rows : 4 * c.wide-elements.result - 0 ≡ 4 * a.m = omega arith in
    let vertices : c.wide-vertices.result - 0 ≡ a.n = omega arith in
    let product : c.wide.result * c.wide-elements.result ≡ c.in_ok-columns.columns * a.m =
    λ i. c.wide.ensures i * c.wide-elements.ensures i in
    let entries : c.wide.result * c.wide-elements.result - 0 ≡ c.in_ok-columns.columns * a.m = omega arith in
    checked_at a.n a.m a.list.now a.v2e.now a.e2e.now a.b2e.now a.work.now a.code (counts_say a.n a.m x.0) x.2 rows vertices entries

pub returns : goal.returns
returns c =
    let a = c.args in
    let w = lent_edit a.n a.m a.list.now a.v2e.now a.e2e.now a.b2e.now a.work.now in
    let x = passed c.in_ok-columns.ensures in
    let rows : 4 * c.wide-elements.result - 0 ≡ 4 * a.m = omega arith in
    let vertices : c.wide-vertices.result - 0 ≡ a.n = omega arith in
    let product : c.wide.result * c.wide-elements.result ≡ c.in_ok-columns.columns * a.m =
    λ i. c.wide.ensures i * c.wide-elements.ensures i in
    let entries : c.wide.result * c.wide-elements.result - 0 ≡ c.in_ok-columns.columns * a.m = omega arith in
    let fit = admitted w true (swap a.n (take (4 * a.m) a.list.now) a.code) c.in_ok-columns.ensures in
    let y = whole a.n a.m a.list.now a.v2e.now a.e2e.now a.b2e.now a.work.now a.code (counts_say a.n a.m x.0) x.2 rows vertices entries fit
    c.swap_fit-a.ensures.left c.swap_fit-a.ensures.work_len_unchanged c.clear.ensures in
    record { result_value = y.0; work_after = y.1 }
