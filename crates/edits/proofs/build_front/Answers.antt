-- `edits::build_front` meets its contract.
-- Assumes nothing.
use mathlib.Core.Path.{◌≡◌}
use Prim.Native.Nat.{◌*◌, ◌-◌, ◌≤◌}
use native.Mathlib.Omega.{arith}
use lib.ListN.{length}
use borrow.Author.Rules.{rules}
use Rattle.theory.specs.Columns.{three_or_four, few_entries}
use Rattle.edits.specs.Holding.{lent_edit}
use Rattle.edits.specs.Fronts.{checked_at, fronted}
use Rattle.edits.proofs.build_front.Goals as goal

pub overflow_mul-entries : goal.overflow_mul-entries
overflow_mul-entries c =
    let product : c.wide.result * c.wide-elements.result ≡ c.args.columns * c.args.m = λ i. c.wide.ensures i * c.wide-elements.ensures i in
    omega (arith, few_entries _ c.args.m (three_or_four _) c.requires.columned c.requires.sizes.1)

pub slice_bounds-build_fit-end-3 : goal.slice_bounds-build_fit-end-3
slice_bounds-build_fit-end-3 c =
    let product : c.wide.result * c.wide-elements.result ≡ c.args.columns * c.args.m = λ i. c.wide.ensures i * c.wide-elements.ensures i in
    let h : c.wide.result * c.wide-elements.result ≤ length c.args.e2e.now = omega (arith, c.requires.opposites) in search rules

pub build_fit-requires : goal.build_fit-requires
build_fit-requires c =
    let a = c.args in
    let w = lent_edit a.n a.m a.list.now a.v2e.now a.e2e.now a.b2e.now a.work.now in
    let product : c.wide.result * c.wide-elements.result ≡ a.columns * a.m = λ i. c.wide.ensures i * c.wide-elements.ensures i in
    let rows : 4 * c.wide-elements.result - 0 ≡ 4 * a.m = omega arith in
    let vertices : c.wide-vertices.result - 0 ≡ a.n = omega arith in
    let entries : c.wide.result * c.wide-elements.result - 0 ≡ a.columns * a.m = omega arith in
    checked_at w c.requires rows vertices entries

pub returns : goal.returns
returns c =
    let a = c.args in
    let w = lent_edit a.n a.m a.list.now a.v2e.now a.e2e.now a.b2e.now a.work.now in
    let product : c.wide.result * c.wide-elements.result ≡ a.columns * a.m = λ i. c.wide.ensures i * c.wide-elements.ensures i in
    let rows : 4 * c.wide-elements.result - 0 ≡ 4 * a.m = omega arith in
    let vertices : c.wide-vertices.result - 0 ≡ a.n = omega arith in
    let entries : c.wide.result * c.wide-elements.result - 0 ≡ a.columns * a.m = omega arith in
    record { fronted = fronted w c.requires rows vertices entries c.build_fit.ensures.built; work_len_unchanged = c.build_fit.ensures.work_len_unchanged }
