-- `sibling_map::siblings` meets its contract.
-- Assumes nothing.
use mathlib.Core.Path.{◌≡◌, sym, ◌∙◌}
use mathlib.Core.Bool.{true}
use borrow.Author.Tests.{not-true, not-false}
use Rattle.rules.specs.Pairing.{call_sizes, sizes_fit}
use Rattle.rules.specs.Refusals.{call_lengths}
use Rattle.rules.specs.Siblings.{sibling_lengths}
use Rattle.theory.specs.FitRows.{means_sizes}
use Rattle.sibling_map.specs.Mapping.{lent_maps, checked, unsized, unlengthened, done}
use Rattle.sibling_map.proofs.siblings.Goals as goal

pub returns-then-not-sizes_fit : goal.returns-then-not-sizes_fit
unfolding call_sizes sizes_fit
returns-then-not-sizes_fit c =
    let a = c.args in
    let sizes : c.sizes_fit.result ≡ sizes_fit a.n a.list.now = c.sizes_fit.ensures in
    let x = unsized a.n a.list.now a.v2e.now a.sibhe.now a.work.now
    (sym sizes ∙ not-true _ c.if-not-sizes_fit.true-raw) c.refuse.ensures in
    record { result_value = x.0; work_after = x.1 }

pub lengths_fit-requires : goal.lengths_fit-requires
unfolding call_sizes sizes_fit
lengths_fit-requires c =
    let a = c.args in
    let sizes : c.sizes_fit.result ≡ sizes_fit a.n a.list.now = c.sizes_fit.ensures in
    let sized : sizes_fit a.n a.list.now ≡ true = sym sizes ∙ not-false _ c.if-not-sizes_fit.false-raw in
    ((means_sizes a.n a.list.now).says (rw sized tt)).1.0

pub returns-then-not-lengths_fit : goal.returns-then-not-lengths_fit
unfolding call_sizes sizes_fit call_lengths sibling_lengths
returns-then-not-lengths_fit c =
    let a = c.args in
    let sizes : c.sizes_fit.result ≡ sizes_fit a.n a.list.now = c.sizes_fit.ensures in
    let lengths : c.lengths_fit.result ≡ sibling_lengths a.n a.list.now (lent_maps a.v2e.now a.sibhe.now a.work.now) = c.lengths_fit.ensures in
    let x = unlengthened a.n a.list.now a.v2e.now a.sibhe.now a.work.now (sym sizes ∙ not-false _ c.if-not-sizes_fit.false-raw)
    (sym lengths ∙ not-true _ c.if-not-lengths_fit.true-raw) c.refuse-then-not-lengths_fit.ensures in
    record { result_value = x.0; work_after = x.1 }

pub map_fit-a-requires : goal.map_fit-a-requires
unfolding call_sizes sizes_fit call_lengths sibling_lengths
map_fit-a-requires c =
    let a = c.args in
    let sizes : c.sizes_fit.result ≡ sizes_fit a.n a.list.now = c.sizes_fit.ensures in
    let lengths : c.lengths_fit.result ≡ sibling_lengths a.n a.list.now (lent_maps a.v2e.now a.sibhe.now a.work.now) = c.lengths_fit.ensures in
    checked a.n a.list.now a.v2e.now a.sibhe.now a.work.now (sym sizes ∙ not-false _ c.if-not-sizes_fit.false-raw)
    (sym lengths ∙ not-false _ c.if-not-lengths_fit.false-raw)

pub returns : goal.returns
unfolding call_sizes sizes_fit call_lengths sibling_lengths
returns c =
    let a = c.args in
    let sizes : c.sizes_fit.result ≡ sizes_fit a.n a.list.now = c.sizes_fit.ensures in
    let lengths : c.lengths_fit.result ≡ sibling_lengths a.n a.list.now (lent_maps a.v2e.now a.sibhe.now a.work.now) = c.lengths_fit.ensures in
    let fit = c.map_fit-a.ensures in
    let x = done a.n a.list.now a.v2e.now a.sibhe.now a.work.now
    (sym sizes ∙ not-false _ c.if-not-sizes_fit.false-raw, sym lengths ∙ not-false _ c.if-not-lengths_fit.false-raw)
    (fit.mapped, fit.work_len_unchanged) c.clear.ensures in
    record { result_value = x.0; work_after = x.1 }
