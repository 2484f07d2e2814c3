-- `recover::recover` meets its contract.
-- Assumes nothing.
use mathlib.Core.Path.{◌≡◌, ap, sym, ◌∙◌}
use mathlib.Core.Bool.{true}
use Prim.Native.Nat.{ℕ, ◌≤◌}
use borrow.Author.Tests.{not-true, not-false}
use lib.ListN.{replicate}
use Rattle.rules.specs.Elements.{max_element}
use Rattle.rules.specs.Pairing.{call_sizes}
use Rattle.rules.specs.Refusals.{call_lengths, recover_lengths}
use Rattle.theory.specs.FitRows.{means_call_sizes}
use Rattle.recover.specs.Recovering.{Passed, unsized, unlengthened, whole}
use borrow.Author.Rules.{rules}
use Rattle.recover.proofs.recover.Statement.{statement}
use Rattle.recover.proofs.recover.Tie as tie

index : (c : tie.After-sizes_fit) → c.wide-rows.result ≡ c.args.m
index c = c.wide-rows.ensures

sizes : (c : tie.After-sizes_fit) → let s = c.args in c.sizes_fit.result ≡ call_sizes s.n s.m s.list.now
unfolding call_sizes
sizes c = rw (index c) at c.sizes_fit.ensures

sized : (c : tie.Else-not-sizes_fit) → let s = c.args in call_sizes s.n s.m s.list.now ≡ true
sized c = sym (sizes c.before) ∙ not-false _ c.if-not-sizes_fit.false-raw

lengths : (c : tie.After-lengths_fit) → let s = c.args in c.lengths_fit.result ≡ recover_lengths s.n s.m s.v2e.now s.e2e.now s.list.now s.work.now
unfolding recover_lengths call_lengths
lengths c = rw (c.tables_fit-others.ensures, index c.before.before.before) at c.lengths_fit.ensures

passed : (c : tie.Else-not-lengths_fit) → let s = c.args in Passed s.n s.m s.v2e.now s.e2e.now s.list.now s.work.now
passed c = record { sizes = sized c.before.before.before; lengths = sym (lengths c.before) ∙ not-false _ c.if-not-lengths_fit.false-raw }

-- m is within its maximum
few : (c : tie.Else-not-sizes_fit) → c.wide-rows.result ≤ max_element
few c =
    let s = c.args in
    rw (index c.before) ((means_call_sizes s.n s.m s.list.now).says (rw (sized c) tt)).1.0

wide_requires : tie.Need-wide-rows-requires
wide_requires c κs = search rules

sizes_fit_requires : tie.Need-sizes_fit-requires
sizes_fit_requires c κs = search rules

refuse_requires : tie.Need-refuse-requires
refuse_requires c κs = search rules

returns : tie.Need-returns-then-not-sizes_fit
returns c = unsized _ _ _ _ _ _ (sym (sizes c.before.before) ∙ not-true _ c.if-not-sizes_fit.true-raw) c.refuse.ensures

tables_fit_requires : tie.Need-tables_fit-others-requires
tables_fit_requires c κs = few c

lengths_fit_requires : tie.Need-lengths_fit-requires
lengths_fit_requires c κs = few c.before

refuse_requires_2 : tie.Need-refuse-requires-then-not-lengths_fit
refuse_requires_2 c κs = search rules

-- states by how far they lie back
abbrev else_not_sizes_fit_of_refuse_then_not_lengths_fit : tie.After-refuse-then-not-lengths_fit → tie.Else-not-sizes_fit
else_not_sizes_fit_of_refuse_then_not_lengths_fit c = c.before.before.before.before

abbrev sizes_fit_of_recover_fit_arg_2_1 : tie.After-recover_fit-arg-2-1 → tie.After-sizes_fit
sizes_fit_of_recover_fit_arg_2_1 c = c.before.before.before.before.before.before

abbrev recover_fit_arg_2_1_of_slice_known_5_1 : tie.After-slice_known-5-1 → tie.After-recover_fit-arg-2-1
recover_fit_arg_2_1_of_slice_known_5_1 c = c.before.before.before.before.before.before.before.before.before

abbrev else_not_lengths_fit_of_slice_known_5_1 : tie.After-slice_known-5-1 → tie.Else-not-lengths_fit
else_not_lengths_fit_of_slice_known_5_1 c = (recover_fit_arg_2_1_of_slice_known_5_1 c).before.before

abbrev sizes_fit_of_slice_known_5_1 : tie.After-slice_known-5-1 → tie.After-sizes_fit
sizes_fit_of_slice_known_5_1 c = (else_not_lengths_fit_of_slice_known_5_1 c).before.before.before.before

returns_2 : tie.Need-returns-then-not-lengths_fit
returns_2 c =
    unlengthened _ _ _ _ _ _ (sized (else_not_sizes_fit_of_refuse_then_not_lengths_fit c)) (sym (lengths c.before.before) ∙ not-true _ c.if-not-lengths_fit.true-raw) c.refuse-then-not-lengths_fit.ensures

recover_fit_requires : tie.Need-recover_fit-a-requires
recover_fit_requires c κs =
    rw (index (sizes_fit_of_recover_fit_arg_2_1 c)) (passed c.before.before)

clear_requires : tie.Need-clear-requires
clear_requires c κs = search rules

same_length : tie.Need-shape_of-list
same_length c = search rules

same_length_2 : tie.Need-shape_of-work
same_length_2 c = search rules

returns_3 : tie.Need-returns
returns_3 c =
    whole _ _ _ _ _ _ (index (sizes_fit_of_slice_known_5_1 c)) (passed (else_not_lengths_fit_of_slice_known_5_1 c)) c.recover_fit-a.ensures.0 (c.clear.ensures ∙ ap (λ (k : ℕ). replicate k 0) c.recover_fit-a.ensures.1)

pub recover_spec : {M : Type 1} → statement M
recover_spec =
    tie.close
    (tie.spec
    wide_requires
    sizes_fit_requires
    refuse_requires
    returns
    tables_fit_requires
    lengths_fit_requires
    refuse_requires_2
    returns_2
    recover_fit_requires
    clear_requires
    same_length
    same_length_2
    returns_3)
