-- `build::build` meets its contract.
-- Assumes nothing.
use mathlib.Core.Path.{◌≡◌, ap, sym, ◌∙◌}
use mathlib.Core.Bool.{true}
use Prim.Native.Nat.{ℕ, ◌+◌, ◌*◌, ◌≤◌}
use native.Mathlib.Omega.{arith}
use lib.Dec.{leb, eqb}
use lib.ListN.{length}
use borrow.Author.Tests.{not-true, not-false}
use Rattle.lists.specs.Tests.{both}
use Rattle.rules.specs.Elements.{elements, max_element}
use Rattle.rules.specs.Pairing.{call_sizes, sizes_fit}
use Rattle.rules.specs.Tables.{columns}
use Rattle.rules.specs.Refusals.{Buffers, call_lengths, build_lengths}
use Rattle.theory.specs.FitRows.{means_sizes}
use Rattle.theory.specs.Columns.{three_or_four, few_entries}
use Rattle.build.specs.Building.{lent, checked, unsized, unlengthened, built}
use borrow.Author.Rules.{rules}
use Rattle.build.proofs.build.Statement.{statement}
use Rattle.build.proofs.build.Tie as tie

-- the two tests, and what they say once passed
sizes : (c : tie.After-sizes_fit) → let a = c.args in c.sizes_fit.result ≡ sizes_fit a.n a.list.now
unfolding call_sizes sizes_fit
sizes c = c.sizes_fit.ensures

abbrev buffers : tie.Start → Buffers
buffers c = let a = c.args in lent a.v2e.now a.e2e.now a.b2e.now a.work.now

-- states by how far they lie back
abbrev shared_slice_known_1_of_lengths_fit : tie.After-lengths_fit → tie.After-shared_slice_known-1
shared_slice_known_1_of_lengths_fit c = c.before.before.before.before.before.before.before.before.before

abbrev start_of_lengths_fit : tie.After-lengths_fit → tie.Start
start_of_lengths_fit c = (shared_slice_known_1_of_lengths_fit c).before

abbrev else_not_sizes_fit_of_else_not_lengths_fit : tie.Else-not-lengths_fit → tie.Else-not-sizes_fit
else_not_sizes_fit_of_else_not_lengths_fit c = c.before.before.before.before

abbrev start_of_else_not_lengths_fit : tie.Else-not-lengths_fit → tie.Start
start_of_else_not_lengths_fit c = (else_not_sizes_fit_of_else_not_lengths_fit c).before.before.before.before.before.before.before

abbrev else_not_sizes_fit_of_refuse_then_not_lengths_fit : tie.After-refuse-then-not-lengths_fit → tie.Else-not-sizes_fit
else_not_sizes_fit_of_refuse_then_not_lengths_fit c = c.before.before.before.before.before

abbrev else_not_lengths_fit_of_build_fit_arg_4_1 : tie.After-build_fit-arg-4-1 → tie.Else-not-lengths_fit
else_not_lengths_fit_of_build_fit_arg_4_1 c = c.before.before.before.before

abbrev e2e_1_of_slice_known_9_1 : tie.After-slice_known-9-1 → tie.After-e2e-1
e2e_1_of_slice_known_9_1 c = c.before.before.before.before.before.before.before.before.before

abbrev else_not_lengths_fit_of_slice_known_9_1 : tie.After-slice_known-9-1 → tie.Else-not-lengths_fit
else_not_lengths_fit_of_slice_known_9_1 c = (e2e_1_of_slice_known_9_1 c).before.before.before.before.before.before.before.before

lengths : (c : tie.After-lengths_fit) →
    c.lengths_fit.result ≡ build_lengths c.args.n c.args.list.now (buffers (start_of_lengths_fit c))
unfolding build_lengths call_lengths
lengths c =
    let a = c.args in
    let m = elements a.list.now in
    let columned = c.wide.ensures ∙ c.columns_of-columns.ensures in
    c.lengths_fit.ensures
    ∙ ap (λ (x : ℕ). both (eqb (length a.v2e.now) a.n) (both (eqb (length a.e2e.now) (x * m)) (leb (a.n + 16 * m) (length a.work.now)))) columned

are_sized : (c : tie.Else-not-sizes_fit) → let a = c.args in sizes_fit a.n a.list.now ≡ true
are_sized c = sym (sizes c.before) ∙ not-false _ c.if-not-sizes_fit.false-raw

fit : (c : tie.Else-not-lengths_fit) →
    (sizes_fit c.args.n c.args.list.now ≡ true) × (build_lengths c.args.n c.args.list.now (buffers (start_of_else_not_lengths_fit c)) ≡ true)
fit c = (are_sized (else_not_sizes_fit_of_else_not_lengths_fit c), sym (lengths c.before) ∙ not-false _ c.if-not-lengths_fit.false-raw)

sizes_fit_requires : tie.Need-sizes_fit-requires
sizes_fit_requires c κs = search rules

refuse_requires : tie.Need-refuse-requires
refuse_requires c κs = search rules

returns : tie.Need-returns-then-not-sizes_fit
returns c =
    let a = c.args in
    unsized a.n a.list.now a.v2e.now a.e2e.now a.b2e.now a.work.now
    (sym (sizes c.before.before) ∙ not-true _ c.if-not-sizes_fit.true-raw) c.refuse.ensures

columns_of_requires : tie.Need-columns_of-columns-requires
columns_of_requires c κs = search rules

wide_requires : tie.Need-wide-requires
wide_requires c κs = search rules

-- the list is within its maximum
small : (c : tie.Else-not-sizes_fit) → elements c.args.list.now ≤ max_element
small c = let a = c.args in ((means_sizes a.n a.list.now).says (rw (are_sized c) tt)).1.0

mul_opposites : tie.Need-overflow_mul-opposites
mul_opposites c =
    let list = c.args.list.now in
    omega (arith, few_entries (columns list) (elements list) (three_or_four list) (c.wide.ensures ∙ c.columns_of-columns.ensures) (small c.before.before))

lengths_fit_requires : tie.Need-lengths_fit-requires
lengths_fit_requires c κs = small c.before.before

refuse_requires_2 : tie.Need-refuse-requires-then-not-lengths_fit
refuse_requires_2 c κs = search rules

returns_2 : tie.Need-returns-then-not-lengths_fit
returns_2 c =
    let a = c.args in
    unlengthened a.n a.list.now a.v2e.now a.e2e.now a.b2e.now a.work.now (are_sized (else_not_sizes_fit_of_refuse_then_not_lengths_fit c))
    (sym (lengths c.before.before) ∙ not-true _ c.if-not-lengths_fit.true-raw) c.refuse-then-not-lengths_fit.ensures

build_fit_requires : tie.Need-build_fit-a-requires
build_fit_requires c κs =
    let a = c.args in
    let (s, l) = fit (else_not_lengths_fit_of_build_fit_arg_4_1 c) in
    (checked a.n a.list.now a.v2e.now a.e2e.now a.b2e.now a.work.now s l, c.columns_of-columns.ensures)

clear_requires : tie.Need-clear-requires
clear_requires c κs = search rules

same_length : tie.Need-shape_of-v2e
same_length c = search rules

same_length_2 : tie.Need-shape_of-e2e
same_length_2 c = search rules

same_length_3 : tie.Need-shape_of-b2e
same_length_3 c = search rules

same_length_4 : tie.Need-shape_of-work
same_length_4 c = search rules

returns_3 : tie.Need-returns
returns_3 c =
    let a = c.args in
    built a.n a.list.now a.v2e.now a.e2e.now a.b2e.now a.work.now (fit (else_not_lengths_fit_of_slice_known_9_1 c)) c.build_fit-a.ensures c.clear.ensures

pub build_spec : {M : Type 1} → statement M
build_spec =
    tie.close
    (tie.spec
    sizes_fit_requires
    refuse_requires
    returns
    columns_of_requires
    wide_requires
    mul_opposites
    lengths_fit_requires
    refuse_requires_2
    returns_2
    build_fit_requires
    clear_requires
    same_length
    same_length_2
    same_length_3
    same_length_4
    returns_3)
