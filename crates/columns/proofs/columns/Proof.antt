-- `columns::columns` meets its contract.
-- Assumes nothing.
use mathlib.Core.Path.{◌≡◌, ap, sym, ◌∙◌}
use mathlib.Core.Bool.{Bool, true, false}
use mathlib.Core.List.{List}
use Prim.Native.Nat.{ℕ}
use borrow.Author.Rules.{rules}
use borrow.Author.Tests.{not-true, not-false}
use Rattle.rules.specs.Pairing.{call_sizes, sizes_fit}
use Rattle.rules.specs.Tables.{columns}
use Rattle.rules.specs.Refusals.{gives, length_checks}
use Rattle.rules.specs.Queries.{columns_answer}
use Rattle.columns.proofs.columns.Statement.{statement}
use Rattle.columns.proofs.columns.Tie as tie

sizes : (c : tie.After-sizes_fit) → let a = c.args in c.sizes_fit.result ≡ sizes_fit a.n a.list.now
unfolding call_sizes sizes_fit
sizes c = c.sizes_fit.ensures

-- by what check 1 says
answer_is : (n : ℕ) (L : List ℕ) (b : Bool) → sizes_fit n L ≡ b → columns_answer n L ≡ length_checks b true (gives (columns L) 0)
unfolding columns_answer
answer_is n L b e = ap (λ (x : Bool). length_checks x true (gives (columns L) 0)) e

sizes_fit_requires : tie.Need-sizes_fit-requires
sizes_fit_requires c κs = search rules

refuse_requires : tie.Need-refuse-requires
refuse_requires c κs = search rules

returns : tie.Need-returns-then-not-sizes_fit
unfolding length_checks
returns c =
    let tested = c.before.before in
    let a = tested.args in
    c.refuse.ensures ∙ sym (answer_is a.n a.list.now false (sym (sizes tested) ∙ not-true _ c.if-not-sizes_fit.true-raw))

columns_of_requires : tie.Need-columns_of-requires
columns_of_requires c κs = search rules

give_requires : tie.Need-give-requires
give_requires c κs = search rules

returns_2 : tie.Need-returns
unfolding length_checks
returns_2 c =
    let tested = c.before.before.before in
    let a = tested.args in
    c.give.ensures
    ∙ ap (λ (x : ℕ). gives x 0) c.columns_of.ensures
    ∙ sym (answer_is a.n a.list.now true (sym (sizes tested) ∙ not-false _ c.if-not-sizes_fit.false-raw))

pub columns_spec : {M : Type 1} → statement M
columns_spec =
    tie.close
    (tie.spec
    sizes_fit_requires
    refuse_requires
    returns
    columns_of_requires
    give_requires
    returns_2)
