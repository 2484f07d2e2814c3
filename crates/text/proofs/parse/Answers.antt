-- `text::parse` meets its contract: each way out is a case of the rule.
-- Assumes nothing.
use Rattle.std.specs.Prelude.{List, ◌≡◌, refl, ℕ, Result, Ok, Err, eqb}
use Rattle.std.proofs.Common.{rules, sym, ap, ◌∙◌, arith}
use Rattle.lists.specs.TestLaws.{Test, pass, fail, test, means_eq}
use Rattle.text.specs.Form.{first_bad, the_m, the_list}
use Rattle.text.specs.FormLaws.{head_bounds, form_head}
use Rattle.text.specs.Reading.{size_in, formed, parsed, list_after, parsed_short, parsed_mesh}
use Rattle.text.specs.declared.Size.{Size}
use Rattle.text.specs.declared.ParseError.{ParseError}
use Rattle.text.specs.declared.ParseError.TheVariants.{Bad}
use Rattle.text.proofs.parse.Goals as goal

-- what is known of a text that gave a size, and of one that gave none
record Good (t : List ℕ) (s : Size) : Type 0 where
  pub form : first_bad t ≡ 0
  pub is : s ≡ size_in t

good : (t : List ℕ) {s : Size} {r : Result Size ParseError} → r ≡ formed t → r ≡ Ok s → Good t s
unfolding formed
good t {s} {r} e f = go (test (eqb (first_bad t) 0))
  where
    go : Test (eqb (first_bad t) 0) → Good t s
    go (pass x z) = let q : Ok s ≡ Ok (size_in t) = sym f ∙ e ∙ rw (z, formed) refl in
        record { form = (means_eq (first_bad t) 0).says x; is = (cc) }
    go (fail x z) = let q : Ok s ≡ Err (Bad (first_bad t)) = sym f ∙ e ∙ rw (z, formed) refl in cc

rows : (t : List ℕ) {s : Size} → Good t s → s.m ≡ the_m t
rows t g = ap (λ (x : Size). x.m) g.is

no_form : (t : List ℕ) (room : ℕ) {x : ParseError} {r : Result Size ParseError} → r ≡ formed t → r ≡ Err x → r ≡ parsed t room
unfolding formed parsed
no_form t room {x} {r} e f = go (test (eqb (first_bad t) 0))
  where
    go : Test (eqb (first_bad t) 0) → r ≡ parsed t room
    go (pass y z) = let q : Err x ≡ Ok (size_in t) = sym f ∙ e ∙ rw (z, formed) refl in cc
    go (fail y z) = e ∙ rw (z, formed, parsed) refl

pub returns-in_err-size-clause-value : goal.returns-in_err-size-clause-value
returns-in_err-size-clause-value c =
    let e : c.from_residual.result ≡ c.read_form.result = search rules in
    e ∙ no_form c.args.text.now _ c.read_form.ensures c.in_err-size.was

pub returns-in_err-size-clause-list_after : goal.returns-in_err-size-clause-list_after
unfolding list_after
returns-in_err-size-clause-list_after c =
    let e : c.from_residual.result ≡ c.read_form.result = search rules in
    rw (e, c.in_err-size.was) refl

pub returns-then-list-count-clause-value : goal.returns-then-list-count-clause-value
returns-then-list-count-clause-value c =
    let g = good c.args.text.now c.read_form.ensures c.in_ok-size.was in
    sym (parsed_short c.args.text.now _ g.form (omega (arith, rows c.args.text.now g)))

pub returns-then-list-count-clause-list_after : goal.returns-then-list-count-clause-list_after
unfolding list_after
returns-then-list-count-clause-list_after c = refl

pub read_list-requires-clause-count_bound : goal.read_list-requires-clause-count_bound
read_list-requires-clause-count_bound c =
    let g = good c.args.text.now c.read_form.ensures c.in_ok-size.was in
    omega (arith, rows c.args.text.now g, head_bounds c.args.text.now (form_head c.args.text.now g.form))

pub returns-clause-value : goal.returns-clause-value
returns-clause-value c =
    let g = good c.args.text.now c.read_form.ensures c.in_ok-size.was in
    ap Ok g.is ∙ sym (parsed_mesh c.args.text.now _ g.form (omega (arith, rows c.args.text.now g)))

pub returns-clause-list_after : goal.returns-clause-list_after
unfolding list_after the_list
returns-clause-list_after c =
    let g = good c.args.text.now c.read_form.ensures c.in_ok-size.was in
    rw (← rows c.args.text.now g) c.read_list.ensures
