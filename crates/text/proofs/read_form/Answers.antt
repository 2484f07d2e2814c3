-- `text::read_form` meets its contract: each way out is a case of the rule.
-- Assumes nothing.
use Rattle.std.specs.Prelude.{true, List, ◌≡◌, ℕ, ◌+◌, ◌*◌, ◌≤◌}
use Rattle.std.proofs.Common.{sym, ap, ◌∙◌, arith}
use Rattle.text.specs.Form.{good_head, the_m, fields, first_bad_field}
use Rattle.text.specs.FormLaws.{head_bounds, bad_head, bad_field, bad_end, none_bad}
use Rattle.text.specs.Reading.{formed_bad, formed_good}
use Rattle.text.proofs.read_form.Goals as goal

-- how many fields there are is known by m
counted : (t : List ℕ) {m i : ℕ} → m ≡ the_m t → i ≡ first_bad_field t (4 * m + 2) → i ≡ first_bad_field t (fields t)
counted t e f = f ∙ ap (λ (k : ℕ). first_bad_field t (4 * k + 2)) e

bound : (t : List ℕ) {m : ℕ} → good_head t ≡ true → m ≡ the_m t → m ≤ 200
bound t g e = omega (arith, head_bounds t g)

pub returns-then-not-is_good_head : goal.returns-then-not-is_good_head
returns-then-not-is_good_head c = formed_bad c.args.text.now (sym (bad_head c.args.text.now (sym c.is_good_head.ensures ∙ c.if-not-is_good_head.true))) (λ z. omega arith)

pub overflow_mul-count : goal.overflow_mul-count
overflow_mul-count c = let h = bound c.args.text.now (sym c.is_good_head.ensures ∙ c.if-not-is_good_head.false) c.the_m.ensures in omega arith

pub overflow_add-count : goal.overflow_add-count
overflow_add-count c = let h = bound c.args.text.now (sym c.is_good_head.ensures ∙ c.if-not-is_good_head.false) c.the_m.ensures in omega arith

pub go_over-requires : goal.go_over-requires
go_over-requires c = let h = bound c.args.text.now (sym c.is_good_head.ensures ∙ c.if-not-is_good_head.false) c.the_m.ensures in omega arith

pub line_of-requires : goal.line_of-requires
line_of-requires c = let h = bound c.args.text.now (sym c.is_good_head.ensures ∙ c.if-not-is_good_head.false) c.the_m.ensures in omega arith

pub line_of-requires-in-Err : goal.line_of-requires-in-Err
line_of-requires-in-Err c = let h = bound c.args.text.now (sym c.is_good_head.ensures ∙ c.if-not-is_good_head.false) c.the_m.ensures in omega (arith, c.in-Err.ensures.bad)

pub returns-in-Ok : goal.returns-in-Ok
returns-in-Ok c =
    let t = c.args.text.now in
    let e : 4 * c.the_m.result + 2 ≡ fields t = ap (λ (k : ℕ). 4 * k + 2) c.the_m.ensures in
    formed_good t (none_bad t (4 * c.the_m.result + 2) (sym c.is_good_head.ensures ∙ c.if-not-is_good_head.false) (counted t c.the_m.ensures (sym c.in-Ok.ensures.good.0)) e (sym c.in-Ok.ensures.good.1 ∙ c.if-end-text.true))
    c.the_n.ensures c.the_m.ensures

pub returns-in-Ok-2 : goal.returns-in-Ok-2
returns-in-Ok-2 c =
    let t = c.args.text.now in
    let e : 4 * c.the_m.result + 2 ≡ fields t = ap (λ (k : ℕ). 4 * k + 2) c.the_m.ensures in
    formed_bad t (c.line_of.ensures ∙ bad_end t (4 * c.the_m.result + 2) (sym c.is_good_head.ensures ∙ c.if-not-is_good_head.false) (counted t c.the_m.ensures (sym c.in-Ok.ensures.good.0)) e (λ z. c.if-end-text.false (c.in-Ok.ensures.good.1 ∙ z)))
    (λ z. omega (arith, c.line_of.ensures))

pub returns-in-Err : goal.returns-in-Err
returns-in-Err c =
    let t = c.args.text.now in
    let e : 4 * c.the_m.result + 2 ≡ fields t = ap (λ (k : ℕ). 4 * k + 2) c.the_m.ensures in
    let f = c.in-Err.ensures.bad in
    formed_bad t (c.line_of-in-Err.ensures ∙ bad_field t c.in-Err.field (sym c.is_good_head.ensures ∙ c.if-not-is_good_head.false) (counted t c.the_m.ensures f.0) (λ z. omega (arith, f.1)))
    (λ z. omega (arith, c.line_of-in-Err.ensures))
