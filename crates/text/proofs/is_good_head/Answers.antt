-- `text::is_good_head` meets its contract.
-- Assumes nothing.
use Rattle.std.specs.Prelude.{true, List, ◌≡◌, refl, ℕ, ◌<◌, leb, Result, Ok, Err, IfOk, IfErr}
use Rattle.std.proofs.Common.{sym, ap, ◌∙◌, arith, eq-eqb, ne_eqb}
use Rattle.std.specs.Result.{is_ok}
use Rattle.lists.specs.Tests.{both}
use Rattle.lists.specs.TestLaws.{never}
use Rattle.text.specs.Form.{place, first_bad_field, good_head, the_n, the_m}
use Rattle.text.proofs.is_good_head.Goals.{then-is_ok, else-is_ok}
use Rattle.text.proofs.is_good_head.Goals as goal

-- line 1 is gone over first
by_fields : (t : List ℕ) (r : Result ℕ ℕ) → IfOk r (λ p. (first_bad_field t 2 ≡ 2) × (p ≡ place t 2)) → IfErr r (λ i. (i ≡ first_bad_field t 2) × (i < 2)) →
    good_head t ≡ both (is_ok r) (both (leb (the_n t) 200) (leb (the_m t) 200))
unfolding good_head
by_fields t (Ok p) g b = rw (eq-eqb (first_bad_field t 2) 2 g.0, good_head) refl
by_fields t (Err i) g b = rw (ne_eqb (first_bad_field t 2) 2 (λ z. omega (arith, b)), good_head) refl

pub returns-then-the_n-le200 : goal.returns-then-the_n-le200
returns-then-the_n-le200 c =
    let t = c.args.text.now in
    let e = by_fields t c.go_over.result c.go_over.ensures.good c.go_over.ensures.bad in
    elim c.if-is_ok.branch [
      | then-is_ok w ↦
          let few : leb (the_n t) 200 ≡ true = ap (λ (n : ℕ). leb n 200) (sym w.the_n.ensures) ∙ sym w.value-is ∙ c.if-the_n-le200.true in
          rw (e, sym c.is_ok.ensures.value ∙ w.if-is_ok.true, few) (ap (λ (m : ℕ). leb m 200) c.the_m.ensures)
      | else-is_ok w ↦ never c.if-the_n-le200.true (w.value-is ∙ w.if-is_ok.false)
    ]

pub returns-else-the_n-le200 : goal.returns-else-the_n-le200
returns-else-the_n-le200 c =
    let t = c.args.text.now in
    let e = by_fields t c.go_over.result c.go_over.ensures.good c.go_over.ensures.bad in
    elim c.if-is_ok.branch [
      | then-is_ok w ↦
          let many = ap (λ (n : ℕ). leb n 200) (sym w.the_n.ensures) ∙ sym w.value-is ∙ c.if-the_n-le200.false in
          rw (e, sym c.is_ok.ensures.value ∙ w.if-is_ok.true, many) c.if-the_n-le200.false
      | else-is_ok w ↦ rw (e, sym c.is_ok.ensures.value ∙ w.if-is_ok.false) c.if-the_n-le200.false
    ]
