-- `off::line_of` meets its contract: the newlines before place p are counted.
-- Assumes nothing.
use Rattle.std.specs.Prelude.{◌≡◌, refl, List, ℕ, zero, suc, ◌≤◌, length, take, eqb, count_by}
use Rattle.std.proofs.Common.{sym, ap, ◌∙◌, add-one, arith}
use Rattle.std.proofs.lemmas.List.Sums.{count_by_more_yes, count_by_more_no}
use Rattle.lists.specs.Search.{at, count}
use Rattle.lists.specs.SearchLaws.{count_pass, count_fail}
use Rattle.lists.specs.TestLaws.{Test, pass, fail, test}
use Rattle.off_items.specs.Parting.{line_at}
use Rattle.off.proofs.line_of.Goals as goal

counted : (t : List ℕ) (p : ℕ) → p ≤ length t → count_by (λ b. eqb b 10) (take p t) ≡ count (λ i. eqb (at t i) 10) p
unfolding count
counted t zero h = refl
counted t (suc p) h = go (counted t p (omega arith)) (test (eqb (at t p) 10))
  where
    go : count_by (λ b. eqb b 10) (take p t) ≡ count (λ i. eqb (at t i) 10) p → Test (eqb (at t p) 10) → count_by (λ b. eqb b 10) (take (suc p) t) ≡ count (λ i. eqb (at t i) 10) (suc p)
    go q (pass u e) = omega (arith, rw add-one at (count_by_more_yes (λ b. eqb b 10) t p 0 (omega arith) e), count_pass (λ i. eqb (at t i) 10) p u, q)
    go q (fail u e) = omega (arith, rw add-one at (count_by_more_no (λ b. eqb b 10) t p 0 (omega arith) e), count_fail (λ i. eqb (at t i) 10) p u, q)

line : (t : List ℕ) (p : ℕ) {c : ℕ} → p ≤ length t → c ≡ count_by (λ b. eqb b 10) (take p t) → line_at t p ≡ suc c
unfolding line_at
line t p h e = ap suc (sym (e ∙ counted t p h))

pub returns-then-newlines-ge268435455 : goal.returns-then-newlines-ge268435455
returns-then-newlines-ge268435455 c = let l = line c.args.text.now c.args.p c.requires c.newlines_in-newlines.ensures in omega arith

pub returns : goal.returns
returns c = let l = line c.args.text.now c.args.p c.requires c.newlines_in-newlines.ensures in omega arith
