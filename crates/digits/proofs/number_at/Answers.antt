-- `digits::number_at` meets its contract.
-- Assumes nothing.
use Rattle.std.specs.Prelude.{Bool, true, false, not, List, ◌≡◌, refl, ℕ, ◌+◌, ◌≤◌, ◌<◌}
use Rattle.std.proofs.Common.{sym, ap, ◌∙◌, arith}
use Rattle.lists.specs.Search.{at}
use Rattle.lists.specs.Steps.{None, none_yet, none_more, found_here, found_none}
use Rattle.lists.specs.TestLaws.{twice, means_within, passed}
use Rattle.digits.specs.Digits.{digit, run, value}
use Rattle.digits.specs.Counting.{value_more, value_seven}
use Rattle.digits.proofs.number_at.Goals as goal

-- the byte j places after p is no digit
abbrev other : List ℕ → ℕ → ℕ → Bool
other t p j = not (digit (at t (p + j)))

-- seven digits write less than 10^7, so one more fits
small : (t : List ℕ) (p : ℕ) {i x : ℕ} → i < 8 → (x ≡ value t p i) × None (other t p) i → x < 10_000_000
small t p {i} h (e, none) =
    omega (arith, value_seven t p i (omega arith) (λ j l. twice (digit (at t (p + j))) (none j l)))

-- a digit counts 0 to 9
is_one : (b : ℕ) {r : Bool} → r ≡ digit b → r ≡ true → (48 ≤ b) × (b ≤ 57)
is_one b e g = passed (means_within 48 57 b) (sym e ∙ g)

pub loop-i-init : goal.loop-i-init
unfolding value
loop-i-init c = (refl, none_yet (other c.args.text.now c.args.p))

pub returns-then-not-is_digit-clause-digits_value : goal.returns-then-not-is_digit-clause-digits_value
unfolding run
returns-then-not-is_digit-clause-digits_value c =
    let l = c.loop-i.invariant in
    let no_digit : digit (at c.args.text.now (c.args.p + c.loop-i.i)) ≡ false = rw (← c.byte-b.ensures) (sym c.is_digit.ensures ∙ c.if-not-is_digit.true) in
    (found_here (other c.args.text.now c.args.p) l.1 8 (omega arith) (ap not no_digit), l.0)

pub overflow_mul-value : goal.overflow_mul-value
overflow_mul-value c =
    let x = small c.args.text.now c.args.p c.loop-i-test.true c.loop-i.invariant in omega arith

pub overflow_add-value : goal.overflow_add-value
overflow_add-value c =
    let x = small c.args.text.now c.args.p c.loop-i-test.true c.loop-i.invariant in
    let d = is_one c.byte-b.result c.is_digit.ensures c.if-not-is_digit.false in
    omega (arith, c.digit_of.ensures)

pub loop-i-preserved : goal.loop-i-preserved
loop-i-preserved c =
    let l = c.loop-i.invariant in
    let is_digit : digit (at c.args.text.now (c.args.p + c.loop-i.i)) ≡ true = rw (← c.byte-b.ensures) (sym c.is_digit.ensures ∙ c.if-not-is_digit.false) in
    (value_more c.args.text.now c.args.p c.loop-i.i l.0 c.byte-b.ensures c.digit_of.ensures, none_more (other c.args.text.now c.args.p) l.1 (ap not is_digit))

pub returns-clause-digits_value : goal.returns-clause-digits_value
unfolding run
returns-clause-digits_value c =
    let l = c.loop-i.invariant in
    let e : c.loop-i.i ≡ 8 = omega arith in
    (sym e ∙ found_none (other c.args.text.now c.args.p) l.1 8 e, l.0 ∙ ap (value c.args.text.now c.args.p) e)
