-- `print::put_number` meets its contract, by recursion on x: the digits of x / 10, then the last one.
-- Assumes nothing.
use Rattle.std.specs.Prelude.{◌≡◌, ℕ, ◌+◌, ◌/◌, ◌%◌, ◌≤◌, [], ◌∷◌, length}
use Rattle.std.proofs.Common.{ap, arith, length-append}
use Rattle.print.specs.Lines.{digits}
use Rattle.print.specs.LineLaws.{digits_one, digits_more, written_next}
use Rattle.print.proofs.+put_number.Goals as goal

length_more : (x : ℕ) → 10 ≤ x → length (digits x) ≡ length (digits (x / 10)) + 1
length_more x h = rw (digits_more x h, length-append)

pub put_digit-requires : goal.put_digit-requires
put_digit-requires t c =
    let one = ap length (digits_one c.args.x c.if-x-lt10.true) in
    record { p_in_bounds = omega (arith, one); d_bound = omega arith }

pub returns-then-x-lt10 : goal.returns-then-x-lt10
returns-then-x-lt10 t c = rw (digits_one c.args.x c.if-x-lt10.true) c.put_digit.ensures

pub put_number-q-requires : goal.put_number-q-requires
put_number-q-requires t c = (omega (arith, c.decreases), omega (arith, c.requires, length_more c.args.x c.if-x-lt10.false))

pub put_digit-requires-2 : goal.put_digit-requires-2
put_digit-requires-2 t c =
    record {
      p_in_bounds = omega (arith, c.put_number-q.ensures.0, c.put_number-q.auto.out, c.requires, length_more c.args.x c.if-x-lt10.false);
      d_bound = omega arith;
    }

pub returns : goal.returns
returns t c =
    rw (digits_more c.args.x c.if-x-lt10.false)
    (written_next _ (digits (c.args.x / 10)) ((48 + c.args.x % 10) ∷ []) _ c.put_number-q.ensures c.put_digit-2.ensures)
