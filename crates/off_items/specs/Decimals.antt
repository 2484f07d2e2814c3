-- Where a sign, or a fraction, ends.
-- Assumes nothing.
use Rattle.std.specs.Prelude.{◌≡◌, true, false, not, List, ℕ, ◌+◌, ◌≤◌, ◌<◌, eqb}
use Rattle.std.proofs.Common.{sym, ◌∙◌, arith}
use borrow.Author.Tests.{eq-eqb, ne_eqb, lt-ltb, le-ltb}
use Rattle.lists.specs.Search.{at}
use Rattle.digits.specs.Digits.{digit}
use Rattle.off_rules.specs.Off.{past_digits, is_sign, past_sign, past_fraction}
use Rattle.off_items.specs.Scanning.{from_le}

module _ (w : List ℕ) (p : ℕ) where
  pub sign_there : is_sign (at w p) ≡ true → past_sign w p ≡ p + 1
  unfolding past_sign
  sign_there e = rw (e, past_sign)

  pub sign_missing : is_sign (at w p) ≡ false → past_sign w p ≡ p
  unfolding past_sign
  sign_missing e = rw (e, past_sign)

  pub point_there : eqb (at w p) 46 ≡ true → p + 1 < past_digits w (p + 1) → past_fraction w p ≡ past_digits w (p + 1)
  unfolding past_fraction
  point_there e l = rw (e, lt-ltb (p + 1) (past_digits w (p + 1)) l, past_fraction)

  pub point_alone : eqb (at w p) 46 ≡ true → past_digits w (p + 1) ≤ p + 1 → past_fraction w p ≡ p
  unfolding past_fraction
  point_alone e l = rw (e, le-ltb (p + 1) (past_digits w (p + 1)) l, past_fraction)

  pub point_missing : eqb (at w p) 46 ≡ false → past_fraction w p ≡ p
  unfolding past_fraction
  point_missing e = rw (e, past_fraction)

  -- by a byte that was read
  module _ {b : ℕ} (read : b ≡ at w p) where
    pub sign_plus : b ≡ 43 → p + 1 ≡ past_sign w p
    sign_plus e = sym (sign_there (rw (← read, e)))

    pub sign_minus : b ≡ 45 → p + 1 ≡ past_sign w p
    sign_minus e = sym (sign_there (rw (← read, e)))

    pub sign_none : (b ≡ 43 → ⊥) → (b ≡ 45 → ⊥) → p ≡ past_sign w p
    sign_none d e = sym (sign_missing (rw (← read, ne_eqb b 43 d, ne_eqb b 45 e)))

    pub fraction_none : (b ≡ 46 → ⊥) → p ≡ past_fraction w p
    fraction_none d = sym (point_missing (rw (← read) (ne_eqb b 46 d)))

    module _ {e : ℕ} (digits : e ≡ past_digits w (p + 1)) (point : b ≡ 46) where
      pub fraction_bare : e ≡ p + 1 → p ≡ past_fraction w p
      fraction_bare z = sym (point_alone (eq-eqb (at w p) 46 (sym read ∙ point)) (omega arith))

      pub fraction_is : (e ≡ p + 1 → ⊥) → e ≡ past_fraction w p
      fraction_is d =
          digits ∙ sym (point_there (eq-eqb (at w p) 46 (sym read ∙ point)) (omega (arith, from_le (λ c. not (digit c)) w (p + 1))))
