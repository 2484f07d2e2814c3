-- Laws of digits: how many there are, and how large the number is that they write.
-- Assumes nothing.
use Rattle.std.specs.Prelude.{not, List, ◌⊎◌, ◌≡◌, refl, ℕ, zero, suc, ◌+◌, ◌*◌, ◌-◌, ◌^◌, ◌≤◌, ◌<◌, T, length}
use Rattle.std.proofs.Common.{inl, inr, add-one, arith}
use Rattle.std.proofs.Math.ListN.{get_or-eq_default}
use Rattle.lists.specs.Search.{at}
use Rattle.lists.specs.SearchLaws.{least_is, le_or_lt}
use Rattle.lists.specs.TestLaws.{means_within}
use Rattle.digits.specs.Digits.{digit, run, value}

pub run_le : (t : List ℕ) (p : ℕ) → run t p ≤ 8
unfolding run
run_le t p = (least_is (λ i. not (digit (at t (p + i)))) 8).bound

-- a digit stands before the end
pub digit_inside : (t : List ℕ) (p : ℕ) → T (digit (at t p)) → p < length t
digit_inside t p d = go (le_or_lt (length t) p)
  where
    go : (length t ≤ p) ⊎ (p < length t) → p < length t
    go (inl h) = absurd (omega (arith, ((means_within 48 57 (at t p)).says d).0, get_or-eq_default t 0 h))
    go (inr h) = h

-- one digit more
pub value_more : (t : List ℕ) (p i : ℕ) {x b d : ℕ} → x ≡ value t p i → b ≡ at t (p + i) → d ≡ b - 48 → 10 * x + d ≡ value t p (i + 1)
unfolding value
value_more t p i e f g = rw add-one (omega arith)

-- texts that agree from a place on have the same numbers there
pub value_same : (t u : List ℕ) (p q k : ℕ) → ((j : ℕ) → j < k → at t (p + j) ≡ at u (q + j)) → value t p k ≡ value u q k
unfolding value
value_same t u p q zero h = refl
value_same t u p q (suc k) h = rw (value_same t u p q k (λ j l. h j (omega arith)), h k (omega arith))

-- k digits write a number of k digits
pub value_below : (t : List ℕ) (p k : ℕ) → ((j : ℕ) → j < k → T (digit (at t (p + j)))) → value t p k < 10 ^ k
unfolding value
value_below t p zero h = omega arith
value_below t p (suc k) h =
    omega (arith, value_below t p k (λ j l. h j (omega arith)), ((means_within 48 57 (at t (p + k))).says (h k (omega arith))).1)

power_up : (k i : ℕ) → i + k ≡ 7 → 10 ^ i ≤ 10_000_000
power_up zero i e = let q : i ≡ 7 = omega arith in rw q (omega arith)
power_up (suc k) i e = omega (arith, power_up k (suc i) (omega arith))

-- seven digits write a number below 10^7
pub value_seven : (t : List ℕ) (p k : ℕ) → k ≤ 7 → ((j : ℕ) → j < k → T (digit (at t (p + j)))) → value t p k < 10_000_000
value_seven t p k h f = omega (arith, value_below t p k f, power_up (7 - k) k (omega arith))
