-- Counting three: the count reaches 3 exactly where three different places pass.
-- Assumes nothing.
use Rattle.std.specs.Prelude.{◌≡◌, Bool, ℕ, ◌≤◌, ◌<◌, T}
use Rattle.std.proofs.Common.{arith}
use Rattle.lists.specs.Search.{count}
use Rattle.lists.specs.SearchLaws.{count_last, count_lt, count_inj}

-- three places below n that pass
pub record Three (p : ℕ → Bool) (n : ℕ) : Type 0 where
  pub low : ℕ
  pub mid : ℕ
  pub high : ℕ
  pub low_mid : low < mid
  pub mid_high : mid < high
  pub high_below : high < n
  pub low_passes : T (p low)
  pub mid_passes : T (p mid)
  pub high_passes : T (p high)

module _ (p : ℕ → Bool) (n : ℕ) where
  pub three : 3 ≤ count p n → Three p n
  three h =
      let (i, a, x, e) = count_last p n (omega arith) in
      let (j, b, y, f) = count_last p i (omega arith) in
      let (k, c, z, g) = count_last p j (omega arith) in
      record {
        low = k;
        mid = j;
        high = i;
        low_mid = c;
        mid_high = b;
        high_below = a;
        low_passes = z;
        mid_passes = y;
        high_passes = x;
      }

  pub three_counted : (i j k : ℕ) → i < n → j < n → k < n → T (p i) → T (p j) → T (p k) → (i ≡ j → ⊥) → (i ≡ k → ⊥) → (j ≡ k → ⊥) → 3 ≤ count p n
  three_counted i j k a b c x y z d e f =
      let u : count p i ≡ count p j → ⊥ = λ q. d (count_inj p i j x y q) in
      let v : count p i ≡ count p k → ⊥ = λ q. e (count_inj p i k x z q) in
      let w : count p j ≡ count p k → ⊥ = λ q. f (count_inj p j k y z q) in
      omega (arith, count_lt p i n a x, count_lt p j n b y, count_lt p k n c z)
