-- Counts compared: where each place that passes one test has for its own a place that passes another, no more pass the one.
-- Assumes nothing.
use Rattle.std.specs.Prelude.{◌≡◌, refl, Bool, not, T, eqb}
use Prim.Native.Nat.{ℕ, zero, suc, ◌≤◌, ◌<◌}
use native.Mathlib.Omega.{arith}
use Rattle.std.proofs.Math.Dec.{not_T}
use Rattle.lists.specs.Tests.{both}
use Rattle.lists.specs.TestLaws.{Test, pass, fail, test, false_of, Means, means_itself, means_both, means_not, means_eq}
use Rattle.lists.specs.Search.{count}
use Rattle.lists.specs.SearchLaws.{count_pass, count_fail, count_drop}

-- a test with the place c left out
module _ (q : ℕ → Bool) (c : ℕ) where
  but : ℕ → Bool
  but j = both (not (eqb j c)) (q j)

  means_but : (j : ℕ) → Means (but j) ((j ≡ c → ⊥) × T (q j))
  unfolding but
  means_but j = means_both (means_not (means_eq j c)) (means_itself (q j))

  count_but : (n : ℕ) → c < n → T (q c) → suc (count but n) ≡ count q n
  unfolding but
  count_but n h t =
      count_drop q but n c h t (not_T (but c) (λ u. ((means_but c).says u).0 refl))
      (λ j d. rw (false_of (eqb j c) ((means_not (means_eq j c)).shows d)) refl)

-- own i j: the place j is that of i alone
module _ (own : ℕ → ℕ → Type 0) (alone : (i k j : ℕ) → own i j → own k j → i ≡ k) (p : ℕ → Bool) (n : ℕ) where
  -- each place below m that passes p has one below n that passes q
  abbrev Matched : (ℕ → Bool) → ℕ → Type 0
  Matched q m = (i : ℕ) → i < m → T (p i) → (j : ℕ) × (j < n) × T (q j) × own i j

  pub count_matched : (q : ℕ → Bool) (m : ℕ) → Matched q m → count p m ≤ count q n
  unfolding count
  count_matched q zero f = omega arith
  count_matched q (suc m) f = go (test (p m)) (λ r. count_matched r m)
    where
      go : Test (p m) → ((r : ℕ → Bool) → Matched r m → count p m ≤ count r n) → count p (suc m) ≤ count q n
      go (fail t e) less = omega (arith, count_fail p m t, less q (λ i h. f i (omega arith)))
      go (pass t e) less =
          let (c, h, u, o) = f m (omega arith) t in
          let others : Matched (but q c) m = λ i k v.
          let (j, l, w, o') = f i (omega arith) v in
          (j, l, (means_but q c j).shows ((λ z. omega (arith, alone i m c (rw z at o') o)), w), o') in
          omega (arith, count_pass p m t, count_but q c n h u, less (but q c) others)
