-- Numbers from 1 to m that all differ are at most m.
-- Assumes nothing.
use Rattle.std.specs.Prelude.{◌≡◌, true, false, ℕ, zero, suc, ◌≤◌, eqb}
use Rattle.std.proofs.Common.{sym, ◌∙◌, arith}
use Rattle.lists.specs.TestLaws.{Test, pass, fail, test, means_not, means_eq}

-- f with its value at the last place put where f is m
without : ℕ → (ℕ → ℕ) → ℕ → ℕ
without m f i = elim (eqb (f i) m) [ true ↦ f m | false ↦ f i ]

data Without (m : ℕ) (f : ℕ → ℕ) (i r : ℕ) : Type 0 where
  moved : f i ≡ m → r ≡ f m → Without m f i r
  stays : (f i ≡ m → ⊥) → r ≡ f i → Without m f i r

without_is : (m : ℕ) (f : ℕ → ℕ) (i : ℕ) → Without m f i (without m f i)
unfolding without
without_is m f i = go (test (eqb (f i) m))
  where
    go : Test (eqb (f i) m) → Without m f i (without m f i)
    go (pass t e) = moved ((means_eq (f i) m).says t) (rw (e, without))
    go (fail t e) = stays ((means_not (means_eq (f i) m)).says t) (rw (e, without))

-- m + 1 numbers from 1 to m don't all differ: of m + 2 numbers up to m + 1, take m + 1 away
pub crowded : (m : ℕ) (f : ℕ → ℕ) → ((i : ℕ) → i ≤ m → (1 ≤ f i) × (f i ≤ m)) → ((i j : ℕ) → i ≤ m → j ≤ m → f i ≡ f j → i ≡ j) → ⊥
crowded zero f inside apart = omega (arith, inside 0 (omega arith))
crowded (suc m) f inside apart = crowded m (without (suc m) f) (λ i h. within' i h (without_is (suc m) f i)) (λ i j h k. apart' i j h k (without_is (suc m) f i) (without_is (suc m) f j))
  where
    within' : (i : ℕ) → i ≤ m → {r : ℕ} → Without (suc m) f i r → (1 ≤ r) × (r ≤ m)
    within' i h (moved e q) =
        let d : f (suc m) ≡ suc m → ⊥ = λ z. omega (arith, apart i (suc m) (omega arith) (omega arith) (e ∙ sym z)) in
        omega (arith, inside (suc m) (omega arith))
    within' i h (stays d q) = omega (arith, inside i (omega arith))

    apart' : (i j : ℕ) → i ≤ m → j ≤ m → {r q : ℕ} → Without (suc m) f i r → Without (suc m) f j q → r ≡ q → i ≡ j
    apart' i j h k (moved e p) (moved f q) s = apart i j (omega arith) (omega arith) (e ∙ sym f)
    apart' i j h k (stays e p) (stays f q) s = apart i j (omega arith) (omega arith) (sym p ∙ s ∙ q)
    apart' i j h k (moved e p) (stays f q) s = omega (arith, apart (suc m) j (omega arith) (omega arith) (sym p ∙ s ∙ q))
    apart' i j h k (stays e p) (moved f q) s = omega (arith, apart i (suc m) (omega arith) (omega arith) (sym p ∙ s ∙ q))
