-- What the tests mean.
-- Assumes nothing.
use Rattle.std.specs.Prelude.{◌≡◌, refl, Bool, true, false, not, ◌⊎◌, List, [], ◌∷◌, ℕ, suc, ◌≤◌, ◌<◌, T, leb, ltb, eqb}
use Rattle.std.proofs.Common.{inl, inr, arith, T_not, leb→le, le→leb, eqb→eq}
use Rattle.std.proofs.Math.Dec.{not_T, eqb_refl}
use Rattle.lists.specs.Tests.{both, either, within, same}

-- a test with the fact that it passes, or that it fails
pub data Test (b : Bool) : Type 0 where
  pass : T b → b ≡ true → Test b
  fail : T (not b) → b ≡ false → Test b

pub test : (b : Bool) → Test b
test true = pass tt refl
test false = fail tt refl

pub true_of : (b : Bool) → T b → b ≡ true
true_of true t = refl
true_of false t = absurd t

pub false_of : (b : Bool) → T (not b) → b ≡ false
false_of true t = absurd t
false_of false t = refl

-- a test that doesn't fail passes
pub twice : (b : Bool) → T (not (not b)) → T b
twice true t = t
twice false t = t

-- no test passes and fails
pub never : {A : Type 0} {b : Bool} → b ≡ true → b ≡ false → A
never e f = let z : ◌≡◌ {A = ℕ} 0 1 = cc in absurd (omega arith)

-- the test b passes exactly where P holds
pub record Means (b : Bool) (P : Type 0) : Type 0 where
  pub says : T b → P
  pub shows : P → T b

pub means_itself : (b : Bool) → Means b (T b)
means_itself b = record { says = λ t. t; shows = λ t. t }

-- tests that mean the same are one
pub means_one : {a b : Bool} {P Q : Type 0} → Means a P → Means b Q → (P → Q) → (Q → P) → a ≡ b
means_one {a = true} {b = true} p q f g = refl
means_one {a = true} {b = false} p q f g = absurd (q.shows (f (p.says tt)))
means_one {a = false} {b = true} p q f g = absurd (p.shows (g (q.says tt)))
means_one {a = false} {b = false} p q f g = refl

-- a test that means P decides P
pub decide : {b : Bool} {P : Type 0} → Means b P → P ⊎ (P → ⊥)
decide {b = true} m = inl (m.says tt)
decide {b = false} m = inr m.shows

-- a passed and a failed test
pub passes : (a b : Bool) → T (both a b) → T a × T b
passes true b t = (tt, t)
passes false b t = absurd t

pub both_pass : (a b : Bool) → T a → T b → T (both a b)
both_pass true b s t = t
both_pass false b s t = absurd s

pub means_both : {a b : Bool} {P Q : Type 0} → Means a P → Means b Q → Means (both a b) (P × Q)
means_both {a} {b} p q =
    record {
      says = λ t. let x = passes a b t in (p.says x.0, q.says x.1);
      shows = λ x. both_pass a b (p.shows x.0) (q.shows x.1);
    }

pub means_either : {a b : Bool} {P Q : Type 0} → Means a P → Means b Q → Means (either a b) (P ⊎ Q)
means_either {a = true} p q = record { says = λ t. inl (p.says tt); shows = λ x. tt }
means_either {a = false} {b} p q =
    record { says = λ t. inr (q.says t); shows = λ x. elim x [ inl u ↦ absurd (p.shows u) | inr w ↦ q.shows w ] }

pub means_not : {a : Bool} {P : Type 0} → Means a P → Means (not a) (P → ⊥)
means_not {a} p = record { says = λ t u. T_not a t (p.shows u); shows = λ f. not_T a (λ t. f (p.says t)) }

pub means_eq : (x y : ℕ) → Means (eqb x y) (x ≡ y)
means_eq x y = record { says = eqb→eq x y; shows = λ e. rw e (eqb_refl y) }

pub means_le : (x y : ℕ) → Means (leb x y) (x ≤ y)
means_le x y = record { says = leb→le x y; shows = le→leb x y }

pub means_lt : (x y : ℕ) → Means (ltb x y) (x < y)
means_lt x y = means_le (suc x) y

pub means_within : (a b x : ℕ) → Means (within a b x) ((a ≤ x) × (x ≤ b))
means_within a b x = means_both (means_le a x) (means_le x b)

-- lists that agree in length and in every entry are equal
pub means_same : (xs ys : List ℕ) → Means (same xs ys) (xs ≡ ys)
unfolding same
means_same [] [] = record { says = λ t. refl; shows = λ e. tt }
means_same [] (y ∷ ys) = record { says = λ t. absurd t; shows = λ e. let z : ◌≡◌ {A = ℕ} 0 1 = cc in omega arith }
means_same (x ∷ xs) [] = record { says = λ t. absurd t; shows = λ e. let z : ◌≡◌ {A = ℕ} 0 1 = cc in omega arith }
means_same (x ∷ xs) (y ∷ ys) =
    let m = means_both (means_eq x y) (means_same xs ys) in
    record { says = λ t. let (p, q) = m.says t in cc; shows = λ e. m.shows ((cc), (cc)) }

-- a number is 0 or it isn't
pub zero_or : (x : ℕ) → (x ≡ 0) ⊎ (x ≡ 0 → ⊥)
zero_or x = decide (means_eq x 0)

-- a test that is decided, in other words
pub means_true : {P : Type 0} → P → Means true P
means_true p = record { says = λ t. p; shows = λ q. tt }

pub means_false : {P : Type 0} → (P → ⊥) → Means false P
means_false f = record { says = λ t. absurd t; shows = f }

pub means_by : {b : Bool} {P Q : Type 0} → Means b P → (P → Q) → (Q → P) → Means b Q
means_by m f g = record { says = λ t. f (m.says t); shows = λ q. m.shows (g q) }

-- what a test that was passed, or failed, says
pub passed : {b : Bool} {P : Type 0} → Means b P → b ≡ true → P
passed m e = m.says (rw e tt)

pub failed : {b : Bool} {P : Type 0} → Means b P → b ≡ false → P → ⊥
failed m e p = rw e at (m.shows p)
