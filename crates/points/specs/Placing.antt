-- A point in a list of points: three numbers in a row.
-- Assumes nothing.
use Rattle.std.specs.Prelude.{◌≡◌, refl, List, [], ◌∷◌, ◌++◌, ℕ, zero, suc, ◌+◌, ◌*◌, ◌-◌, ◌≤◌, Float, length, take, drop, set, get_or}
use Rattle.std.proofs.Common.{ap, arith}
use Rattle.std.specs.Float.{nan}
use Rattle.edit_rules.specs.Split.{midway, coordinate, midpoint, with_point}
use Rattle.edit_rules.specs.Contract.{point_of, float_zero, without_point}

-- three numbers stored one after the other
stored : (i : ℕ) (P : List Float) (x y z : Float) → i + 3 ≤ length P
    → set (set (set P i x) (suc i) y) (suc (suc i)) z ≡ take i P ++ (x ∷ y ∷ z ∷ drop (suc (suc (suc i))) P)
stored zero (a ∷ b ∷ c ∷ r) x y z h = refl
stored zero [] x y z h = absurd (omega arith)
stored zero (a ∷ []) x y z h = absurd (omega arith)
stored zero (a ∷ b ∷ []) x y z h = absurd (omega arith)
stored (suc i) [] x y z h = absurd (omega arith)
stored (suc i) (a ∷ r) x y z h = ap (λ (w : List Float). a ∷ w) (stored i r x y z (omega arith))

-- put after the points of n vertices, n being i as an index
pub point_put : (n : ℕ) {i : ℕ} (x y z : Float) (P : List Float) → i ≡ n → 3 * n + 3 ≤ length P
    → set (set (set P (3 * i) x) (3 * i + 1) y) (3 * i + 2) z ≡ with_point n (x ∷ y ∷ z ∷ []) P
unfolding with_point
point_put n {i} x y z P e h =
    let second : 3 * n + 1 ≡ suc (3 * n) = omega arith in
    let third : 3 * n + 2 ≡ suc (suc (3 * n)) = omega arith in
    let end : 3 * n + 3 ≡ suc (suc (suc (3 * n))) = omega arith in
    rw (e, second, third, end) (stored (3 * n) P x y z h)

-- number k of the point of v, where i is v - 1 as an index
pub point_got : (v : ℕ) {i : ℕ} (P : List Float) → i ≡ v - 1 → (k j : ℕ) → j ≡ 3 * i + k → get_or P j nan ≡ coordinate P v k
unfolding coordinate
point_got v P e k j f = let g : j ≡ 3 * (v - 1) + k = omega arith in ap (λ (p : ℕ). get_or P p nan) g

-- x, y and z are the point of v
abbrev Point : List Float → ℕ → Float → Float → Float → Type 0
Point P v x y z = (x ≡ coordinate P v 0) × (y ≡ coordinate P v 1) × (z ≡ coordinate P v 2)

-- three numbers midway between those of a and b are the midpoint
pub middle : (P : List Float) (a b : ℕ) {x y z x₁ y₁ z₁ x₂ y₂ z₂ : Float} → Point P a x₁ y₁ z₁ → Point P b x₂ y₂ z₂
    → (x ≡ midway x₁ x₂) × (y ≡ midway y₁ y₂) × (z ≡ midway z₁ z₂) → x ∷ y ∷ z ∷ [] ≡ midpoint P a b
unfolding midpoint
middle P a b (d, e, f) (g, h, i) (j, k, l) = rw (j, k, l, d, e, f, g, h, i) refl

-- the point of n put in the place of that of b, and zeros in its own
pub closed : (n b : ℕ) (P : List Float) {Q R : List Float} {x y z : Float} → Point P n x y z
    → Q ≡ with_point (b - 1) (x ∷ y ∷ z ∷ []) P → R ≡ with_point (n - 1) (float_zero ∷ float_zero ∷ float_zero ∷ []) Q → R ≡ without_point n b P
unfolding without_point point_of
closed n b P (d, e, f) q r = rw (r, q, d, e, f) refl
