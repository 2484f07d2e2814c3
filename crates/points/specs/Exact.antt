-- The midpoint of whole numbers, document 02, point 6: "Where both are whole numbers from −2^52 to 2^52 the result is exactly half their sum".
-- Assumes nothing.
use Rattle.std.specs.Prelude.{◌≡◌, refl, Bool, not, cond, ◌&&◌, ◌⊎◌, ℕ, zero, suc, ◌+◌, ◌*◌, ◌-◌, ◌^◌, ◌≤◌, ◌<◌, T, ltb, ℤ, pos, negsuc, neg_ℤ, nat_abs, ◌+ℤ◌, Float}
use Rattle.std.proofs.Common.{ap, sym, subst, ◌∙◌, inl, inr, lt_trans, mul-one, add-mul, mul_assoc, mul_comm, mul-pos, le_of_mul-le-mul_right, arith, lit<, shl_lt}
use Rattle.std.proofs.Math.Bool.{true, false, not-not}
use Rattle.std.proofs.Math.IntN.{+ℤ_comm, neg_ℤ-neg_ℤ, neg_ℤ-+ℤ}
use Rattle.std.specs.Float.{nan, inf, fin, binary64}
use Rattle.std.specs.Float.Ieee.{unlike, up, down, round, sum, add, mul, of_int}
use Rattle.std.specs.Float.Ieee.Fits.{down_pos}
use Rattle.std.specs.Float.Ieee.Exact.{HasValue, round_exact}
use Rattle.std.specs.Float.Ieee.Scale.{round_same}
use Rattle.std.specs.Float.Ieee.Back.{round_whole}
use Rattle.lists.specs.TestLaws.{Test, pass, fail, test, false_of, means_not, means_lt}
use Rattle.lists.specs.SearchLaws.{lt_or_eq}
use Rattle.edit_rules.specs.Split.{one_half, midway}

-- the integer of a sign, true for −, and a size; −0 is 0
abbrev pub signed : Bool → ℕ → ℤ
signed false a = pos a
signed true a = neg_ℤ (pos a)

-- x is finite, and it is z / c
pub record Equals (x : Float) (z : ℤ) (c : ℕ) : Type 0 where
  pub sign : Bool
  pub size : ℕ
  pub value : HasValue x sign size c
  pub is : signed sign size ≡ z

-- sums of integers by their signs and sizes
size_of : (s : Bool) (a : ℕ) → nat_abs (signed s a) ≡ a
size_of false a = refl
size_of true zero = refl
size_of true (suc a) = refl

sum_alike : (s : Bool) (a b : ℕ) → signed s (a + b) ≡ signed s a +ℤ signed s b
sum_alike false a b = refl
sum_alike true a b = neg_ℤ-+ℤ (pos a) (pos b)

less : (a b : ℕ) → b ≤ a → pos (a - b) ≡ pos a +ℤ neg_ℤ (pos b)
less a zero h = ap pos (omega arith)
less a (suc b) h = rw (false_of (ltb a (suc b)) ((means_not (means_lt a (suc b))).shows (λ l. omega arith))) refl

sum_unlike : (s : Bool) (a b : ℕ) → b ≤ a → signed s (a - b) ≡ signed s a +ℤ signed (not s) b
sum_unlike false a b h = less a b h
sum_unlike true a b h =
    ap neg_ℤ (less a b h) ∙ neg_ℤ-+ℤ (pos a) (neg_ℤ (pos b)) ∙ ap (λ (z : ℤ). neg_ℤ (pos a) +ℤ z) (neg_ℤ-neg_ℤ (pos b))

-- a 0 of either sign is 0
sign_kept : (s t : Bool) (k : ℕ) → (T (not t) → k ≡ 0) → signed (s && t) k ≡ signed s k
sign_kept false t k h = refl
sign_kept true true k h = refl
sign_kept true false k h = rw (h tt) refl

-- a fraction that is a whole number of at most 2^53, or half of one, is kept by rounding
round_one : (s : Bool) (k num den : ℕ) → 0 < den → num ≡ k * den → k ≤ 2 ^ 53 → HasValue (round binary64 s num den) s k 1
round_one s k num den p e h =
    let same = round_same binary64 s num den k 1 p (omega arith) (omega arith) in
    subst (λ (x : Float). HasValue x s k 1) (sym same) (round_whole binary64 s k h)

half_exact : (s : Bool) (k : ℕ) → k ≤ 2 ^ 53 → HasValue (round binary64 s k 2) s k 2
half_exact s k h = go (lt_or_eq k (2 ^ 53) (omega arith))
  where
    go : (k < 2 ^ 53) ⊎ (k ≡ 2 ^ 53) → HasValue (round binary64 s k 2) s k 2
    go (inl l) = round_exact binary64 s k 2 k 1073 (omega arith) l (lt_trans (shl_lt 53 1073 l) (lit< tt)) (sym (mul_assoc k (2 ^ 1073) 2))
    go (inr e) = rw e (round_exact binary64 s (2 ^ 53) 2 1 1126 (omega arith) (lit< tt) (lit< tt) refl)

round_half : (s : Bool) (k num den : ℕ) → 0 < den → num * 2 ≡ k * den → k ≤ 2 ^ 53 → HasValue (round binary64 s num den) s k 2
round_half s k num den p e h =
    let same = round_same binary64 s num den k 2 p (omega arith) e in
    subst (λ (x : Float). HasValue x s k 2) (sym same) (half_exact s k h)

-- half of a float that is a whole number
own_sign : (s : Bool) → unlike s false ≡ s
own_sign true = refl
own_sign false = refl

halved : (x : Float) (s : Bool) (k : ℕ) → HasValue x s k 1 → k ≤ 2 ^ 53 → HasValue (mul binary64 x one_half) s k 2
unfolding mul
halved nan s k v h = absurd v
halved (inf t) s k v h = absurd v
halved (fin t m e) s k (i, v) h =
    let p : 0 < down e * 2 = omega (arith, down_pos e) in
    let twice : m * up e * 1 * 2 ≡ k * (down e * 2) = ap (λ (a : ℕ). a * 2) v ∙ mul_assoc k (down e) 2 in
    rw (sym i ∙ sym (own_sign t)) (round_half (unlike t false) k (m * up e * 1) (down e * 2) p twice h)

-- fractions of one denominator: a difference, and which is the lesser
apart : (a b c : ℕ) → b ≤ a → a * c - b * c ≡ (a - b) * c
apart a b c h = let e : a - b + b ≡ a = omega arith in omega (arith, add-mul (a - b) b c, ap (λ (k : ℕ). k * c) e)

lesser : (a b : ℕ) {A B c : ℕ} → A ≡ a * c → B ≡ b * c → 0 < c → A ≤ B → a ≤ b
lesser a b i j p h = le_of_mul-le-mul_right (omega arith) p

-- x is the whole number z, and its size is at most 2^53
abbrev Total : Float → ℤ → Type 0
Total x z = (e : Equals x z 1) × (e.size ≤ 2 ^ 53)

-- the sum of two fractions that are whole numbers, a and b in size
module _ (a b A B c : ℕ) (positive : 0 < c) (one : A ≡ a * c) (other : B ≡ b * c) (small : a ≤ 2 ^ 52) (small' : b ≤ 2 ^ 52) where
  total : {z : ℤ} (s : Bool) (k num : ℕ) → num ≡ k * c → k ≤ a + b → signed s k ≡ z → Total (round binary64 s num c) z
  total s k num e h i = (record { sign = s; size = k; value = round_one s k num c positive e (omega arith); is = i }, omega arith)

  total_alike : (s : Bool) → Total (round binary64 s (A + B) c) (signed s a +ℤ signed s b)
  total_alike s = total s (a + b) (A + B) (omega (arith, add-mul a b c)) (omega arith) (sum_alike s a b)

  -- the sum where the signs differ
  abbrev difference : Bool → Float
  difference s = cond (ltb A B) (round binary64 (not s) (B - A) c) (round binary64 (s && ltb B A) (A - B) c)

  total_unlike : (s : Bool) → Total (difference s) (signed s a +ℤ signed (not s) b)
  total_unlike s = go (test (ltb A B))
    where
      go : Test (ltb A B) → Total (difference s) (signed s a +ℤ signed (not s) b)
      go (pass t e) =
          let h = lesser a b one other positive (omega (arith, (means_lt A B).says t)) in
          let i = sum_unlike (not s) b a h ∙ +ℤ_comm (signed (not s) b) (signed (not (not s)) a) in
          rw e (total (not s) (b - a) (B - A) (omega (arith, apart b a c h)) (omega arith) (rw (not-not s) at i))
      go (fail t e) =
          let h = lesser b a other one positive (omega (arith, (means_not (means_lt A B)).says t)) in
          let i = sign_kept s (ltb B A) (a - b) none ∙ sum_unlike s a b h in
          rw e (total (s && ltb B A) (a - b) (A - B) (omega (arith, apart a b c h)) (omega arith) i)
        where
          none : T (not (ltb B A)) → a - b ≡ 0
          none u = omega (arith, lesser a b one other positive (omega (arith, (means_not (means_lt B A)).says u)))

  sum_total : (s t : Bool) → Total (sum binary64 s A t B c) (signed s a +ℤ signed t b)
  unfolding sum
  sum_total true true = total_alike true
  sum_total true false = total_unlike true
  sum_total false true = total_unlike false
  sum_total false false = total_alike false

scaled : (q a c d : ℕ) → q * 1 ≡ a * c → q * d ≡ a * (c * d)
scaled q a c d e = ap (λ (k : ℕ). k * d) (sym (mul-one q) ∙ e) ∙ mul_assoc a c d

add_total : (x y : Float) {i j : ℤ} (v : Equals x i 1) (w : Equals y j 1) → v.size ≤ 2 ^ 52 → w.size ≤ 2 ^ 52 → Total (add binary64 x y) (i +ℤ j)
unfolding add
add_total nan y v w h k = absurd v.value
add_total (inf s) y v w h k = absurd v.value
add_total (fin s m e) nan v w h k = absurd w.value
add_total (fin s m e) (inf t) v w h k = absurd w.value
add_total (fin s m e) (fin t n d) v w h k =
    let (p, f) = v.value in
    let (q, g) = w.value in
    let one = scaled (m * up e) v.size (down e) (down d) f in
    let other = scaled (n * up d) w.size (down d) (down e) g ∙ ap (λ (c : ℕ). w.size * c) (mul_comm (down d) (down e)) in
    rw (← v.is, ← w.is, ← p, ← q) (sum_total _ _ _ _ (down e * down d) (mul-pos (down_pos e) (down_pos d)) one other h k s t)

-- "Where both are whole numbers from −2^52 to 2^52 the result is exactly half their sum"
pub midway_exact : (x y : Float) (i j : ℤ) → Equals x i 1 → Equals y j 1 → nat_abs i ≤ 2 ^ 52 → nat_abs j ≤ 2 ^ 52 → Equals (midway x y) (i +ℤ j) 2
unfolding midway
midway_exact x y i j v w h k =
    let (e, l) = add_total x y v w (bounded v h) (bounded w k) in
    record { sign = e.sign; size = e.size; value = halved (add binary64 x y) e.sign e.size e.value l; is = e.is }
  where
    bounded : {x : Float} {i : ℤ} (v : Equals x i 1) → nat_abs i ≤ 2 ^ 52 → v.size ≤ 2 ^ 52
    bounded v h = omega (arith, size_of v.sign v.size, ap nat_abs v.is)

-- there is a float for each of these whole numbers
pub whole_there : (i : ℤ) → nat_abs i ≤ 2 ^ 52 → Equals (of_int binary64 i) i 1
unfolding of_int
whole_there (pos n) h = record { sign = false; size = n; value = round_whole binary64 false n (omega arith); is = refl }
whole_there (negsuc n) h = record { sign = true; size = suc n; value = round_whole binary64 true (suc n) (omega arith); is = refl }
