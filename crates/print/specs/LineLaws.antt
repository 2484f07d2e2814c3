-- Laws of the printed lines.
-- Assumes nothing.
use Rattle.std.specs.Prelude.{Bool, true, false, ◌≡◌, refl, ℕ, zero, suc, ◌+◌, ◌*◌, ◌-◌, ◌/◌, ◌%◌, ◌^◌, ◌≤◌, ◌<◌, ltb, eqb, length, take, drop, set}
use mathlib.Core.List.{List, [], ◌∷◌, ◌++◌}
use Rattle.std.proofs.Math.Path.{ap}
use Rattle.std.proofs.Common.{◌∙◌, add-zero, add-one, arith, lt-ltb, le-ltb, eq-eqb, ne_eqb, nltb→le, length-append, take_at}
use Rattle.std.proofs.Math.Nat.{pow-succ'}
use Rattle.std.proofs.lemmas.List.Edits.{sets, sets-eq}
use Rattle.std.proofs.Math.Seq.{length-sets}
use Rattle.lists.specs.TestLaws.{Test, pass, fail, test, means_lt}
use Rattle.print.specs.Lines.{width_of, row_line, last_digits, digits, joined, Written, Counts, shown_if, has_room}

-- room for more digits than there are changes nothing
last_one : (k x : ℕ) → x < 10 → last_digits (suc k) x ≡ (48 + x) ∷ []
unfolding last_digits
last_one k x h = rw (lt-ltb x 10 h, last_digits)

last_more : (k x : ℕ) → 10 ≤ x → last_digits (suc k) x ≡ last_digits k (x / 10) ++ ((48 + x % 10) ∷ [])
unfolding last_digits
last_more k x h = rw (le-ltb x 10 h, last_digits)

enough : (k l x : ℕ) → x < k → x < l → last_digits k x ≡ last_digits l x
enough zero l x h g = absurd (omega arith)
enough (suc k) zero x h g = absurd (omega arith)
enough (suc k) (suc l) x h g = go (test (ltb x 10)) (λ p q. enough k l (x / 10) p q)
  where
    go : Test (ltb x 10) → (x / 10 < k → x / 10 < l → last_digits k (x / 10) ≡ last_digits l (x / 10)) → last_digits (suc k) x ≡ last_digits (suc l) x
    go (pass t e) r = let d = (means_lt x 10).says t in rw (last_one k x d, last_one l x d)
    go (fail t e) r = let d = nltb→le x 10 t in rw (last_more k x d, last_more l x d, r (omega arith) (omega arith))

module _ (x : ℕ) where
  pub digits_one : x < 10 → digits x ≡ (48 + x) ∷ []
  unfolding digits
  digits_one h = last_one x x h

  pub digits_more : 10 ≤ x → digits x ≡ digits (x / 10) ++ ((48 + x % 10) ∷ [])
  unfolding digits
  digits_more h = last_more x x h ∙ ap (λ (s : List ℕ). s ++ ((48 + x % 10) ∷ [])) (enough x (suc (x / 10)) (x / 10) (omega arith) (omega arith))

-- a number below 10 ^ (k + 1) has at most k + 1 digits
pub digits_le : (k x : ℕ) → x < 10 ^ suc k → length (digits x) ≤ suc k
digits_le zero x h = rw (digits_one x h) (omega arith)
digits_le (suc k) x h = go (test (ltb x 10)) (λ g. digits_le k (x / 10) g)
  where
    go : Test (ltb x 10) → (x / 10 < 10 ^ suc k → length (digits (x / 10)) ≤ suc k) → length (digits x) ≤ suc (suc k)
    go (pass t e) r = rw (digits_one x ((means_lt x 10).says t)) (omega arith)
    go (fail t e) r =
        rw (digits_more x (nltb→le x 10 t), length-append) (omega (arith, r (omega (arith, pow-succ' 10 (suc k)))))

pub ten_digits : (x : ℕ) → x < 2 ^ 32 → length (digits x) ≤ 10
ten_digits x h = digits_le 9 x (omega arith)

-- what is written after what was written
sets_append : (vs ws l : List ℕ) (i : ℕ) → sets (sets l i vs) (i + length vs) ws ≡ sets l i (vs ++ ws)
sets_append [] ws l i = rw add-zero
sets_append (v ∷ vs) ws l i =
    let e : i + suc (length vs) ≡ suc i + length vs = omega arith in rw e (sets_append vs ws (set l i v) (suc i))

pub written_next : (l s v : List ℕ) (i : ℕ) {w x : List ℕ} {p q : ℕ} → Written l i s w p → Written w p v x q → Written l i (s ++ v) x q
written_next l s v i (e, f) (g, h) = (rw length-append (omega arith), h ∙ rw (e, f) (sets_append s v l i))

pub joined_next : (f : ℕ → List ℕ) (k : ℕ) (l : List ℕ) (i : ℕ) {w x : List ℕ} {p q : ℕ} → Written l i (joined f k) w p → Written w p (f k) x q → Written l i (joined f (k + 1)) x q
unfolding joined
joined_next f k l i a b = rw add-one (written_next l (joined f k) (f k) i a b)

-- what is printed at the start of a buffer
pub printed : (l s : List ℕ) → length s ≤ length l → take (length s) (sets l 0 s) ≡ s
printed l s h = rw (sets-eq s l 0 (omega arith)) (take_at s (drop (0 + length s) l) (length s) refl)

-- with room all is shown
pub has_room_lem : (size p k : ℕ) → 11 * (k + 1) ≤ size - p → has_room size p k ≡ true
has_room_lem size p k h = lt-ltb k ((size - p) / 11) (omega arith)

pub no_room : (size p k : ℕ) → (size - p) / 11 ≤ k → has_room size p k ≡ false
no_room size p k h = le-ltb k ((size - p) / 11) h

pub nothing_shown : (l s : List ℕ) (p : ℕ) {b : Bool} → b ≡ false → Written l p (shown_if b s) l p
nothing_shown l s p e = rw e (omega arith, refl)

-- what is written at the start of a buffer can be lent
pub counts : (l s : List ℕ) {w : List ℕ} {r : ℕ} → r ≤ length l → Written l 0 s w r → Counts r w
counts l s {r} h (e, f) =
    let n : r ≡ length s = omega arith in
    let g : length s ≤ length l = omega arith in
    rw (n, f, printed l s g) (omega (arith, length-sets l 0 s), refl)

-- a table's width by its columns, its rows within it, and their lines by width and number
pub width_three : {c : ℕ} → c ≡ 3 → width_of c ≡ 3
width_three {c} e = rw (eq-eqb c 3 e, width_of)

pub width_four : {c : ℕ} → (c ≡ 3 → ⊥) → width_of c ≡ 4
width_four {c} d = rw (ne_eqb c 3 d, width_of)

pub rows_inside : (c l : ℕ) {w m : ℕ} → w ≡ width_of c → m ≡ l / width_of c → (w ≤ 4) × ((k : ℕ) → k < m → w * k + w ≤ l)
rows_inside c l e f = rw (e, f) (go (eqb c 3))
  where
    go : (b : Bool) → let w : ℕ = elim b [ true ↦ 3 | false ↦ 4 ] in (w ≤ 4) × ((k : ℕ) → k < l / w → w * k + w ≤ l)
    go true = (omega arith, λ k h. omega arith)
    go false = (omega arith, λ k h. omega arith)

pub rows_same : (e : List ℕ) {w w' m m' : ℕ} → w ≡ w' → m ≡ m' → joined (row_line w e) m ≡ joined (row_line w' e) m'
rows_same e {w' = w'} {m = m} f g = ap (λ (i : ℕ). joined (row_line i e) m) f ∙ ap (joined (row_line w' e)) g
