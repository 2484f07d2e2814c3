-- Laws of the form: places of fields, and the first bad line by cases.
-- Assumes nothing.
use Rattle.std.specs.Prelude.{Bool, true, false, List, ◌≡◌, refl, ℕ, zero, suc, ◌+◌, ◌*◌, ◌-◌, ◌%◌, ◌≤◌, ◌<◌, length}
use Rattle.std.proofs.Common.{add-one, arith}
use borrow.Author.Tests.{eq-eqb, ne_eqb}
use Rattle.lists.specs.TestLaws.{Test, pass, fail, test, means_both, means_eq, means_le}
use Rattle.digits.specs.Digits.{run}
use Rattle.digits.specs.Counting.{run_le}
use Rattle.text.specs.Form.{place, is_field, good_field, mark, line_of_field, the_n, the_m, good_head, fields, first_bad_field, first_bad_from, first_bad}

-- a field takes at most nine bytes, good or bad
pub place_le : (t : List ℕ) (i : ℕ) → place t i ≤ 9 * i
unfolding place
place_le t zero = omega arith
place_le t (suc i) = omega (arith, run_le t (place t i), place_le t i)

-- the place after field i
pub place_next : (t : List ℕ) (i : ℕ) {p q : ℕ} → p ≡ place t i → q ≡ p + run t p + 1 → q ≡ place t (i + 1)
unfolding place
place_next t i e f = rw add-one (rw e at f)

pub good_at : (t : List ℕ) (i : ℕ) {p c : ℕ} {r : Bool} → p ≡ place t i → c ≡ mark i → r ≡ is_field t p c → r ≡ good_field t i
good_at t i e f g = rw (← e, ← f) g

-- fields by lines: two are line 1, and field c of row r, counted from 0, is field 4 × r − 2 + c, on line r + 1
pub head_lines : (line_of_field 0 ≡ 1) × (line_of_field 1 ≡ 1)
head_lines = (refl, refl)

pub row_line : (r c : ℕ) → 1 ≤ r → c < 4 → line_of_field (4 * r - 2 + c) ≡ r + 1
row_line r c h g = omega arith

-- a newline, or a comma
module _ (i : ℕ) where
  pub mark_end : i % 4 ≡ 1 → mark i ≡ 10
  unfolding mark
  mark_end h = rw (eq-eqb (i % 4) 1 h, mark)

  pub mark_between : (i % 4 ≡ 1 → ⊥) → mark i ≡ 44
  unfolding mark
  mark_between h = rw (ne_eqb (i % 4) 1 h, mark)

-- a good line 1 keeps both bounds
pub head_bounds : (t : List ℕ) → good_head t ≡ true → (the_n t ≤ 200) × (the_m t ≤ 200)
unfolding good_head
head_bounds t h =
    let m = means_both (means_eq (first_bad_field t 2) 2) (means_both (means_le (the_n t) 200) (means_le (the_m t) 200)) in
    (m.says (rw h tt)).1

pub bad_head : (t : List ℕ) → good_head t ≡ false → first_bad t ≡ 1
unfolding first_bad
bad_head t h = rw (h, first_bad)

-- after a good line 1, with i the first field that is not good
module _ (t : List ℕ) (i : ℕ) (good : good_head t ≡ true) (first : i ≡ first_bad_field t (fields t)) where
  from_first : first_bad t ≡ first_bad_from t i
  unfolding first_bad
  from_first = rw (first, good, first_bad)

  pub bad_field : (i ≡ fields t → ⊥) → line_of_field i ≡ first_bad t
  unfolding first_bad_from
  bad_field d = rw (from_first, ne_eqb i (fields t) d, first_bad_from)

  pub bad_end : i ≡ fields t → (place t i ≡ length t → ⊥) → line_of_field i ≡ first_bad t
  unfolding first_bad_from
  bad_end e d = rw (from_first, eq-eqb i (fields t) e, ne_eqb (place t i) (length t) d, first_bad_from)

  pub none_bad : i ≡ fields t → place t i ≡ length t → 0 ≡ first_bad t
  unfolding first_bad_from
  none_bad e f = rw (from_first, eq-eqb i (fields t) e, eq-eqb (place t i) (length t) f, first_bad_from)

pub form_head : (t : List ℕ) → first_bad t ≡ 0 → good_head t ≡ true
form_head t h = go (test (good_head t))
  where
    go : Test (good_head t) → good_head t ≡ true
    go (pass s e) = e
    go (fail s e) = absurd (omega (arith, bad_head t e))
