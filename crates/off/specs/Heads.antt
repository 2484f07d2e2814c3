-- The word and the counts of a text, read.
-- Assumes nothing.
use Rattle.std.specs.Prelude.{◌≡◌, refl, Result, Ok, Err, true, not, List, ℕ, ◌+◌, ◌≤◌, ◌<◌, length, drop}
use Rattle.std.proofs.Math.Path.{ap, sym}
use Rattle.std.proofs.Common.{◌∙◌, inl, drop-drop}
use native.Mathlib.Omega.{arith}
use Rattle.std.specs.Result.{IsOk}
use Rattle.lists.specs.TestLaws.{never, twice, means_both, means_within, means_eq, passed}
use Rattle.lists.specs.Search.{at}
use Rattle.digits.specs.Digits.{digit}
use Rattle.digits.specs.Counting.{value_seven}
use Rattle.off_rules.specs.Off.{Item, items, item, word, past_digits, is_whole, number_of, the_n, the_m, is_good}
use Rattle.off_items.specs.Scanning.{first_is}
use Rattle.off_items.specs.Parting.{rest}
use Rattle.off_items.specs.Reading.{is_of, value_of, IsNext, NoNext, Next}
use Rattle.off_items.specs.declared.Kind.TheVariants.{Word, Whole}
use Rattle.off_items.specs.declared.Found.{Found}
use Rattle.off.specs.Passing.{item_after, one_passed, one_stopped}
use Rattle.off.specs.Judging.{Read, BadAt, read_none, read_on, read_bad, face_least, good_word, good_whole}

-- a whole number is below 10^7
pub whole_small : (w : List ℕ) → is_whole w ≡ true → number_of w < 10_000_000
unfolding is_whole number_of
whole_small w e =
    let ((l, m), d) = passed (means_both (means_within 1 7 (length w)) (means_eq (past_digits w 0) (length w))) e in
    value_seven w 0 (length w) m (λ j k.
    let z : 0 + j ≡ j = omega arith in
    rw z (twice (digit (at w j)) ((first_is (λ b. not (digit b)) w {p = 0} (omega arith)).passed.none j (omega arith) (omega arith))))

-- a whole number that is known to be there is read
module _ (t : List ℕ) (p : ℕ) (x : List Item) (i : ℕ) (left : rest t p ≡ drop i x) where
  first : item (rest t p) 0 ≡ item x i
  first = let z : i + 0 ≡ i = omega arith in ap (λ (z : List Item). item z 0) left ∙ item_after x i 0 ∙ ap (item x) z

  pub count_there : is_whole (word x i) ≡ true → (r : Result Found ℕ) → Next Whole t p r → IsOk r
  unfolding is_of
  count_there e (Ok f) y = refl
  count_there e (Err q) y = never (ap (λ (z : Item). is_whole z.bytes) first ∙ e) y.bad

module _ (x : List Item) (i : ℕ) {t : List ℕ} {p : ℕ} {f : Found} (left : rest t p ≡ drop i x) (y : IsNext Whole t p f) where
  pub count_whole : is_whole (word x i) ≡ true
  unfolding is_of
  count_whole = sym (ap (λ (z : Item). is_whole z.bytes) (first t p x i left)) ∙ y.good

  pub count_value : f.value ≡ number_of (word x i)
  unfolding value_of
  count_value = y.value ∙ ap (λ (z : Item). number_of z.bytes) (first t p x i left)

  pub count_left : rest t f.end ≡ drop (i + 1) x
  count_left = y.left ∙ ap (drop 1) left ∙ drop-drop 1 i x

-- the word
module _ (t : List ℕ) where
  is_word : (j : ℕ) → j < 1 → is_good (items t) (0 + j) ≡ is_of Word (word (items t) (0 + j))
  unfolding is_of
  is_word j l = let z : j ≡ 0 = omega arith in rw z (good_word (items t))

  pub word_read : {f : Found} → IsNext Word t 0 f → Read t 1 f.end
  word_read y = read_on (read_none t) Word is_word (one_passed y)

  pub word_bad : {q : ℕ} → NoNext Word t 0 q → BadAt t q
  word_bad y = read_bad (read_none t) Word is_word (one_stopped y) (omega (arith, face_least (items t) (the_m (items t))))

-- the three counts, one after another
module _ {t : List ℕ} {i p : ℕ} (x : Read t i p) (l : 1 ≤ i) (h : i < 4) where
  are_whole : (j : ℕ) → j < 1 → is_good (items t) (i + j) ≡ is_of Whole (word (items t) (i + j))
  unfolding is_of
  are_whole j k =
      good_whole (items t) (i + j) (omega arith) (inl (omega arith)) (omega (arith, face_least (items t) (the_m (items t))))

  pub counts_bad : {q : ℕ} → NoNext Whole t p q → BadAt t q
  counts_bad y = read_bad x Whole are_whole (one_stopped y) (omega (arith, face_least (items t) (the_m (items t))))

  pub counts_read : {f : Found} → IsNext Whole t p f → Read t (i + 1) f.end
  counts_read y = read_on x Whole are_whole (one_passed y)

-- the first is n, the second m
module _ {t : List ℕ} {p : ℕ} {f : Found} where
  pub n_read : Read t 1 p → IsNext Whole t p f → (f.value ≡ the_n (items t)) × (f.value < 10_000_000)
  unfolding the_n
  n_read x y =
      let e = count_value (items t) 1 x.left y in
      (e, omega (arith, e, whole_small (word (items t) 1) (count_whole (items t) 1 x.left y)))

  pub m_read : Read t 2 p → IsNext Whole t p f → f.value ≡ the_m (items t)
  unfolding the_m
  m_read x y = count_value (items t) 2 x.left y
