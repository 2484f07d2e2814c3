-- The word that begins at a place of a text, held to each kind by what stands in the text.
-- Assumes nothing.
use Rattle.std.specs.Prelude.{◌≡◌, refl, Bool, true, false, not, ◌⊎◌, List, [], ◌∷◌, T, eqb, length}
use Rattle.std.proofs.Math.Path.{ap, sym}
use Rattle.std.proofs.Common.{subst, ◌∙◌, inl, inr, T_not, ext_get_or, ne_eqb}
use Prim.Native.Nat.{ℕ, zero, suc, ◌+◌, ◌-◌, ◌≤◌, ◌<◌}
use native.Mathlib.Omega.{arith}
use Rattle.std.proofs.Math.Dec.{not_T}
use Rattle.std.proofs.Math.ListN.{get_or-eq_default}
use Rattle.lists.specs.TestLaws.{Test, pass, fail, test, twice, Means, means_same, means_eq, means_le, means_lt, means_not, means_within, means_both, means_either, means_itself, true_of, false_of, passed, failed, zero_or}
use Rattle.lists.specs.Search.{at}
use Rattle.lists.specs.SearchLaws.{Least, least_is, lt_or_eq, le_or_lt}
use Rattle.digits.specs.Digits.{digit, run, value}
use Rattle.digits.specs.Counting.{digit_inside, value_same}
use Rattle.off_rules.specs.Off.{is_off, first_from, past_digits, is_whole, number_of, is_sign, past_sign, past_fraction, is_decimal}
use Rattle.off_items.specs.Scanning.{first_is, first_one, from_le, byte_inside}
use Rattle.off_items.specs.Decimals.{sign_there, sign_missing, point_there, point_alone, point_missing}
use Rattle.off_items.specs.Words.{is_gap, is_end, word_end, word_at, gap_bound, word_ends, word_end_lem, word_inside, word_byte, within_word, end_told}

-- no digit parts items
gap_no_digit : (b : ℕ) → T (is_gap b) → T (not (digit b))
gap_no_digit b g = (means_not (means_within 48 57 b)).shows (λ (l, m). omega (arith, gap_bound b g))

module _ (t : List ℕ) {s : ℕ} (h : s ≤ length t) where
  abbrev w : List ℕ
  w = word_at t s

  -- a test that no gap has says the same of a place of the word, or of its end, and of the text's place
  same_byte : (p : ℕ → Bool) → ((b : ℕ) → T (is_gap b) → p b ≡ false) → p 0 ≡ false → {j q : ℕ} → q ≡ s + j → j ≤ length w →
      p (at t q) ≡ p (at w j)
  same_byte p gaps none {j} {q} e l = go (lt_or_eq j (length w) (omega arith)) (le_or_lt (length t) q)
    where
      past : length w ≤ j → p (at w j) ≡ false
      past m = ap p (get_or-eq_default w 0 m) ∙ none

      go : (j < length w) ⊎ (j ≡ length w) → (length t ≤ q) ⊎ (q < length t) → p (at t q) ≡ p (at w j)
      go (inl m) x = ap p (ap (at t) e ∙ sym (word_byte t h j m))
      go (inr z) (inl m) = ap p (get_or-eq_default t 0 m) ∙ none ∙ sym (past (omega arith))
      go (inr z) (inr m) =
          let i : word_end t s ≡ q = omega (arith, word_end_lem t h) in
          gaps (at t q) (subst (λ (k : ℕ). T (is_gap (at t k))) i ((word_ends t h).found (omega arith))) ∙ sym (past (omega arith))

  -- the word OFF
  off_list : T (is_off w) → w ≡ 79 ∷ 70 ∷ 70 ∷ []
  unfolding is_off
  off_list = (means_same w (79 ∷ 70 ∷ 70 ∷ [])).says

  off_byte : T (is_off w) → (j b : ℕ) → j < 3 → at (79 ∷ 70 ∷ 70 ∷ []) j ≡ b → at t (s + j) ≡ b
  off_byte o j b l e =
      let q = off_list o in
      sym (word_byte t h j (omega (arith, ap length q))) ∙ ap (λ (v : List ℕ). at v j) q ∙ e

  pub off_long : is_off w ≡ true → length w ≡ 3
  off_long e = ap length (off_list (rw e tt))

  pub off_end : is_off w ≡ true → s + 3 ≡ word_end t s
  off_end e = omega (arith, off_long e, word_end_lem t h)

  pub not_off : (j b : ℕ) {q : ℕ} → j < 3 → at (79 ∷ 70 ∷ 70 ∷ []) j ≡ b → q ≡ s + j → (at t q ≡ b → ⊥) → false ≡ is_off w
  not_off j b l e z d = sym (false_of (is_off w) (not_T (is_off w) (λ o. d (ap (at t) z ∙ off_byte o j b l e))))

  pub is_off_lem : at t s ≡ 79 → at t (s + 1) ≡ 70 → at t (s + 2) ≡ 70 → is_end t (s + 3) ≡ is_off w
  unfolding is_off is_end
  is_off_lem a b c = go (test (is_end t (s + 3)))
    where
      at_three : (j : ℕ) → j < 3 → at t (s + j) ≡ at (79 ∷ 70 ∷ 70 ∷ []) j
      at_three zero l = let z : s + 0 ≡ s = omega arith in ap (at t) z ∙ a
      at_three (suc zero) l = b
      at_three (suc (suc zero)) l = c
      at_three (suc (suc (suc j))) l = absurd (omega arith)

      no_gap : (j : ℕ) → j < 3 → T (not (is_gap (at (79 ∷ 70 ∷ 70 ∷ []) j)))
      no_gap zero l = tt
      no_gap (suc zero) l = tt
      no_gap (suc (suc zero)) l = tt
      no_gap (suc (suc (suc j))) l = absurd (omega arith)

      listed : w ≡ 79 ∷ 70 ∷ 70 ∷ [] → T (is_off w)
      listed = (means_same w (79 ∷ 70 ∷ 70 ∷ [])).shows

      ended : T (is_end t (s + 3)) → (length t ≤ s + 3) ⊎ T (is_gap (at t (s + 3)))
      ended = (means_either (means_le (length t) (s + 3)) (means_itself (is_gap (at t (s + 3))))).says

      three : T (is_end t (s + 3)) → length w ≡ 3
      three x =
          let inside : s + 2 < length t = byte_inside t (s + 2) (λ z. omega (arith, c)) in
          let e : s + 3 ≡ word_end t s =
          first_one is_gap t
          (record {
            passed = record {
              onward = omega arith;
              inside = omega arith;
              none = λ j k m.
                  let z : s + (j - s) ≡ j = omega arith in
                  subst (λ (i : ℕ). T (not (is_gap (at t i)))) z (rw (at_three (j - s) (omega arith)) (no_gap (j - s) (omega arith)));
            };
            found = λ k. elim (ended x) [ inl m ↦ absurd (omega arith) | inr g ↦ g ];
          })
          (word_ends t h) in
          omega (arith, word_end_lem t h)

      go : Test (is_end t (s + 3)) → is_end t (s + 3) ≡ is_off w
      go (fail x e) =
          e ∙ sym (false_of (is_off w) (not_T (is_off w) (λ o.
          let l : length w ≡ 3 = ap length (off_list o) in
          T_not (is_end t (s + 3)) x (rw (end_told t h {j = 3} (omega arith)) ((means_eq 3 (length w)).shows (sym l))))))
      go (pass x e) =
          let l : length w ≡ 3 = three x in
          e ∙ sym (true_of (is_off w) (listed (ext_get_or 0 w (79 ∷ 70 ∷ 70 ∷ []) l (λ j m. word_byte t h j m ∙ at_three j (omega arith)))))

  -- a whole number: its digits end in the word where they end in the text
  abbrev other : ℕ → Bool
  other b = not (digit b)

  run_least : Least (λ i. other (at t (s + i))) 8 (run t s)
  unfolding run
  run_least = least_is (λ i. other (at t (s + i))) 8

  run_digit : (j : ℕ) → j < run t s → T (digit (at t (s + j)))
  run_digit j l = twice (digit (at t (s + j))) (run_least.before j l)

  run_inside : s + run t s ≤ length t
  run_inside = elim (zero_or (run t s)) [
    | inl z ↦ omega arith
    | inr d ↦ omega (arith, digit_inside t (s + (run t s - 1)) (run_digit (run t s - 1) (omega arith)))
  ]

  digits_in : {j q : ℕ} → q ≡ s + j → j ≤ length w → past_digits t q ≡ s + past_digits w j
  digits_in e l = ap (first_from other t) e ∙ within_word t h other gap_no_digit l

  digits_end_lem : past_digits t s ≡ s + past_digits w 0
  digits_end_lem = digits_in (omega arith) (omega arith)

  run_ends : run t s ≤ 7 → run t s ≡ past_digits w 0
  run_ends l =
      let e : s + run t s ≡ past_digits t s =
      first_one other t
      (record {
        passed = record {
          onward = omega arith;
          inside = run_inside;
          none = λ j k m.
              let z : s + (j - s) ≡ j = omega arith in
              subst (λ (i : ℕ). T (not (other (at t i)))) z (run_least.before (j - s) (omega arith));
        };
        found = λ k. run_least.found (omega arith);
      })
      (first_is other t h) in
      omega (arith, digits_end_lem)

  run_more : 7 < run t s → 7 < past_digits w 0
  run_more l = elim (le_or_lt (past_digits w 0) 7) [
    | inr k ↦ k
    | inl k ↦
        let x = first_is other t h in
        let f = past_digits t s in
        let z : s + (f - s) ≡ f = omega (arith, x.passed.onward) in
        absurd (T_not (other (at t f)) (subst (λ (i : ℕ). T (not (other (at t i)))) z (run_least.before (f - s) (omega (arith, digits_end_lem))))
        (x.found (omega (arith, digits_end_lem, run_inside))))
  ]

  means_whole : Means (is_whole w) (((1 ≤ length w) × (length w ≤ 7)) × (past_digits w 0 ≡ length w))
  unfolding is_whole
  means_whole = means_both (means_within 1 7 (length w)) (means_eq (past_digits w 0) (length w))

  not_whole : (T (is_whole w) → ⊥) → is_whole w ≡ false
  not_whole f = false_of (is_whole w) (not_T (is_whole w) f)

  -- d digits were counted
  module _ {d : ℕ} (counted : d ≡ run t s) where
    pub digits_inside : s + d ≤ length t
    digits_inside = omega (arith, run_inside)

    pub whole_none : d < 1 → is_whole w ≡ false
    whole_none l = not_whole (λ o. let ((a, b), c) = means_whole.says o in omega (arith, run_ends (omega arith)))

    pub whole_long : 7 < d → is_whole w ≡ false
    whole_long l = not_whole (λ o. let ((a, b), c) = means_whole.says o in omega (arith, run_more (omega arith)))

    module _ (l : d ≤ 7) where
      ends_so : d ≡ past_digits w 0
      ends_so = counted ∙ run_ends (omega arith)

      at_end : is_end t (s + d) ≡ eqb d (length w)
      at_end = end_told t h (omega (arith, ends_so, (first_is other w {p = 0} (omega arith)).passed.inside))

      pub whole_open : is_end t (s + d) ≡ false → is_whole w ≡ false
      whole_open e =
          not_whole (λ o. let ((a, b), c) = means_whole.says o in failed (means_eq d (length w)) (sym at_end ∙ e) (ends_so ∙ c))

      module _ (e : is_end t (s + d) ≡ true) where
        long : d ≡ length w
        long = passed (means_eq d (length w)) (sym at_end ∙ e)

        pub whole_is : 1 ≤ d → is_whole w ≡ true
        whole_is m = true_of (is_whole w) (means_whole.shows ((omega (arith, long), omega (arith, long)), sym ends_so ∙ long))

        pub whole_end : s + d ≡ word_end t s
        whole_end = omega (arith, long, word_end_lem t h)

        pub whole_number : {v : ℕ} → v ≡ value t s d → v ≡ number_of w
        unfolding number_of
        whole_number q =
            q ∙ ap (value t s) long
            ∙ sym (value_same w t 0 s (length w) (λ j k. let z : 0 + j ≡ j = omega arith in ap (at w) z ∙ word_byte t h j k))

  -- a decimal: sign, digits and fraction end in the word where they end in the text
  sign_in : (past_sign t s ≡ s + past_sign w 0) × (past_sign w 0 ≤ length w)
  sign_in = go (test (is_sign (at w 0))) (same_byte is_sign (λ b g. no_sign b (gap_bound b g)) refl (omega arith) (omega arith))
    where
      no_sign : (b : ℕ) → b ≤ 35 → is_sign b ≡ false
      no_sign b l = rw (ne_eqb b 43 (λ z. omega arith), ne_eqb b 45 (λ z. omega arith))

      go : Test (is_sign (at w 0)) → is_sign (at t s) ≡ is_sign (at w 0) → (past_sign t s ≡ s + past_sign w 0) × (past_sign w 0 ≤ length w)
      go (pass x e) q =
          let l : 0 < length w = byte_inside w 0 (λ z. subst (λ (b : ℕ). T (is_sign b)) z x) in
          (omega (arith, sign_there t s (q ∙ e), sign_there w 0 e), omega (arith, sign_there w 0 e))
      go (fail x e) q = (omega (arith, sign_missing t s (q ∙ e), sign_missing w 0 e), omega (arith, sign_missing w 0 e))

  fraction_in : {j q : ℕ} → q ≡ s + j → j ≤ length w → (past_fraction t q ≡ s + past_fraction w j) × (past_fraction w j ≤ length w)
  fraction_in {j} {q} z l =
      go (test (eqb (at w j) 46)) (same_byte (λ b. eqb b 46) (λ b g. ne_eqb b 46 (λ e. omega (arith, gap_bound b g))) refl z l)
    where
      some : eqb (at w j) 46 ≡ true → eqb (at t q) 46 ≡ true → (past_fraction t q ≡ s + past_fraction w j) × (past_fraction w j ≤ length w)
      some e f =
          let m : j < length w = byte_inside w j (λ y. omega (arith, passed (means_eq (at w j) 46) e)) in
          let d : past_digits t (q + 1) ≡ s + past_digits w (j + 1) = digits_in (omega arith) (omega arith) in
          elim (le_or_lt (past_digits w (j + 1)) (j + 1)) [
            | inl k ↦ (omega (arith, point_alone w j e k, point_alone t q f (omega arith)), omega (arith, point_alone w j e k))
            | inr k ↦
                let inside = (first_is other w {p = j + 1} (omega arith)).passed.inside in
                (omega (arith, point_there w j e k, point_there t q f (omega arith)), omega (arith, point_there w j e k))
          ]

      go : Test (eqb (at w j) 46) → eqb (at t q) 46 ≡ eqb (at w j) 46 → (past_fraction t q ≡ s + past_fraction w j) × (past_fraction w j ≤ length w)
      go (pass x e) f = some e (f ∙ e)
      go (fail x e) f = (omega (arith, point_missing w j e, point_missing t q (f ∙ e)), omega (arith, point_missing w j e))

  abbrev sign_end : ℕ
  sign_end = past_sign w 0

  abbrev digits_end : ℕ
  digits_end = past_digits w sign_end

  abbrev last_end : ℕ
  last_end = past_fraction w digits_end

  -- what was read: where the sign ends, then the digits, then the fraction
  module _ {a : ℕ} (sign : a ≡ past_sign t s) where
    pub sign_inside : a ≤ length t
    sign_inside = omega (arith, sign_in, word_inside t h)

    module _ {e : ℕ} (digits : e ≡ past_digits t a) where
      number_in : e ≡ s + digits_end
      number_in = digits ∙ digits_in (sign ∙ sign_in.0) sign_in.1

      means_decimal : Means (is_decimal w) ((sign_end < digits_end) × (last_end ≡ length w))
      unfolding is_decimal
      means_decimal = means_both (means_lt _ _) (means_eq _ _)

      not_decimal : (T (is_decimal w) → ⊥) → is_decimal w ≡ false
      not_decimal f = false_of (is_decimal w) (not_T (is_decimal w) f)

      pub decimal_none : e ≡ a → is_decimal w ≡ false
      decimal_none z = not_decimal (λ o. omega (arith, (means_decimal.says o).0, sign_in.0, number_in))

      module _ {f : ℕ} (fraction : f ≡ past_fraction t e) where
        all_in : (f ≡ s + last_end) × (last_end ≤ length w)
        all_in =
            let x = fraction_in number_in (first_is other w sign_in.1).passed.inside in (fraction ∙ x.0, x.1)

        at_last : is_end t f ≡ eqb (last_end) (length w)
        at_last = ap (is_end t) all_in.0 ∙ end_told t h all_in.1

        pub decimal_open : is_end t f ≡ false → is_decimal w ≡ false
        decimal_open z = not_decimal (λ o. failed (means_eq _ _) (sym at_last ∙ z) (means_decimal.says o).1)

        module _ (z : is_end t f ≡ true) where
          last : last_end ≡ length w
          last = passed (means_eq _ _) (sym at_last ∙ z)

          pub decimal_is : (e ≡ a → ⊥) → is_decimal w ≡ true
          decimal_is d =
              true_of (is_decimal w)
              (means_decimal.shows (omega (arith, sign_in.0, number_in, from_le other w (sign_end)), last))

          pub decimal_end : f ≡ word_end t s
          decimal_end = omega (arith, all_in.0, last, word_end_lem t h)
