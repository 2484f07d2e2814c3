-- What the tests of whole numbers and decimals mean, by the parts of an item.
-- Assumes nothing.
use Rattle.std.specs.Prelude.{◌≡◌, Bool, not, ◌⊎◌, List, ℕ, ◌+◌, ◌≤◌, ◌<◌, T, eqb, length}
use Rattle.std.proofs.Math.Path.{ap}
use Rattle.std.proofs.Common.{sym, subst, ◌∙◌, inl, inr, arith, eq-eqb, ne_eqb}
use Rattle.std.proofs.Math.ListN.{get_or-eq_default}
use Rattle.lists.specs.TestLaws.{
  pass,
  fail,
  test,
  twice,
  true_of,
  Means,
  means_both,
  means_either,
  means_not,
  means_by,
  means_eq,
  means_lt,
  means_within,
}
use Rattle.lists.specs.Search.{at}
use Rattle.lists.specs.SearchLaws.{le_or_lt}
use Rattle.digits.specs.Digits.{digit}
use Rattle.off_rules.specs.Off.{past_digits, is_whole, is_sign, past_sign, past_fraction, is_decimal}
use Rattle.off_items.specs.Scanning.{first_is, first_one, byte_inside}
use Rattle.off_items.specs.Decimals.{sign_there, sign_missing, point_there, point_alone, point_missing}

module _ (w : List ℕ) where
  -- "digits": one or more, from place p up to e
  pub record Digits (p e : ℕ) : Type 0 where
    pub some : p < e
    pub all : (j : ℕ) → p ≤ j → j < e → T (digit (at w j))

  -- "an optional sign, digits, and perhaps a point with digits after it": the digits begin at a and end at e
  pub record Decimal : Type 0 where
    pub a : ℕ
    pub e : ℕ
    pub sign : (a ≡ 0) ⊎ ((a ≡ 1) × T (is_sign (at w 0)))
    pub digits : Digits a e
    pub fraction : (e ≡ length w) ⊎ ((at w e ≡ 46) × Digits (e + 1) (length w))

  abbrev other : ℕ → Bool
  other b = not (digit b)

  -- what a scan passes are digits, and it passes all digits
  scanned : {p : ℕ} → p ≤ length w → p < past_digits w p → Digits p (past_digits w p)
  scanned h l = record { some = l; all = λ j k m. twice (digit (at w j)) ((first_is other w h).passed.none j k m) }

  found : {p e : ℕ} → e ≤ length w → Digits p e → (e < length w → T (other (at w e))) → past_digits w p ≡ e
  found h d f =
      first_one other w (first_is other w (omega (arith, d.some)))
      (record {
        passed = record { onward = omega (arith, d.some); inside = h; none = λ j k l. rw (true_of (digit (at w j)) (d.all j k l)) tt };
        found = f;
      })

  -- neither a point nor what a text reads past its end
  no_digit : (b : ℕ) → b < 48 → T (other b)
  no_digit b l = (means_not (means_within 48 57 b)).shows (λ (h, k). omega arith)

  -- "A whole number has 1 to 7 digits"
  pub means_whole : Means (is_whole w) (Digits 0 (length w) × (length w ≤ 7))
  unfolding is_whole
  means_whole =
      means_by (means_both (means_within 1 7 (length w)) (means_eq (past_digits w 0) (length w)))
      (λ ((l, m), z). (subst (Digits 0) z (scanned (omega arith) (omega arith)), m))
      (λ (d, m). ((d.some, m), found (omega arith) d (λ l. absurd (omega arith))))

  -- a decimal's digits begin where its sign ends, and end where its fraction begins
  sign_ends : (x : Decimal) → past_sign w 0 ≡ x.a
  sign_ends x = elim x.sign [
    | inl z ↦
        let (l, m) = (means_within 48 57 (at w 0)).says (x.digits.all 0 (omega arith) (omega (arith, x.digits.some))) in
        sign_missing w 0 (rw (ne_eqb (at w 0) 43 (λ k. omega arith), ne_eqb (at w 0) 45 (λ k. omega arith))) ∙ sym z
    | inr (z, s) ↦ sign_there w 0 (true_of (is_sign (at w 0)) s) ∙ sym z
  ]

  fraction_begins : (x : Decimal) → past_digits w x.a ≡ x.e
  fraction_begins x = elim x.fraction [
    | inl z ↦ found (omega arith) x.digits (λ l. absurd (omega arith))
    | inr (z, d) ↦ found (omega (arith, d.some)) x.digits (λ l. no_digit (at w x.e) (omega arith))
  ]

  fraction_ends : (x : Decimal) → past_fraction w x.e ≡ length w
  fraction_ends x = elim x.fraction [
    | inl z ↦
        let past : at w x.e ≡ 0 = get_or-eq_default w 0 (omega arith) in
        point_missing w x.e (ne_eqb (at w x.e) 46 (λ k. omega arith)) ∙ z
    | inr (z, d) ↦
        let l = found (omega arith) d (λ l. absurd (omega arith)) in
        point_there w x.e (eq-eqb (at w x.e) 46 z) (omega (arith, d.some)) ∙ l
  ]

  -- what a scan passes as a sign is one, and so with a fraction
  sign_scanned : ((past_sign w 0 ≡ 0) ⊎ ((past_sign w 0 ≡ 1) × T (is_sign (at w 0)))) × (past_sign w 0 ≤ length w)
  sign_scanned = elim (test (is_sign (at w 0))) [
    | pass t e ↦
        let z = sign_there w 0 e in
        let s = (means_either (means_eq (at w 0) 43) (means_eq (at w 0) 45)).says t in
        let l = byte_inside w 0 (λ k. elim s [ inl p ↦ omega arith | inr m ↦ omega arith ]) in
        (inr (z, t), omega arith)
    | fail t e ↦ let z = sign_missing w 0 e in (inl z, omega arith)
  ]

  fraction_scanned : {e : ℕ} → past_fraction w e ≡ length w → (e ≡ length w) ⊎ ((at w e ≡ 46) × Digits (e + 1) (length w))
  fraction_scanned {e} z = elim (test (eqb (at w e) 46)) [
    | pass t q ↦ elim (le_or_lt (past_digits w (e + 1)) (e + 1)) [
      | inl l ↦ inl (sym (point_alone w e q l) ∙ z)
      | inr l ↦
          let p : at w e ≡ 46 = (means_eq (at w e) 46).says t in
          let i = byte_inside w e (λ k. omega arith) in
          inr (p, subst (Digits (e + 1)) (sym (point_there w e q l) ∙ z) (scanned (omega arith) l))
    ]
    | fail t q ↦ inl (sym (point_missing w e q) ∙ z)
  ]

  -- "a decimal has an optional sign, digits, and perhaps a point with digits after it"
  pub means_decimal : Means (is_decimal w) Decimal
  unfolding is_decimal
  means_decimal =
      means_by (means_both (means_lt (past_sign w 0) (past_digits w (past_sign w 0)))
      (means_eq (past_fraction w (past_digits w (past_sign w 0))) (length w)))
      (λ (l, z).
      record {
        a = past_sign w 0;
        e = past_digits w (past_sign w 0);
        sign = sign_scanned.0;
        digits = scanned sign_scanned.1 l;
        fraction = fraction_scanned z;
      })
      (λ x.
      let e : past_digits w (past_sign w 0) ≡ x.e = ap (past_digits w) (sign_ends x) ∙ fraction_begins x in
      (omega (arith, sign_ends x, x.digits.some), ap (past_fraction w) e ∙ fraction_ends x))
