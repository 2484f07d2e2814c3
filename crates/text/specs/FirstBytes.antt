-- The first 8,192 bytes of a text tell all that `parse` says of it: a text in form has at most 7,218, and no longer one is read further.
-- Assumes nothing.
use Rattle.std.specs.Prelude.{true, Err, ◌⊎◌, ◌≡◌, length, take}
use Rattle.std.proofs.Math.Bool.{not}
use mathlib.Core.List.{List}
use Rattle.std.proofs.Math.Logic.{inl, inr}
use Rattle.std.proofs.Math.Path.{refl, ap}
use Rattle.std.proofs.Common.{sym, ◌∙◌, arith, length-take, get_or-take, take_all}
use Prim.Native.Nat.{ℕ, zero, suc, ◌+◌, ◌*◌, ◌≤◌, ◌<◌}
use Rattle.lists.specs.Search.{at}
use Rattle.lists.specs.SearchLaws.{least_is, le_not_lt, le_or_lt}
use Rattle.lists.specs.Steps.{least_same}
use Rattle.lists.specs.TestLaws.{Test, pass, fail, test, decide, means_eq}
use Rattle.digits.specs.Digits.{digit, run, number}
use Rattle.digits.specs.Counting.{run_le, value_same}
use Rattle.text.specs.Form.{place, good_field, line_of_field, first_bad_field, the_n, the_m, good_head, fields, first_bad}
use Rattle.text.specs.FormLaws.{place_le, head_bounds, bad_head, bad_field, bad_end, form_head}
use Rattle.text.specs.Reading.{parsed, list_after, parsed_bad}
use Rattle.text.specs.declared.ParseError.TheVariants.{Bad}

-- two texts that agree below place b
module _ (t u : List ℕ) (b : ℕ) (same : (j : ℕ) → j < b → at t j ≡ at u j) where
  run_same : (p : ℕ) → p + 8 ≤ b → run t p ≡ run u p
  unfolding run
  run_same p h =
      least_same (λ i. not (digit (at t (p + i)))) (λ i. not (digit (at u (p + i)))) 8 (λ i k. rw (same (p + i) (omega arith)))

  number_same : (p : ℕ) → p + 8 ≤ b → number t p ≡ number u p
  number_same p h = rw (run_same p h) (value_same t u p p (run u p) (λ j l. same (p + j) (omega (arith, run_le u p))))

  place_same : (i : ℕ) → 9 * i ≤ b → place t i ≡ place u i
  unfolding place
  place_same zero h = refl
  place_same (suc i) h =
      rw (place_same i (omega arith), run_same (place u i) (omega (arith, place_le u i)))

  good_same : (i : ℕ) → 9 * (i + 1) ≤ b → good_field t i ≡ good_field u i
  good_same i h =
      let p = place u i in
      let l = place_le u i in
      let r = run_le u p in
      rw (place_same i (omega arith), run_same p (omega arith), same (p + run u p) (omega arith))

  bad_same : (k : ℕ) → 9 * k ≤ b → first_bad_field t k ≡ first_bad_field u k
  unfolding first_bad_field
  bad_same k h = least_same (λ i. not (good_field t i)) (λ i. not (good_field u i)) k (λ i l. ap not (good_same i (omega arith)))

  number_at : (i : ℕ) → 9 * (i + 1) ≤ b → number t (place t i) ≡ number u (place u i)
  number_at i h = rw (place_same i (omega arith)) (number_same (place u i) (omega (arith, place_le u i)))

  m_same : 18 ≤ b → the_m t ≡ the_m u
  unfolding the_m
  m_same h = number_at 1 (omega arith)

  head_same : 18 ≤ b → good_head t ≡ good_head u
  unfolding good_head the_n
  head_same h = rw (bad_same 2 (omega arith), number_at 0 (omega arith), m_same h)

-- what stands before the end of the last field that is looked at
bad_le : (t : List ℕ) (k : ℕ) → first_bad_field t k ≤ k
unfolding first_bad_field
bad_le t k = (least_is (λ i. not (good_field t i)) k).bound

reached : (t : List ℕ) → good_head t ≡ true → place t (first_bad_field t (fields t)) ≤ 7218
reached t h =
    omega (arith, place_le t (first_bad_field t (fields t)), bad_le t (fields t), head_bounds t h)

-- after a good line 1, a text longer than 7,218 bytes is bad at its first bad field, or after its last one
module _ (t : List ℕ) (good : good_head t ≡ true) (long : 7218 < length t) where
  long_bad : line_of_field (first_bad_field t (fields t)) ≡ first_bad t
  long_bad = go (first_bad_field t (fields t)) refl (decide (means_eq (first_bad_field t (fields t)) (fields t)))
    where
      go : (i : ℕ) → i ≡ first_bad_field t (fields t) → (i ≡ fields t) ⊎ (i ≡ fields t → ⊥) → line_of_field i ≡ first_bad t
      go i f (inl e) = bad_end t i good f e (λ z. omega (arith, reached t good, ap (place t) f))
      go i f (inr d) = bad_field t i good f d

  never_form : first_bad t ≡ 0 → ⊥
  never_form e = omega (arith, long_bad)

-- texts of 8,192 bytes or more that agree in those have the same first bad line
pub same_first_bad : (t u : List ℕ) → 8192 ≤ length t → 8192 ≤ length u → ((j : ℕ) → j < 8192 → at t j ≡ at u j) → first_bad t ≡ first_bad u
same_first_bad t u a b same = go (test (good_head u))
  where
    h : good_head t ≡ good_head u
    h = head_same t u 8192 same (omega arith)

    go : Test (good_head u) → first_bad t ≡ first_bad u
    go (fail s e) = bad_head t (h ∙ e) ∙ sym (bad_head u e)
    go (pass s e) =
        let m : fields t ≡ fields u = omega (arith, m_same t u 8192 same (omega arith)) in
        let f = ap (first_bad_field t) m ∙ bad_same t u 8192 same (fields u) (omega (arith, head_bounds u e)) in
        sym (long_bad t (h ∙ e) (omega arith)) ∙ ap line_of_field f ∙ long_bad u e (omega arith)

pub form_short : (t : List ℕ) → first_bad t ≡ 0 → length t ≤ 7218
form_short t e = le_not_lt (length t) 7218 (λ h. never_form t (form_head t e) h e)

-- the first 8,192 bytes tell the first bad line, and all that `parse` answers
pub first_bytes : (t : List ℕ) → first_bad (take 8192 t) ≡ first_bad t
first_bytes t = elim (le_or_lt (length t) 8192) [
  | inl h ↦ ap first_bad (take_all 8192 t h)
  | inr h ↦ same_first_bad (take 8192 t) t (rw length-take (omega arith)) (omega arith) (λ j k. get_or-take 8192 t j 0 k)
]

module _ (t : List ℕ) (room : ℕ) where
  short_or_bad : (take 8192 t ≡ t) ⊎ (first_bad t ≡ 0 → ⊥)
  short_or_bad = elim (decide (means_eq (first_bad t) 0))
      [ inl e ↦ inl (take_all 8192 t (omega (arith, form_short t e))) | inr d ↦ inr d ]

  pub parsed_first_bytes : parsed (take 8192 t) room ≡ parsed t room
  parsed_first_bytes = elim short_or_bad [
    | inl e ↦ ap (λ (s : List ℕ). parsed s room) e
    | inr d ↦ parsed_bad (take 8192 t) room (λ z. d (sym (first_bytes t) ∙ z)) ∙ ap (λ (i : ℕ). Err (Bad i)) (first_bytes t) ∙ sym (parsed_bad t room d)
  ]

  pub list_first_bytes : (L : List ℕ) → list_after (parsed t room) (take 8192 t) L ≡ list_after (parsed t room) t L
  unfolding list_after
  list_first_bytes L = elim short_or_bad
      [ inl e ↦ ap (λ (s : List ℕ). list_after (parsed t room) s L) e | inr d ↦ rw (parsed_bad t room d) ]
