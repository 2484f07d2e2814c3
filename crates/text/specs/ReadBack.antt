-- A text that is written as document 01 says is in form, and its numbers are read back.
-- Assumes nothing.
use Rattle.std.specs.Prelude.{true, List, [], ◌∷◌, ◌++◌, ◌⊎◌, ◌≡◌, ltb, eqb, length}
use Rattle.std.proofs.Math.Bool.{not}
use Rattle.std.proofs.Common.{append_assoc, append-nil, inl, inr, ◌∙◌, nltb→le, get_or-append-add}
use Rattle.std.proofs.Math.Path.{refl, ap, sym}
use Prim.Native.Nat.{ℕ, zero, suc, ◌+◌, ◌*◌, ◌/◌, ◌%◌, ◌^◌, ◌≤◌, ◌<◌}
use native.Mathlib.Omega.{arith}
use Rattle.std.proofs.Math.ListN.{length-append, get_or-append}
use borrow.Author.Tests.{le-leb}
use Rattle.std.proofs.lemmas.List.{get_or_at}
use Rattle.std.proofs.Math.Seq.{append_snoc, ext_get_or}
use Rattle.lists.specs.Tests.{both, within}
use Rattle.lists.specs.Search.{at, tab}
use Rattle.lists.specs.SearchLaws.{lt_or_eq, length_tab, at_tab}
use Rattle.lists.specs.Steps.{found_here, found_none}
use Rattle.lists.specs.TestLaws.{Test, pass, fail, test, true_of, false_of, decide, means_lt, means_eq, means_within, means_both, means_not}
use Rattle.digits.specs.Digits.{digit, run, value, number}
use Rattle.text.specs.Form.{place, mark, is_field, good_field, first_bad_field, the_n, the_m, good_head, fields, first_bad, the_number, the_list}
use Rattle.text.specs.FormLaws.{mark_end, mark_between, none_bad}
use Rattle.print.specs.Lines.{digits, joined}
use Rattle.print.specs.LineLaws.{digits_one, digits_more, digits_le}

-- document 01's lines: digits and a mark for each field, "n,m", then four fields a line
abbrev pub field_text : ℕ → ℕ → List ℕ
field_text x c = digits x ++ (c ∷ [])

abbrev pub row_text : List ℕ → ℕ → List ℕ
row_text L q = field_text (at L q) 44 ++ (field_text (at L (q + 1)) 44 ++ (field_text (at L (q + 2)) 44 ++ field_text (at L (q + 3)) 10))

abbrev pub mesh_text : ℕ → ℕ → List ℕ → List ℕ
mesh_text n m L = (field_text n 44 ++ field_text m 10) ++ joined (λ r. row_text L (4 * r)) m

-- the digits of a number are digits, at least one, and write it
record Decimal (x : ℕ) (s : List ℕ) : Type 0 where
  pub some : 1 ≤ length s
  pub all : (i : ℕ) → i < length s → (48 ≤ at s i) × (at s i ≤ 57)
  pub writes : (t : List ℕ) (p : ℕ) → ((i : ℕ) → i < length s → at t (p + i) ≡ at s i) → value t p (length s) ≡ x

decimal_one : (x : ℕ) → x < 10 → Decimal x ((48 + x) ∷ [])
unfolding value
decimal_one x h =
    record {
      some = omega arith;
      all = λ i k. let e : i ≡ 0 = omega arith in rw e (omega arith);
      writes = λ t p f. omega (arith, f 0 (omega arith));
    }

-- one digit more
module _ (x z : ℕ) (s : List ℕ) (last : z ≡ 48 + x % 10) (d : Decimal (x / 10) s) where
  long : length (s ++ (z ∷ [])) ≡ suc (length s)
  long = rw length-append (omega arith)

  value_next : (t : List ℕ) (p : ℕ) → at t (p + length s) ≡ z → value t p (length s) ≡ x / 10 → value t p (suc (length s)) ≡ x
  unfolding value
  value_next t p e f = omega arith

  decimal_more : Decimal x (s ++ (z ∷ []))
  decimal_more =
      record {
        some = rw long (omega arith);
        all = λ i k. elim (lt_or_eq i (length s) (rw long at k))
            [ inl h ↦ rw (get_or-append s (z ∷ []) 0 i h) (d.all i h) | inr e ↦ rw (get_or_at s z [] 0 i (sym e)) (omega arith) ];
        writes = λ t p f. rw long
            (value_next t p (f (length s) (rw long (omega arith)) ∙ get_or_at s z [] 0 (length s) refl)
            (d.writes t p (λ i h. f i (rw long (omega arith)) ∙ get_or-append s (z ∷ []) 0 i h)));
      }

digits_decimal : (k x : ℕ) → x < k → Decimal x (digits x)
digits_decimal zero x h = absurd (omega arith)
digits_decimal (suc k) x h = go (test (ltb x 10)) (λ g. digits_decimal k (x / 10) g)
  where
    go : Test (ltb x 10) → (x / 10 < k → Decimal (x / 10) (digits (x / 10))) → Decimal x (digits x)
    go (pass t e) r = let g = (means_lt x 10).says t in rw (digits_one x g) (decimal_one x g)
    go (fail t e) r =
        let g = nltb→le x 10 t in
        rw (digits_more x g) (decimal_more x (48 + x % 10) (digits (x / 10)) refl (r (omega arith)))

-- a field in a text: bytes before it, its digits, its mark, bytes after it
module _ (x c : ℕ) (s : List ℕ) (d : Decimal x s) (short : length s ≤ 7) (other : (48 ≤ c → c ≤ 57 → ⊥)) (before after : List ℕ) where
  abbrev text : List ℕ
  text = before ++ (s ++ (c ∷ after))

  inside : (i : ℕ) → i < length s → at text (length before + i) ≡ at s i
  inside i h = get_or-append-add before (s ++ (c ∷ after)) i 0 ∙ get_or-append s (c ∷ after) 0 i h

  marked : at text (length before + length s) ≡ c
  marked = get_or-append-add before (s ++ (c ∷ after)) (length s) 0 ∙ get_or_at s c after 0 (length s) refl

  run_is : length s ≡ run text (length before)
  unfolding run
  run_is =
      found_here (λ i. not (digit (at text (length before + i))))
      (λ i h. rw (inside i h, true_of (digit (at s i)) ((means_within 48 57 (at s i)).shows (d.all i h))) tt)
      8
      (omega arith)
      (rw (marked, false_of (digit c) ((means_not (means_within 48 57 c)).shows (λ w. other w.0 w.1))))

  number_is : number text (length before) ≡ x
  number_is = rw (← run_is) (d.writes text (length before) inside)

  field_is : is_field text (length before) c ≡ true
  field_is =
      rw (← run_is, marked)
      (true_of (both (within 1 7 (length s)) (eqb c c)) ((means_both (means_within 1 7 (length s)) (means_eq c c)).shows ((d.some, short), refl)))

mark_other : (i : ℕ) → 48 ≤ mark i → mark i ≤ 57 → ⊥
mark_other i a b = elim (decide (means_eq (i % 4) 1)) [ inl e ↦ omega (arith, mark_end i e) | inr d ↦ omega (arith, mark_between i d) ]

-- the part i of joined texts, with what comes before and after it
joined_split : (g : ℕ → List ℕ) (i k : ℕ) → i < k → (after : List ℕ) × (joined g k ≡ joined g i ++ (g i ++ after))
unfolding joined
joined_split g i zero h = absurd (omega arith)
joined_split g i (suc k) h = go (lt_or_eq i k h) (λ l. joined_split g i k l)
  where
    go : (i < k) ⊎ (i ≡ k) → (i < k → (after : List ℕ) × (joined g k ≡ joined g i ++ (g i ++ after))) → (after : List ℕ) × (joined g (suc k) ≡ joined g i ++ (g i ++ after))
    go (inl l) r = let (a, e) = r l in (a ++ g k, rw e (simp append_assoc))
    go (inr e) r = ([], rw (e, append-nil))

-- the numbers f 0, f 1, .. of fields, below 10 ^ 7, each with its mark after it
module _ (f : ℕ → ℕ) (k : ℕ) (small : (i : ℕ) → i < k → f i < 10 ^ 7) where
  abbrev field : ℕ → List ℕ
  field i = field_text (f i) (mark i)

  abbrev whole : List ℕ
  whole = joined field k

  split : (i : ℕ) → i < k → (after : List ℕ) × (whole ≡ joined field i ++ (digits (f i) ++ (mark i ∷ after)))
  split i h = let (a, e) = joined_split field i k h in (a, e ∙ ap (λ (z : List ℕ). joined field i ++ z) (append_snoc (digits (f i)) (mark i) a))

  decimal : (i : ℕ) → Decimal (f i) (digits (f i))
  decimal i = digits_decimal (suc (f i)) (f i) (omega arith)

  seven : (i : ℕ) → i < k → length (digits (f i)) ≤ 7
  seven i h = digits_le 6 (f i) (small i h)

  run_at : (i : ℕ) → i < k → run whole (length (joined field i)) ≡ length (digits (f i))
  run_at i h =
      let (a, e) = split i h in
      rw e (sym (run_is (f i) (mark i) (digits (f i)) (decimal i) (seven i h) (mark_other i) (joined field i) a))

  place_at : (i : ℕ) → i ≤ k → place whole i ≡ length (joined field i)
  unfolding place joined
  place_at zero h = refl
  place_at (suc i) h = rw (place_at i (omega arith), run_at i h, length-append, length-append) (omega arith)

  good_at_all : (i : ℕ) → i < k → good_field whole i ≡ true
  good_at_all i h =
      let (a, e) = split i h in
      rw (place_at i (omega arith), e)
      (field_is (f i) (mark i) (digits (f i)) (decimal i) (seven i h) (mark_other i) (joined field i) a)

  number_at : (i : ℕ) → i < k → number whole (place whole i) ≡ f i
  number_at i h =
      let (a, e) = split i h in
      rw (place_at i (omega arith), e)
      (number_is (f i) (mark i) (digits (f i)) (decimal i) (seven i h) (mark_other i) (joined field i) a)

  none_bad_to : (l : ℕ) → l ≤ k → l ≡ first_bad_field whole l
  unfolding first_bad_field
  none_bad_to l h = found_none (λ i. not (good_field whole i)) (λ i g. rw (good_at_all i (omega arith)) tt) l refl

  -- line 1 is n and m, and m lines of four fields follow
  module _ (count : k ≡ 4 * f 1 + 2) (n : f 0 ≤ 200) (m : f 1 ≤ 200) where
    n_back : the_n whole ≡ f 0
    unfolding the_n
    n_back = number_at 0 (omega arith)

    m_back : the_m whole ≡ f 1
    unfolding the_m
    m_back = number_at 1 (omega arith)

    row_back : (i : ℕ) → i < 4 * f 1 → the_number whole i ≡ f (i + 2)
    row_back i h = number_at (i + 2) (omega arith)

    head_good : good_head whole ≡ true
    unfolding good_head
    head_good = rw (n_back, m_back, ← none_bad_to 2 (omega arith), le-leb (f 0) 200 n, le-leb (f 1) 200 m)

    in_form_lem : first_bad whole ≡ 0
    in_form_lem =
        let e : k ≡ fields whole = omega (arith, m_back) in
        sym (none_bad whole k head_good (none_bad_to k (omega arith) ∙ ap (first_bad_field whole) e) e (place_at k (omega arith)))

module _ (n m : ℕ) (L : List ℕ) where
  numbers : ℕ → ℕ
  numbers zero = n
  numbers (suc zero) = m
  numbers (suc (suc i)) = at L i

  abbrev parts : ℕ → List ℕ
  parts i = field_text (numbers i) (mark i)

  -- four fields are a line
  four : (r q : ℕ) → q ≡ 4 * r → joined parts (q + 6) ≡ joined parts (q + 2) ++ row_text L q
  unfolding joined numbers
  four r q e =
      let a : q + 6 ≡ suc (suc (suc (suc (suc (suc q))))) = omega arith in
      let b : q + 2 ≡ suc (suc q) = omega arith in
      let c : q + 1 ≡ suc q = omega arith in
      let d : q + 3 ≡ suc (suc (suc q)) = omega arith in
      let f = mark_between (suc (suc q)) (λ z. omega arith) in
      let g = mark_between (suc (suc (suc q))) (λ z. omega arith) in
      let h = mark_between (suc (suc (suc (suc q)))) (λ z. omega arith) in
      let j = mark_end (suc (suc (suc (suc (suc q))))) (omega arith) in
      rw (a, b, c, d, f, g, h, j) (simp append_assoc)

  by_lines : (r : ℕ) → joined parts (4 * r + 2) ≡ (field_text n 44 ++ field_text m 10) ++ joined (λ k. row_text L (4 * k)) r
  unfolding joined numbers mark
  by_lines zero = sym (append-nil (field_text n 44 ++ field_text m 10))
  by_lines (suc r) =
      let e : 4 * suc r + 2 ≡ 4 * r + 6 = omega arith in
      rw (e, four r (4 * r) refl, by_lines r)
      (append_assoc (field_text n 44 ++ field_text m 10) (joined (λ k. row_text L (4 * k)) r) (row_text L (4 * r)))

  small : ((i : ℕ) → i < 4 * m → at L i < 10 ^ 7) → n ≤ 200 → m ≤ 200 → (i : ℕ) → i < 4 * m + 2 → numbers i < 10 ^ 7
  unfolding numbers
  small f a b zero h = omega arith
  small f a b (suc zero) h = omega arith
  small f a b (suc (suc i)) h = f i (omega arith)

pub record ReadBack (n m : ℕ) (L t : List ℕ) : Type 0 where
  pub form : first_bad t ≡ 0
  pub the_n_lem : the_n t ≡ n
  pub the_m_lem : the_m t ≡ m
  pub rows : the_list t ≡ L

module _ (n m : ℕ) (L : List ℕ) (count : length L ≡ 4 * m) (fits : (i : ℕ) → i < 4 * m → at L i < 10 ^ 7) (a : n ≤ 200) (b : m ≤ 200) where
  abbrev flat : List ℕ
  flat = joined (parts n m L) (4 * m + 2)

  m_is : the_m flat ≡ m
  unfolding numbers
  m_is = m_back (numbers n m L) (4 * m + 2) (small n m L fits a b) refl a b

  entry_is_lem : (i : ℕ) → i < 4 * m → the_number flat i ≡ at L i
  unfolding numbers
  entry_is_lem i h =
      let e : i + 2 ≡ suc (suc i) = omega arith in
      row_back (numbers n m L) (4 * m + 2) (small n m L fits a b) refl a b i h ∙ ap (numbers n m L) e

  list_is : the_list flat ≡ L
  unfolding the_list
  list_is =
      ext_get_or 0 (tab (4 * the_m flat) (the_number flat)) L (length_tab (4 * the_m flat) (the_number flat) ∙ omega (arith, m_is))
      (λ i h. let g : i < 4 * the_m flat = rw length_tab at h in at_tab (4 * the_m flat) (the_number flat) i g ∙ entry_is_lem i (omega (arith, m_is)))

  -- every mesh within the bounds, written so, is in form and read back
  pub read_back : ReadBack n m L (mesh_text n m L)
  unfolding numbers
  read_back =
      rw (← by_lines n m L m)
      (record {
        form = in_form_lem (numbers n m L) (4 * m + 2) (small n m L fits a b) refl a b;
        the_n_lem = n_back (numbers n m L) (4 * m + 2) (small n m L fits a b) refl a b;
        the_m_lem = m_is;
        rows = list_is;
      })
