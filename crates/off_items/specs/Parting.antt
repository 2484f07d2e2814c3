-- The items of a text from a place on, as a reader comes to them: blanks and comments passed over, then an item.
-- Assumes nothing.
use Rattle.std.specs.Prelude.{◌≡◌, refl, Bool, not, ◌⊎◌, drop}
use Rattle.std.proofs.Math.Path.{ap, sym, subst}
use Rattle.std.proofs.Common.{◌∙◌, inl, inr, add-one, arith, T_not, take-append-drop, drop_of_length-le, length-drop, drop-cons, drop-drop, get_or-drop, ne_eqb}
use Rattle.std.proofs.Math.Bool.{true, false}
use mathlib.Core.List.{List, [], ◌∷◌, ◌++◌, append-nil}
use Prim.Native.Nat.{ℕ, zero, suc, ◌+◌, ◌-◌, ◌≤◌, ◌<◌}
use Rattle.std.proofs.Math.Dec.{T, eqb}
use Rattle.std.proofs.Math.ListN.{length, take}
use Rattle.std.proofs.Math.Seq.{append_snoc, take-length}
use Rattle.lists.specs.TestLaws.{Test, pass, fail, test, means_eq, means_not, zero_or, true_of, false_of}
use Rattle.lists.specs.Search.{at, count}
use Rattle.lists.specs.SearchLaws.{count_pass, count_fail, count_gap, le_or_lt}
use Rattle.off_rules.specs.Off.{bare, is_blank, Item, closed, line_after, parted, items, item, first_from}
use Rattle.off_items.specs.Scanning.{First, first_is}
use Rattle.off_items.specs.Words.{is_gap, means_blank, blank_bound, word_end, word_at, word_ends, word_end_lem, word_inside, word_byte, word_none}

-- "1 plus the newlines before it"
unfoldable pub line_at : List ℕ → ℕ → ℕ
line_at t p = suc (count (λ i. eqb (at t i) 10) p)

-- the items from place p on, where no comment goes on, and where one does
unfoldable pub rest : List ℕ → ℕ → List Item
rest t p = parted [] (line_at t p) (bare false (drop p t))

commented : List ℕ → ℕ → List Item
commented t p = parted [] (line_at t p) (bare true (drop p t))

pub rest_all : (t : List ℕ) → items t ≡ rest t 0
unfolding items rest line_at count
rest_all t = refl

-- a byte by byte account of comments
bare_newline : (c : Bool) (s : List ℕ) → bare c (10 ∷ s) ≡ 10 ∷ bare false s
unfolding bare
bare_newline c s = refl

bare_other : (b : ℕ) (s : List ℕ) → (b ≡ 35 → ⊥) → bare false (b ∷ s) ≡ b ∷ bare false s
unfolding bare
bare_other b s d = go (test (eqb b 10))
  where
    go : Test (eqb b 10) → bare false (b ∷ s) ≡ b ∷ bare false s
    go (pass t e) = rw (e, bare)
    go (fail t e) = rw (e, ne_eqb b 35 d, bare)

bare_hash : (s : List ℕ) → bare false (35 ∷ s) ≡ 32 ∷ bare true s
unfolding bare
bare_hash s = refl

bare_inside : (b : ℕ) (s : List ℕ) → (b ≡ 10 → ⊥) → bare true (b ∷ s) ≡ 32 ∷ bare true s
unfolding bare
bare_inside b s d = rw (ne_eqb b 10 d, bare)

-- and of items
parted_blank : (w : List ℕ) (line b : ℕ) (s : List ℕ) → T (is_blank b) → parted w line (b ∷ s) ≡ closed w line (parted [] (line_after line b) s)
unfolding parted
parted_blank w line b s h = rw (true_of (is_blank b) h, parted)

parted_space : (w : List ℕ) (line : ℕ) (s : List ℕ) → parted w line (32 ∷ s) ≡ closed w line (parted [] line s)
unfolding parted line_after
parted_space w line s = refl

parted_other : (w : List ℕ) (line b : ℕ) (s : List ℕ) → T (not (is_blank b)) → parted w line (b ∷ s) ≡ parted (w ++ (b ∷ [])) line s
unfolding parted
parted_other w line b s h = rw (false_of (is_blank b) h, parted)

-- a byte that is no gap is no blank, no # and no newline
record Plain (b : ℕ) : Type 0 where
  pub blank : T (not (is_blank b))
  pub hash : b ≡ 35 → ⊥
  pub newline : b ≡ 10 → ⊥

plain : (b : ℕ) → T (not (is_gap b)) → Plain b
plain b h = go (test (is_blank b)) h
  where
    go : Test (is_blank b) → T (not (is_gap b)) → Plain b
    go (pass t e) g = absurd (rw e at g)
    go (fail t e) g =
        record {
          blank = t;
          hash = (means_not (means_eq b 35)).says (rw e at g);
          newline = λ z. T_not (is_blank b) t ((means_blank b).shows (inr (inr (inr z))));
        }

module _ (t : List ℕ) where
  module _ {p : ℕ} (h : p < length t) where
    line_newline : at t p ≡ 10 → line_at t (suc p) ≡ suc (line_at t p)
    unfolding line_at
    line_newline e = ap suc (count_pass (λ i. eqb (at t i) 10) p ((means_eq (at t p) 10).shows e))

    line_other : (at t p ≡ 10 → ⊥) → line_at t (suc p) ≡ line_at t p
    unfolding line_at
    line_other d = ap suc (count_fail (λ i. eqb (at t i) 10) p ((means_not (means_eq (at t p) 10)).shows d))

    line_after_lem : line_after (line_at t p) (at t p) ≡ line_at t (suc p)
    unfolding line_after
    line_after_lem = go (test (eqb (at t p) 10))
      where
        go : Test (eqb (at t p) 10) → line_after (line_at t p) (at t p) ≡ line_at t (suc p)
        go (pass s e) = rw (e, line_after) (omega (arith, line_newline ((means_eq (at t p) 10).says s)))
        go (fail s e) = rw (e, line_after) (sym (line_other ((means_not (means_eq (at t p) 10)).says s)))

    one_more : drop p t ≡ at t p ∷ drop (suc p) t
    one_more = drop-cons t p 0 h

    rest_blank : T (is_blank (at t p)) → rest t p ≡ rest t (p + 1)
    unfolding rest closed
    rest_blank b =
        let d : at t p ≡ 35 → ⊥ = λ e. omega (arith, blank_bound (at t p) b) in
        rw (add-one, one_more, bare_other (at t p) (drop (suc p) t) d)
        (parted_blank [] (line_at t p) (at t p) (bare false (drop (suc p) t)) b
        ∙ ap (λ (l : ℕ). parted [] l (bare false (drop (suc p) t))) line_after_lem)

    rest_hash : at t p ≡ 35 → rest t p ≡ commented t (suc p)
    unfolding rest commented closed
    rest_hash e =
        rw (one_more, e, bare_hash (drop (suc p) t))
        (parted_space [] (line_at t p) (bare true (drop (suc p) t))
        ∙ ap (λ (l : ℕ). parted [] l (bare true (drop (suc p) t))) (sym (line_other (λ z. omega arith))))

    commented_on : (at t p ≡ 10 → ⊥) → commented t p ≡ commented t (suc p)
    unfolding commented closed
    commented_on d =
        rw (one_more, bare_inside (at t p) (drop (suc p) t) d)
        (parted_space [] (line_at t p) (bare true (drop (suc p) t))
        ∙ ap (λ (l : ℕ). parted [] l (bare true (drop (suc p) t))) (sym (line_other d)))

    commented_newline : at t p ≡ 10 → commented t p ≡ rest t p
    unfolding commented rest
    commented_newline e =
        rw (one_more, e, bare_newline true (drop (suc p) t), bare_newline false (drop (suc p) t))

  commented_end : {p : ℕ} → length t ≤ p → commented t p ≡ rest t p
  unfolding commented rest bare
  commented_end h = rw (drop_of_length-le t h)

  -- a comment goes on to the next newline, or to the end
  to_newline : (k p e : ℕ) → e ≡ p + k → First (λ b. eqb b 10) t p e → commented t p ≡ rest t e
  to_newline zero p e q x =
      let same : p ≡ e = omega arith in
      ap (commented t) same
      ∙ elim (le_or_lt (length t) e) [ inl h ↦ commented_end h | inr h ↦ commented_newline h ((means_eq (at t e) 10).says (x.found h)) ]
  to_newline (suc k) p e q x =
      commented_on (omega (arith, x.passed.inside)) ((means_not (means_eq (at t p) 10)).says (x.passed.none p (omega arith) (omega arith)))
      ∙ to_newline k (suc p) e (omega arith)
      (record {
        passed = record { onward = omega arith; inside = x.passed.inside; none = λ j l m. x.passed.none j (omega arith) m };
        found = x.found;
      })

  rest_comment : {p e : ℕ} → p < length t → at t p ≡ 35 → First (λ b. eqb b 10) t (p + 1) e → rest t p ≡ rest t e
  rest_comment {p} {e} h q x =
      let y : First (λ b. eqb b 10) t (suc p) e = rw add-one at x in
      rest_hash h q ∙ to_newline (e - suc p) (suc p) e (omega (arith, y.passed.onward)) y

-- no item stands from p up to r, a later place
pub record Past (t : List ℕ) (p r : ℕ) : Type 0 where
  pub onward : p < r
  pub inside : r ≤ length t
  pub same : rest t p ≡ rest t r

module _ (t : List ℕ) {p : ℕ} (h : p < length t) where
  pub past_comment : {r : ℕ} → at t p ≡ 35 → r ≡ first_from (λ b. eqb b 10) t (p + 1) → Past t p r
  past_comment {r} e q =
      let x : First (λ b. eqb b 10) t (p + 1) r = rw q (first_is (λ b. eqb b 10) t (omega arith)) in
      record { onward = omega (arith, x.passed.onward); inside = x.passed.inside; same = rest_comment t h e x }

  pub past_blank : T (is_gap (at t p)) → (at t p ≡ 35 → ⊥) → Past t p (p + 1)
  past_blank g d = record { onward = omega arith; inside = omega arith; same = rest_blank t h (go (test (is_blank (at t p))) g) }
    where
      go : Test (is_blank (at t p)) → T (is_gap (at t p)) → T (is_blank (at t p))
      go (pass s e) k = s
      go (fail s e) k = absurd (d ((means_eq (at t p) 35).says (rw e at k)))

-- the bytes of a word, then what stands after it
grown : (v w : List ℕ) (line : ℕ) (s : List ℕ) → ((j : ℕ) → j < length v → T (not (is_gap (at v j)))) →
    parted w line (bare false (v ++ s)) ≡ parted (w ++ v) line (bare false s)
grown [] w line s h = ap (λ (z : List ℕ). parted z line (bare false s)) (sym (append-nil w))
grown (b ∷ v) w line s h =
    let x = plain b (h 0 (omega arith)) in
    rw (bare_other b (v ++ s) x.hash)
    (parted_other w line b (bare false (v ++ s)) x.blank
    ∙ grown v (w ++ (b ∷ [])) line s (λ j l. h (suc j) (omega arith))
    ∙ ap (λ (z : List ℕ). parted z line (bare false s)) (append_snoc w b v))

closed_none : (line : ℕ) (others : List Item) → closed [] line others ≡ others
unfolding closed
closed_none line others = refl

closed_some : (w : List ℕ) (line : ℕ) (others : List Item) → 0 < length w → closed w line others ≡ record { bytes = w; line = line } ∷ others
unfolding closed
closed_some [] line others h = absurd (omega arith)
closed_some (b ∷ w) line others h = refl

-- the text's end is its last item
parted_end : (line : ℕ) → parted [] line (bare false []) ≡ record { bytes = []; line = line } ∷ []
unfolding parted bare closed
parted_end line = refl

closes_end : (w : List ℕ) (line : ℕ) → parted w line (bare false []) ≡ closed w line (parted [] line (bare false []))
unfolding parted bare closed
closes_end w line = refl

-- a text that ends, or goes on with a gap, ends the item before it
closes : (w : List ℕ) (line : ℕ) (s : List ℕ) → (0 < length s → T (is_gap (at s 0))) →
    parted w line (bare false s) ≡ closed w line (parted [] line (bare false s))
closes w line [] h = closes_end w line
closes w line (b ∷ s) h = go (test (is_blank b)) (h (omega arith))
  where
    -- b reads as c, a blank, and r follows it
    by : (c : ℕ) (r : List ℕ) → T (is_blank c) → bare false (b ∷ s) ≡ c ∷ r →
        parted w line (bare false (b ∷ s)) ≡ closed w line (parted [] line (bare false (b ∷ s)))
    by c r k q =
        let after = parted [] (line_after line c) r in
        rw q (parted_blank w line c r k ∙ ap (closed w line) (sym (parted_blank [] line c r k ∙ closed_none line after)))

    go : Test (is_blank b) → T (is_gap b) → parted w line (bare false (b ∷ s)) ≡ closed w line (parted [] line (bare false (b ∷ s)))
    go (pass t e) g = by b (bare false s) t (bare_other b s (λ q. omega (arith, blank_bound b t)))
    go (fail t e) g =
        let q : b ≡ 35 = (means_eq b 35).says (rw e at g) in
        by 32 (bare true s) tt (ap (λ (c : ℕ). bare false (c ∷ s)) q ∙ bare_hash s)

-- where an item begins, or the text ends
pub record Begins (t : List ℕ) (s : ℕ) : Type 0 where
  pub inside : s ≤ length t
  pub no_gap : s < length t → T (not (is_gap (at t s)))

module _ (t : List ℕ) {s : ℕ} (b : Begins t s) where
  abbrev w : List ℕ
  w = word_at t s

  abbrev e : ℕ
  e = word_end t s

  ends : First is_gap t s e
  ends = word_ends t b.inside

  -- an item has a byte
  pub some_byte : s < length t → 0 < length w
  some_byte h = elim (zero_or (length w)) [
    | inr d ↦ omega arith
    | inl z ↦
        let q : e ≡ s = omega (arith, word_end_lem t b.inside) in
        absurd (T_not (is_gap (at t s)) (b.no_gap h) (subst (λ (i : ℕ). T (is_gap (at t i))) q (ends.found (omega arith))))
  ]

  cut : drop s t ≡ w ++ drop e t
  cut =
      let q : s + (e - s) ≡ e = omega (arith, ends.passed.onward) in
      sym (take-append-drop (e - s) (drop s t)) ∙ ap (λ (r : List ℕ). w ++ r) (drop-drop (e - s) s t ∙ ap (λ (i : ℕ). drop i t) q)

  same_line : line_at t e ≡ line_at t s
  unfolding line_at
  same_line =
      ap suc (count_gap (λ i. eqb (at t i) 10) s e ends.passed.onward (λ i h k q.
      (plain (at t i) (ends.passed.none i h k)).newline ((means_eq (at t i) 10).says q)))

  after_gap : 0 < length (drop e t) → T (is_gap (at (drop e t) 0))
  after_gap h =
      let q : e + 0 ≡ e = omega arith in
      subst (λ (c : ℕ). T (is_gap c)) (sym (get_or-drop e t 0 0 ∙ ap (at t) q)) (ends.found (omega (arith, length-drop e t)))

  pub rest_item : 0 < length w → rest t s ≡ record { bytes = w; line = line_at t s } ∷ rest t e
  unfolding rest
  rest_item h =
      let l = line_at t s in
      ap (λ (r : List ℕ). parted [] l (bare false r)) cut
      ∙ grown w [] l (drop e t) (λ j k. subst (λ (c : ℕ). T (not (is_gap c))) (sym (word_byte t b.inside j k)) (word_none t b.inside j k))
      ∙ closes w l (drop e t) after_gap
      ∙ closed_some w l (parted [] l (bare false (drop e t))) h
      ∙ ap (λ (i : ℕ). record { bytes = w; line = l } ∷ parted [] i (bare false (drop e t))) (sym same_line)

  rest_end : length t ≤ s → rest t s ≡ record { bytes = []; line = line_at t s } ∷ []
  unfolding rest
  rest_end h = ap (λ (r : List ℕ). parted [] (line_at t s) (bare false r)) (drop_of_length-le t h) ∙ parted_end (line_at t s)

  -- the first of the items from s on: its bytes, and its line, also where it is the text's end
  pub first_item : item (rest t s) 0 ≡ record { bytes = w; line = line_at t s }
  unfolding item
  first_item = go (le_or_lt (length t) s)
    where
      none : length w ≡ 0 → w ≡ []
      none z = sym (take-length w) ∙ ap (λ (k : ℕ). take k w) z

      go : (length t ≤ s) ⊎ (s < length t) → item (rest t s) 0 ≡ record { bytes = w; line = line_at t s }
      go (inl h) = rw (rest_end h, none (omega (arith, word_inside t b.inside)))
      go (inr h) = rw (rest_item (some_byte h))
