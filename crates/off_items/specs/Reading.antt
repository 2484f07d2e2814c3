-- What is found at a place of a text, and what the functions say of it.
-- Assumes nothing.
use Rattle.std.specs.Prelude.{◌≡◌, Result, Ok, Err, Bool, true, false, ℕ, ◌+◌, ◌≤◌, ◌<◌, length}
use Rattle.std.proofs.Math.Path.{refl, ap, sym}
use Rattle.std.proofs.Common.{◌∙◌, drop-drop}
use Rattle.std.proofs.Math.Bool.{not}
use mathlib.Core.List.{List, [], ◌∷◌}
use native.Mathlib.Omega.{arith}
use Rattle.std.proofs.Math.ListN.{drop}
use Rattle.std.proofs.Math.Seq.{get_or-drop}
use Rattle.lists.specs.Tests.{same}
use Rattle.lists.specs.Search.{at, least}
use Rattle.lists.specs.Steps.{None, none_yet, none_more, found_here, found_none}
use Rattle.lists.specs.TestLaws.{Test, pass, fail, test, never}
use Rattle.off_rules.specs.Off.{Item, item, word, is_off, first_from, is_whole, number_of, past_sign, past_fraction, is_decimal}
use Rattle.off_items.specs.Words.{is_gap, word_end, word_at, word_ends}
use Rattle.off_items.specs.Parting.{line_at, rest, Begins, rest_item, first_item}
use Rattle.off_items.specs.declared.Kind.{Kind}
use Rattle.off_items.specs.declared.Kind.TheVariants.{Word, Whole, Decimal}
use Rattle.off_items.specs.declared.Found.{Found}

-- an item of a kind, and its number
unfoldable pub is_of : Kind → List ℕ → Bool
is_of Word w = is_off w
is_of Whole w = is_whole w
is_of Decimal w = is_decimal w

unfoldable pub value_of : Kind → List ℕ → ℕ
value_of Word w = 0
value_of Whole w = number_of w
value_of Decimal w = 0

abbrev pub found : ℕ → ℕ → Result Found ℕ
found value end = Ok (record { value = value; end = end })

abbrev pub missed : ℕ → Result Found ℕ
missed at = Err at

-- what the word that begins at s is held to a kind
unfoldable pub read_at : Kind → List ℕ → ℕ → Result Found ℕ
read_at k t s = let w = word_at t s in elim (is_of k w) [ true ↦ found (value_of k w) (word_end t s) | false ↦ missed s ]

-- an item begins at s, or the text ends, and no item stands from p up to s
pub record To (t : List ℕ) (p s : ℕ) : Type 0 where
  pub onward : p ≤ s
  pub begins : Begins t s
  pub same : rest t p ≡ rest t s

-- the first of the items from p on, held to a kind: it is of the kind, or what stands at a place isn't
pub record IsNext (k : Kind) (t : List ℕ) (p : ℕ) (f : Found) : Type 0 where
  pub inside : f.end ≤ length t
  pub good : is_of k (word (rest t p) 0) ≡ true
  pub value : f.value ≡ value_of k (word (rest t p) 0)
  pub left : rest t f.end ≡ drop 1 (rest t p)

pub record NoNext (k : Kind) (t : List ℕ) (p q : ℕ) : Type 0 where
  pub inside : q ≤ length t
  pub bad : is_of k (word (rest t p) 0) ≡ false
  pub line : line_at t q ≡ (item (rest t p) 0).line

abbrev pub Next : Kind → List ℕ → ℕ → Result Found ℕ → Type 0
Next k t p (Ok f) = IsNext k t p f
Next k t p (Err q) = NoNext k t p q

-- the first of n items that is not of a kind; n where all are
unfoldable pub first_other : Kind → List Item → ℕ → ℕ
first_other k x n = least (λ j. not (is_of k (word x j))) n

-- the first n of the items from p on: all are of the kind, or the first of another stands at a place
pub record Passes (k : Kind) (t : List ℕ) (p n a : ℕ) : Type 0 where
  pub inside : a ≤ length t
  pub good : first_other k (rest t p) n ≡ n
  pub left : rest t a ≡ drop n (rest t p)

pub record Stops (k : Kind) (t : List ℕ) (p n q : ℕ) : Type 0 where
  pub inside : q ≤ length t
  pub bad : first_other k (rest t p) n < n
  pub line : line_at t q ≡ (item (rest t p) (first_other k (rest t p) n)).line

abbrev pub Pass : Kind → List ℕ → ℕ → ℕ → Result ℕ ℕ → Type 0
Pass k t p n (Ok a) = Passes k t p n a
Pass k t p n (Err q) = Stops k t p n q

-- a place that was come to past blanks and comments
module _ {t : List ℕ} {p s : ℕ} (x : (p ≤ s) × (s ≤ length t) × (rest t p ≡ rest t s)) where
  pub to_item : is_gap (at t s) ≡ false → To t p s
  to_item e = record { onward = x.0; begins = record { inside = x.1; no_gap = λ h. rw e tt }; same = x.2 }

  pub to_end : length t ≤ s → To t p s
  to_end h = record { onward = x.0; begins = record { inside = x.1; no_gap = λ l. absurd (omega arith) }; same = x.2 }

-- what a kind says of the word that begins at s
module _ (k : Kind) (t : List ℕ) (s : ℕ) where
  pub read_good : {v e : ℕ} {r : Result Found ℕ} → is_of k (word_at t s) ≡ true → v ≡ value_of k (word_at t s) → e ≡ word_end t s → r ≡ found v e →
      r ≡ read_at k t s
  unfolding read_at
  read_good h a b q = rw (h, read_at) (q ∙ cc)

  pub read_bad : {r : Result Found ℕ} → is_of k (word_at t s) ≡ false → r ≡ missed s → r ≡ read_at k t s
  unfolding read_at
  read_bad h q = rw (h, read_at) q

-- an item of a kind has a byte
some_of : (k : Kind) (w : List ℕ) → is_of k w ≡ true → 0 < length w
unfolding is_of is_off is_whole is_decimal past_sign past_fraction first_from least same
some_of Word [] e = never e refl
some_of Whole [] e = never e refl
some_of Decimal [] e = never e refl
some_of Word (b ∷ w) e = omega arith
some_of Whole (b ∷ w) e = omega arith
some_of Decimal (b ∷ w) e = omega arith

module _ (k : Kind) {t : List ℕ} {p s : ℕ} (x : To t p s) where
  first : item (rest t p) 0 ≡ record { bytes = word_at t s; line = line_at t s }
  first = ap (λ (y : List Item). item y 0) x.same ∙ first_item t x.begins

  of : is_of k (word (rest t p) 0) ≡ is_of k (word_at t s)
  of = ap (λ (i : Item). is_of k i.bytes) first

  next_good : is_of k (word_at t s) ≡ true → Next k t p (found (value_of k (word_at t s)) (word_end t s))
  next_good e =
      let b = x.begins in
      record {
        inside = (word_ends t b.inside).passed.inside;
        good = of ∙ e;
        value = sym (ap (λ (i : Item). value_of k i.bytes) first);
        left = sym (ap (drop 1) (x.same ∙ rest_item t b (some_of k (word_at t s) e)));
      }

  next_bad : is_of k (word_at t s) ≡ false → Next k t p (missed s)
  next_bad e = record { inside = x.begins.inside; bad = of ∙ e; line = sym (ap (λ (i : Item). i.line) first) }

  pub next_told : {r : Result Found ℕ} → r ≡ read_at k t s → Next k t p r
  unfolding read_at
  next_told {r} q = go (test (is_of k (word_at t s)))
    where
      go : Test (is_of k (word_at t s)) → Next k t p r
      go (pass u e) = rw (q, e, read_at) (next_good e)
      go (fail u e) = rw (q, e, read_at) (next_bad e)

-- a loop over items of one kind, from p on: i were passed, up to place a
pub record Going (k : Kind) (t : List ℕ) (p i a : ℕ) : Type 0 where
  pub inside : a ≤ length t
  pub left : rest t a ≡ drop i (rest t p)
  pub none : None (λ j. not (is_of k (word (rest t p) j))) i

module _ (k : Kind) (t : List ℕ) (p : ℕ) where
  pub going_none : p ≤ length t → Going k t p 0 p
  going_none h = record { inside = h; left = refl; none = none_yet (λ j. not (is_of k (word (rest t p) j))) }

  module _ {i a : ℕ} (x : Going k t p i a) where
    here : item (rest t a) 0 ≡ item (rest t p) i
    unfolding item
    here =
        let z : i + 0 ≡ i = omega arith in
        ap (λ (y : List Item). item y 0) x.left ∙ get_or-drop i (rest t p) 0 (record { bytes = []; line = 0 }) ∙ ap (item (rest t p)) z

    pub going_more : {f : Found} → IsNext k t a f → Going k t p (i + 1) f.end
    going_more n =
        record {
          inside = n.inside;
          left = n.left ∙ ap (drop 1) x.left ∙ drop-drop 1 i (rest t p);
          none = none_more (λ j. not (is_of k (word (rest t p) j))) x.none (ap not (sym (ap (λ (y : Item). is_of k y.bytes) here) ∙ n.good));
        }

    pub pass_bad : {m q : ℕ} → i < m → NoNext k t a q → Stops k t p m q
    unfolding first_other
    pass_bad {m} h n =
        let e = found_here (λ j. not (is_of k (word (rest t p) j))) x.none m h (ap not (sym (ap (λ (y : Item). is_of k y.bytes) here) ∙ n.bad)) in
        record {
          inside = n.inside;
          bad = omega arith;
          line = n.line ∙ ap (λ (j : Item). j.line) here ∙ ap (λ (j : ℕ). (item (rest t p) j).line) e;
        }

    pub pass_all : {m : ℕ} → i ≡ m → Passes k t p m a
    unfolding first_other
    pass_all {m} z =
        let e = found_none (λ j. not (is_of k (word (rest t p) j))) x.none m z in
        record {
          inside = x.inside;
          good = sym e ∙ z;
          left = x.left ∙ ap (λ (j : ℕ). drop j (rest t p)) z;
        }
