-- How a reader comes from item to item of a text: none so far is bad, or the first bad one is found.
-- Assumes nothing.
use Rattle.std.specs.Prelude.{◌≡◌, Bool, false, ◌⊎◌, List, [], ◌∷◌, T, eqb, drop}
use Rattle.std.proofs.Math.Path.{refl}
use Rattle.std.proofs.Common.{ap, sym, subst, ◌∙◌, inl, inr, drop-drop}
use Rattle.std.proofs.Math.Bool.{true, not}
use Prim.Native.Nat.{ℕ, zero, suc, ◌+◌, ◌*◌, ◌-◌, ◌≤◌, ◌<◌}
use native.Mathlib.Omega.{arith}
use Rattle.std.proofs.Math.ListN.{length}
use borrow.Author.Tests.{eq-eqb, ne_eqb, le-leb, lt-leb}
use Rattle.lists.specs.Tests.{same}
use Rattle.lists.specs.SearchLaws.{Least, le_or_lt}
use Rattle.lists.specs.Steps.{None, none_yet, none_more, found_here, found_none}
use Rattle.lists.specs.TestLaws.{means_not, means_same, true_of, false_of}
use Rattle.off_rules.specs.Off.{Item, items, item, word, is_off, is_whole, is_decimal, the_n, the_m, face_item, is_good, form_items, bad_item, in_form}
use Rattle.off_items.specs.Parting.{line_at, rest, rest_all, some_byte, first_item}
use Rattle.off_items.specs.Words.{word_at, word_inside}
use Rattle.off_items.specs.Reading.{is_of, first_other, To, Passes, Stops}
use Rattle.off.specs.Passing.{item_after, other_is}
use Rattle.off_items.specs.declared.Kind.{Kind}

-- item i is not what the form has there
abbrev pub bad : List Item → ℕ → Bool
bad x i = not (is_good x i)

-- the first i items are good, and the next begins at p or after it
pub record Read (t : List ℕ) (i p : ℕ) : Type 0 where
  pub inside : p ≤ length t
  pub left : rest t p ≡ drop i (items t)
  pub none : None (bad (items t)) i

-- the text isn't in form, and its first bad item stands at p
pub record BadAt (t : List ℕ) (p : ℕ) : Type 0 where
  pub inside : p ≤ length t
  pub form : in_form (items t) ≡ false
  pub line : line_at t p ≡ (item (items t) (bad_item (items t))).line

pub read_none : (t : List ℕ) → Read t 0 0
read_none t = record { inside = omega arith; left = sym (rest_all t); none = none_yet (bad (items t)) }

none_left : (w : List ℕ) → length w ≡ 0 → w ≡ []
none_left [] e = refl
none_left (b ∷ w) e = absurd (omega arith)

module _ {t : List ℕ} {i p : ℕ} (x : Read t i p) where
  abbrev its : List Item
  its = items t

  from_here : (j : ℕ) → item (rest t p) j ≡ item its (i + j)
  from_here j = ap (λ (y : List Item). item y j) x.left ∙ item_after its i j

  pub first_left : item (rest t p) 0 ≡ item its i
  first_left = let z : i + 0 ≡ i = omega arith in from_here 0 ∙ ap (item its) z

  -- the item at i + j is bad, all before it are good
  found_bad : (j : ℕ) → i + j < form_items its → None (bad its) (i + j) → is_good its (i + j) ≡ false → i + j ≡ bad_item its
  unfolding bad_item
  found_bad j h none e = found_here (bad its) none (form_items its) h (ap not e)

  bad_there : {q : ℕ} (j : ℕ) → q ≤ length t → i + j < form_items its → None (bad its) (i + j) → is_good its (i + j) ≡ false →
      line_at t q ≡ (item (rest t p) j).line → BadAt t q
  bad_there j inside h none e l =
      let f = found_bad j h none e in
      record {
        inside = inside;
        form = ne_eqb (bad_item its) (form_items its) (λ z. omega arith);
        line = l ∙ ap (λ (y : Item). y.line) (from_here j) ∙ ap (λ (k : ℕ). (item its k).line) f;
      }

  -- n items of one kind, which the form has there, were passed, or a bad one among them was found
  module _ (k : Kind) {n : ℕ} (kind : (j : ℕ) → j < n → is_good its (i + j) ≡ is_of k (word its (i + j))) where
    other : Least (λ j. not (is_of k (word (rest t p) j))) n (first_other k (rest t p) n)
    other = other_is k (rest t p) n

    of_there : (j : ℕ) → j < n → is_of k (word (rest t p) j) ≡ is_good its (i + j)
    of_there j l = ap (λ (z : Item). is_of k z.bytes) (from_here j) ∙ sym (kind j l)

    -- up to the first of another kind all are good
    good_to : (j : ℕ) → j ≤ first_other k (rest t p) n → None (bad its) (i + j)
    good_to j l a m = elim (le_or_lt i a) [
      | inr h ↦ x.none a h
      | inl h ↦
          let z : i + (a - i) ≡ a = omega arith in
          let b = other.bound in
          subst (λ (u : ℕ). T (not (bad its u))) z
          (subst (λ (u : Bool). T (not (not u))) (of_there (a - i) (omega arith)) (other.before (a - i) (omega arith)))
    ]

    pub read_on : {a : ℕ} → Passes k t p n a → Read t (i + n) a
    read_on y =
        record {
          inside = y.inside;
          left = y.left ∙ ap (drop n) x.left ∙ drop-drop n i its;
          none = good_to n (omega (arith, y.good));
        }

    pub read_bad : {q : ℕ} → Stops k t p n q → i + n ≤ form_items its → BadAt t q
    read_bad y h =
        let o = first_other k (rest t p) n in
        let l : o < n = y.bad in
        let e = sym (of_there o l) ∙ false_of (is_of k (word (rest t p) o)) (other.found l) in
        bad_there o y.inside (omega arith) (good_to o (omega arith)) e y.line

-- what the form has at each item
module _ (x : List Item) where
  pub face_least : (f : ℕ) → 4 + 3 * the_n x ≤ face_item x f
  unfolding face_item
  face_least zero = omega arith
  face_least (suc f) = omega (arith, face_least f)

  -- a face takes at least its corner count
  face_next : (f : ℕ) → face_item x f < face_item x (suc f)
  unfolding face_item
  face_next f = omega arith

  pub face_later : (f m : ℕ) → f ≤ m → face_item x f ≤ face_item x m
  face_later f zero h = let z : f ≡ 0 = omega arith in rw z (omega arith)
  face_later f (suc m) h = elim (le_or_lt f m) [
    | inl l ↦ omega (arith, face_later f m l, face_next m)
    | inr l ↦ let z : f ≡ suc m = omega arith in rw z (omega arith)
  ]

  pub good_word : is_good x 0 ≡ is_off (word x 0)
  unfolding is_good
  good_word = refl

  pub good_decimal : (i : ℕ) → 4 ≤ i → i < 4 + 3 * the_n x → is_good x i ≡ is_decimal (word x i)
  unfolding is_good
  good_decimal i h l =
      rw (ne_eqb i 0 (λ z. omega arith), le-leb 4 i h, le-leb i (3 + 3 * the_n x) (omega arith), is_good)

  -- past the word, and not of a vertex
  good_other : (i : ℕ) → 1 ≤ i → (i < 4) ⊎ (4 + 3 * the_n x ≤ i) →
      is_good x i ≡ elim (eqb i (face_item x (the_m x))) [ true ↦ same (word x i) [] | false ↦ is_whole (word x i) ]
  unfolding is_good
  good_other i h (inl l) = rw (ne_eqb i 0 (λ z. omega arith), lt-leb 4 i l, is_good)
  good_other i h (inr l) = rw (ne_eqb i 0 (λ z. omega arith), le-leb 4 i (omega arith), lt-leb i (3 + 3 * the_n x) (omega arith), is_good)

  pub good_whole : (i : ℕ) → 1 ≤ i → (i < 4) ⊎ (4 + 3 * the_n x ≤ i) → i < face_item x (the_m x) → is_good x i ≡ is_whole (word x i)
  good_whole i h w l = rw (good_other i h w, ne_eqb i (face_item x (the_m x)) (λ z. omega arith))

  good_end : is_good x (face_item x (the_m x)) ≡ same (word x (face_item x (the_m x))) []
  good_end =
      let e = face_item x (the_m x) in
      let l = face_least (the_m x) in
      rw (good_other e (omega arith) (inr l), eq-eqb e e refl)

-- the text's end after the last face, or an item too many
module _ {t : List ℕ} {p s : ℕ} (x : Read t (face_item (items t) (the_m (items t))) p) (to : To t p s) where
  abbrev last : ℕ
  last = face_item (items t) (the_m (items t))

  ends : item (rest t p) 0 ≡ record { bytes = word_at t s; line = line_at t s }
  ends = ap (λ (y : List Item). item y 0) to.same ∙ first_item t to.begins

  end_word : word (items t) last ≡ word_at t s
  end_word =
      sym (ap (λ (y : Item). y.bytes) (first_left x)) ∙ ap (λ (y : Item). y.bytes) ends

  pub item_too_many : s < length t → BadAt t s
  item_too_many h =
      let z : last + 0 ≡ last = omega arith in
      let some = some_byte t to.begins h in
      let e : is_good (items t) last ≡ false =
      good_end (items t) ∙ false_of _ ((means_not (means_same (word (items t) last) [])).shows (λ q. omega (arith, ap length (sym end_word ∙ q)))) in
      bad_there x 0 to.begins.inside (omega arith) (rw z x.none) (rw z e) (sym (ap (λ (y : Item). y.line) ends))

  pub text_ends : length t ≤ s → in_form (items t) ≡ true
  unfolding bad_item
  text_ends h =
      let l : length (word_at t s) ≡ 0 = omega (arith, word_inside t to.begins.inside) in
      let e : is_good (items t) last ≡ true =
      good_end (items t) ∙ true_of _ ((means_same (word (items t) last) []).shows (end_word ∙ none_left (word_at t s) l)) in
      eq-eqb (bad_item (items t)) (form_items (items t))
      (sym (found_none (bad (items t)) (none_more (bad (items t)) x.none (ap not e)) (form_items (items t)) refl))
