-- Passes over items put together: one item, two passes in a row, and a pass that was broken off.
-- Assumes nothing.
use Rattle.std.specs.Prelude.{◌≡◌, Bool, not, List, [], ℕ, ◌+◌, ◌-◌, ◌≤◌, ◌<◌, T, drop}
use Rattle.std.proofs.Common.{ap, sym, subst, ◌∙◌, inl, inr, arith, get_or-drop, drop-drop}
use Rattle.std.proofs.Math.Bool.{true, false}
use Rattle.lists.specs.Search.{least}
use Rattle.lists.specs.SearchLaws.{Least, least_is, least_one, le_or_lt}
use Rattle.lists.specs.TestLaws.{Test, pass, fail, test}
use Rattle.off_rules.specs.Off.{Item, item, word}
use Rattle.off_items.specs.Parting.{rest}
use Rattle.off_items.specs.Reading.{is_of, first_other, IsNext, NoNext, Passes, Stops}
use Rattle.off_items.specs.declared.Kind.{Kind}
use Rattle.off_items.specs.declared.Found.{Found}

-- the items after the first i
pub item_after : (x : List Item) (i j : ℕ) → item (drop i x) j ≡ item x (i + j)
unfolding item
item_after x i j = get_or-drop i x j (record { bytes = []; line = 0 })

pub other_is : (k : Kind) (y : List Item) (n : ℕ) → Least (λ j. not (is_of k (word y j))) n (first_other k y n)
unfolding first_other
other_is k y n = least_is (λ j. not (is_of k (word y j))) n

module _ (k : Kind) (y : List Item) where
  abbrev other : ℕ → Bool
  other j = not (is_of k (word y j))

  other_one : (n a : ℕ) → Least other n a → first_other k y n ≡ a
  other_one n a l = sym (least_one other n a (first_other k y n) l (other_is k y n))

  -- one that was found is found in a longer search
  other_cut : (m n : ℕ) → m ≤ n → first_other k y m < m → first_other k y n ≡ first_other k y m
  other_cut m n h l =
      other_one n (first_other k y m) (record { bound = omega arith; before = (other_is k y m).before; found = λ z. (other_is k y m).found l })

  -- past m of the kind the search goes on
  other_on : (m n : ℕ) → first_other k y m ≡ m → first_other k y (m + n) ≡ m + first_other k (drop m y) n
  other_on m n e =
      other_one (m + n) (m + o)
      (record { bound = omega (arith, l.bound); before = before; found = λ h. moved o (λ b. T (not b)) (l.found (omega arith)) })
    where
      o : ℕ
      o = first_other k (drop m y) n

      l : Least (λ j. not (is_of k (word (drop m y) j))) n o
      l = other_is k (drop m y) n

      moved : (j : ℕ) (P : Bool → Type 0) → P (is_of k (word (drop m y) j)) → P (is_of k (word y (m + j)))
      moved j P = subst (λ (i : Item). P (is_of k i.bytes)) (item_after y m j)

      before : (j : ℕ) → j < m + o → T (not (other j))
      before j h = elim (le_or_lt m j) [
        | inr a ↦ (other_is k y m).before j (omega arith)
        | inl a ↦
            let z : m + (j - m) ≡ j = omega arith in
            subst (λ (i : ℕ). T (not (other i))) z (moved (j - m) (λ b. T (not (not b))) (l.before (j - m) (omega arith)))
      ]

-- a pass that found an item of another kind
pub pass_cut : {k : Kind} {t : List ℕ} {p m n q : ℕ} → Stops k t p m q → m ≤ n → Stops k t p n q
pass_cut {k} {t} {p} {m} {n} x h =
    let o = first_other k (rest t p) m in
    let e : first_other k (rest t p) n ≡ o = other_cut k (rest t p) m n h x.bad in
    record {
      inside = x.inside;
      bad = omega (arith, x.bad);
      line = x.line ∙ ap (λ (j : ℕ). (item (rest t p) j).line) (sym e);
    }

-- a pass after another
module _ {k : Kind} {t : List ℕ} {p m a : ℕ} (x : Passes k t p m a) where
  joined : (n : ℕ) → first_other k (rest t p) (m + n) ≡ m + first_other k (rest t a) n
  joined n = other_on k (rest t p) m n x.good ∙ ap (λ (z : List Item). m + first_other k z n) (sym x.left)

  pub pass_join : {n b : ℕ} → Passes k t a n b → Passes k t p (m + n) b
  pass_join {n} y =
      record {
        inside = y.inside;
        good = omega (arith, joined n, y.good);
        left = y.left ∙ ap (drop n) x.left ∙ drop-drop n m (rest t p);
      }

  pub pass_join_cut : {n q : ℕ} → Stops k t a n q → Stops k t p (m + n) q
  pass_join_cut {n} y =
      let o = first_other k (rest t a) n in
      record {
        inside = y.inside;
        bad = omega (arith, joined n, y.bad);
        line = y.line ∙ ap (λ (z : List Item). (item z o).line) x.left
            ∙ ap (λ (z : Item). z.line) (item_after (rest t p) m o) ∙ ap (λ (j : ℕ). (item (rest t p) j).line) (sym (joined n));
      }

-- one item is a pass of one
module _ (k : Kind) (t : List ℕ) (p : ℕ) where
  first_of : first_other k (rest t p) 1 ≡ elim (is_of k (word (rest t p) 0)) [ true ↦ 1 | false ↦ 0 ]
  unfolding first_other least
  first_of = go (test (is_of k (word (rest t p) 0)))
    where
      go : Test (is_of k (word (rest t p) 0)) →
          least (λ j. not (is_of k (word (rest t p) j))) 1 ≡ elim (is_of k (word (rest t p) 0)) [ true ↦ 1 | false ↦ 0 ]
      go (pass u e) = rw (e, least)
      go (fail u e) = rw (e, least)

pub one_passed : {k : Kind} {t : List ℕ} {p : ℕ} {f : Found} → IsNext k t p f → Passes k t p 1 f.end
one_passed {k} {t} {p} y = record { inside = y.inside; good = first_of k t p ∙ rw y.good; left = y.left }

pub one_stopped : {k : Kind} {t : List ℕ} {p q : ℕ} → NoNext k t p q → Stops k t p 1 q
one_stopped {k} {t} {p} y =
    let f : first_other k (rest t p) 1 ≡ 0 = first_of k t p ∙ rw y.bad in
    record { inside = y.inside; bad = omega arith; line = y.line ∙ ap (λ (j : ℕ). (item (rest t p) j).line) (sym f) }
