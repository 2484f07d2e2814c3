-- The rows of the faces, read one after another from a text that was judged.
-- Assumes nothing.
use Rattle.std.specs.Prelude.{◌≡◌, Result, true, false, not, List, ◌++◌, ℕ, suc, ◌+◌, ◌*◌, ◌-◌, ◌/◌, ◌%◌, ◌≤◌, ◌<◌, T, leb, length, get_or, set, replicate}
use Rattle.std.proofs.Math.Path.{refl, ap}
use Rattle.std.proofs.Common.{sym, subst, ◌∙◌, add-one, drop-drop, le-leb, eqb-true}
use Rattle.std.proofs.Math.Logic.{inl, inr}
use native.Mathlib.Omega.{arith}
use Rattle.std.proofs.Math.Dec.{not_T}
use Rattle.std.proofs.Math.ListN.{drop}
use Rattle.std.proofs.lemmas.List.Edits.{sets}
use Rattle.std.proofs.lemmas.Bool.{lt-leb}
use Rattle.std.specs.Result.{IsOk}
use Rattle.lists.specs.Tests.{within}
use Rattle.lists.specs.Search.{tab}
use Rattle.lists.specs.SearchLaws.{least_is, le_or_lt, length_tab, at_tab}
use Rattle.lists.specs.Steps.{tab_set, tab_sets}
use Rattle.lists.specs.TestLaws.{twice, means_eq, means_within, true_of}
use Rattle.theory.specs.Least.{means_no_number}
use Rattle.off_rules.specs.Off.{Item, items, item, word, is_whole, number_of, the_m, face_item, corners, corner_number, is_good, form_items, bad_item, in_form, unfit_face, row_entry, corner_entry}
use Rattle.off_items.specs.Parting.{rest}
use Rattle.off_items.specs.Reading.{IsNext, Next}
use Rattle.off_items.specs.declared.Kind.TheVariants.{Whole}
use Rattle.off_items.specs.declared.Found.{Found}
use Rattle.off.specs.Passing.{item_after}
use Rattle.off.specs.Judging.{bad, face_least, face_later, good_whole}
use Rattle.off.specs.Heads.{whole_small, count_there, count_value, count_left}

-- an entry of the list by its face and its corner, both counted from 1
pub by_place : (x : List Item) (f i : ℕ) → 1 ≤ f → 1 ≤ i → i ≤ 4 → corner_entry x (4 * (f - 1) + (i - 1)) ≡ row_entry x f i
by_place x f i h k l =
    let q = 4 * (f - 1) + (i - 1) in
    let a : q / 4 + 1 ≡ f = omega arith in
    let b : q % 4 + 1 ≡ i = omega arith in
    ap (λ (j : ℕ). row_entry x j (q % 4 + 1)) a ∙ ap (row_entry x f) b

module _ (x : List Item) (f i : ℕ) where
  pub corner_entry_lem : i ≤ corners x f → row_entry x f i ≡ corner_number x f i + 1
  unfolding row_entry
  corner_entry_lem m = rw (le-leb i (corners x f) m, row_entry)

  pub past_entry : corners x f < i → row_entry x f i ≡ 0
  unfolding row_entry
  past_entry m = rw (lt-leb i (corners x f) m, row_entry)

-- the first of the items y is the corner count of a face of three corners or four, and the corners follow
pub record Fit (y : List Item) : Type 0 where
  pub few : (3 ≤ number_of (word y 0)) × (number_of (word y 0) ≤ 4)
  pub whole : (j : ℕ) → j ≤ number_of (word y 0) → is_whole (word y j) ≡ true

-- entry i, counted from 0, of its row
unfoldable pub entry_from : List Item → ℕ → ℕ
entry_from y i = elim (leb (i + 1) (number_of (word y 0))) [ true ↦ number_of (word y (i + 1)) + 1 | false ↦ 0 ]

-- the face from place p on was read: its row, and the place after it
pub record RowRead (t : List ℕ) (p : ℕ) (row : List ℕ) (at : ℕ) : Type 0 where
  pub inside : at ≤ length t
  pub row_is : row ≡ tab 4 (entry_from (rest t p))
  pub left : rest t at ≡ drop (1 + number_of (word (rest t p) 0)) (rest t p)

-- i corners of it were read
pub record Reading (t : List ℕ) (p i at : ℕ) (row : List ℕ) : Type 0 where
  pub inside : at ≤ length t
  pub left : rest t at ≡ drop (1 + i) (rest t p)
  pub row_is : row ≡ tab i (entry_from (rest t p)) ++ drop i (replicate 4 0)

module _ (t : List ℕ) (p : ℕ) where
  abbrev y : List Item
  y = rest t p

  abbrev c : ℕ
  c = number_of (word y 0)

  corner_there : (i : ℕ) → i < c → number_of (word y (1 + i)) + 1 ≡ entry_from y i
  unfolding entry_from
  corner_there i l = let z : 1 + i ≡ i + 1 = omega arith in rw (le-leb (i + 1) c (omega arith), entry_from) (ap (λ (j : ℕ). number_of (word y j) + 1) z)

  none_there : (i : ℕ) → c ≤ i → entry_from y i ≡ 0
  unfolding entry_from
  none_there i l = rw (lt-leb (i + 1) c (omega arith), entry_from)

module _ (t : List ℕ) (p : ℕ) (fit : Fit (rest t p)) where
  -- the corner count, and so many corners
  pub count_first : (r : Result Found ℕ) → Next Whole t p r → IsOk r
  count_first r n = count_there t p (rest t p) 0 refl (fit.whole 0 (omega arith)) r n

  module _ {count : Found} (n : IsNext Whole t p count) where
    pub counted : count.value ≡ number_of (word (rest t p) 0)
    counted = count_value (rest t p) 0 refl n

    pub none_read : Reading t p 0 count.end (replicate 4 0)
    unfolding tab
    none_read = record { inside = n.inside; left = count_left (rest t p) 0 refl n; row_is = refl }

  module _ {i at : ℕ} {row : List ℕ} (x : Reading t p i at row) where
    pub corner_first : i < number_of (word (rest t p) 0) → (r : Result Found ℕ) → Next Whole t at r → IsOk r
    corner_first l r n = count_there t at (rest t p) (1 + i) x.left (fit.whole (1 + i) (omega arith)) r n

    module _ (l : i < number_of (word (rest t p) 0)) {corner : Found} (n : IsNext Whole t at corner) where
      pub corner_value : (corner.value + 1 ≡ entry_from (rest t p) i) × (corner.value < 10_000_000)
      corner_value =
          let there = fit.whole (1 + i) (omega arith) in
          let e = count_value (rest t p) (1 + i) x.left n in
          (ap (λ (j : ℕ). j + 1) e ∙ corner_there t p i l, omega (arith, e, whole_small (word (rest t p) (1 + i)) there))

      pub one_more : {v : ℕ} → v ≡ corner.value + 1 → Reading t p (i + 1) corner.end (set row i v)
      one_more q =
          let z : 1 + i + 1 ≡ 1 + (i + 1) = omega arith in
          record {
            inside = n.inside;
            left = count_left (rest t p) (1 + i) x.left n ∙ ap (λ (j : ℕ). drop j (rest t p)) z;
            row_is = tab_set (entry_from (rest t p)) (replicate 4 0) i (omega (arith, fit.few)) x.row_is (q ∙ corner_value.0);
          }

    -- all of them: the fourth entry of a triangle is 0
    pub row_read : i ≡ number_of (word (rest t p) 0) → RowRead t p row at
    unfolding tab
    row_read z =
        record {
          inside = x.inside;
          row_is = x.row_is ∙ elim (le_or_lt 4 (number_of (word (rest t p) 0))) [
            | inl l ↦ let e : i ≡ 4 = omega (arith, fit.few) in rw e
            | inr l ↦ let e : i ≡ 3 = omega (arith, fit.few) in rw (e, none_there t p 3 (omega (arith, fit.few)))
          ];
          left = x.left ∙ ap (λ (j : ℕ). drop (1 + j) (rest t p)) z;
        }

-- all faces of a text are fit
pub record Sound (x : List Item) : Type 0 where
  pub whole : (i : ℕ) → face_item x 0 ≤ i → i < face_item x (the_m x) → is_whole (word x i) ≡ true
  pub few : (f : ℕ) → f < the_m x → (3 ≤ number_of (word x (face_item x f))) × (number_of (word x (face_item x f)) ≤ 4)

-- face f + 1 begins at p or after it
pub record At (t : List ℕ) (f p : ℕ) : Type 0 where
  pub inside : p ≤ length t
  pub left : rest t p ≡ drop (face_item (items t) f) (items t)

module _ {t : List ℕ} {f p : ℕ} (sound : Sound (items t)) (more : f < the_m (items t)) (here : At t f p) where
  abbrev x : List Item
  x = items t

  item_here : (j : ℕ) → item (rest t p) j ≡ item x (face_item x f + j)
  item_here j = ap (λ (z : List Item). item z j) here.left ∙ item_after x (face_item x f) j

  count_here : number_of (word (rest t p) 0) ≡ number_of (word x (face_item x f))
  count_here =
      let z : face_item x f + 0 ≡ face_item x f = omega arith in
      ap (λ (i : Item). number_of i.bytes) (item_here 0) ∙ ap (λ (i : ℕ). number_of (word x i)) z

  next_face : face_item x f + (1 + number_of (word (rest t p) 0)) ≡ face_item x (suc f)
  unfolding face_item
  next_face = omega (arith, count_here)

  pub face_fit : Fit (rest t p)
  face_fit =
      record {
        few = omega (arith, count_here, sound.few f more);
        whole = λ j l.
            ap (λ (i : Item). is_whole i.bytes) (item_here j)
            ∙ sound.whole (face_item x f + j) (omega (arith, face_later x 0 f (omega arith)))
            (omega (arith, next_face, face_later x (suc f) (the_m x) more));
      }

  -- its entries are those of the list
  entry_here : (i : ℕ) → i < 4 → entry_from (rest t p) i ≡ corner_entry x (4 * f + i)
  entry_here i l =
      let z : f ≡ f + 1 - 1 = omega arith in
      let q : 4 * (f + 1 - 1) + (i + 1 - 1) ≡ 4 * f + i = omega arith in
      let c = count_here ∙ ap (λ (j : ℕ). number_of (word x (face_item x j))) z in
      let by_face = sym (by_place x (f + 1) (i + 1) (omega arith) (omega arith) (omega arith)) ∙ ap (corner_entry x) q in
      elim (le_or_lt (i + 1) (number_of (word (rest t p) 0))) [
        | inl m ↦
            let u : 1 + i ≡ i + 1 = omega arith in
            sym (corner_there t p i (omega arith)) ∙ ap (λ (j : Item). number_of j.bytes + 1) (item_here (1 + i))
            ∙ ap (λ (j : ℕ). number_of (word x (face_item x j + (1 + i))) + 1) z ∙ ap (λ (j : ℕ). corner_number x (f + 1) j + 1) u
            ∙ sym (corner_entry_lem x (f + 1) (i + 1) (omega arith)) ∙ by_face
        | inr m ↦ none_there t p i (omega arith) ∙ sym (past_entry x (f + 1) (i + 1) (omega arith)) ∙ by_face
      ]

  module _ {row : List ℕ} {at : ℕ} (r : RowRead t p row at) where
    pub at_next : At t (f + 1) at
    at_next =
        record {
          inside = r.inside;
          left = r.left ∙ ap (drop (1 + number_of (word (rest t p) 0))) here.left
              ∙ drop-drop (1 + number_of (word (rest t p) 0)) (face_item x f) x
              ∙ ap (λ (i : ℕ). drop i x) next_face ∙ ap (λ (i : ℕ). drop (face_item x i) x) (sym (add-one f));
        }

    pub rows_more : (L : List ℕ) {W W' : List ℕ} → 4 * f + 4 ≤ length L → W ≡ tab (4 * f) (corner_entry x) ++ drop (4 * f) L → W' ≡ sets W (4 * f) row →
        W' ≡ tab (4 * (f + 1)) (corner_entry x) ++ drop (4 * (f + 1)) L
    rows_more L h e g =
        let long = ap length r.row_is ∙ length_tab 4 (entry_from (rest t p)) in
        let z : 4 * f + length row ≡ 4 * (f + 1) = omega arith in
        g ∙ tab_sets (corner_entry x) L row (4 * f) (omega arith) e (λ j l.
        ap (λ (w : List ℕ). get_or w j 0) r.row_is ∙ at_tab 4 (entry_from (rest t p)) j (omega arith) ∙ entry_here j (omega arith))
        ∙ ap (λ (k : ℕ). tab k (corner_entry x) ++ drop k L) z

-- where the faces begin
pub at_first : {t : List ℕ} {p : ℕ} → p ≤ length t → rest t p ≡ drop (face_item (items t) 0) (items t) → At t 0 p
at_first inside left = record { inside = inside; left = left }

-- a text in form without an unfit face is sound
pub sound_form : (x : List Item) → in_form x ≡ true → unfit_face x ≡ 0 → Sound x
unfolding bad_item unfit_face
sound_form x form none =
    record {
      whole = λ i l m.
          let e : bad_item x ≡ form_items x = eqb-true (bad_item x) (form_items x) form in
          let g = (least_is (bad x) (form_items x)).before i (omega arith) in
          sym (good_whole x i (omega (arith, face_least x 0)) (inr (omega (arith, face_least x 0))) m) ∙ true_of (is_good x i) (twice (is_good x i) g);
      few = λ f l.
          let z : f + 1 - 1 ≡ f = omega arith in
          (means_within 3 4 (number_of (word x (face_item x f)))).says (subst (λ (i : ℕ). T (within 3 4 (number_of (word x (face_item x i))))) z (three_or_four f l));
    }
  where
    three_or_four : (f : ℕ) → f < the_m x → T (within 3 4 (corners x (f + 1)))
    three_or_four f l =
        let nobody = (means_no_number (the_m x) (λ v. not (within 3 4 (corners x v)))).says ((means_eq _ _).shows none) in
        twice (within 3 4 (corners x (f + 1))) (not_T (not (within 3 4 (corners x (f + 1)))) (nobody (f + 1) (omega arith) (omega arith)))
