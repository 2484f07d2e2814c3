-- E2e in its columns: three exactly where no element has a fourth side; and in them it says what the same table says in four.
-- Assumes nothing.
use Rattle.std.specs.Prelude.{◌≡◌, true, false, ◌⊎◌, ℕ, ◌+◌, ◌*◌, ◌/◌, ◌%◌, ◌≤◌, ◌<◌, leb, eqb}
use Rattle.std.proofs.Math.Path.{refl, ap, sym}
use Rattle.std.proofs.Common.{◌∙◌, inl, inr}
use mathlib.Core.List.{List}
use native.Mathlib.Omega.{arith}
use Rattle.std.proofs.Math.Dec.{not_T}
use Rattle.std.proofs.Math.ListN.{length}
use Rattle.lists.specs.TestLaws.{Test, pass, fail, test, true_of, false_of, means_not, means_eq, means_le}
use Rattle.lists.specs.Search.{at, tab}
use Rattle.lists.specs.SearchLaws.{length_tab, at_tab, is_tab, tab_same, le_or_lt}
use Rattle.rules.specs.Elements.{max_element, max_border, elements, number, is_side, Side, slot, side_at, first_side}
use Rattle.rules.specs.Tables.{columns, code_at, e2e_slot, e2e_entry, e2e, entry_of, wide}
use Rattle.rules.specs.Recovery.{columns_by, widened}
use Rattle.theory.specs.Sides.{side_facts}
use Rattle.theory.specs.Least.{means_none, means_some}

-- c is the number of the list's columns
pub data Columns (L : List ℕ) (c : ℕ) : Type 0 where
  three : c ≡ 3 → ((s : ℕ) → Side L s → s % 8 ≤ 3) → Columns L c
  four : c ≡ 4 → (s : ℕ) → Side L s → s % 8 ≡ 4 → Columns L c

pub columns_are_lem : (L : List ℕ) → Columns L (columns L)
unfolding columns
columns_are_lem L = go (test (eqb (first_side L (λ s. eqb (number s) 4)) 0))
  where
    go : Test (eqb (first_side L (λ s. eqb (number s) 4)) 0) → Columns L (columns L)
    go (pass t e) =
        three (rw (e, columns))
        (λ s a.
        let no : s % 8 ≡ 4 → ⊥ = λ z. (means_none L (λ x. eqb (number x) 4)).says t s a ((means_eq (s % 8) 4).shows z) in
        below s a (le_or_lt (s % 8) 3) no)
      where
        below : (s : ℕ) → Side L s → (s % 8 ≤ 3) ⊎ (3 < s % 8) → (s % 8 ≡ 4 → ⊥) → s % 8 ≤ 3
        below s a (inl h) d = h
        below s a (inr h) d = absurd (d (omega (arith, side_facts L s a)))
    go (fail t e) =
        let (s, a, u) = (means_some L (λ x. eqb (number x) 4)).says t in
        four (rw (e, columns)) s a ((means_eq (s % 8) 4).says u)

pub three_or_four : (L : List ℕ) → (columns L ≡ 3) ⊎ (columns L ≡ 4)
three_or_four L = go (columns_are_lem L)
  where
    go : Columns L (columns L) → (columns L ≡ 3) ⊎ (columns L ≡ 4)
    go (three e f) = inl e
    go (four e s a h) = inr e

pub by_bounds : (c : ℕ) → 3 ≤ c → c ≤ 4 → (c ≡ 3) ⊎ (c ≡ 4)
by_bounds c h l = elim (le_or_lt c 3) [ inl k ↦ inl (omega arith) | inr k ↦ inr (omega arith) ]

-- E2e has at most 4,000,000 entries; c as an index is x
pub few_entries : (c m : ℕ) {x : ℕ} → (c ≡ 3) ⊎ (c ≡ 4) → x ≡ c → m ≤ max_element → x * m ≤ max_border
few_entries c m (inl e) f h = rw (f ∙ e) (omega arith)
few_entries c m (inr e) f h = rw (f ∙ e) (omega arith)

-- the entry of a side is within three or four columns
pub slot_within : (c m s : ℕ) → (c ≡ 3) ⊎ (c ≡ 4) → 1 ≤ s / 8 → s / 8 ≤ m → 1 ≤ s % 8 → s % 8 ≤ c → e2e_slot c s < c * m
unfolding e2e_slot
slot_within c m s (inl e) a b i j = rw e (omega arith)
slot_within c m s (inr e) a b i j = rw e (omega arith)

-- a side's entry in c columns of any content, and none past them
pub entry_within : (c : ℕ) (E2e : List ℕ) (s : ℕ) → s % 8 ≤ c → entry_of c E2e s ≡ at E2e (e2e_slot c s)
unfolding entry_of
entry_within c E2e s h = rw (true_of (leb (s % 8) c) ((means_le (s % 8) c).shows h), entry_of)

pub entry_past : (c : ℕ) (E2e : List ℕ) (s : ℕ) → c < s % 8 → entry_of c E2e s ≡ 0
unfolding entry_of
entry_past c E2e s h = rw (false_of (leb (s % 8) c) ((means_not (means_le (s % 8) c)).shows (λ l. omega arith)), entry_of)

module _ (L : List ℕ) where
  -- the entries of the list's sides in c columns
  in_columns : ℕ → List ℕ
  in_columns c = tab (c * elements L) (λ p. e2e_entry L (code_at c p))

  e2e_columns : e2e L ≡ in_columns (columns L)
  unfolding e2e in_columns
  e2e_columns = refl

  wide_columns : wide L ≡ in_columns 4
  unfolding wide in_columns side_at code_at
  wide_columns = refl

  pub four_is_wide : columns L ≡ 4 → e2e L ≡ wide L
  four_is_wide e = e2e_columns ∙ ap in_columns e ∙ sym wide_columns

  pub length_e2e : length (e2e L) ≡ columns L * elements L
  unfolding e2e
  length_e2e = length_tab (columns L * elements L) (λ p. e2e_entry L (code_at (columns L) p))

  at_columns : (c s : ℕ) → (c ≡ 3) ⊎ (c ≡ 4) → 1 ≤ s / 8 → s / 8 ≤ elements L → 1 ≤ s % 8 → s % 8 ≤ c
      → at (in_columns c) (e2e_slot c s) ≡ e2e_entry L s
  unfolding in_columns code_at e2e_slot
  at_columns c s x a b i j =
      at_tab (c * elements L) (λ p. e2e_entry L (code_at c p)) (e2e_slot c s) (slot_within c (elements L) s x a b i j)
      ∙ ap (e2e_entry L) (code x)
    where
      code : (c ≡ 3) ⊎ (c ≡ 4) → code_at c (e2e_slot c s) ≡ s
      code (inl e) = rw e (omega arith)
      code (inr e) = rw e (omega arith)

  -- every side has an entry in the list's columns
  pub side_number : (s : ℕ) → Side L s → s % 8 ≤ columns L
  side_number s a = go (columns_are_lem L)
    where
      go : Columns L (columns L) → s % 8 ≤ columns L
      go (three e f) = omega (arith, f s a)
      go (four e t b h) = omega (arith, side_facts L s a)

  -- one law: in three columns and in four the entry of a side is the same
  pub at_side : (s : ℕ) → Side L s → at (e2e L) (e2e_slot (columns L) s) ≡ at (wide L) (slot s)
  unfolding slot e2e_slot
  at_side s a =
      let f = side_facts L s a in
      let own = at_columns (columns L) s (three_or_four L) f.element_from f.element_to f.number_from (side_number s a) in
      let full = at_columns 4 s (inr refl) f.element_from f.element_to f.number_from f.number_four in
      ap (λ (X : List ℕ). at X (e2e_slot (columns L) s)) e2e_columns ∙ own ∙ sym (ap (λ (X : List ℕ). at X (slot s)) wide_columns ∙ full)

  pub entry_side : (s : ℕ) → Side L s → entry_of (columns L) (e2e L) s ≡ at (wide L) (slot s)
  entry_side s a = entry_within (columns L) (e2e L) s (side_number s a) ∙ at_side s a

  -- so the table in four columns is E2e widened
  entry_of_lem : (s : ℕ) → 1 ≤ s / 8 → s / 8 ≤ elements L → 1 ≤ s % 8 → s % 8 ≤ 4 → entry_of (columns L) (e2e L) s ≡ e2e_entry L s
  unfolding e2e_entry
  entry_of_lem s a b i j = go (columns_are_lem L) (le_or_lt (s % 8) (columns L))
    where
      go : Columns L (columns L) → (s % 8 ≤ columns L) ⊎ (columns L < s % 8) → entry_of (columns L) (e2e L) s ≡ e2e_entry L s
      go x (inl h) =
          entry_within (columns L) (e2e L) s h
          ∙ ap (λ (X : List ℕ). at X (e2e_slot (columns L) s)) e2e_columns
          ∙ at_columns (columns L) s (three_or_four L) a b i h
      go (four e t d k) (inr h) = absurd (omega arith)
      go (three e f) (inr h) =
          entry_past (columns L) (e2e L) s h ∙ sym (rw (false_of (is_side L s) (not_T (is_side L s) (λ w. omega (arith, f s w))), e2e_entry))

  columns_by_lem : 0 < elements L → columns_by (elements L) (e2e L) ≡ columns L
  unfolding columns_by
  columns_by_lem h = go (three_or_four L)
    where
      go : (columns L ≡ 3) ⊎ (columns L ≡ 4) → columns_by (elements L) (e2e L) ≡ columns L
      go (inl e) =
          let l : length (e2e L) ≡ 3 * elements L = length_e2e ∙ ap (◌* elements L) e in
          rw (true_of (eqb (length (e2e L)) (3 * elements L)) ((means_eq _ _).shows l), columns_by) (sym e)
      go (inr e) =
          let l : length (e2e L) ≡ 4 * elements L = length_e2e ∙ ap (◌* elements L) e in
          let d : length (e2e L) ≡ 3 * elements L → ⊥ = λ z. omega arith in
          rw (false_of (eqb (length (e2e L)) (3 * elements L)) ((means_not (means_eq _ _)).shows d), columns_by) (sym e)

  pub widened_e2e : widened (elements L) (e2e L) ≡ wide L
  unfolding widened wide side_at
  widened_e2e =
      tab_same (4 * elements L) _ _
      (λ p h.
      ap (λ (c : ℕ). entry_of c (e2e L) (side_at p)) (columns_by_lem (omega arith))
      ∙ entry_of_lem (side_at p) (omega arith) (omega arith) (omega arith) (omega arith))

-- a table of any content by its length: three columns widened, four as they are
module _ (m : ℕ) (E2e : List ℕ) where
  pub length_widened : length (widened m E2e) ≡ 4 * m
  unfolding widened
  length_widened = length_tab (4 * m) (λ p. entry_of (columns_by m E2e) E2e (side_at p))

  pub widened_three : length E2e ≡ 3 * m → widened m E2e ≡ tab (4 * m) (λ p. entry_of 3 E2e (side_at p))
  unfolding widened columns_by
  widened_three l = rw (true_of (eqb (length E2e) (3 * m)) ((means_eq _ _).shows l), columns_by)

  pub widened_four : length E2e ≡ 4 * m → widened m E2e ≡ E2e
  unfolding widened columns_by e2e_slot side_at
  widened_four l = sym (is_tab (4 * m) _ E2e l here)
    where
      here : (p : ℕ) → p < 4 * m → at E2e p ≡ entry_of (columns_by m E2e) E2e (side_at p)
      here p h =
          let d : length E2e ≡ 3 * m → ⊥ = λ z. omega arith in
          let four : columns_by m E2e ≡ 4 = rw (false_of (eqb (length E2e) (3 * m)) ((means_not (means_eq _ _)).shows d), columns_by) in
          let own : p ≡ e2e_slot 4 (side_at p) = omega arith in
          ap (at E2e) own ∙ sym (ap (λ (c : ℕ). entry_of c E2e (side_at p)) four ∙ entry_within 4 E2e (side_at p) (omega arith))

-- a table of four columns in c columns: in three, entry p stands at p + p / 3 of four
unfoldable pub narrowed : ℕ → List ℕ → List ℕ
narrowed c W = elim (eqb c 3) [ true ↦ tab (3 * elements W) (λ p. at W (p + p / 3)) | false ↦ W ]

module _ (L : List ℕ) where
  size_wide : elements (wide L) ≡ elements L
  unfolding wide
  size_wide = omega (arith, length_tab (4 * elements L) (λ p. e2e_entry L (side_at p)))

  -- ... and E2e is the table in four columns narrowed
  pub narrow_wide : narrowed (columns L) (wide L) ≡ e2e L
  unfolding narrowed in_columns wide side_at code_at
  narrow_wide = go (three_or_four L)
    where
      go : (columns L ≡ 3) ⊎ (columns L ≡ 4) → narrowed (columns L) (wide L) ≡ e2e L
      go (inl e) =
          ap (λ (c : ℕ). narrowed c (wide L)) e
          ∙ ap (λ (m : ℕ). tab (3 * m) (λ p. at (wide L) (p + p / 3))) size_wide
          ∙ tab_same (3 * elements L) _ _ here
          ∙ sym (e2e_columns L ∙ ap (in_columns L) e)
        where
          here : (p : ℕ) → p < 3 * elements L → at (wide L) (p + p / 3) ≡ e2e_entry L (code_at 3 p)
          here p h =
              let same : side_at (p + p / 3) ≡ code_at 3 p = omega arith in
              at_tab (4 * elements L) (λ q. e2e_entry L (side_at q)) (p + p / 3) (omega arith) ∙ ap (e2e_entry L) same
      go (inr e) = ap (λ (c : ℕ). narrowed c (wide L)) e ∙ sym (four_is_wide L e)
