-- The first fault of a list, found row by row.
-- Assumes nothing.
use Rattle.std.specs.Prelude.{◌≡◌, Bool, not, ◌⊎◌, List, ℕ, ◌+◌, ◌*◌, ◌-◌, ◌/◌, ◌%◌, ◌≤◌, ◌<◌, T, length, take, drop}
use Rattle.std.proofs.Math.Path.{refl, ap, sym}
use Rattle.std.proofs.Common.{◌∙◌, inl, inr, T_not}
use native.Mathlib.Omega.{arith}
use Rattle.std.proofs.Math.Dec.{not_T}
use Rattle.lists.specs.TestLaws.{means_eq}
use Rattle.lists.specs.Search.{at}
use Rattle.lists.specs.SearchLaws.{le_or_lt}
use Rattle.rules.specs.Elements.{element, number, corner, sides_by, sides, Side, slot, origin, side_at}
use Rattle.rules.specs.Pairing.{unfit_corner, repeated_corner}
use Rattle.rules.specs.Refusals.{gives, refused, row_checks}
use Rattle.theory.specs.Sides.{SidesBy, three, four, sides_by_lem, side_facts, side_of_lem, side_at_slot, slot_side_at, slot_below, slot_less}
use Rattle.theory.specs.Least.{First, FirstNumber, first_is}
use Rattle.theory.specs.FitRows.{unfit, earlier, repeated, means_unfit, means_earlier, means_repeated}
use Rattle.theory.specs.Answers.{check_clear, check_refuses, rows_clear}
use Rattle.halfedge.specs.Rows.{row_of, part_at}
use Rattle.corners.specs.Faults.{no_vertex, repeats, UnfitIn, Repeating, kept, none, new}
use Rattle.corners.specs.RowLaws.{means_repeats}

pub first_le_four : (fourth : ℕ) {t : ℕ → Bool} {r : ℕ} → FirstNumber (sides_by fourth) t r → r ≤ 4
first_le_four fourth {t} {r} x = go x (sides_by_lem fourth)
  where
    go : {k : ℕ} → FirstNumber k t r → SidesBy fourth k → r ≤ 4
    go (FirstNumber.nobody e f) y = omega arith
    go (FirstNumber.somebody a b u f) (three z e) = omega arith
    go (FirstNumber.somebody a b u f) (four z e) = omega arith

-- r is the first side with the test t among those whose corners stand below a; 0 where there is none
pub data FirstBelow (L : List ℕ) (t : ℕ → Bool) (a r : ℕ) : Type 0 where
  nobody : r ≡ 0 → ((s : ℕ) → Side L s → slot s < a → T (not (t s))) → FirstBelow L t a r
  somebody : First L t r → (r ≡ 0 → ⊥) → FirstBelow L t a r

-- the row that begins at a and ends before e
abbrev pub row_at : List ℕ → ℕ → ℕ → List ℕ
row_at L a e = row_of (take (e - a) (drop a L))

side_at_positive : (p : ℕ) → side_at p ≡ 0 → ⊥
unfolding side_at
side_at_positive p e = omega arith

module _ (L : List ℕ) (a e : ℕ) (aligned : a ≡ 4 * (a / 4)) (end : e ≡ a + 4) (inside : e ≤ length L) where
  -- its number of sides is its element's
  row_sides : sides_by (at (row_at L a e) 3) ≡ sides L (a / 4 + 1)
  row_sides =
      let g : a + 3 ≡ 4 * (a / 4 + 1 - 1) + (4 - 1) = omega arith in
      ap sides_by (part_at L a e 3 end (omega arith) ∙ ap (at L) g)

  -- a number of its corners is a side of the list, and each side whose corner stands in the row has such a number
  row_side : (i : ℕ) → 1 ≤ i → i ≤ sides_by (at (row_at L a e) 3) → Side L (side_at (a + i - 1))
  unfolding side_at
  row_side i from to =
      let h : i ≤ sides L (a / 4 + 1) = rw (← row_sides) to in
      let k : i ≤ 4 = le_four (sides_by_lem (corner L (a / 4 + 1) 4)) h in
      let s = 8 * ((a + i - 1) / 4 + 1) + ((a + i - 1) % 4 + 1) in
      let f : s / 8 ≡ a / 4 + 1 = omega arith in
      let g : s % 8 ≡ i = omega arith in
      side_of_lem L s (omega arith) (omega arith) (omega arith) (rw (f, g) h)
    where
      le_four : {k : ℕ} → SidesBy (corner L (a / 4 + 1) 4) k → i ≤ k → i ≤ 4
      le_four (three z q) h = omega arith
      le_four (four z q) h = omega arith

  row_number : (s : ℕ) → Side L s → a ≤ slot s → slot s < e → (slot s - a + 1 ≤ sides_by (at (row_at L a e) 3)) × (side_at (a + (slot s - a + 1) - 1) ≡ s)
  unfolding slot
  row_number s b from to =
      let f = side_facts L s b in
      let g : s / 8 ≡ a / 4 + 1 = omega arith in
      let k : slot s - a + 1 ≡ s % 8 = omega arith in
      let q : a + (slot s - a + 1) - 1 ≡ slot s = omega arith in
      (rw (row_sides, k) (rw g at f.number_to), ap side_at q ∙ side_at_slot L s b)

  -- the first number with a test, carried to the sides of the list
  module _ (t : ℕ → Bool) (u : ℕ → Bool)
      (there : (i : ℕ) → 1 ≤ i → i ≤ sides_by (at (row_at L a e) 3) → T (u i) → T (t (side_at (a + i - 1))))
      (back : (i : ℕ) → 1 ≤ i → i ≤ sides_by (at (row_at L a e) 3) → T (t (side_at (a + i - 1))) → T (u i))
      (clear : (s : ℕ) → Side L s → slot s < a → T (not (t s))) where
    row_clear : FirstNumber (sides_by (at (row_at L a e) 3)) u 0 → (s : ℕ) → Side L s → slot s < e → T (not (t s))
    row_clear x s b h = go x (le_or_lt a (slot s))
      where
        go : FirstNumber (sides_by (at (row_at L a e) 3)) u 0 → (a ≤ slot s) ⊎ (slot s < a) → T (not (t s))
        go y (inr k) = clear s b k
        go (FirstNumber.somebody from to w f) (inl k) = absurd (omega arith)
        go (FirstNumber.nobody z f) (inl k) =
            let (c, q) = row_number s b k h in
            let i = slot s - a + 1 in
            not_T (t s) (λ w. T_not (u i) (f i (omega arith) c) (back i (omega arith) c (rw q w)))

    row_found : (i : ℕ) → (i ≡ 0 → ⊥) → FirstNumber (sides_by (at (row_at L a e) 3)) u i → First L t (side_at (a + i - 1))
    row_found i d (FirstNumber.nobody z f) = absurd (d z)
    row_found i d (FirstNumber.somebody from to w f) =
        let r = side_at (a + i - 1) in
        let b = row_side i from to in
        First.somebody b (there i from to w)
        (λ s c h. go s c (le_or_lt a (slot s)) (rw (slot_side_at (a + i - 1)) at (slot_less L s r c b h)))
      where
        go : (s : ℕ) → Side L s → (a ≤ slot s) ⊎ (slot s < a) → slot s < a + i - 1 → T (not (t s))
        go s c (inr k) h = clear s c k
        go s c (inl k) h =
            let m = first_le_four (at (row_at L a e) 3) {t = u} (FirstNumber.somebody from to w f) in
            let (l, q) = row_number s c k (omega arith) in
            let j = slot s - a + 1 in
            not_T (t s) (λ y. T_not (u j) (f j (omega arith) (omega arith)) (back j (omega arith) l (rw q y)))

  -- the corners of the row are the origins of these sides
  row_origin : (i : ℕ) → 1 ≤ i → i ≤ 4 → at (row_at L a e) (i - 1) ≡ origin L (side_at (a + i - 1))
  unfolding origin
  row_origin i from to =
      let g : a + (i - 1) ≡ a + i - 1 = omega arith in
      part_at L a e (i - 1) end (omega arith) ∙ ap (at L) (g ∙ sym (slot_side_at (a + i - 1)))

-- after the rows below a: no unfit corner, and the first repeated one
pub record Scanned (n : ℕ) (L : List ℕ) (a r : ℕ) : Type 0 where
  pub aligned : a ≡ 4 * (a / 4)
  pub inside : a ≤ length L
  pub fit : (s : ℕ) → Side L s → slot s < a → T (not (unfit n L s))
  pub repeats : FirstBelow L (repeated n L) a r

pub scan_start : (n : ℕ) (L : List ℕ) → Scanned n L 0 0
scan_start n L =
    record {
      aligned = refl;
      inside = omega arith;
      fit = λ s b h. absurd (omega arith);
      repeats = nobody refl (λ s b h. absurd (omega arith));
    }

module _ {n : ℕ} {L : List ℕ} {a r e : ℕ} (k : Scanned n L a r) (end : e ≡ a + 4) (inside : e ≤ length L) where
  at_most_four : (i : ℕ) → i ≤ sides_by (at (row_at L a e) 3) → i ≤ 4
  at_most_four i h = go (sides_by_lem (at (row_at L a e) 3)) h
    where
      go : {k : ℕ} → SidesBy (at (row_at L a e) 3) k → i ≤ k → i ≤ 4
      go (three z q) h = omega arith
      go (four z q) h = omega arith

  corner_of_lem : (i : ℕ) → 1 ≤ i → i ≤ 4 → at (row_at L a e) (i - 1) ≡ origin L (side_at (a + i - 1))
  corner_of_lem = row_origin L a e k.aligned end inside

  unfit_same : (i : ℕ) → 1 ≤ i → i ≤ sides_by (at (row_at L a e) 3) → no_vertex n (at (row_at L a e) (i - 1)) ≡ unfit n L (side_at (a + i - 1))
  unfolding unfit
  unfit_same i from to = ap (no_vertex n) (corner_of_lem i from (at_most_four i to))

  -- an unfit corner of the row is the list's first
  pub scan_unfit : {i j x : ℕ} → UnfitIn n (row_at L a e) i → (i ≡ 0 → ⊥) → j ≡ i → x ≡ side_at (a + j - 1) →
      refused 3 (element x) (number x) ≡ row_checks n L (gives 0 0)
  unfolding unfit_corner unfit
  scan_unfit {i} {j} {x} y d same code =
      let is : x ≡ side_at (a + i - 1) = code ∙ ap (λ (j : ℕ). side_at (a + j - 1)) same in
      let f = row_found L a e k.aligned end inside (unfit n L) (λ j. no_vertex n (at (row_at L a e) (j - 1)))
      (λ j from to t. rw (← unfit_same j from to) t) (λ j from to t. rw (unfit_same j from to) t) k.fit i d y in
      let g : unfit_corner n L ≡ side_at (a + i - 1) = first_is L (unfit n L) (side_at (a + i - 1)) f in
      let positive : unfit_corner n L ≡ 0 → ⊥ = λ w. side_at_positive (a + i - 1) (sym g ∙ w) in
      ap (λ (s : ℕ). refused 3 (element s) (number s)) (is ∙ sym g) ∙ sym (check_refuses (unfit_corner n L) _ _ positive)

  module _ (x : UnfitIn n (row_at L a e) 0) where
    -- a row without an unfit corner adds none
    fit_on : (s : ℕ) → Side L s → slot s < e → T (not (unfit n L s))
    fit_on =
        row_clear L a e k.aligned end inside (unfit n L) (λ j. no_vertex n (at (row_at L a e) (j - 1)))
        (λ j from to t. rw (← unfit_same j from to) t) (λ j from to t. rw (unfit_same j from to) t) k.fit x

    -- the sides of the row: in one element, in order of their numbers
    numbered : (i : ℕ) → 1 ≤ i → i ≤ 4 → (side_at (a + i - 1) / 8 ≡ a / 4 + 1) × (side_at (a + i - 1) ≡ 8 * (a / 4 + 1) + i)
    unfolding side_at
    numbered i from to = let h = k.aligned in (omega arith, omega arith)

    there : (i : ℕ) → 1 ≤ i → i ≤ sides_by (at (row_at L a e) 3) → T (repeats (row_at L a e) i) → T (repeated n L (side_at (a + i - 1)))
    there i from to t =
        let s = side_at (a + i - 1) in
        let (j, c, d, u) = (means_repeats (row_at L a e) i).says t in
        let b = row_side L a e k.aligned end inside i from to in
        let b' = row_side L a e k.aligned end inside j c (omega arith) in
        let (q, w) = numbered i from (at_most_four i to) in
        let (q', w') = numbered j c (omega (arith, at_most_four i to)) in
        (means_repeated n L s).shows (
          (λ z. T_not (unfit n L s) (fit_on s b (below i from to)) ((means_unfit n L s).shows (inl z))),
          (
            side_at (a + j - 1),
            b',
            (means_earlier n L s (side_at (a + j - 1))).shows
                (q' ∙ sym q, ((omega arith), sym (corner_of_lem j c (omega (arith, at_most_four i to))) ∙ (means_eq _ _).says u ∙ corner_of_lem i from (at_most_four i to))),
          ),
        )
      where
        below : (i : ℕ) → 1 ≤ i → i ≤ sides_by (at (row_at L a e) 3) → slot (side_at (a + i - 1)) < e
        below i from to = rw (slot_side_at (a + i - 1)) (omega (arith, at_most_four i to))

    -- a side of the row's element stands in the row
    placed : (u : ℕ) → Side L u → u / 8 ≡ a / 4 + 1 → (a ≤ slot u) × (slot u < e)
    unfolding slot
    placed u b g = let f = side_facts L u b in let h = k.aligned in (omega arith, omega arith)

    back : (i : ℕ) → 1 ≤ i → i ≤ sides_by (at (row_at L a e) 3) → T (repeated n L (side_at (a + i - 1))) → T (repeats (row_at L a e) i)
    back i from to t =
        let s = side_at (a + i - 1) in
        let (z, (u, b, y)) = (means_repeated n L s).says t in
        let (g, (l, o)) = (means_earlier n L s u).says y in
        let m = at_most_four i to in
        let (q, w) = numbered i from m in
        let (h₁, h₂) = placed u b (g ∙ q) in
        let (c, v) = row_number L a e k.aligned end inside u b h₁ h₂ in
        let j = slot u - a + 1 in
        let (p, p') = numbered j (omega arith) (at_most_four j c) in
        let less : j ≤ i - 1 = omega (arith, sym v ∙ p') in
        (means_repeats (row_at L a e) i).shows
        (j, (omega arith), less, (means_eq _ _).shows (corner_of_lem j (omega arith) (at_most_four j c) ∙ ap (origin L) v ∙ o ∙ sym (corner_of_lem i from m)))

    pub scan_row : {r' : ℕ} → Repeating a (row_at L a e) r r' → Scanned n L e r'
    scan_row {r'} y = record { aligned = (let h = k.aligned in omega arith); inside = inside; fit = fit_on; repeats = go y k.repeats }
      where
        go : Repeating a (row_at L a e) r r' → FirstBelow L (repeated n L) a r → FirstBelow L (repeated n L) e r'
        go (kept d e) (nobody z f) = absurd (d z)
        go (kept d e) (somebody f z) = rw e (somebody f z)
        go (none q w e) (somebody f z) = absurd (z q)
        go (none q w e) (nobody z f) = nobody e (row_clear L a _ k.aligned end inside (repeated n L) (repeats (row_at L a _)) there back f w)
        go (new i q d w e) (somebody f z) = absurd (z q)
        go (new i q d w e) (nobody z f) =
            somebody (rw e (row_found L a _ k.aligned end inside (repeated n L) (repeats (row_at L a _)) there back f i d w)) (λ g. side_at_positive (a + i - 1) (sym e ∙ g))

module _ {n : ℕ} {L : List ℕ} {a r : ℕ} (k : Scanned n L a r) (all : length L ≤ a) where
  -- after the last row no corner is unfit
  no_unfit : unfit_corner n L ≡ 0
  unfolding unfit_corner unfit
  no_unfit = first_is L (unfit n L) 0 (First.nobody refl (λ s b. k.fit s b (omega (arith, slot_below L s b))))

  repeated_is : repeated_corner L ≡ r
  unfolding repeated_corner repeated earlier
  repeated_is = go k.repeats
    where
      go : FirstBelow L (repeated n L) a r → repeated_corner L ≡ r
      go (nobody e f) = first_is L (repeated n L) r (First.nobody e (λ s b. f s b (omega (arith, slot_below L s b))))
      go (somebody f d) = first_is L (repeated n L) r f

  pub scan_repeated : (r ≡ 0 → ⊥) → refused 4 (element r) (number r) ≡ row_checks n L (gives 0 0)
  scan_repeated d =
      ap (λ (s : ℕ). refused 4 (element s) (number s)) (sym repeated_is)
      ∙ sym (check_clear _ _ _ no_unfit ∙ check_refuses (repeated_corner L) _ _ (λ w. d (sym repeated_is ∙ w)))

  pub scan_nothing : r ≡ 0 → gives 0 0 ≡ row_checks n L (gives 0 0)
  scan_nothing e = sym (rows_clear n L _ no_unfit (repeated_is ∙ e))
