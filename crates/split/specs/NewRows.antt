-- The new rows, written to a list that has room for them after the m rows that it holds.
-- Assumes nothing.
use Rattle.std.specs.Prelude.{◌≡◌, true, false, ℕ, suc, ◌+◌, ◌*◌, ◌-◌, ◌/◌, ◌%◌, ◌≤◌, ◌<◌, eqb, take}
use Rattle.std.proofs.Math.Path.{ap, sym}
use Rattle.std.proofs.Common.{◌∙◌, inl, inr, arith, length-set, take-append-drop, length-take-le, drop-set-lt, drop-drop}
use mathlib.Core.List.{List, [], ◌∷◌, ◌++◌, append_assoc}
use Rattle.std.proofs.Math.ListN.{length, drop, set}
use Rattle.std.proofs.lemmas.List.{set-append_left, drop-set-add}
use Rattle.std.proofs.Math.Seq.{take-set-lt}
use Rattle.lists.specs.TestLaws.{true_of, false_of, means_not, means_eq, zero_or}
use Rattle.lists.specs.Search.{at}
use Rattle.lists.specs.Parts.{length_part}
use Rattle.rules.specs.Elements.{max_element, elements, row, sides, number, slot, next_number, next}
use Rattle.rules.specs.Tables.{partner, wide}
use Rattle.rules.specs.Refusals.{onto}
use Rattle.edit_rules.specs.Edits.{with_row}
use Rattle.edit_rules.specs.Split.{with_corner, halved, split_at}
use Rattle.theory.specs.Sides.{side_facts, slot_below}
use Rattle.theory.specs.Steps.{next_numbered, next_side_lem}
use Rattle.theory.specs.FitRows.{Fit}
use Rattle.theory.specs.Edits.{onto_front, onto_length, past_onto}
use Rattle.theory.specs.Halving.{Halvable, halved_length}
use Rattle.theory.specs.Splitting.{Splittable, split_border, split_inner, first, second, split_size_border, split_size_inner}
use Rattle.halfedge.specs.Rows.{row_of, next_side, row_turned}
use Rattle.edits.specs.RowPut.{four_is}
use Rattle.edits.specs.Trying.{entry_border, entry_partner}
use Rattle.edits.specs.HeldRows.{held_length, held_elements, held_row, held_inside}

-- an entry stored past the first of two lists
set_past : (xs ys : List ℕ) (i v : ℕ) → set (xs ++ ys) (length xs + i) v ≡ xs ++ set ys i v
set_past [] ys i v = ap (λ (k : ℕ). set ys k v) (omega arith)
set_past (x ∷ xs) ys i v =
    let e : length (x ∷ xs) + i ≡ suc (length xs + i) = omega arith in
    ap (λ (k : ℕ). set (x ∷ (xs ++ ys)) k v) e ∙ ap (λ (r : List ℕ). x ∷ r) (set_past xs ys i v)

-- a row with v for one of its entries, put in its place
row_stored : (f : ℕ) (L : List ℕ) (k v : ℕ) → 1 ≤ f → 4 * f ≤ length L → k < 4 → with_row f (set (row L f) k v) L ≡ set L (4 * (f - 1) + k) v
unfolding with_row
row_stored f L k v from to h =
    let a = 4 * (f - 1) in
    let R = row L f in
    let D = drop (4 * f) L in
    let long : length (take a L) ≡ a = length-take-le a L (omega arith) in
    let four : length R ≡ 4 = length_part a 4 L (omega arith) in
    let end : a + 4 ≡ 4 * f = omega arith in
    let whole : take a L ++ (R ++ D) ≡ L =
    ap (λ (X : List ℕ). take a L ++ (R ++ X)) (ap (λ (i : ℕ). drop i L) (sym end) ∙ sym (drop-drop 4 a L))
    ∙ ap (λ (X : List ℕ). take a L ++ X) (take-append-drop 4 (drop a L))
    ∙ take-append-drop a L in
    ap (λ (X : List ℕ). take a L ++ X) (sym (set-append_left R D k v (omega arith)))
    ∙ sym (set_past (take a L) (R ++ D) k v)
    ∙ ap (λ (i : ℕ). set (take a L ++ (R ++ D)) (i + k) v) long
    ∙ ap (λ (X : List ℕ). set X (a + k) v) whole

-- a row put after m others, where v was stored among these
row_after : (m : ℕ) (r L : List ℕ) (b v : ℕ) → b < 4 * m → with_row (m + 1) r (set L b v) ≡ set (take (4 * m) L) b v ++ (r ++ drop (4 * (m + 1)) L)
unfolding with_row
row_after m r L b v h =
    let start : m + 1 - 1 ≡ m = omega arith in
    ap (λ (k : ℕ). take (4 * k) (set L b v) ++ (r ++ drop (4 * (m + 1)) (set L b v))) start
    ∙ ap (λ (X : List ℕ). X ++ (r ++ drop (4 * (m + 1)) (set L b v))) (take-set-lt (4 * m) L b v h)
    ∙ ap (λ (X : List ℕ). set (take (4 * m) L) b v ++ (r ++ X)) (drop-set-lt (4 * (m + 1)) L b v (omega arith))

-- what is put over a front that is no longer covers it
onto_twice : (xs ys buffer : List ℕ) → length xs ≤ length ys → onto ys (onto xs buffer) ≡ onto ys buffer
unfolding onto
onto_twice xs ys buffer h = ap (λ (r : List ℕ). ys ++ r) (past_onto xs buffer (length ys) h)

-- the list has room for a row after the m that it holds, and s is a side of a triangle of these
pub record ToHalve (m : ℕ) (list : List ℕ) (s : ℕ) : Type 0 where
  pub size : m + 1 ≤ max_element
  pub long : 4 * m + 4 ≤ length list
  pub halvable : Halvable (take (4 * m) list) s

module _ {m : ℕ} {list : List ℕ} {s : ℕ} (x : ToHalve m list s) where
  abbrev L : List ℕ
  L = take (4 * m) list

  abbrev f : ℕ
  f = s / 8

  abbrev rest : List ℕ
  rest = drop (4 * (m + 1)) list

  inside : 4 * m ≤ length list
  inside = omega (arith, x.long)

  -- the row of s is there, and has four entries
  pub row_there : (1 ≤ f) × (4 * f ≤ length list)
  row_there = let (a, b) = held_inside m list inside s x.halvable.side in (a, omega (arith, inside))

  row_long : length (row L f) ≡ 4
  row_long =
      length_part (4 * (f - 1)) 4 L (omega (arith, held_inside m list inside s x.halvable.side, held_length m list inside))

  pub number_there : (1 ≤ s % 8) × (s % 8 ≤ 4)
  number_there = let i = side_facts L s x.halvable.side in (i.number_from, i.number_four)

  -- where the destination of s stands: in the row of s, by its next number
  next_slot : slot (next L s) ≡ 4 * (f - 1) + (next_number (sides L f) (s % 8) - 1)
  unfolding slot
  next_slot = let i = next_numbered L s x.halvable.side in omega (arith, i.same, i.index)

  -- the number of the next side, by the row that was read
  pub next_read : {r : List ℕ} {i j : ℕ} → r ≡ row_of (row list f) → i ≡ s % 8 → j ≡ next_side r i
      → (j ≡ next_number (sides L f) (s % 8)) × ((1 ≤ j) × (j ≤ 4))
  next_read {r} {i} {j} read index is =
      let a = x.halvable.side in
      let k = side_facts L s a in
      let (from, to) = held_inside m list inside s a in
      let n = next_numbered L s a in
      let h = side_facts L (next L s) n.side in
      let e : j ≡ next_number (sides L f) (s % 8) =
      is ∙ (λ t. next_side (read t) (index t))
      ∙ ap (λ (X : List ℕ). next_side (row_of X) (s % 8)) (sym (held_row m list inside f from to))
      ∙ row_turned L f next_number (s % 8) k.number_from k.number_to in
      (e, (omega (arith, n.index, h.number_from), omega (arith, n.index, h.number_four)))

  module _ (v : ℕ) where
    -- the row that is appended, by the old one
    row_with : row (with_corner L s v) f ≡ set (row L f) (s % 8 - 1) v
    unfolding with_corner slot
    row_with =
        ap (take 4) (drop-set-add (4 * (f - 1)) L (s % 8 - 1) v)
        ∙ take-set-lt 4 (drop (4 * (f - 1)) L) (s % 8 - 1) v (omega (arith, side_facts L s x.halvable.side))

    -- the row r was read, and put again with v for the destination of s, and after the others with v for its origin
    pub halves : {r p q M N : List ℕ} {i j : ℕ} → r ≡ row_of (row list f) → i ≡ s % 8 → j ≡ next_side r i → p ≡ set r (j - 1) v → q ≡ set r (i - 1) v
        → M ≡ with_row f (row_of p) list → N ≡ with_row (m + 1) (row_of q) M → N ≡ onto (halved L s v) list
    unfolding onto halved with_corner
    halves {r} {p} {q} {M} {N} {i} {j} read index next_is p-is q-is put put_last =
        let side = x.halvable.side in
        let (from, to) = held_inside m list inside s side in
        let (number, bounds) = next_read read index next_is in
        let same : r ≡ row L f = read ∙ ap row_of (sym (held_row m list inside f from to)) ∙ four_is (row L f) row_long in
        let four : length r ≡ 4 = ap length same ∙ row_long in
        let near : row_of p ≡ set (row list f) (j - 1) v =
        ap row_of p-is ∙ four_is (set r (j - 1) v) (length-set r (j - 1) v ∙ four) ∙ ap (λ (X : List ℕ). set X (j - 1) v) (same ∙ held_row m list inside f from to) in
        let last : row_of q ≡ row (with_corner L s v) f =
        ap row_of q-is
        ∙ four_is (set r (i - 1) v) (length-set r (i - 1) v ∙ four)
        ∙ (λ k. set (same k) (index k - 1) v)
        ∙ sym row_with in
        let place : 4 * (f - 1) + (j - 1) ≡ slot (next L s) = omega (arith, next_slot, number) in
        let b = slot (next L s) in
        let below : b < 4 * m = omega (arith, slot_below L (next L s) (next_side_lem L s side), held_length m list inside) in
        let first : M ≡ set list b v =
        put
        ∙ ap (λ (X : List ℕ). with_row f X list) near
        ∙ row_stored f list (j - 1) v row_there.0 row_there.1 (omega (arith, bounds))
        ∙ ap (λ (k : ℕ). set list k v) place in
        let end : 4 * (m + 1) ≡ length (halved L s v) = omega (arith, halved_length v x.halvable, held_length m list inside) in
        put_last
        ∙ (λ k. with_row (m + 1) (last k) (first k))
        ∙ row_after m (row (with_corner L s v) f) list b v below
        ∙ sym (append_assoc (with_corner L (next L s) v) (row (with_corner L s v) f) rest)
        ∙ ap (λ (k : ℕ). halved L s v ++ drop k list) end

-- the first of two numbers for the code of a border half-edge, the second for that of a side
unfoldable pub by_border : ℕ → ℕ → ℕ → ℕ
by_border t border inner = elim (eqb (number t) 0) [ true ↦ border | false ↦ inner ]

module _ (t border inner : ℕ) where
  pub for_border : t % 8 ≡ 0 → by_border t border inner ≡ border
  unfolding by_border
  for_border z = rw (true_of (eqb (t % 8) 0) ((means_eq (t % 8) 0).shows z), by_border)

  pub for_inner : (t % 8 ≡ 0 → ⊥) → by_border t border inner ≡ inner
  unfolding by_border
  for_inner d = rw (false_of (eqb (t % 8) 0) ((means_not (means_eq (t % 8) 0)).shows d), by_border)

-- s may be split in a list with fit rows, and t is its entry in E2e
pub record Cuttable (L : List ℕ) (s t : ℕ) : Type 0 where
  pub n : ℕ
  pub fit : Fit n L
  pub splittable : Splittable L s
  pub entry : t ≡ at (wide L) (slot s)

-- the list has room for the new rows after the m that it holds
pub record ToSplit (m : ℕ) (list : List ℕ) (s t v : ℕ) : Type 0 where
  pub cuttable : Cuttable (take (4 * m) list) s t
  pub inside : 4 * m ≤ length list
  pub size : elements (split_at (take (4 * m) list) s v) ≤ max_element
  pub long : 4 * elements (split_at (take (4 * m) list) s v) ≤ length list

module _ {L : List ℕ} {s t : ℕ} (x : Cuttable L s t) (v : ℕ) where
  abbrev M : List ℕ
  M = halved L s v

  pub first_halvable : Halvable L s
  first_halvable = first x.n L x.fit s x.splittable

  -- where E2e has a border half-edge, one triangle is halved
  module _ (border : t % 8 ≡ 0) where
    alone : partner L s ≡ 0
    alone = entry_border L s x.splittable.side x.entry border

    pub at_border : split_at L s v ≡ M
    at_border = split_border L s v alone

    pub size_at_border : elements (split_at L s v) ≡ elements L + 1
    size_at_border = split_size_border x.n L x.fit s x.splittable v alone

  -- else the partner's, too
  module _ (inner : t % 8 ≡ 0 → ⊥) where
    paired : (t ≡ partner L s) × (partner L s ≡ 0 → ⊥)
    paired = entry_partner L s x.splittable.side x.entry inner

    pub at_inner : split_at L s v ≡ halved M t v
    at_inner = split_inner L s v paired.1 ∙ ap (λ (r : ℕ). halved M r v) (sym paired.0)

    pub size_at_inner : elements (split_at L s v) ≡ elements L + 2
    size_at_inner = split_size_inner x.n L x.fit s x.splittable v paired.1

    pub second_halvable : Halvable M t
    second_halvable = rw paired.0 (second x.n L x.fit s x.splittable v paired.1)

-- how many elements, by the entry
pub elements_then : {L : List ℕ} {s t : ℕ} (x : Cuttable L s t) (v : ℕ) → elements (split_at L s v) ≡ by_border t (elements L + 1) (elements L + 2)
elements_then {L} {s} {t} x v =
    elim (zero_or (t % 8)) [
      | inl z ↦ size_at_border x v z ∙ sym (for_border t (elements L + 1) (elements L + 2) z)
      | inr d ↦ size_at_inner x v d ∙ sym (for_inner t (elements L + 1) (elements L + 2) d)
    ]

module _ {m : ℕ} {list : List ℕ} {s t v : ℕ} (x : ToSplit m list s t v) where
  abbrev held : List ℕ
  held = take (4 * m) list

  abbrev one : List ℕ
  one = halved held s v

  -- one row more, at least
  pub grown : elements held + 1 ≤ elements (split_at held s v)
  grown =
      elim (zero_or (t % 8)) [
        | inl z ↦ omega (arith, size_at_border x.cuttable v z)
        | inr d ↦ omega (arith, size_at_inner x.cuttable v d)
      ]

  rows : elements held ≡ m
  rows = held_elements m list x.inside

  pub first_half : ToHalve m list s
  first_half =
      record {
        size = omega (arith, grown, rows, x.size);
        long = omega (arith, grown, rows, x.long);
        halvable = first_halvable x.cuttable v;
      }

  one_long : length one ≡ 4 * (m + 1)
  one_long = omega (arith, halved_length v (first_halvable x.cuttable v), held_length m list x.inside)

  -- the list once the triangle of s is halved
  module _ {M : List ℕ} (is : M ≡ onto one list) where
    pub split_at_border : t % 8 ≡ 0 → M ≡ onto (split_at held s v) list
    split_at_border z = is ∙ ap (λ (X : List ℕ). onto X list) (sym (at_border x.cuttable v z))

    module _ (d : t % 8 ≡ 0 → ⊥) where
      two_more : m + 2 ≡ elements (split_at held s v)
      two_more = omega (arith, size_at_inner x.cuttable v d, rows)

      front : take (4 * (m + 1)) M ≡ one
      front = ap (take (4 * (m + 1))) is ∙ onto_front one list one_long

      long : length M ≡ length list
      long = ap length is ∙ onto_length one list (omega (arith, one_long, two_more, x.long))

      pub second_half : ToHalve (m + 1) M t
      second_half =
          record {
            size = omega (arith, two_more, x.size);
            long = omega (arith, two_more, x.long, long);
            halvable = rw front (second_halvable x.cuttable v d);
          }

      -- the second row covers what the first left
      pub split_at_inner : {N : List ℕ} → N ≡ onto (halved (take (4 * (m + 1)) M) t v) M → N ≡ onto (split_at held s v) list
      split_at_inner e =
          let two : length one ≤ length (halved one t v) = omega (arith, halved_length v (second_halvable x.cuttable v d)) in
          e
          ∙ ap (λ (X : List ℕ). onto (halved X t v) M) front
          ∙ ap (onto (halved one t v)) is
          ∙ onto_twice one (halved one t v) list two
          ∙ ap (λ (X : List ℕ). onto X list) (sym (at_inner x.cuttable v d))
