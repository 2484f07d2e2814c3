-- Rows that go from a list that is lent longer than what it holds: the last of its m rows takes the place of one that goes.
-- Assumes nothing.
use Rattle.std.specs.Prelude.{◌≡◌, true, false, ◌⊎◌, ℕ, ◌+◌, ◌*◌, ◌-◌, ◌/◌, ◌%◌, ◌≤◌, ◌<◌, eqb, ltb}
use Rattle.std.proofs.Math.Path.{ap, sym}
use Rattle.std.proofs.Common.{◌∙◌, inl, inr, arith, length-take-le, get_or-take, ext_get_or}
use mathlib.Core.List.{List}
use Rattle.std.proofs.Math.ListN.{length, take}
use Rattle.lists.specs.TestLaws.{true_of, false_of, decide, means_not, means_eq, means_lt, zero_or}
use Rattle.lists.specs.Search.{at}
use Rattle.lists.specs.Parts.{length_part}
use Rattle.rules.specs.Elements.{max_element, elements, row, number, slot}
use Rattle.rules.specs.Pairing.{Element}
use Rattle.rules.specs.Tables.{partner, wide}
use Rattle.edit_rules.specs.Edits.{with_row}
use Rattle.edit_rules.specs.Contract.{without_row, without_both, without_edge}
use Rattle.theory.specs.FitRows.{Fit}
use Rattle.theory.specs.Rows.{row_length, row_entry_lem, row_other}
use Rattle.theory.specs.Swapping.{across, apart}
use Rattle.theory.specs.Splitting.{Splittable, split_diagonal}
use Rattle.theory.specs.Removing.{without_size, both_size}
use Rattle.theory.specs.Contracting.{without_border, without_inner}
use Rattle.halfedge.specs.Rows.{row_of}
use Rattle.edits.specs.RowPut.{four_is}
use Rattle.edits.specs.Trying.{entry_border, entry_partner}
use Rattle.edits.specs.HeldRows.{held_length, held_elements, held_row, held_inside}

-- a row put into the front of a list, and into the list
row_in_front : (m f : ℕ) (r list : List ℕ) → length r ≡ 4 → 1 ≤ f → f ≤ m → 4 * m ≤ length list
    → (k : ℕ) → k ≤ 4 * m → take k (with_row f r list) ≡ take k (with_row f r (take (4 * m) list))
row_in_front m f r list four from to inside k h =
    let L = take (4 * m) list in
    let here : Element list f = omega arith in
    let there : Element L f = omega (arith, held_length m list inside) in
    let long : length (take k (with_row f r list)) ≡ k = length-take-le k (with_row f r list) (omega (arith, row_length f r list four here)) in
    let long' : length (take k (with_row f r L)) ≡ k =
    length-take-le k (with_row f r L) (omega (arith, row_length f r L four there, held_length m list inside)) in
    ext_get_or 0 _ _ (long ∙ sym long')
    (λ p b.
    let c : p < k = omega (arith, long) in
    get_or-take k (with_row f r list) p 0 c
    ∙ go here there p (omega arith) (decide (means_eq (p / 4 + 1) f))
    ∙ sym (get_or-take k (with_row f r L) p 0 c))
  where
    go : Element list f → Element (take (4 * m) list) f → (p : ℕ) → p < 4 * m → (p / 4 + 1 ≡ f) ⊎ (p / 4 + 1 ≡ f → ⊥)
        → at (with_row f r list) p ≡ at (with_row f r (take (4 * m) list)) p
    go here there p b (inl e) =
        let L = take (4 * m) list in
        let q : p ≡ 4 * (f - 1) + p % 4 = omega arith in
        ap (at (with_row f r list)) q
        ∙ row_entry_lem f r list four here (p % 4) (omega arith)
        ∙ sym (ap (at (with_row f r L)) q ∙ row_entry_lem f r L four there (p % 4) (omega arith))
    go here there p b (inr d) =
        row_other f r list four here p d
        ∙ sym (row_other f r (take (4 * m) list) four there p d ∙ get_or-take (4 * m) list p 0 b)

-- the last row was read and put in the place of row f
module _ (m f : ℕ) (list : List ℕ) (from : 1 ≤ f) (to : f ≤ m) (inside : 4 * m ≤ length list) where
  pub row_goes : {r N : List ℕ} → r ≡ row_of (row list m) → N ≡ with_row f (row_of r) list
      → (length N ≡ length list) × (take (4 * (m - 1)) N ≡ without_row f (take (4 * m) list))
  unfolding without_row
  row_goes {r} {N} read put =
      let L = take (4 * m) list in
      let last = row list m in
      let four : length last ≡ 4 = length_part (4 * (m - 1)) 4 list (omega arith) in
      let same : row_of r ≡ last = ap row_of (read ∙ four_is last four) ∙ four_is last four in
      let is : N ≡ with_row f last list = put ∙ ap (λ (x : List ℕ). with_row f x list) same in
      let count : m ≡ elements L = sym (held_elements m list inside) in
      let held : last ≡ row L (elements L) = sym (held_row m list inside m (omega arith) (omega arith)) ∙ ap (row L) count in (
        ap length is ∙ row_length f last list four (omega arith),
        ap (take (4 * (m - 1))) is
            ∙ row_in_front m f last list four from to inside (4 * (m - 1)) (omega arith)
            ∙ (λ i. take (4 * (count i - 1)) (with_row f (held i) L)),
      )

-- two go, "the higher-numbered first"
module _ (f g : ℕ) (L : List ℕ) where
  when_below : f < g → without_both f g L ≡ without_row f (without_row g L)
  unfolding without_both
  when_below h = rw (true_of (ltb f g) ((means_lt f g).shows h), without_both)

  when_above : (f < g → ⊥) → without_both f g L ≡ without_row g (without_row f L)
  unfolding without_both
  when_above h = rw (false_of (ltb f g) ((means_not (means_lt f g)).shows h), without_both)

-- M is the list once one row has gone, and N once another has, too
module _ (m : ℕ) (L list M N : List ℕ) where
  -- row j of m has gone, and then row i of those left
  abbrev One : ℕ → Type 0
  One j = (length M ≡ length list) × (take (4 * (m - 1)) M ≡ without_row j L)

  abbrev Other : ℕ → Type 0
  Other i = (length N ≡ length M) × (take (4 * (m - 1 - 1)) N ≡ without_row i (take (4 * (m - 1)) M))

  both_go : (i j : ℕ) → One j → Other i → (length N ≡ length list) × (take (4 * (m - 2)) N ≡ without_row i (without_row j L))
  both_go i j (long, one) (long', other) =
      let e : m - 2 ≡ m - 1 - 1 = omega arith in
      (long' ∙ long, ap (λ (k : ℕ). take (4 * k) N) e ∙ other ∙ ap (without_row i) one)

  pub go_below : (f g : ℕ) → f < g → One g → Other f → (length N ≡ length list) × (take (4 * (m - 2)) N ≡ without_both f g L)
  go_below f g h x y = let (a, b) = both_go f g x y in (a, b ∙ sym (when_below f g L h))

  pub go_above : (f g : ℕ) → g ≤ f → One f → Other g → (length N ≡ length list) × (take (4 * (m - 2)) N ≡ without_both f g L)
  go_above f g h x y = let (a, b) = both_go g f x y in (a, b ∙ sym (when_above f g L (λ l. omega arith)))

-- how many of m rows stay, by the entry t of the side in E2e
unfoldable pub fewer_by : ℕ → ℕ → ℕ
fewer_by m t = elim (eqb (number t) 0) [ true ↦ m - 1 | false ↦ m - 2 ]

module _ (m t : ℕ) where
  pub one_fewer : t % 8 ≡ 0 → fewer_by m t ≡ m - 1
  unfolding fewer_by
  one_fewer z = rw (true_of (eqb (t % 8) 0) ((means_eq (t % 8) 0).shows z), fewer_by)

  pub two_fewer : (t % 8 ≡ 0 → ⊥) → fewer_by m t ≡ m - 2
  unfolding fewer_by
  two_fewer d = rw (false_of (eqb (t % 8) 0) ((means_not (means_eq (t % 8) 0)).shows d), fewer_by)

-- s may be contracted in the list of m rows that is held, and t is its entry in E2e
pub record ToClose (m : ℕ) (list : List ℕ) (s t : ℕ) : Type 0 where
  pub inside : 4 * m ≤ length list
  pub size : m ≤ max_element
  pub n : ℕ
  pub fit : Fit n (take (4 * m) list)
  pub splittable : Splittable (take (4 * m) list) s
  pub entry : t ≡ at (wide (take (4 * m) list)) (slot s)

module _ {m : ℕ} {list : List ℕ} {s t : ℕ} (x : ToClose m list s t) where
  abbrev L : List ℕ
  L = take (4 * m) list

  pub row_there : (1 ≤ s / 8) × (s / 8 ≤ m)
  row_there = held_inside m list x.inside s x.splittable.side

  rows : elements L ≡ m
  rows = held_elements m list x.inside

  fours : length L ≡ 4 * elements L
  fours = x.fit.fours

  mine : Element L (s / 8)
  mine = omega (arith, row_there, rows)

  -- where E2e has a border half-edge, one row goes
  module _ (border : t % 8 ≡ 0) where
    edge_border : without_edge L s ≡ without_row (s / 8) L
    edge_border = without_border L s (entry_border L s x.splittable.side x.entry border)

    pub border_goes : (N : List ℕ) → (length N ≡ length list) × (take (4 * (m - 1)) N ≡ without_row (s / 8) L)
        → (length N ≡ length list) × (take (4 * fewer_by m t) N ≡ without_edge L s)
    border_goes N (long, is) = (long, ap (λ (k : ℕ). take (4 * k) N) (one_fewer m t border) ∙ is ∙ sym edge_border)

    border_fewer : fewer_by m t ≡ elements (without_edge L s)
    border_fewer = omega (arith, one_fewer m t border, ap length edge_border, without_size (s / 8) L fours mine, rows)

  -- else two go
  module _ (inner : t % 8 ≡ 0 → ⊥) where
    paired : (t ≡ partner L s) × (partner L s ≡ 0 → ⊥)
    paired = entry_partner L s x.splittable.side x.entry inner

    pub other_there : (1 ≤ t / 8) × (t / 8 ≤ m)
    other_there =
        let y = split_diagonal x.splittable paired.1 in
        rw paired.0 (held_inside m list x.inside (partner L s) (across x.n L x.fit s y).0)

    pub rows_differ : s / 8 ≡ t / 8 → ⊥
    rows_differ e =
        apart x.n L x.fit s (split_diagonal x.splittable paired.1) (e ∙ ap (λ (k : ℕ). k / 8) paired.0)

    edge_inner : without_edge L s ≡ without_both (s / 8) (t / 8) L
    edge_inner = without_inner L s paired.1 ∙ ap (λ (k : ℕ). without_both (s / 8) (k / 8) L) (sym paired.0)

    pub inner_goes : (N : List ℕ) → (length N ≡ length list) × (take (4 * (m - 2)) N ≡ without_both (s / 8) (t / 8) L)
        → (length N ≡ length list) × (take (4 * fewer_by m t) N ≡ without_edge L s)
    inner_goes N (long, is) = (long, ap (λ (k : ℕ). take (4 * k) N) (two_fewer m t inner) ∙ is ∙ sym edge_inner)

    other : Element L (t / 8)
    other = omega (arith, other_there, rows)

    inner_fewer : fewer_by m t ≡ elements (without_edge L s)
    inner_fewer =
        omega (arith, two_fewer m t inner, ap length edge_inner, both_size L fours (s / 8) (t / 8) mine other rows_differ, rows)

    two_there : 2 ≤ m
    two_there = omega (arith, row_there, other_there, rows_differ)

  pub fewer_is : fewer_by m t ≡ elements (without_edge L s)
  fewer_is = elim (zero_or (t % 8)) [ inl z ↦ border_fewer z | inr d ↦ inner_fewer d ]

  pub fewer_fits : (1 ≤ m) × ((t % 8 ≡ 0 → ⊥) → 2 ≤ m)
  fewer_fits = (omega (arith, row_there), two_there)

  -- what stays is no more than there was
  pub fewer_below : fewer_by m t ≤ m
  fewer_below = elim (zero_or (t % 8)) [ inl z ↦ omega (arith, one_fewer m t z) | inr d ↦ omega (arith, two_fewer m t d) ]
