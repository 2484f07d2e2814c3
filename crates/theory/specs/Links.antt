-- The two vertices that a side joins; and the links of an element, which are its sides and, in a quadrilateral, its two diagonals. A diagonal
-- has a code like a side: ⟨f,5⟩ joins corners 1 and 3 of element f, ⟨f,6⟩ corners 2 and 4.
-- Assumes nothing.
use Rattle.std.specs.Prelude.{◌≡◌, true, false, List, ℕ, ◌+◌, ◌*◌, ◌-◌, ◌/◌, ◌%◌, ◌≤◌, ◌<◌, min, max, leb}
use Rattle.std.proofs.Common.{ap, sym, subst, ◌∙◌, arith}
use Rattle.lists.specs.TestLaws.{true_of, false_of, means_le, means_not}
use Rattle.lists.specs.Search.{at}
use Rattle.rules.specs.Elements.{elements, element, number, corner, sides, Side, slot, origin, destination, next}
use Rattle.theory.specs.Sides.{side_facts, side_of_lem}
use Rattle.theory.specs.Steps.{next_side_lem}
use Rattle.theory.specs.FitRows.{Fit, ends_differ}

-- the two vertices that a side joins
unfoldable pub lesser : List ℕ → ℕ → ℕ
lesser L s = min (origin L s) (destination L s)

unfoldable pub greater : List ℕ → ℕ → ℕ
greater L s = max (origin L s) (destination L s)

-- d is a diagonal of a quadrilateral
pub record Diagonal (L : List ℕ) (d : ℕ) : Type 0 where
  pub element_from : 1 ≤ d / 8
  pub element_to : d / 8 ≤ elements L
  pub number_from : 5 ≤ d % 8
  pub number_to : d % 8 ≤ 6
  pub quadrilateral : sides L (d / 8) ≡ 4

pub data Link (L : List ℕ) (c : ℕ) : Type 0 where
  side : Side L c → Link L c
  diagonal : Diagonal L c → Link L c

-- the two vertices that a link joins
unfoldable pub low : List ℕ → ℕ → ℕ
low L c =
    elim (leb (number c) 4)
    [ true ↦ lesser L c | false ↦ min (corner L (element c) (number c - 4)) (corner L (element c) (number c - 2)) ]

unfoldable pub high : List ℕ → ℕ → ℕ
high L c =
    elim (leb (number c) 4)
    [ true ↦ greater L c | false ↦ max (corner L (element c) (number c - 4)) (corner L (element c) (number c - 2)) ]

-- its element, and its number in it
pub record LinkFacts (L : List ℕ) (c : ℕ) : Type 0 where
  pub element_from : 1 ≤ c / 8
  pub element_to : c / 8 ≤ elements L
  pub number_from : 1 ≤ c % 8
  pub number_to : c % 8 ≤ 6

module _ (L : List ℕ) (c : ℕ) where
  pub link_facts : Link L c → LinkFacts L c
  link_facts (side a) =
      let f = side_facts L c a in
      record { element_from = f.element_from; element_to = f.element_to; number_from = f.number_from; number_to = omega (arith, f.number_four) }
  link_facts (diagonal d) =
      record { element_from = d.element_from; element_to = d.element_to; number_from = omega (arith, d.number_from); number_to = d.number_to }

  -- a link is a side where its number is one of a side
  pub link_side : Link L c → c % 8 ≤ 4 → Side L c
  link_side (side a) h = a
  link_side (diagonal d) h = absurd (omega (arith, d.number_from))

  pub link_diagonal : Link L c → 4 < c % 8 → Diagonal L c
  link_diagonal (side a) h = absurd (omega (arith, (side_facts L c a).number_four))
  link_diagonal (diagonal d) h = d

  -- its ends are those of a side, or the two corners of a diagonal
  module _ (a : Side L c) where
    few : leb (number c) 4 ≡ true
    few = true_of (leb (number c) 4) ((means_le (number c) 4).shows (side_facts L c a).number_four)

    pub low_side : low L c ≡ lesser L c
    unfolding low
    low_side = rw (few, low)

    pub high_side : high L c ≡ greater L c
    unfolding high
    high_side = rw (few, high)

  module _ (more : 4 < c % 8) where
    many : leb (number c) 4 ≡ false
    many = false_of (leb (number c) 4) ((means_not (means_le (number c) 4)).shows (λ h. omega arith))

    pub low_diagonal : low L c ≡ min (corner L (element c) (number c - 4)) (corner L (element c) (number c - 2))
    unfolding low
    low_diagonal = rw (many, low)

    pub high_diagonal : high L c ≡ max (corner L (element c) (number c - 4)) (corner L (element c) (number c - 2))
    unfolding high
    high_diagonal = rw (many, high)

-- corner i of element f is the origin of side i
pub record AtCorner (L : List ℕ) (f i : ℕ) : Type 0 where
  pub is_side_lem : Side L (8 * f + i)
  pub its_origin : origin L (8 * f + i) ≡ corner L f i
  pub its_element : (8 * f + i) / 8 ≡ f

pub at_corner : (L : List ℕ) (f i : ℕ) → 1 ≤ f → f ≤ elements L → 1 ≤ i → i ≤ 4 → i ≤ sides L f → AtCorner L f i
unfolding origin slot
at_corner L f i a b c d s =
    let e : (8 * f + i) / 8 ≡ f = omega arith in
    let g : (8 * f + i) % 8 ≡ i = omega arith in
    let p : 4 * ((8 * f + i) / 8 - 1) + ((8 * f + i) % 8 - 1) ≡ 4 * (f - 1) + (i - 1) = omega arith in
    record {
      is_side_lem = side_of_lem L (8 * f + i) (rw e a) (rw e b) (rw g c) (rw (e, g) s);
      its_origin = ap (at L) p;
      its_element = e;
    }

-- a diagonal runs from the origin of side 1 or 2 to that of side 3 or 4
module _ (L : List ℕ) (d : ℕ) (x : Diagonal L d) where
  starts : AtCorner L (d / 8) (d % 8 - 4)
  starts =
      let i = x.number_from in
      let k = x.number_to in
      let q = x.quadrilateral in
      at_corner L (d / 8) (d % 8 - 4) x.element_from x.element_to (omega arith) (omega arith) (omega arith)

  stops : AtCorner L (d / 8) (d % 8 - 2)
  stops =
      let i = x.number_from in
      let k = x.number_to in
      let q = x.quadrilateral in
      at_corner L (d / 8) (d % 8 - 2) x.element_from x.element_to (omega arith) (omega arith) (omega arith)

  four : 8 * (d / 8) + (d % 8 - 4) ≡ d - 4
  four = let i = x.number_from in omega arith

  two : 8 * (d / 8) + (d % 8 - 2) ≡ d - 2
  two = let i = x.number_from in omega arith

  pub diagonal_from : Side L (d - 4)
  diagonal_from = subst (Side L) four starts.is_side_lem

  pub diagonal_to : Side L (d - 2)
  diagonal_to = subst (Side L) two stops.is_side_lem

  from_corner : corner L (d / 8) (d % 8 - 4) ≡ origin L (d - 4)
  from_corner = sym starts.its_origin ∙ ap (origin L) four

  to_corner : corner L (d / 8) (d % 8 - 2) ≡ origin L (d - 2)
  to_corner = sym stops.its_origin ∙ ap (origin L) two

  pub low_by : low L d ≡ min (origin L (d - 4)) (origin L (d - 2))
  low_by =
      let i = x.number_from in
      low_diagonal L d (omega arith) ∙ ap (λ (a : ℕ). min a (corner L (d / 8) (d % 8 - 2))) from_corner ∙ ap (min (origin L (d - 4))) to_corner

  pub high_by : high L d ≡ max (origin L (d - 4)) (origin L (d - 2))
  high_by =
      let i = x.number_from in
      high_diagonal L d (omega arith) ∙ ap (λ (a : ℕ). max a (corner L (d / 8) (d % 8 - 2))) from_corner ∙ ap (max (origin L (d - 4))) to_corner

module _ (n : ℕ) (L : List ℕ) (fit : Fit n L) where
  -- the vertices of a side of fit rows
  pub side_ends : (s : ℕ) → Side L s → (1 ≤ lesser L s) × (lesser L s < greater L s) × (greater L s ≤ n)
  unfolding lesser greater
  side_ends s a =
      let d = ends_differ n L fit s a in
      let b = next_side_lem L s a in
      let x = fit.from s a in
      let y = fit.from (next L s) b in
      let z = fit.to s a in
      let w = fit.to (next L s) b in ((omega arith), (omega arith), (omega arith))

  -- and of a link
  pub link_ends : (c : ℕ) → Link L c → (1 ≤ low L c) × (low L c < high L c) × (high L c ≤ n)
  link_ends c (side a) =
      let (x, y, z) = side_ends c a in
      let l = low_side L c a in
      let h = high_side L c a in ((omega arith), (omega arith), (omega arith))
  link_ends c (diagonal d) =
      let i = d.number_from in
      let p = diagonal_from L c d in
      let r = diagonal_to L c d in
      let pf = fit.from _ p in
      let pt = fit.to _ p in
      let rf = fit.from _ r in
      let rt = fit.to _ r in
      let apart : origin L (c - 4) ≡ origin L (c - 2) → ⊥ = λ e. let z = fit.differ _ _ p r (omega arith) e in omega arith in
      let l = low_by L c d in
      let h = high_by L c d in
      ((omega arith), (omega arith), (omega arith))

-- a link between u and v, u the lesser
pub record Spans (L : List ℕ) (u v c : ℕ) : Type 0 where
  pub link : Link L c
  pub from : low L c ≡ u
  pub to : high L c ≡ v

pub spans_fit : {n : ℕ} {L : List ℕ} {u v c : ℕ} → Fit n L → Spans L u v c → (1 ≤ u) × (u < v) × (v ≤ n)
spans_fit {n} {L} {c} fit b =
    let (x, y, z) = link_ends n L fit c b.link in
    let l = b.from in
    let h = b.to in ((omega arith), (omega arith), (omega arith))
