-- A list with a new vertex on a side, document 02, point 6: its elements meet well where those of the old list do. An element either stayed,
-- or it is a part of an old triangle, and then its corners but for the new vertex are corners of that.
-- Assumes nothing.
use Rattle.std.specs.Prelude.{◌≡◌, refl, ◌⊎◌, List, ℕ, ◌+◌, ◌*◌, ◌-◌, ◌/◌, ◌≤◌, T}
use Rattle.std.proofs.Common.{sym, ◌∙◌, inl, inr, arith}
use Rattle.lists.specs.TestLaws.{means_itself, decide, means_eq}
use Rattle.rules.specs.Elements.{corner, sides, Side, origin, previous, destination}
use Rattle.rules.specs.Pairing.{joins, opposed, is_corner, meet_well, Element, Conformal}
use Rattle.rules.specs.Tables.{partner}
use Rattle.theory.specs.Sides.{side_positive, side_facts, side_of_lem}
use Rattle.theory.specs.FitRows.{Fit}
use Rattle.theory.specs.Links.{Diagonal, Link, diagonal, low, high, link_facts, link_diagonal, link_ends, at_corner}
use Rattle.theory.specs.Links.{diagonal_from, diagonal_to, low_by, high_by}
use Rattle.theory.specs.Pairings.{means_joins, opposed_sym}
use Rattle.theory.specs.Meeting.{Doubled, few, element_of, means_begins, doubled_corner, own, link_corners, not_three, three_shared}
use Rattle.theory.specs.Meeting.{three_clash, diagonal_clashes, clash_crosses, joined_corners}
use Rattle.theory.specs.Triangles.{TriangleSide, next_runs, previous_runs}
use Rattle.theory.specs.Refining.{Cut, Half, stayed, near, far, Kept, Refined}
use Rattle.theory.specs.Orders.{Good}
use Rattle.theory.specs.Diamonds.{corners, its_corner, runs_differ}

-- the element f of L has no side that is cut
record Stayed (L : List ℕ) (s f : ℕ) : Type 0 where
  element : Element L f
  uncut : (r : ℕ) → Cut L s r → f ≡ r / 8 → ⊥

-- f is one of the two that the triangle of r has become: the new vertex and the third corner are corners of it, and what else is was a
-- corner of the triangle
record Part (n : ℕ) (L L' : List ℕ) (r f : ℕ) : Type 0 where
  new : T (is_corner L' f (n + 1))
  third : T (is_corner L' f (origin L (previous L r)))
  was : (u : ℕ) → u ≤ n → T (is_corner L' f u) → T (is_corner L (r / 8) u)
  triangle : sides L' f ≡ 3

-- where an element of L' comes from
data Comes (L : List ℕ) (s : ℕ) (twin : ℕ → ℕ) (f : ℕ) : Type 0 where
  whole : Stayed L s f → Comes L s twin f
  part : (r : ℕ) → Cut L s r → (f ≡ r / 8) ⊎ (f ≡ twin r / 8) → Comes L s twin f

module _ {n : ℕ} {L L' : List ℕ} {s : ℕ} (x : Refined n L L' s) where
  comes : (f : ℕ) → Element L' f → Comes L s x.twin f
  comes f (a, b) =
      let c = at_corner L' f 1 a b (omega arith) (omega arith) (omega (arith, few L' f)) in
      let e = c.its_element in
      elim (x.place (8 * f + 1) c.is_side_lem) [
        | stayed w d ↦ whole (record { element = rw e at (element_of L (8 * f + 1) w); uncut = λ r k i. d r k (e ∙ i) })
        | near r k i ↦ part r k (inl (sym e ∙ i))
        | far r k i ↦ part r k (inr (sym e ∙ i))
      ]

  -- an element that stayed has the sides that it had, and the corners
  module _ (f : ℕ) (y : Stayed L s f) where
    kept_here : (q : ℕ) → Side L q → q / 8 ≡ f → Kept L L' q
    kept_here q w e = x.kept q w (λ r k i. y.uncut r k (sym e ∙ i))

    same_sides : sides L' f ≡ sides L f
    same_sides =
        let (a, b) = y.element in
        let c = at_corner L f 1 a b (omega arith) (omega arith) (omega (arith, few L f)) in
        rw c.its_element at (kept_here (8 * f + 1) c.is_side_lem c.its_element).sided

    side_before : (q : ℕ) → Side L' q → q / 8 ≡ f → Side L q
    side_before q w e =
        let h = side_facts L' q w in
        let (a, b) = y.element in
        side_of_lem L q (omega arith) (omega arith) h.number_from (rw (e, ← same_sides) (rw e at h.number_to))

    module _ (el : Element L' f) where
      corner_before : (u : ℕ) → T (is_corner L' f u) → T (is_corner L f u)
      corner_before u t =
          let (q, (w, o), e) = (means_begins L' f u el).says t in
          let v = side_before q w e in
          (means_begins L f u y.element).shows (q, (v, sym (kept_here q v e).from ∙ o), e)

      corner_still : (u : ℕ) → T (is_corner L f u) → T (is_corner L' f u)
      corner_still u t =
          let (q, (w, o), e) = (means_begins L f u y.element).says t in
          let k = kept_here q w e in
          (means_begins L' f u el).shows (q, (k.side, k.from ∙ o), e)

  -- a diagonal of an element that stayed joins what it joined
  module _ (d : ℕ) (y : Stayed L s (d / 8)) (z : Diagonal L' d) where
    diagonal_before : Diagonal L d
    diagonal_before =
        let (a, b) = y.element in
        let e = sym (same_sides (d / 8) y) ∙ z.quadrilateral in
        record { element_from = a; element_to = b; number_from = z.number_from; number_to = z.number_to; quadrilateral = e }

    same_end : (q : ℕ) → Side L q → q / 8 ≡ d / 8 → origin L' q ≡ origin L q
    same_end q w e = (kept_here (d / 8) y q w e).from

    same_ends : (low L' d ≡ low L d) × (high L' d ≡ high L d)
    same_ends =
        let i = z.number_from in
        let w = diagonal_before in
        let e = same_end (d - 4) (diagonal_from L d w) (omega arith) in
        let g = same_end (d - 2) (diagonal_to L d w) (omega arith) in
        (low_by L' d z ∙ rw (e, g) (sym (low_by L d w)), high_by L' d z ∙ rw (e, g) (sym (high_by L d w)))

  -- the two parts of a triangle
  part_by : {r q a b : ℕ} → TriangleSide L' q a b (origin L (previous L r)) → Cut L s r → T (is_corner L' (q / 8) (n + 1))
      → (a ≤ n → T (is_corner L (r / 8) a)) → (b ≤ n → T (is_corner L (r / 8) b)) → Part n L L' r (q / 8)
  part_by {r} y k v f g =
      record {
        new = v;
        third = (corners y).2;
        was = λ u h t. elim (its_corner y u t) [
          | inl e ↦ rw e (f (rw e at h))
          | inr i ↦ elim i [ inl e ↦ rw e (g (rw e at h)) | inr e ↦ rw e (corners (x.halves r k).old).2 ]
        ];
        triangle = y.triangle;
      }

  near_part : (r : ℕ) → Cut L s r → Part n L L' r (r / 8)
  near_part r k =
      let h = x.halves r k in
      part_by h.near k (corners h.near).1 (λ l. (corners h.old).0) (λ l. absurd (omega arith))

  far_part : (r : ℕ) → Cut L s r → Part n L L' r (x.twin r / 8)
  far_part r k =
      let h = x.halves r k in
      part_by h.far k (corners h.far).0 (λ l. absurd (omega arith)) (λ l. (corners h.old).1)

  part_of : (r f : ℕ) → Cut L s r → (f ≡ r / 8) ⊎ (f ≡ x.twin r / 8) → Part n L L' r f
  part_of r f k i = elim i [ inl e ↦ rw e (near_part r k) | inr e ↦ rw e (far_part r k) ]

module _ {n : ℕ} {L L' : List ℕ} {s : ℕ} (old : Good n L) (m : Conformal L) (x : Refined n L L' s) where
  -- a corner of an element of L isn't the new vertex
  known : (f u : ℕ) → Element L f → T (is_corner L f u) → u ≤ n
  known f u el t = let (q, (w, o), e) = (means_begins L f u el).says t in rw o at (old.fit.to q w)

  cut_element : (r : ℕ) → Cut L s r → Element L (r / 8)
  cut_element r k = element_of L r k.side

  -- both ends of a diagonal of L' are corners of no other element: they would be so in L
  diagonal_alone : (d g : ℕ) → Diagonal L' d → Element L' g → (d / 8 ≡ g → ⊥) → T (is_corner L' g (low L' d)) → T (is_corner L' g (high L' d)) → ⊥
  diagonal_alone d g z b c p q = elim (comes x (d / 8) (z.element_from, z.element_to)) [
    | part r k i ↦ omega (arith, (part_of x r (d / 8) k i).triangle, z.quadrilateral)
    | whole y ↦ elim (comes x g b) [
      | whole w ↦ clear y g w.element c (λ u h. corner_before x g w b u)
      | part r k i ↦ clear y (r / 8) (cut_element r k) (y.uncut r k) (part_of x r g k i).was
    ]
  ]
    where
      clear : Stayed L s (d / 8) → (f : ℕ) → Element L f → (d / 8 ≡ f → ⊥) → ((u : ℕ) → u ≤ n → T (is_corner L' g u) → T (is_corner L f u)) → ⊥
      clear y f el e was =
          let w = diagonal_before x d y z in
          let (i, j) = same_ends x d y z in
          let (_, less, top) = link_ends n L old.fit d (diagonal w) in
          diagonal_clashes n L old.fit (d / 8) f y.element el d w refl (was _ (omega arith) (rw i at p)) (was _ top (rw j at q))
          (m (d / 8) f y.element el e)

  -- so it isn't crossed
  not_crossed : (d c : ℕ) → Diagonal L' d → Link L' c → (d / 8 ≡ c / 8 → ⊥) → low L' d ≡ low L' c → high L' d ≡ high L' c → ⊥
  not_crossed d c z l e i j =
      let h = link_facts L' c l in
      let (p, q) = link_corners L' c l in
      diagonal_alone d (c / 8) z (h.element_from, h.element_to) e (rw i p) (rw j q)

  -- two sides that are cut join the same two vertices
  cut_joins : (r q : ℕ) → Cut L s r → Cut L s q → (r ≡ q → ⊥) → T (joins L r q)
  cut_joins r q k l d = (means_joins L r q).shows (inr (go k.is l.is))
    where
      across : (r : ℕ) → Cut L s r → r ≡ partner L s → T (opposed L s (partner L s))
      across r k e = (old.pairing.opposite s x.side (λ z. side_positive L r k.side (e ∙ z))).1

      go : (r ≡ s) ⊎ (r ≡ partner L s) → (q ≡ s) ⊎ (q ≡ partner L s) → T (opposed L r q)
      go (inl e) (inl f) = absurd (d (e ∙ sym f))
      go (inl e) (inr f) = rw (e, f) (across q l f)
      go (inr e) (inl f) = rw (e, f) (opposed_sym L s (partner L s) (across r k e))
      go (inr e) (inr f) = absurd (d (e ∙ sym f))

  -- two triangles of L' with the same corners
  module _ (f g : ℕ) (a : Element L' f) (b : Element L' g) (y : Doubled L' f g) where
    -- the first stayed: its three corners would be corners of what the other comes from
    stayed_alone : Stayed L s f → (h : ℕ) → Element L h → (f ≡ h → ⊥) → ((u : ℕ) → u ≤ n → T (is_corner L' g u) → T (is_corner L h u)) → ⊥
    stayed_alone z h el d was =
        three_clash n L old.fit f h z.element el 1 2 3 (omega arith) (omega arith) (omega arith) (omega (arith, three))
        (shared 1 (omega arith) (omega arith)) (shared 2 (omega arith) (omega arith)) (shared 3 (omega arith) (omega arith)) (m f h z.element el d)
      where
        three : sides L f ≡ 3
        three = sym (same_sides x f z) ∙ y.mine_three

        shared : (i : ℕ) → 1 ≤ i → i ≤ 3 → T (is_corner L h (corner L f i))
        shared i o l =
            let t = own L f i o (omega (arith, three)) in
            was (corner L f i) (known f _ z.element t) (doubled_corner y _ (corner_still x f z a _ t))

    -- they are parts of one triangle: a corner of the side that is cut is a corner of one part only
    one_triangle : (r : ℕ) → Cut L s r → (f ≡ r / 8) ⊎ (f ≡ x.twin r / 8) → (g ≡ r / 8) ⊎ (g ≡ x.twin r / 8) → (f ≡ g → ⊥) → ⊥
    one_triangle r k i j d = go i j
      where
        h : Half L L' (n + 1) r (x.twin r)
        h = x.halves r k

        not_new : (u : ℕ) → T (is_corner L (r / 8) u) → u ≡ n + 1 → ⊥
        not_new u t e = omega (arith, known (r / 8) u (cut_element r k) t)

        go : (f ≡ r / 8) ⊎ (f ≡ x.twin r / 8) → (g ≡ r / 8) ⊎ (g ≡ x.twin r / 8) → ⊥
        go (inl e) (inl o) = d (e ∙ sym o)
        go (inr e) (inr o) = d (e ∙ sym o)
        go (inl e) (inr o) = elim (its_corner h.far _ (rw o at (doubled_corner y (origin L r) (rw e (corners h.near).0)))) [
          | inl u ↦ not_new _ (corners h.old).0 u
          | inr u ↦ elim u [
            | inl v ↦ runs_differ old.fit h.old.runs v
            | inr v ↦ runs_differ old.fit (previous_runs h.old) (sym v)
          ]
        ]
        go (inr e) (inl o) = elim (its_corner h.near _ (rw o at (doubled_corner y (destination L r) (rw e (corners h.far).1)))) [
          | inl u ↦ runs_differ old.fit h.old.runs (sym u)
          | inr u ↦ elim u [ inl v ↦ not_new _ (corners h.old).1 v | inr v ↦ runs_differ old.fit (next_runs h.old) v ]
        ]

    -- they are parts of two triangles: the third corner of the one would be a corner of the other too
    two_triangles : (r q : ℕ) → Cut L s r → Cut L s q → (r ≡ q → ⊥) → Part n L L' r f → Part n L L' q g → ⊥
    two_triangles r q k l d i j =
        let h = (x.halves r k).old in
        let (u, v, w) = corners h in
        let (u', v') = joined_corners L r q l.side (cut_joins r q k l d) in
        let w' = j.was _ (known (r / 8) _ (cut_element r k) w) (doubled_corner y _ i.third) in
        let many = three_shared L (r / 8) (q / 8) (runs_differ old.fit h.runs) (λ e. runs_differ old.fit (previous_runs h) (sym e))
        (runs_differ old.fit (next_runs h)) (u, u') (v, v') (w, w') in
        not_three L (r / 8) (q / 8) many (m (r / 8) (q / 8) (cut_element r k) (cut_element q l) (λ e. d (x.apart r q k l e)))

    not_doubled : (f ≡ g → ⊥) → ⊥
    not_doubled d = go (comes x f a) (comes x g b)
      where
        go : Comes L s x.twin f → Comes L s x.twin g → ⊥
        go (whole z) (whole w) = stayed_alone z g w.element d (λ u h. corner_before x g w b u)
        go (whole z) (part r k i) = stayed_alone z (r / 8) (cut_element r k) (z.uncut r k) (part_of x r g k i).was
        go (part r k i) (whole w) = omega (arith, known g _ w.element (corner_before x g w b _ (doubled_corner y _ (part_of x r f k i).new)))
        go (part r k i) (part q l j) = elim (decide (means_eq r q)) [
          | inl e ↦ one_triangle r k i (rw (← e) at j) d
          | inr e ↦ two_triangles r q k l e (part_of x r f k i) (part_of x q g l j)
        ]

-- the new list is conformal
pub refined_meeting : {n : ℕ} {L L' : List ℕ} {s : ℕ} → Good n L → Conformal L → Refined n L L' s → Fit (n + 1) L' → Conformal L'
refined_meeting {n} {L} {L'} old m x fit f g a b d = elim (decide (means_itself (meet_well L' f g))) [
  | inl t ↦ t
  | inr clash ↦ absurd (elim (clash_crosses (n + 1) L' fit f g a b clash) [
    | inr y ↦ not_doubled old m x f g a b y d
    | inl c ↦
        let (o, e) : Link L' c.mine × Link L' c.other = (c.mine_link, c.other_link) in
        let apart : c.mine / 8 ≡ c.other / 8 → ⊥ = λ z. d (sym c.mine_of ∙ z ∙ c.other_of) in
        elim c.a_diagonal [
          | inl h ↦ not_crossed old m x c.mine c.other (link_diagonal L' _ o h) e apart c.lows c.highs
          | inr h ↦ not_crossed old m x c.other c.mine (link_diagonal L' _ e h) o (λ z. apart (sym z)) (sym c.lows) (sym c.highs)
        ]
  ])
]
