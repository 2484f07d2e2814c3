-- Two elements that don't meet well ("clash"): exactly where links of theirs cross, that is, join the same two vertices and aren't both
-- sides, or where they are triangles with the same corners.
-- Assumes nothing.
use Rattle.std.specs.Prelude.{◌≡◌, refl, Bool, ◌⊎◌, List, ℕ, ◌+◌, ◌*◌, ◌-◌, ◌/◌, ◌%◌, ◌≤◌, ◌<◌, min, max, T, eqb}
use Rattle.std.proofs.Common.{ap, sym, ◌∙◌, arith}
use Rattle.std.proofs.Math.Logic.{inl, inr}
use Rattle.lists.specs.TestLaws.{Means, means_itself, decide, means_both, means_either, means_eq, means_le}
use Rattle.lists.specs.Search.{count}
use Rattle.lists.specs.SearchLaws.{le_not_lt, le_or_lt, count_lt, count_inj, count_last}
use Rattle.lists.specs.CountLaws.{Three, three as three_places, three_counted}
use Rattle.rules.specs.Elements.{corner, sides, Side, next_number, slot, origin, next, destination, some_number}
use Rattle.rules.specs.Pairing.{alike, opposed, joins, SideAt, is_corner, shared_corners, share_side, meet_well, Element}
use Rattle.theory.specs.Sides.{three, four, sides_by_lem, side_facts}
use Rattle.theory.specs.Least.{means_some_number}
use Rattle.theory.specs.Steps.{wraps, grows, next_number_lem, next_in, next_numbered}
use Rattle.theory.specs.FitRows.{Fit}
use Rattle.theory.specs.Links.{lesser, greater, Diagonal, Link, side, diagonal, low, high, link_facts, link_side, link_diagonal, link_ends}
use Rattle.theory.specs.Links.{low_side, high_side, low_diagonal, high_diagonal, at_corner, Spans, spans_fit}
use Rattle.theory.specs.Pairings.{means_alike, means_opposed, means_joins}

-- a link of f and a link of g join the same two vertices, and they aren't both sides
pub record Crossing (L : List ℕ) (f g : ℕ) : Type 0 where
  pub mine : ℕ
  pub other : ℕ
  pub mine_link : Link L mine
  pub other_link : Link L other
  pub mine_of : mine / 8 ≡ f
  pub other_of : other / 8 ≡ g
  pub lows : low L mine ≡ low L other
  pub highs : high L mine ≡ high L other
  pub a_diagonal : (4 < mine % 8) ⊎ (4 < other % 8)

-- f and g are triangles, and every corner of f is a corner of g
pub record Doubled (L : List ℕ) (f g : ℕ) : Type 0 where
  pub mine_three : sides L f ≡ 3
  pub other_three : sides L g ≡ 3
  pub corners : (i : ℕ) → 1 ≤ i → i ≤ 3 → T (is_corner L g (corner L f i))

-- the ends of two sides agree exactly where the sides join the same two vertices
pub means_joined : (L : List ℕ) (s t : ℕ) → Means (joins L s t) ((lesser L s ≡ lesser L t) × (greater L s ≡ greater L t))
unfolding lesser greater
means_joined L s t = record { says = λ x. says ((means_joins L s t).says x); shows = λ x. (means_joins L s t).shows (shows x) }
  where
    says : T (alike L s t) ⊎ T (opposed L s t) → (lesser L s ≡ lesser L t) × (greater L s ≡ greater L t)
    says (inl x) = let (p, q) = (means_alike L s t).says x in ((omega arith), (omega arith))
    says (inr x) = let (p, q) = (means_opposed L s t).says x in ((omega arith), (omega arith))

    shows : (lesser L s ≡ lesser L t) × (greater L s ≡ greater L t) → T (alike L s t) ⊎ T (opposed L s t)
    shows (p, q) = go (decide (means_eq (origin L s) (origin L t)))
      where
        go : (origin L s ≡ origin L t) ⊎ (origin L s ≡ origin L t → ⊥) → T (alike L s t) ⊎ T (opposed L s t)
        go (inl e) = inl ((means_alike L s t).shows (e, (omega arith)))
        go (inr d) = inr ((means_opposed L s t).shows ((omega arith), (omega arith)))

-- so do the ends of two links that are sides
means_links : (L : List ℕ) (s t : ℕ) → Side L s → Side L t → Means (joins L s t) ((low L s ≡ low L t) × (high L s ≡ high L t))
means_links L s t a b = rw (low_side L s a, low_side L t b, high_side L s a, high_side L t b) (means_joined L s t)

-- an element has three or four sides
pub few : (L : List ℕ) (f : ℕ) → (3 ≤ sides L f) × (sides L f ≤ 4)
few L f = elim (sides_by_lem (corner L f 4)) [ three z e ↦ omega arith | four z e ↦ omega arith ]

-- corner i of f is v
record At (L : List ℕ) (f v i : ℕ) : Type 0 where
  from : 1 ≤ i
  to : i ≤ sides L f
  is : corner L f i ≡ v

-- to be a corner is to be one of them
means_corner : (L : List ℕ) (f v : ℕ) → Means (is_corner L f v) ((i : ℕ) × At L f v i)
unfolding is_corner
means_corner L f v =
    let m = means_some_number (sides L f) (λ i. eqb (corner L f i) v) in
    record {
      says = λ t. let (i, a, b, u) = m.says t in (i, record { from = a; to = b; is = (means_eq (corner L f i) v).says u });
      shows = λ (i, x). m.shows (i, x.from, x.to, (means_eq (corner L f i) v).shows x.is);
    }

-- the element of a side
pub element_of : (L : List ℕ) (s : ℕ) → Side L s → Element L (s / 8)
element_of L s a = let f = side_facts L s a in (f.element_from, f.element_to)

-- to be a corner is also to be the origin of one of its sides
pub means_begins : (L : List ℕ) (f v : ℕ) → Element L f → Means (is_corner L f v) ((r : ℕ) × SideAt L v r × (r / 8 ≡ f))
unfolding origin slot
means_begins L f v el =
    let m = means_corner L f v in
    record {
      says = λ t.
          let (i, x) = m.says t in
          let c = at_corner L f i el.0 el.1 x.from (omega (arith, x.to, few L f)) x.to in
          (8 * f + i, (c.is_side_lem, c.its_origin ∙ x.is), c.its_element);
      shows = λ (r, (a, o), e).
          let h = side_facts L r a in
          m.shows (r % 8, record { from = h.number_from; to = rw e at h.number_to; is = rw e at o });
    }

-- a corner of the one of two triangles with the same corners is a corner of the other
pub doubled_corner : {L : List ℕ} {f g : ℕ} → Doubled L f g → (v : ℕ) → T (is_corner L f v) → T (is_corner L g v)
doubled_corner {L} {f} x v t =
    let (i, y) = (means_corner L f v).says t in
    rw y.is at (x.corners i y.from (omega (arith, y.to, x.mine_three)))

pub own : (L : List ℕ) (f i : ℕ) → 1 ≤ i → i ≤ sides L f → T (is_corner L f (corner L f i))
own L f i o h = (means_corner L f (corner L f i)).shows (i, omega arith)

-- corners p and q of k, p before q, have link i between them: side p, or the last side, or a diagonal
data Way (k p q i : ℕ) : Type 0 where
  follows : q ≡ p + 1 → i ≡ p → Way k p q i
  closes : p ≡ 1 → q ≡ k → i ≡ k → Way k p q i
  crosses : k ≡ 4 → q ≡ p + 2 → i ≡ p + 4 → Way k p q i

-- there is one between any two corners, and only one
some_way : (k p q : ℕ) → 3 ≤ k → k ≤ 4 → 1 ≤ p → p < q → q ≤ k → (i : ℕ) × Way k p q i
some_way k p q a b c d e = elim (decide (means_eq q (p + 1))) [
  | inl x ↦ (p, follows x refl)
  | inr x ↦ elim (decide (means_eq (q + 2) (p + k))) [
    | inl y ↦ (p + 4, crosses (omega arith) (omega arith) refl)
    | inr y ↦ (k, closes (omega arith) (omega arith) refl)
  ]
]

one_way : {k p q i j : ℕ} → 3 ≤ k → Way k p q i → Way k p q j → i ≡ j
one_way h (follows a b) w = elim w [ follows c d ↦ omega arith | closes c d e ↦ omega arith | crosses c d e ↦ omega arith ]
one_way h (closes a b c) w = elim w [ follows d e ↦ omega arith | closes d e f ↦ omega arith | crosses d e f ↦ omega arith ]
one_way h (crosses a b c) w = elim w [ follows d e ↦ omega arith | closes d e f ↦ omega arith | crosses d e f ↦ omega arith ]

-- c is a link of f between u and v, u the lesser; and between x and y, in either order
abbrev Tie : List ℕ → ℕ → ℕ → ℕ → ℕ → Type 0
Tie L f u v c = Spans L u v c × (c / 8 ≡ f)

abbrev Tied : List ℕ → ℕ → ℕ → ℕ → ℕ → Type 0
Tied L f x y c = Tie L f (min x y) (max x y) c

tie_of : {L : List ℕ} {f u v c : ℕ} → Link L c → c / 8 ≡ f → low L c ≡ u → high L c ≡ v → Tie L f u v c
tie_of l e p q = (record { link = l; from = p; to = q }, e)

flip : {L : List ℕ} {f c : ℕ} (x y : ℕ) → Tied L f x y c → Tied L f y x c
flip x y (s, e) = tie_of s.link e (omega (arith, s.from)) (omega (arith, s.to))

module _ (L : List ℕ) (f : ℕ) (el : Element L f) where
  -- side i joins corner i and the next one
  side_tie : (i : ℕ) → 1 ≤ i → i ≤ sides L f → Tied L f (corner L f i) (corner L f (next_number (sides L f) i)) (8 * f + i)
  unfolding lesser greater origin slot
  side_tie i a b =
      let s = 8 * f + i in
      let c = at_corner L f i el.0 el.1 a (omega (arith, few L f)) b in
      let x = next_numbered L s c.is_side_lem in
      let e : s % 8 ≡ i = omega (arith, few L f) in
      let l = rw (x.same, x.index, c.its_element, e) at (low_side L s c.is_side_lem) in
      let h = rw (x.same, x.index, c.its_element, e) at (high_side L s c.is_side_lem) in
      tie_of (side c.is_side_lem) c.its_element l h

  -- the link between corners p and q
  way_tie : (p q i : ℕ) → 1 ≤ p → q ≤ sides L f → Way (sides L f) p q i → Tied L f (corner L f p) (corner L f q) (8 * f + i)
  way_tie p q i a b (follows e g) =
      let h : next_number (sides L f) i ≡ q = elim (next_number_lem (sides L f) i) [ wraps x y ↦ omega arith | grows x y ↦ omega arith ] in
      rw (← g, ← h) (side_tie i (omega arith) (omega arith))
  way_tie p q i a b (closes e g h) =
      let l : i ≡ q = omega arith in
      let m : next_number (sides L f) i ≡ p = elim (next_number_lem (sides L f) i) [ wraps x y ↦ omega arith | grows x y ↦ omega arith ] in
      rw (← m, ← l) (flip _ _ (side_tie i (omega (arith, few L f)) (omega arith)))
  way_tie p q i a b (crosses e g h) =
      let d = 8 * f + i in
      let x : d / 8 ≡ f = omega arith in
      let (y, z) : (d % 8 - 4 ≡ p) × (d % 8 - 2 ≡ q) = omega arith in
      let l = rw (x, y, z) at (low_diagonal L d (omega arith)) in
      let m = rw (x, y, z) at (high_diagonal L d (omega arith)) in
      tie_of (diagonal (omega (arith, el.0, el.1, ap (sides L) x))) x l m

  -- two different corners have a link between them
  linked : (x y : ℕ) → (x ≡ y → ⊥) → T (is_corner L f x) → T (is_corner L f y) → (c : ℕ) × Tied L f x y c
  linked x y d s t =
      let (i, a) = (means_corner L f x).says s in
      let (j, b) = (means_corner L f y).says t in
      let z : i ≡ j → ⊥ = λ e. d (cc) in
      elim (le_or_lt j i) [ inr h ↦ ordered a b h | inl h ↦ let (c, w) = ordered b a (omega arith) in (c, flip y x w) ]
    where
      ordered : {x y i j : ℕ} → At L f x i → At L f y j → i < j → (c : ℕ) × Tied L f x y c
      ordered {i} {j} a b h =
          let (l, m) = few L f in
          let (k, w) = some_way (sides L f) i j l m a.from h b.to in
          (8 * f + k, rw (a.is, b.is) at (way_tie i j k a.from b.to w))

-- the corners of f at the ends of link c, and its number by them
abbrev Placed : List ℕ → ℕ → ℕ → Type 0
Placed L f c = (p : ℕ) × (q : ℕ) × At L f (low L c) p × At L f (high L c) q × Way (sides L f) (min p q) (max p q) (c % 8)

module _ (L : List ℕ) (c : ℕ) where
  placed_by : (p q : ℕ) → Link L c → 1 ≤ p → p < q → q ≤ sides L (c / 8) → Way (sides L (c / 8)) p q (c % 8) → Placed L (c / 8) c
  placed_by p q l a b d w =
      let z = link_facts L c l in
      let e : 8 * (c / 8) + c % 8 ≡ c = omega arith in
      let t = rw e at (way_tie L (c / 8) (z.element_from, z.element_to) p q (c % 8) a d w) in
      elim (le_or_lt (corner L (c / 8) p) (corner L (c / 8) q)) [
        | inl h ↦ let (x, y) : (min p q ≡ p) × (max p q ≡ q) = omega arith in (p, q, (omega arith), (omega arith), rw (x, y) w)
        | inr h ↦ let (x, y) : (min q p ≡ p) × (max q p ≡ q) = omega arith in (q, p, (omega arith), (omega arith), rw (x, y) w)
      ]

  placed : Link L c → Placed L (c / 8) c
  placed (side a) =
      let x = side_facts L c a in
      let y = few L (c / 8) in
      elim (decide (means_eq (c % 8) (sides L (c / 8)))) [
        | inl e ↦ placed_by 1 (sides L (c / 8)) (side a) (omega arith) (omega arith) (omega arith) (closes refl refl e)
        | inr d ↦ placed_by (c % 8) (c % 8 + 1) (side a) (omega arith) (omega arith) (omega arith) (follows refl refl)
      ]
  placed (diagonal d) =
      let w : Way (sides L (c / 8)) (c % 8 - 4) (c % 8 - 2) (c % 8) = crosses d.quadrilateral (omega arith) (omega arith) in
      placed_by (c % 8 - 4) (c % 8 - 2) (diagonal d) (omega arith) (omega arith) (omega arith) w

  -- so both ends are corners
  ends_corners : {f u v : ℕ} → Tie L f u v c → T (is_corner L f u) × T (is_corner L f v)
  ends_corners {f} {u} {v} (s, e) =
      let (p, q, a, b, w) = rw (e, s.from, s.to) at (placed s.link) in
      ((means_corner L f u).shows (p, a), (means_corner L f v).shows (q, b))

  pub link_corners : Link L c → T (is_corner L (c / 8) (low L c)) × T (is_corner L (c / 8) (high L c))
  link_corners l = ends_corners (tie_of l refl refl refl)

-- corner i + 1 of f is a corner of g
abbrev shared_at : List ℕ → ℕ → ℕ → ℕ → Bool
shared_at L f g i = is_corner L g (corner L f (i + 1))

-- v is a corner of both
abbrev Shared : List ℕ → ℕ → ℕ → ℕ → Type 0
Shared L f g v = T (is_corner L f v) × T (is_corner L g v)

module _ (L : List ℕ) (f g : ℕ) where
  -- what meeting well says; three shared corners are too many
  means_meet : Means (meet_well L f g) ((shared_corners L f g ≤ 1) ⊎ ((shared_corners L f g ≡ 2) × T (share_side L f g)))
  unfolding meet_well
  means_meet = means_either (means_le (shared_corners L f g) 1) (means_both (means_eq (shared_corners L f g) 2) (means_itself (share_side L f g)))

  pub not_three : 3 ≤ shared_corners L f g → T (meet_well L f g) → ⊥
  not_three h m = elim (means_meet.says m) [ inl k ↦ omega arith | inr (k, s) ↦ omega arith ]

  -- their places in f
  three_of : 3 ≤ shared_corners L f g → Three (shared_at L f g) (sides L f)
  unfolding shared_corners
  three_of h = three_places (shared_at L f g) (sides L f) h

  -- a vertex of both is counted at a place of f, so different ones are counted
  counted : {v : ℕ} → Shared L f g v → (i : ℕ) × (i < sides L f) × T (shared_at L f g i) × (corner L f (i + 1) ≡ v)
  counted {v} (x, y) =
      let (j, h) = (means_corner L f v).says x in
      let z = h.from in
      let e : j - 1 + 1 ≡ j = omega arith in
      (j - 1, omega (arith, h.to), rw (e, h.is) y, rw e h.is)

  two_shared : {u v : ℕ} → (u ≡ v → ⊥) → Shared L f g u → Shared L f g v → 2 ≤ shared_corners L f g
  unfolding shared_corners
  two_shared d x y =
      let (i, a, p, e) = counted x in
      let (j, b, q, h) = counted y in
      let z : count (shared_at L f g) i ≡ count (shared_at L f g) j → ⊥ = λ r. let t = count_inj (shared_at L f g) i j p q r in d (cc) in
      omega (arith, count_lt (shared_at L f g) i (sides L f) a p, count_lt (shared_at L f g) j (sides L f) b q)

  pub three_shared : {u v w : ℕ} → (u ≡ v → ⊥) → (u ≡ w → ⊥) → (v ≡ w → ⊥) → Shared L f g u → Shared L f g v → Shared L f g w
      → 3 ≤ shared_corners L f g
  unfolding shared_corners
  three_shared d d' d'' x y z =
      let (i, a, p, e) = counted x in
      let (j, b, q, h) = counted y in
      let (k, c, r, l) = counted z in
      three_counted (shared_at L f g) (sides L f) i j k a b c p q r (λ t. d (cc)) (λ t. d' (cc)) (λ t. d'' (cc))

  -- where no more than two vertices are shared, two pairs of them are one
  one_pair : {u v s t : ℕ} → shared_corners L f g ≤ 2 → u < v → s < t → Shared L f g u × Shared L f g v → Shared L f g s × Shared L f g t
      → (u ≡ s) × (v ≡ t)
  one_pair {u} {v} {s} {t} h l m (x, y) (z, w) = go (among z) (among w)
    where
      among : {r : ℕ} → Shared L f g r → (r ≡ u) ⊎ (r ≡ v)
      among {r} z = elim (decide (means_either (means_eq r u) (means_eq r v))) [
        | inl e ↦ e
        | inr k ↦ absurd (omega (arith, three_shared (λ e. k (inl e)) (λ e. k (inr e)) (λ e. omega arith) z x y))
      ]

      go : (s ≡ u) ⊎ (s ≡ v) → (t ≡ u) ⊎ (t ≡ v) → (u ≡ s) × (v ≡ t)
      go (inl e) k = elim k [ inl i ↦ omega arith | inr i ↦ omega arith ]
      go (inr e) k = elim k [ inl i ↦ omega arith | inr i ↦ omega arith ]

  -- links of f and g between the same two vertices: these are shared; the links cross, or are sides that join the same two vertices
  module _ {u v c d : ℕ} (s : Tie L f u v c) (t : Tie L g u v d) where
    ends_shared : Shared L f g u × Shared L f g v
    ends_shared = let (p, q) = ends_corners L c s in let (r, w) = ends_corners L d t in ((p, r), (q, w))

    same_ends : (low L c ≡ low L d) × (high L c ≡ high L d)
    same_ends = (s.0.from ∙ sym t.0.from, s.0.to ∙ sym t.0.to)

    crossing : (4 < c % 8) ⊎ (4 < d % 8) → Crossing L f g
    crossing h =
        let (l, m) = same_ends in
        let (x, y) : Link L c × Link L d = (s.0.link, t.0.link) in
        record { mine = c; other = d; mine_link = x; other_link = y; mine_of = s.1; other_of = t.1; lows = l; highs = m; a_diagonal = h }

    both_sides : c % 8 ≤ 4 → d % 8 ≤ 4 → Side L c × Side L d × T (joins L c d)
    both_sides h k =
        let x = link_side L c s.0.link h in
        let y = link_side L d t.0.link k in (x, y, (means_links L c d x y).shows same_ends)

-- a side of f and a side of g join the same two vertices
abbrev pub SharedSide : List ℕ → ℕ → ℕ → Type 0
SharedSide L f g = (c : ℕ) × (d : ℕ) × Side L c × Side L d × (c / 8 ≡ f) × (d / 8 ≡ g) × T (joins L c d)

pub means_share : (L : List ℕ) (f g : ℕ) → Element L f → Element L g → Means (share_side L f g) (SharedSide L f g)
unfolding share_side
means_share L f g a b =
    let m = means_some_number (sides L f) (λ i. some_number (sides L g) (λ j. joins L (8 * f + i) (8 * g + j))) in
    record {
      says = λ t.
          let (i, o, p, u) = m.says t in
          let (j, q, r, z) = (means_some_number _ _).says u in
          let c = at_corner L f i a.0 a.1 o (omega (arith, few L f)) p in
          let d = at_corner L g j b.0 b.1 q (omega (arith, few L g)) r in
          (8 * f + i, 8 * g + j, c.is_side_lem, d.is_side_lem, c.its_element, d.its_element, z);
      shows = λ (c, d, x, y, e, h, z).
          let i = side_facts L c x in
          let j = side_facts L d y in
          let (p, q) : (8 * f + c % 8 ≡ c) × (8 * g + d % 8 ≡ d) = omega arith in
          let w : T (joins L (8 * f + c % 8) (8 * g + d % 8)) = rw (p, q) z in
          m.shows (c % 8, i.number_from, rw e at i.number_to, (means_some_number _ _).shows (d % 8, j.number_from, rw h at j.number_to, w));
    }

-- crossing is mutual
swap : {L : List ℕ} {f g : ℕ} → Crossing L f g → Crossing L g f
swap {L} {f} {g} x =
    crossing L g f (tie_of x.other_link x.other_of refl refl) (tie_of x.mine_link x.mine_of x.lows x.highs)
    (elim x.a_diagonal [ inl h ↦ inr h | inr h ↦ inl h ])

module _ (n : ℕ) (L : List ℕ) (fit : Fit n L) where
  -- a vertex is one corner of an element
  one_place : {f v i j : ℕ} → Element L f → At L f v i → At L f v j → i ≡ j
  one_place {f} {v} {i} {j} (a, b) x y =
      let k = few L f in
      let p = at_corner L f i a b x.from (omega arith) x.to in
      let q = at_corner L f j a b y.from (omega arith) y.to in
      omega (arith, fit.differ _ _ p.is_side_lem q.is_side_lem (p.its_element ∙ sym q.its_element) (cc))

  -- so its corners are different vertices
  apart : {f : ℕ} → Element L f → (i j : ℕ) → 1 ≤ i → i < j → j ≤ sides L f → corner L f i ≡ corner L f j → ⊥
  apart {f} a i j o h k e = omega (arith, one_place {v = corner L f j} {i = i} {j = j} a (omega arith) (omega arith))

  -- different links of an element join different vertices
  pub one_link : (a b : ℕ) → Link L a → Link L b → a / 8 ≡ b / 8 → low L a ≡ low L b → high L a ≡ high L b → a ≡ b
  one_link a b x y e l h =
      let (p, q, i, j, v) = rw (e, l, h) at (placed L a x) in
      let (r, s, k, m, w) = placed L b y in
      let z = link_facts L b y in
      let o = one_place (z.element_from, z.element_to) i k in
      let t = one_place (z.element_from, z.element_to) j m in
      omega (arith, one_way (few L (b / 8)).0 (rw (o, t) at v) w)

  module _ (f g : ℕ) (a : Element L f) (b : Element L g) where
    -- two shared vertices: their links cross, or are a side of both
    met : {x y : ℕ} → (x ≡ y → ⊥) → Shared L f g x → Shared L f g y → Crossing L f g ⊎ T (share_side L f g)
    met {x} {y} d (p, q) (r, s) =
        let (c, u) = linked L f a x y d p r in
        let (e, w) = linked L g b x y d q s in
        elim (le_or_lt (c % 8) 4) [
          | inr h ↦ inl (crossing L f g u w (inl h))
          | inl h ↦ elim (le_or_lt (e % 8) 4) [
            | inr k ↦ inl (crossing L f g u w (inr k))
            | inl k ↦ let (x, y, z) = both_sides L f g u w h k in inr ((means_share L f g a b).shows (c, e, x, y, u.1, w.1, z))
          ]
        ]

    -- of three shared corners of a quadrilateral two are opposite, so its diagonal crosses
    wide_crosses : sides L f ≡ 4 → 3 ≤ shared_corners L f g → Crossing L f g
    wide_crosses e h =
        let w = three_of L f g h in
        elim (decide (means_eq w.mid (w.low + 2))) [
          | inl d ↦ opposite w.low w.mid d (omega arith) w.low_passes w.mid_passes
          | inr d ↦ elim (decide (means_eq w.high (w.low + 2))) [
            | inl t ↦ opposite w.low w.high t w.high_below w.low_passes w.high_passes
            | inr t ↦ opposite w.mid w.high (omega arith) w.high_below w.mid_passes w.high_passes
          ]
        ]
      where
        opposite : (i j : ℕ) → j ≡ i + 2 → j < sides L f → T (shared_at L f g i) → T (shared_at L f g j) → Crossing L f g
        opposite i j d l s t =
            let u = way_tie L f a (i + 1) (j + 1) (i + 5) (omega arith) (omega arith) (crosses e (omega arith) (omega arith)) in
            let (c, w) = linked L g b _ _ (apart a (i + 1) (j + 1) (omega arith) (omega arith) (omega arith)) s t in
            crossing L f g u w (inl (omega arith))

    -- of a triangle they are all
    same_triangle : sides L f ≡ 3 → sides L g ≡ 3 → 3 ≤ shared_corners L f g → Doubled L f g
    same_triangle e d h = record { mine_three = e; other_three = d; corners = corners }
      where
        corners : (i : ℕ) → 1 ≤ i → i ≤ 3 → T (is_corner L g (corner L f i))
        corners i p q =
            let w = three_of L f g h in
            elim (decide (means_eq i (w.low + 1))) [
              | inl x ↦ rw x w.low_passes
              | inr x ↦ elim (decide (means_eq i (w.mid + 1))) [
                | inl y ↦ rw y w.mid_passes
                | inr y ↦ let z : i ≡ w.high + 1 = omega arith in rw z w.high_passes
              ]
            ]

    -- three corners of f that are corners of g are three shared corners, either way
    three_at : (i j k : ℕ) → 1 ≤ i → i < j → j < k → k ≤ sides L f → T (is_corner L g (corner L f i)) → T (is_corner L g (corner L f j))
        → T (is_corner L g (corner L f k)) → (3 ≤ shared_corners L f g) × (3 ≤ shared_corners L g f)
    three_at i j k o p q r x y z =
        let u = own L f i o (omega arith) in
        let v = own L f j (omega arith) (omega arith) in
        let w = own L f k (omega arith) r in
        let d = apart a i j o p (omega arith) in
        let e = apart a i k o (omega arith) r in
        let h = apart a j k (omega arith) q r in
        (three_shared L f g d e h (u, x) (v, y) (w, z), three_shared L g f d e h (x, u) (y, v) (z, w))

    three_either_way : 3 ≤ shared_corners L f g → 3 ≤ shared_corners L g f
    three_either_way h =
        let w = three_of L f g h in
        (three_at (w.low + 1) (w.mid + 1) (w.high + 1) (omega arith) (omega arith) (omega arith) (omega arith) w.low_passes w.mid_passes
        w.high_passes).1

    -- three corners in common
    pub three_clash : (i j k : ℕ) → 1 ≤ i → i < j → j < k → k ≤ sides L f → T (is_corner L g (corner L f i)) → T (is_corner L g (corner L f j))
        → T (is_corner L g (corner L f k)) → T (meet_well L f g) → ⊥
    three_clash i j k o p q r x y z = not_three L f g (three_at i j k o p q r x y z).0

    -- two triangles with the same corners: a side of f joins the same two vertices as some side of g
    pub doubled_joins : Doubled L f g → (i : ℕ) → 1 ≤ i → i ≤ 3 → (t : ℕ) × Side L t × (t / 8 ≡ g) × T (joins L (8 * f + i) t)
    doubled_joins d i p q =
        let h = d.mine_three in
        let k = next_in 3 i p q in
        let u = side_tie L f a i p (omega arith) in
        let v = corner L f (next_number (sides L f) i) in
        let end : T (is_corner L g v) = rw h (d.corners (next_number 3 i) k.0 k.1) in
        let (t, w) = linked L g b (corner L f i) v (λ e. omega (arith, spans_fit fit u.0)) (d.corners i p q) end in
        elim (le_or_lt (t % 8) 4) [
          | inl l ↦ let (r, s, j) = both_sides L f g u w (omega arith) l in (t, s, w.1, j)
          | inr l ↦ absurd (omega (arith, (link_diagonal L t w.0.link l).quadrilateral, ap (sides L) w.1, d.other_three))
        ]

    -- two shared corners are the ends of the crossing links, and of the sides that f and g share: these would be the same links
    pub crossing_clashes : Crossing L f g → T (meet_well L f g) → ⊥
    crossing_clashes x m =
        let other = tie_of x.other_link x.other_of (sym x.lows) (sym x.highs) in
        let ends = ends_shared L f g (tie_of x.mine_link x.mine_of refl refl) other in
        let (_, less, _) = link_ends n L fit x.mine x.mine_link in
        elim ((means_meet L f g).says m) [
          | inl h ↦ omega (arith, two_shared L f g (λ e. omega arith) ends.0 ends.1)
          | inr (h, z) ↦
              let (c, d, s, t, p, q, y) = (means_share L f g a b).says z in
              let (l, k) = (means_links L c d s t).says y in
              let others = ends_shared L f g (tie_of (side s) p refl refl) (tie_of (side t) q (sym l) (sym k)) in
              let (u, v) = one_pair L f g (omega arith) less (link_ends n L fit c (side s)).1 ends others in
              let e = one_link x.mine c x.mine_link (side s) (x.mine_of ∙ sym p) u v in
              let w = one_link x.other d x.other_link (side t) (x.other_of ∙ sym q) (cc) (cc) in
              elim x.a_diagonal [ inl i ↦ omega (arith, side_facts L c s) | inr i ↦ omega (arith, side_facts L d t) ]
        ]

    -- a diagonal of f is crossed where both its ends are corners of g
    pub diagonal_clashes : (d : ℕ) → Diagonal L d → d / 8 ≡ f → T (is_corner L g (low L d)) → T (is_corner L g (high L d)) → T (meet_well L f g) → ⊥
    diagonal_clashes d x e p q =
        let (_, less, _) = link_ends n L fit d (diagonal x) in
        let (c, w) = linked L g b (low L d) (high L d) (λ z. omega arith) p q in
        let u : Tied L f (low L d) (high L d) d = tie_of (diagonal x) e (omega arith) (omega arith) in
        crossing_clashes (crossing L f g u w (inl (omega (arith, x.number_from))))

    -- two shared corners whose links don't cross are a side of both, so where f and g clash there is a third
    clash_met : (T (meet_well L f g) → ⊥) → Crossing L f g ⊎ (3 ≤ shared_corners L f g)
    unfolding shared_corners
    clash_met clash =
        let m = means_meet L f g in
        let h = le_not_lt 2 (shared_corners L f g) (λ l. clash (m.shows (inl (omega arith)))) in
        let (i, k, x, e) = count_last (shared_at L f g) (sides L f) (omega arith) in
        let (j, l, y, o) = count_last (shared_at L f g) i (omega arith) in
        let d = apart a (j + 1) (i + 1) (omega arith) (omega arith) (omega arith) in
        elim (met d (own L f (j + 1) (omega arith) (omega arith), y) (own L f (i + 1) (omega arith) (omega arith), x)) [
          | inl c ↦ inl c
          | inr s ↦ inr (le_not_lt 3 (shared_corners L f g) (λ l. clash (m.shows (inr ((omega arith), s)))))
        ]

  -- a quadrilateral then has a diagonal that crosses, whether it is f or g
  pub clash_crosses : (f g : ℕ) → Element L f → Element L g → (T (meet_well L f g) → ⊥) → Crossing L f g ⊎ Doubled L f g
  clash_crosses f g a b clash = elim (clash_met f g a b clash) [
    | inl c ↦ inl c
    | inr h ↦ elim (decide (means_eq (sides L f) 4)) [
      | inl e ↦ inl (wide_crosses f g a b e h)
      | inr d ↦ elim (decide (means_eq (sides L g) 4)) [
        | inl e ↦ inl (swap (wide_crosses g f b a e (three_either_way f g a b h)))
        | inr e ↦ inr (same_triangle f g a b (omega (arith, few L f)) (omega (arith, few L g)) h)
      ]
    ]
  ]

  -- meeting well is mutual
  pub meet_either_way : (f g : ℕ) → Element L f → Element L g → T (meet_well L f g) → T (meet_well L g f)
  meet_either_way f g a b m = elim (decide (means_itself (meet_well L g f))) [
    | inl t ↦ t
    | inr clash ↦ absurd (elim (clash_met g f b a clash) [
      | inl x ↦ crossing_clashes f g a b (swap x) m
      | inr h ↦ not_three L f g (three_either_way g f b a h) m
    ])
  ]

-- f and g meet well where f' and g' of some list do, if all corners are corners of these, and a side that these share is one that f and g share
module _ (n : ℕ) (L L' : List ℕ) (fit : Fit n L) (f g f' g' : ℕ) (a : Element L f)
    (mine : (v : ℕ) → T (is_corner L f v) → T (is_corner L' f' v)) (other : (v : ℕ) → T (is_corner L g v) → T (is_corner L' g' v))
    (shares : T (share_side L' f' g') → T (share_side L f g)) where
  shared_there : (i : ℕ) → i < sides L f → T (shared_at L f g i) → Shared L' f' g' (corner L f (i + 1))
  shared_there i h x = (mine _ (own L f (i + 1) (omega arith) (omega arith)), other _ x)

  not_more : T (meet_well L' f' g') → 3 ≤ shared_corners L f g → ⊥
  not_more m h =
      let w = three_of L f g h in
      let x = shared_there w.low (omega arith) w.low_passes in
      let y = shared_there w.mid (omega arith) w.mid_passes in
      let z = shared_there w.high w.high_below w.high_passes in
      let c = apart n L fit a (w.low + 1) (w.mid + 1) (omega arith) (omega arith) (omega arith) in
      let d = apart n L fit a (w.low + 1) (w.high + 1) (omega arith) (omega arith) (omega arith) in
      let e = apart n L fit a (w.mid + 1) (w.high + 1) (omega arith) (omega arith) (omega arith) in
      not_three L' f' g' (three_shared L' f' g' c d e x y z) m

  pub meet_carried : T (meet_well L' f' g') → T (meet_well L f g)
  unfolding shared_corners
  meet_carried m = (means_meet L f g).shows (elim (le_or_lt (shared_corners L f g) 1) [
    | inl h ↦ inl h
    | inr h ↦
        let (i, k, x, e) = count_last (shared_at L f g) (sides L f) (omega arith) in
        let (j, l, y, o) = count_last (shared_at L f g) i (omega arith) in
        let d = apart n L fit a (j + 1) (i + 1) (omega arith) (omega arith) (omega arith) in
        let two = two_shared L' f' g' d (shared_there j (omega arith) y) (shared_there i k x) in
        elim ((means_meet L' f' g').says m) [
          | inl z ↦ absurd (omega arith)
          | inr (z, s) ↦ inr (omega (arith, le_not_lt (shared_corners L f g) 2 (λ q. not_more m q)), shares s)
        ]
  ])

-- where side t joins the vertices of side s, both are corners of its element
module _ (L : List ℕ) (s t : ℕ) where
  pub joined_corners : Side L t → T (joins L s t) → T (is_corner L (t / 8) (origin L s)) × T (is_corner L (t / 8) (destination L s))
  joined_corners b x =
      let f = element_of L t b in
      let n = next_numbered L t b in
      let o = (means_begins L (t / 8) (origin L t) f).shows (t, (b, refl), refl) in
      let d = (means_begins L (t / 8) (destination L t) f).shows (next L t, (n.side, refl), n.same) in
      elim ((means_joins L s t).says x) [
        | inl y ↦ let (p, q) = (means_alike L s t).says y in (rw p o, rw q d)
        | inr y ↦ let (p, q) = (means_opposed L s t).says y in (rw p d, rw q o)
      ]
