-- A list with a new vertex on a side: the rule of document 02, point 6, gives what Refined says, and how long the list is then.
-- Assumes nothing.
use Rattle.std.specs.Prelude.{◌≡◌, refl, true, false, ◌⊎◌, List, ℕ, ◌+◌, ◌*◌, ◌/◌, ◌%◌, ◌≤◌, eqb, length}
use Rattle.std.proofs.Common.{ap, sym, ◌∙◌, inl, inr, arith}
use Rattle.lists.specs.TestLaws.{true_of, false_of, Means, decide, means_itself, means_both, means_either, means_not, means_eq, zero_or}
use Rattle.rules.specs.Elements.{max_vertex, max_element, elements, sides, is_side, Side, origin, destination, previous}
use Rattle.edit_rules.specs.Split.{halved, split_at, is_splittable}
use Rattle.rules.specs.Tables.{partner, is_border, columns}
use Rattle.theory.specs.Sides.{side_facts, side_positive}
use Rattle.theory.specs.FitRows.{Fit}
use Rattle.theory.specs.Entries.{means_border}
use Rattle.theory.specs.Triangles.{TriangleSide}
use Rattle.theory.specs.Refining.{Cut, Half, Place, stayed, near, far, Kept, Refined}
use Rattle.theory.specs.Halving.{Halvable, halved_size, halved_fours, old_or_new, columns_stay}
use Rattle.theory.specs.Halving.{near as near-half, far as far-half, kept_elsewhere, triangle_elsewhere}
use Rattle.theory.specs.Swapping.{Diagonal, across, apart}

-- "a border side may be split", and the elements on the side are triangles
pub record Splittable (L : List ℕ) (s : ℕ) : Type 0 where
  pub side : Side L s
  pub triangle : sides L (s / 8) ≡ 3
  pub across : (partner L s ≡ 0) ⊎ (sides L (partner L s / 8) ≡ 3)

pub means_splittable : (L : List ℕ) (s : ℕ) → Means (is_splittable L s) (Splittable L s)
unfolding is_splittable
means_splittable L s =
    let parts =
    means_both (means_itself (is_side L s))
    (means_both (means_eq (sides L (s / 8)) 3) (means_either (means_border L s) (means_eq (sides L (partner L s / 8)) 3))) in
    record {
      says = λ t. let (a, (b, c)) = parts.says t in record { side = a; triangle = b; across = c };
      shows = λ x. parts.shows (x.side, (x.triangle, x.across));
    }

-- an inner side that may be split is one that may be swapped
pub split_diagonal : {L : List ℕ} {s : ℕ} → Splittable L s → (partner L s ≡ 0 → ⊥) → Diagonal L s
split_diagonal x z =
    record {
      side = x.side;
      paired = z;
      mine_three = x.triangle;
      other_three = elim x.across [ inl e ↦ absurd (z e) | inr e ↦ e ];
    }

-- one triangle is halved, or two
module _ (L : List ℕ) (s v : ℕ) where
  pub split_border : partner L s ≡ 0 → split_at L s v ≡ halved L s v
  unfolding split_at
  split_border z = rw (true_of (is_border L s) ((means_border L s).shows z), split_at)

  pub split_inner : (partner L s ≡ 0 → ⊥) → split_at L s v ≡ halved (halved L s v) (partner L s) v
  unfolding split_at
  split_inner z = rw (false_of (is_border L s) ((means_not (means_border L s)).shows z), split_at)

-- what holds of s and of its partner, if it has one, holds of the sides that are cut
of_cut : {L : List ℕ} {s : ℕ} (P : ℕ → Type 0) → P s → (Side L (partner L s) → P (partner L s)) → (r : ℕ) → Cut L s r → P r
of_cut P mine others r c =
    elim c.is [ inl e ↦ rw e mine | inr e ↦ rw e (others (rw e at c.side)) ]

-- and they are told apart by what differs for the two
cut_apart : {L : List ℕ} {s : ℕ} (h : ℕ → ℕ) → (Side L (partner L s) → h s ≡ h (partner L s) → ⊥)
    → (r q : ℕ) → Cut L s r → Cut L s q → h r ≡ h q → r ≡ q
cut_apart {L} {s} h d r q c c' e = go c.is c'.is
  where
    go : (r ≡ s) ⊎ (r ≡ partner L s) → (q ≡ s) ⊎ (q ≡ partner L s) → r ≡ q
    go (inl i) (inl j) = i ∙ sym j
    go (inr i) (inr j) = i ∙ sym j
    go (inl i) (inr j) = absurd (d (rw j at c'.side) (ap h (sym i) ∙ e ∙ ap h j))
    go (inr i) (inl j) = absurd (d (rw i at c.side) (ap h (sym j) ∙ sym e ∙ ap h i))

kept_on : {L M N : List ℕ} {q : ℕ} → Kept L M q → Kept M N q → Kept L N q
kept_on x y =
    record { side = y.side; from = y.from ∙ x.from; follows = y.follows ∙ x.follows; sided = y.sided ∙ x.sided }

-- a triangle by one of its sides
pub triangle_of : (L : List ℕ) (r : ℕ) → Side L r → sides L (r / 8) ≡ 3 → TriangleSide L r (origin L r) (destination L r) (origin L (previous L r))
triangle_of L r a e = record { runs = record { side = a; from = refl; to = refl }; third = refl; triangle = e }

-- "appended .., after the first": s has its twin in the first new triangle, and its partner in the second
unfoldable twin_of : List ℕ → ℕ → ℕ → ℕ
twin_of L s r = 8 * (elements L + elim (eqb r s) [ true ↦ 1 | false ↦ 2 ]) + r % 8

module _ (L : List ℕ) (s : ℕ) where
  twin_mine : twin_of L s s ≡ 8 * (elements L + 1) + s % 8
  unfolding twin_of
  twin_mine = rw (true_of (eqb s s) ((means_eq s s).shows refl), twin_of)

  twin_other : (r : ℕ) → (r ≡ s → ⊥) → twin_of L s r ≡ 8 * (elements L + 2) + r % 8
  unfolding twin_of
  twin_other r d = rw (false_of (eqb r s) ((means_not (means_eq r s)).shows d), twin_of)

module _ (n : ℕ) (L : List ℕ) (fit : Fit n L) (s : ℕ) (x : Splittable L s) where
  abbrev t : ℕ
  t = partner L s

  mine : Cut L s s
  mine = record { side = x.side; is = inl refl }

  pub first : Halvable L s
  first = record { fours = fit.fours; side = x.side; triangle = x.triangle }

  -- with the triangle of s halved, and then that of its partner
  module _ (v : ℕ) where
    abbrev one : List ℕ
    one = halved L s v

    abbrev two : List ℕ
    two = halved one t v

    first_half : Half L one v s (twin_of L s s)
    first_half =
        let old = triangle_of L s x.side x.triangle in
        record { old = old; near = near-half v first old; far = rw (twin_mine L s) (far-half v first old); appended = omega (arith, twin_mine L s) }

    -- a side is in one of the two halves, or in an element that stayed so far
    first_place : (q : ℕ) → Side one q → (Side L q → (q / 8 ≡ s / 8 → ⊥) → Place L s (twin_of L s) q) → Place L s (twin_of L s) q
    first_place q a others =
        elim (old_or_new v first q a) [
          | inl b ↦ elim (decide (means_eq (q / 8) (s / 8))) [ inl e ↦ near s mine e | inr d ↦ others b d ]
          | inr e ↦ far s mine (omega (arith, twin_mine L s))
        ]

    module _ (z : t ≡ 0 → ⊥) where
      inner : Diagonal L s
      inner = split_diagonal x z

      cut : Cut L s t
      cut = record { side = (across n L fit s inner).0; is = inr refl }

      differ : s / 8 ≡ t / 8 → ⊥
      differ = apart n L fit s inner

      -- the partner's triangle stays until it is its turn
      across_kept : Kept L one t
      across_kept = kept_elsewhere v first t (λ e. differ (sym e)) cut.side

      pub second : Halvable one t
      second = record { fours = halved_fours v first; side = across_kept.side; triangle = across_kept.sided ∙ inner.other_three }

      twin_across : twin_of L s t ≡ 8 * (elements one + 1) + t % 8
      twin_across = omega (arith, twin_other L s t (λ e. differ (ap (λ (k : ℕ). k / 8) (sym e))), halved_size v first)

      -- what was halved first stays
      mine_half : Half L two v s (twin_of L s s)
      mine_half =
          let h = first_half in
          let e : twin_of L s s / 8 ≡ t / 8 → ⊥ = λ e. omega (arith, h.appended, side_facts L t cut.side) in
          record {
            old = h.old;
            near = triangle_elsewhere v second s differ h.near;
            far = triangle_elsewhere v second (twin_of L s s) e h.far;
            appended = h.appended;
          }

      other_half : Half L two v t (twin_of L s t)
      other_half =
          let old = triangle_of L t cut.side inner.other_three in
          let still = triangle_elsewhere v first t (λ e. differ (sym e)) old in
          record {
            old = old;
            near = near-half v second still;
            far = rw twin_across (far-half v second still);
            appended = omega (arith, twin_across, halved_size v first);
          }

      second_place : (q : ℕ) → Side two q → Place L s (twin_of L s) q
      second_place q a =
          elim (old_or_new v second q a) [
            | inl b ↦ first_place q b (λ c d. elim (decide (means_eq (q / 8) (t / 8))) [
              | inl e ↦ near t cut e
              | inr e ↦ stayed c (of_cut (λ r. q / 8 ≡ r / 8 → ⊥) d (λ k. e))
            ])
            | inr e ↦ far t cut (omega (arith, twin_across))
          ]

    -- how long the new list is
    pub split_size_border : t ≡ 0 → elements (split_at L s v) ≡ elements L + 1
    split_size_border z = ap (λ (X : List ℕ). elements X) (split_border L s v z) ∙ halved_size v first

    pub split_size_inner : (t ≡ 0 → ⊥) → elements (split_at L s v) ≡ elements L + 2
    split_size_inner z =
        ap (λ (X : List ℕ). elements X) (split_inner L s v z) ∙ omega (arith, halved_size v (second z), halved_size v first)

    pub split_fours : length (split_at L s v) ≡ 4 * elements (split_at L s v)
    split_fours =
        elim (zero_or t) [
          | inl z ↦ rw (split_border L s v z) (halved_fours v first)
          | inr z ↦ rw (split_inner L s v z) (halved_fours v (second z))
        ]

    -- it has as many columns: no fourth side comes or goes
    pub same_columns : columns (split_at L s v) ≡ columns L
    same_columns =
        elim (zero_or t) [
          | inl z ↦ rw (split_border L s v z) (columns_stay v first)
          | inr z ↦ rw (split_inner L s v z) (columns_stay v (second z) ∙ columns_stay v first)
        ]

  module _ (vertices : n + 1 ≤ max_vertex) where
    abbrev v : ℕ
    v = n + 1

    -- a border side: it alone is cut
    refined_border : t ≡ 0 → elements (one v) ≤ max_element → Refined n L (one v) s
    refined_border z size =
        record {
          vertices = vertices;
          size = size;
          fours = halved_fours v first;
          side = x.side;
          twin = twin_of L s;
          halves = of_cut (λ r. Half L (one v) v r (twin_of L s r)) (first_half v) (λ a. absurd (none a));
          apart = cut_apart (λ r. r / 8) (λ a e. none a);
          twins_apart = cut_apart (λ r. twin_of L s r / 8) (λ a e. none a);
          kept = λ r a d. kept_elsewhere v first r (d s mine) a;
          place = λ q a. first_place v q a (λ b d. stayed b (of_cut (λ r. q / 8 ≡ r / 8 → ⊥) d (λ c. absurd (none c))));
        }
      where
        none : Side L t → ⊥
        none a = side_positive L t a z

    -- an inner side: it is cut, and so is its partner
    refined_inner : (t ≡ 0 → ⊥) → elements (two v) ≤ max_element → Refined n L (two v) s
    refined_inner z size =
        record {
          vertices = vertices;
          size = size;
          fours = halved_fours v (second v z);
          side = x.side;
          twin = twin_of L s;
          halves = of_cut (λ r. Half L (two v) v r (twin_of L s r)) (mine_half v z) (λ a. other_half v z);
          apart = cut_apart (λ r. r / 8) (λ a. differ v z);
          twins_apart = cut_apart (λ r. twin_of L s r / 8) (λ a e. omega (arith, twin_mine L s, twin_across v z, halved_size v first));
          kept = λ r a d.
              let k = kept_elsewhere v first r (d s mine) a in kept_on k (kept_elsewhere v (second v z) r (d t (cut v z)) k.side);
          place = second_place v z;
        }

    pub split_refined : elements (split_at L s v) ≤ max_element → Refined n L (split_at L s v) s
    split_refined size =
        elim (zero_or t) [
          | inl z ↦ let e = split_border L s v z in rw e (refined_border z (rw e at size))
          | inr z ↦ let e = split_inner L s v z in rw e (refined_inner z (rw e at size))
        ]
