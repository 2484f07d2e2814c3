-- On an accepted list the joined vertex pairs of document 02, point 9, are as many as the edges: each edge has one side that leads it, and is
-- counted at its greater vertex.
-- Assumes nothing.
use Rattle.std.specs.Prelude.{◌≡◌, refl, Bool, true, false, not, ◌⊎◌, List, ℕ, ◌+◌, ◌-◌, ◌≤◌, ◌<◌, T, ltb, eqb, length}
use Rattle.std.proofs.Math.Path.{ap}
use Rattle.std.proofs.Common.{sym, ◌∙◌, T_not}
use Rattle.std.proofs.Math.Logic.{inl, inr}
use native.Mathlib.Omega.{arith}
use Rattle.lists.specs.Tests.{either, within}
use Rattle.lists.specs.TestLaws.{Test, pass, fail, test, Means, means_itself, means_one, decide, means_both, means_either, means_not, means_eq, means_lt}
use Rattle.lists.specs.TestLaws.{means_within, means_by}
use Rattle.lists.specs.Search.{count, total}
use Rattle.lists.specs.SearchLaws.{le_or_lt, count_same, tab_same}
use Rattle.lists.specs.Matches.{count_matched}
use Rattle.lists.specs.Totals.{Parted, count_parted, count_by}
use Rattle.rules.specs.Elements.{is_side, Side, slot, origin, destination, side_at, side_with, count_sides}
use Rattle.rules.specs.Pairing.{Pairing}
use Rattle.rules.specs.Tables.{partner, is_border, borders, edges}
use Rattle.edit_rules.specs.Contract.{is_neighbour}
use Rattle.edit_rules.specs.Shape.{lower_neighbours, joined_pairs}
use Rattle.theory.specs.Sides.{side_positive, side_at_slot, slot_side_at, slot_below}
use Rattle.theory.specs.FitRows.{Fit}
use Rattle.theory.specs.Links.{lesser, greater, side_ends}
use Rattle.theory.specs.Pairings.{means_joins}
use Rattle.theory.specs.Meeting.{means_joined}
use Rattle.theory.specs.Entries.{means_border}
use Rattle.theory.specs.Orders.{Good}
use Rattle.theory.specs.Counts.{sides_matched}
use Rattle.theory.specs.ContractTests.{Neighbours, means_neighbour}

means_with : (L : List ℕ) (t : ℕ → Bool) (i : ℕ) → Means (side_with L t i) (Side L (side_at i) × T (t (side_at i)))
means_with L t i = means_both (means_itself (is_side L (side_at i))) (means_itself (t (side_at i)))

-- where the sides with the test p are parted, they are as many as those of the two parts
sides_parted : (L : List ℕ) (p q r : ℕ → Bool) → ((s : ℕ) → Side L s → Parted p q r s)
    → count_sides L p ≡ count_sides L q + count_sides L r
unfolding count_sides
sides_parted L p q r f = count_parted (side_with L p) (side_with L q) (side_with L r) (length L) (λ i h. parted i)
  where
    parted : (i : ℕ) → Parted (side_with L p) (side_with L q) (side_with L r) i
    parted i =
        record {
          whole = record {
            says = λ t.
                let (a, w) = (means_with L p i).says t in
                elim ((f (side_at i) a).whole.says w) [ inl u ↦ inl ((means_with L q i).shows (a, u)) | inr u ↦ inr ((means_with L r i).shows (a, u)) ];
            shows = λ x. elim x [
              | inl t ↦ let (a, u) = (means_with L q i).says t in (means_with L p i).shows (a, (f (side_at i) a).whole.shows (inl u))
              | inr t ↦ let (a, u) = (means_with L r i).says t in (means_with L p i).shows (a, (f (side_at i) a).whole.shows (inr u))
            ];
          };
          once = λ t u. let (a, x) = (means_with L q i).says t in (f (side_at i) a).once x ((means_with L r i).says u).1;
        }

module _ (L : List ℕ) where
  abbrev all : ℕ → Bool
  all s = true

  -- a side comes before its partner; a border side's, 0, is before every side
  abbrev before : ℕ → Bool
  before s = ltb s (partner L s)

  -- a side leads its edge where it is a border side or comes before its partner
  abbrev leads : ℕ → Bool
  leads s = either (is_border L s) (before s)

  abbrev follows : ℕ → Bool
  follows s = not (leads s)

  means_before : (s : ℕ) → Means (before s) (s < partner L s)
  means_before s = means_lt s (partner L s)

  means_leads : (s : ℕ) → Means (leads s) ((partner L s ≡ 0) ⊎ (s < partner L s))
  means_leads s = means_either (means_border L s) (means_before s)

  all_parted : (s : ℕ) → Parted all leads follows s
  all_parted s =
      record {
        whole = record { says = λ t. elim (test (leads s)) [ pass u e ↦ inl u | fail u e ↦ inr u ]; shows = λ x. tt };
        once = λ t u. T_not (leads s) u t;
      }

  leads_parted : (s : ℕ) → Parted leads (is_border L) before s
  leads_parted s =
      record {
        whole = means_either (means_itself (is_border L s)) (means_itself (before s));
        once = λ t u. omega (arith, (means_border L s).says t, (means_before s).says u);
      }

  module _ (p : Pairing L (partner L)) where
    -- where a side doesn't lead, its partner comes first
    partner_before : (s : ℕ) → Side L s → T (follows s) → Side L (partner L s) × (partner L (partner L s) ≡ s) × (partner L s < s)
    partner_before s a t =
        let d = (means_not (means_leads s)).says t in
        let z : partner L s ≡ 0 → ⊥ = λ z. d (inl z) in
        let (b, e) = p.mutually s a z in
        let other = (p.opposite s a z).0 in
        let least : s < partner L s → ⊥ = λ h. d (inr h) in
        (b, e, omega arith)

    no_more : count_sides L follows ≤ count_sides L before
    no_more = sides_matched L L follows before (λ s q. partner L q ≡ s) (λ s t q e f. sym e ∙ f) (λ s a t.
        let (b, e, h) = partner_before s a t in (partner L s, b, (means_before (partner L s)).shows (rw e h), e))

    no_fewer : count_sides L before ≤ count_sides L follows
    no_fewer = sides_matched L L before follows (λ s q. partner L q ≡ s) (λ s t q e f. sym e ∙ f) (λ s a t.
        let h = (means_before s).says t in
        let (b, e) = p.mutually s a (λ z. omega arith) in
        let later : (partner L (partner L s) ≡ 0) ⊎ (partner L s < partner L (partner L s)) → ⊥ = λ x.
        elim x [ inl z ↦ side_positive L s a (sym e ∙ z) | inr l ↦ omega arith ] in
        (partner L s, b, (means_not (means_leads (partner L s))).shows later, e))

    -- "the number of edges": each has one side that leads it
    edges_led : edges L ≡ count_sides L leads
    unfolding edges borders
    edges_led =
        let whole = sides_parted L all leads follows (λ s a. all_parted s) in
        let led = sides_parted L leads (is_border L) before (λ s a. leads_parted s) in
        omega (arith, whole, led, no_more, no_fewer)

module _ (n : ℕ) (L : List ℕ) (fit : Fit n L) (p : Pairing L (partner L)) where
  -- s leads the edge between u and v, u the lesser
  record Edge (u v s : ℕ) : Type 0 where
    side : Side L s
    led : T (leads L s)
    from : lesser L s ≡ u
    to : greater L s ≡ v

  -- it is the only one: of two each would be the other's partner, and come before it
  comes_before : {u v s t : ℕ} → Edge u v s → Edge u v t → (s ≡ t → ⊥) → s < t
  comes_before {s = s} {t = t} x y d =
      let e = p.paired s t x.side y.side d ((means_joined L s t).shows (x.from ∙ sym y.from, x.to ∙ sym y.to)) in
      elim ((means_leads L s).says x.led) [ inl z ↦ absurd (side_positive L t y.side (sym e ∙ z)) | inr h ↦ rw e at h ]

  one_leads : {u v s t : ℕ} → Edge u v s → Edge u v t → s ≡ t
  one_leads {s = s} {t = t} x y =
      elim (decide (means_eq s t)) [
        | inl e ↦ e
        | inr d ↦ absurd (omega (arith, comes_before x y d, comes_before y x (λ e. d (sym e))))
      ]

  -- its ends are neighbours
  edge_joins : {u v s : ℕ} → Edge u v s → Neighbours L v u
  unfolding lesser greater
  edge_joins {s = s} x =
      let from = x.from in
      let to = x.to in
      elim (le_or_lt (origin L s) (destination L s)) [
        | inl h ↦ (s, inr (record { side = x.side; from = omega arith; to = omega arith }))
        | inr h ↦ (s, inl (record { side = x.side; from = omega arith; to = omega arith }))
      ]

  -- between neighbours there is an edge, which a side that joins them leads, or else its partner
  leader : {u v : ℕ} (s : ℕ) → Side L s → lesser L s ≡ u → greater L s ≡ v → (q : ℕ) × Edge u v q
  leader {u} {v} s a e f = go (test (leads L s))
    where
      go : Test (leads L s) → (q : ℕ) × Edge u v q
      go (pass t i) = (s, record { side = a; led = t; from = e; to = f })
      go (fail t i) =
          let (b, back, h) = partner_before L p s a t in
          let o = (p.opposite s a (side_positive L (partner L s) b)).1 in
          let (l, g) = (means_joined L s (partner L s)).says ((means_joins L s (partner L s)).shows (inr o)) in
          (partner L s, record { side = b; led = (means_leads L (partner L s)).shows (inr (rw back h)); from = sym l ∙ e; to = sym g ∙ f })

  joined_edge : {u v : ℕ} → u < v → Neighbours L v u → (q : ℕ) × Edge u v q
  unfolding lesser greater
  joined_edge h (r, inl x) = let e = x.from in let f = x.to in leader r x.side (omega arith) (omega arith)
  joined_edge h (r, inr x) = let e = x.from in let f = x.to in leader r x.side (omega arith) (omega arith)

  -- the greater vertex of the side that stands at j, where it leads; else 0
  unfoldable top : ℕ → ℕ
  top j = elim (side_with L (leads L) j) [ true ↦ greater L (side_at j) | false ↦ 0 ]

  abbrev Led : ℕ → Type 0
  Led j = Side L (side_at j) × T (leads L (side_at j))

  means_led : (j : ℕ) → Means (side_with L (leads L) j) (Led j)
  means_led j = means_with L (leads L) j

  -- it is v where that side leads an edge up to v
  means_top : (j v : ℕ) → 1 ≤ v → Means (eqb (top j) v) (Led j × (greater L (side_at j) ≡ v))
  unfolding top
  means_top j v l = go (test (side_with L (leads L) j))
    where
      go : Test (side_with L (leads L) j) → Means (eqb (top j) v) (Led j × (greater L (side_at j) ≡ v))
      go (pass t e) = rw (e, top) (means_by (means_eq (greater L (side_at j)) v) (λ f. ((means_led j).says t, f)) (λ x. x.1))
      go (fail t e) = rw (e, top) (means_by (means_eq 0 v) (λ f. absurd (omega arith)) (λ x. absurd ((means_not (means_led j)).says t x.0)))

  -- a side that leads an edge up to v stands at j; the vertex at k is joined to v
  abbrev up_to : ℕ → ℕ → Bool
  up_to v j = eqb (top j) v

  abbrev joined : ℕ → ℕ → Bool
  joined v k = is_neighbour L v (k + 1)

  -- the edges up to v are as many as the lower vertices joined to it
  module _ (v : ℕ) (l : 1 ≤ v) where
    one_place : (i j k : ℕ) → Edge (k + 1) v (side_at i) → Edge (k + 1) v (side_at j) → i ≡ j
    one_place i j k x y = sym (slot_side_at i) ∙ ap slot (one_leads x y) ∙ slot_side_at j

    one_vertex : (i j k : ℕ) → Edge (i + 1) v (side_at k) → Edge (j + 1) v (side_at k) → i ≡ j
    one_vertex i j k x y = omega (arith, x.from, y.from)

    edges_joined : count (up_to v) (length L) ≤ count (joined v) (v - 1)
    edges_joined =
        count_matched (λ i k. Edge (k + 1) v (side_at i)) one_place (up_to v) (v - 1) (joined v) (length L) (λ i h t.
        let ((a, w), g) = (means_top i v l).says t in
        let (x, y, z) = side_ends n L fit (side_at i) a in
        let u : ℕ = lesser L (side_at i) in
        let e : u - 1 + 1 ≡ u = omega arith in
        let edge : Edge (u - 1 + 1) v (side_at i) = record { side = a; led = w; from = sym e; to = g } in
        (u - 1, omega arith, (means_neighbour L v (u - 1 + 1)).shows (edge_joins edge), edge))

    joined_edges : count (joined v) (v - 1) ≤ count (up_to v) (length L)
    joined_edges =
        count_matched (λ k i. Edge (k + 1) v (side_at i)) one_vertex (joined v) (length L) (up_to v) (v - 1) (λ k h t.
        let (s, edge) = joined_edge (omega arith) ((means_neighbour L v (k + 1)).says t) in
        let e = side_at_slot L s edge.side in
        let there : Edge (k + 1) v (side_at (slot s)) = rw e edge in
        (slot s, slot_below L s edge.side, (means_top (slot s) v l).shows ((there.side, there.led), there.to), there))

    counted : lower_neighbours L v ≡ count (up_to v) (length L)
    unfolding lower_neighbours
    counted = omega (arith, edges_joined, joined_edges)

  -- the vertices are from 1 to n, so each side that leads is counted
  led_within : (j : ℕ) → within 1 n (top j) ≡ side_with L (leads L) j
  led_within j =
      means_one (means_within 1 n (top j)) (means_led j)
      (λ (a, b). ((means_top j (top j) a).says ((means_eq (top j) (top j)).shows refl)).0)
      (λ (a, w).
      let (x, y, z) = side_ends n L fit (side_at j) a in
      let m = means_top j (greater L (side_at j)) (omega arith) in
      let e : top j ≡ greater L (side_at j) = (means_eq (top j) (greater L (side_at j))).says (m.shows ((a, w), refl)) in
      (omega arith, omega arith))

  pairs_led : joined_pairs n L ≡ count_sides L (leads L)
  unfolding joined_pairs count_sides
  pairs_led =
      ap total (tab_same n (λ i. lower_neighbours L (i + 1)) (λ i. count (up_to (i + 1)) (length L)) (λ i h. counted (i + 1) (omega arith)))
      ∙ count_by top (length L) n
      ∙ count_same (λ j. within 1 n (top j)) (side_with L (leads L)) (length L) (λ j h. led_within j)

-- on an accepted list the count of joined vertex pairs is build's number of edges
pub pairs_are_edges : (n : ℕ) (L : List ℕ) → Good n L → joined_pairs n L ≡ edges L
pairs_are_edges n L g = pairs_led n L g.fit g.pairing ∙ sym (edges_led L g.pairing)
