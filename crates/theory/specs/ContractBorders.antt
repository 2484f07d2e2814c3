-- The border sides of a list with an edge contracted, document 02, point 8, where neither 20 nor 21 is due: each old one but that edge itself has
-- its own. Where one of the two other sides of a triangle that goes is a border, the side beyond the other one becomes it.
-- Assumes nothing.
use Rattle.std.specs.Prelude.{◌≡◌, false, ◌⊎◌, List, ℕ, ◌-◌, ◌/◌}
use Rattle.std.proofs.Math.Path.{refl}
use Rattle.std.proofs.Common.{ap, sym, ◌∙◌, arith}
use Rattle.std.proofs.Math.Logic.{inl, inr}
use Rattle.lists.specs.TestLaws.{decide, means_eq, zero_or}
use Rattle.lists.specs.Search.{at}
use Rattle.rules.specs.Elements.{sides, Side, origin, next, previous, destination}
use Rattle.rules.specs.Pairing.{Pairing, TurnOrder, Accepted}
use Rattle.rules.specs.Tables.{partner}
use Rattle.edit_rules.specs.Swap.{third}
use Rattle.edit_rules.specs.Contract.{instead, pinches, strands}
use Rattle.theory.specs.Sides.{side_positive}
use Rattle.theory.specs.Steps.{next_numbered, next_side_lem, next_inj, next_previous, previous_numbered, previous_side_lem}
use Rattle.theory.specs.FitRows.{Fit, ends_differ}
use Rattle.theory.specs.Triangles.{Runs, TriangleSide, Around, itself, after, before, around, next_next, next_runs, previous_runs}
use Rattle.theory.specs.Orders.{Good, good, lone, first_after}
use Rattle.theory.specs.Refining.{Cut}
use Rattle.theory.specs.Diamonds.{runs_differ}
use Rattle.theory.specs.RefinedTurns.{not_border, own_runs, partner_runs, no_against, between}
use Rattle.theory.specs.Splitting.{Splittable}
use Rattle.theory.specs.Rims.{border_last}
use Rattle.theory.specs.Coarsening.{Stays, Coarsened, merged_to, renumbered}
use Rattle.theory.specs.ContractTests.{Neighbours, Third}
use Rattle.theory.specs.Using.{goes_or_stays}
use Rattle.theory.specs.Renaming.{instead_old, instead_other}
use Rattle.theory.specs.Contracting.{merged_coarsened}
use Rattle.theory.specs.Unpinched.{says_unpinched, says_used}
use Rattle.theory.specs.ContractRefusals.{Merged, equal, forth, back, one_number, no_edge, contracted_fit, contracted_pairing}

module _ (n : ℕ) (L N : List ℕ) (old : Accepted n L) (s : ℕ) (x : Splittable L s) where
  abbrev a : ℕ
  a = origin L s

  abbrev b : ℕ
  b = destination L s

  g : Good n L
  g = good n L old

  fit : Fit n L
  fit = g.fit

  apart : a ≡ b → ⊥
  apart = ends_differ n L fit s x.side

  -- a side of the edge runs between its ends, in a triangle
  abbrev Between : ℕ → Type 0
  Between c = ((origin L c ≡ a) × (destination L c ≡ b)) ⊎ ((origin L c ≡ b) × (destination L c ≡ a))

  cut_ends : {c : ℕ} → Cut L s c → Between c
  cut_ends k = elim k.is [
    | inl e ↦ inl (ap (origin L) e, ap (λ (r : ℕ). destination L r) e)
    | inr e ↦
        let r = partner_runs L s (λ z. side_positive L _ k.side (e ∙ z)) in
        inr (ap (origin L) e ∙ r.from, ap (λ (r : ℕ). destination L r) e ∙ r.to)
  ]

  cut_triangle : {c : ℕ} → Cut L s c → TriangleSide L c (origin L c) (destination L c) (origin L (previous L c))
  cut_triangle {c} k = record { runs = own_runs k.side; third = refl; triangle = three }
    where
      three : sides L (c / 8) ≡ 3
      three = elim k.is [
        | inl e ↦ ap (λ (r : ℕ). sides L (r / 8)) e ∙ x.triangle
        | inr e ↦ ap (λ (r : ℕ). sides L (r / 8)) e ∙ elim x.across [ inl z ↦ absurd (side_positive L _ k.side (e ∙ z)) | inr f ↦ f ]
      ]

  -- the third corner
  abbrev tip : ℕ → ℕ
  tip c = origin L (previous L c)

  -- it is neither end
  tip_a : {c : ℕ} → Cut L s c → tip c ≡ a → ⊥
  tip_a k e = elim (cut_ends k) [
    | inl (i, j) ↦ runs_differ fit (previous_runs (cut_triangle k)) (e ∙ sym i)
    | inr (i, j) ↦ runs_differ fit (next_runs (cut_triangle k)) (j ∙ sym e)
  ]

  tip_b : {c : ℕ} → Cut L s c → tip c ≡ b → ⊥
  tip_b k e = elim (cut_ends k) [
    | inl (i, j) ↦ runs_differ fit (next_runs (cut_triangle k)) (j ∙ sym e)
    | inr (i, j) ↦ runs_differ fit (previous_runs (cut_triangle k)) (e ∙ sym i)
  ]

  no_tip : {c d : ℕ} → Cut L s c → Cut L s d → tip c ≡ origin L d → ⊥
  no_tip k l e = elim (cut_ends l) [ inl (i, j) ↦ tip_a k (e ∙ i) | inr (i, j) ↦ tip_b k (e ∙ i) ]

  no_tip_to : {c d : ℕ} → Cut L s c → Cut L s d → tip c ≡ destination L d → ⊥
  no_tip_to k l e = elim (cut_ends l) [ inl (i, j) ↦ tip_b k (e ∙ j) | inr (i, j) ↦ tip_a k (e ∙ j) ]

  -- of the other side of the edge the ends are exchanged
  turned : {c d : ℕ} → Cut L s c → Cut L s d → destination L d ≡ origin L c → origin L d ≡ destination L c
  turned k l e = elim (cut_ends k) [
    | inl (i, j) ↦ elim (cut_ends l) [ inl (p, q) ↦ absurd (apart (sym i ∙ sym e ∙ q)) | inr (p, q) ↦ p ∙ sym j ]
    | inr (i, j) ↦ elim (cut_ends l) [ inl (p, q) ↦ p ∙ sym j | inr (p, q) ↦ absurd (apart (sym q ∙ e ∙ i)) ]
  ]

  turned_to : {c d : ℕ} → Cut L s c → Cut L s d → origin L d ≡ destination L c → destination L d ≡ origin L c
  turned_to k l e = elim (cut_ends k) [
    | inl (i, j) ↦ elim (cut_ends l) [ inl (p, q) ↦ absurd (apart (sym p ∙ e ∙ j)) | inr (p, q) ↦ q ∙ sym i ]
    | inr (i, j) ↦ elim (cut_ends l) [ inl (p, q) ↦ q ∙ sym i | inr (p, q) ↦ absurd (apart (sym j ∙ sym e ∙ p)) ]
  ]

  -- side r is in a triangle that goes
  abbrev Goes : ℕ → Type 0
  Goes r = (c : ℕ) × Cut L s c × (r / 8 ≡ c / 8)

  next_goes : {c : ℕ} → Cut L s c → Goes (next L c)
  next_goes {c} k = (c, k, (next_numbered L c k.side).same)

  previous_goes : {c : ℕ} → Cut L s c → Goes (previous L c)
  previous_goes {c} k = (c, k, (previous_numbered L c k.side).same)

  -- a side that runs as one that goes is that one
  not_alike : {r w u v : ℕ} → Runs L r u v → Stays L s (r / 8) → Runs L w u v → Goes w → ⊥
  not_alike {r} {w} k stays l (c, cut, e) =
      stays c cut
      (ap (λ (i : ℕ). i / 8) (lone n L g r w k.side l.side (k.from ∙ sym l.from) (k.to ∙ sym l.to)) ∙ e)

  which : (r : ℕ) → Side L r → (c : ℕ) → Cut L s c → r / 8 ≡ c / 8 → Around L c r
  which r i c k e = around L c k.side (cut_triangle k).triangle r i e

  -- what runs against the side after a side of the edge stays, or the third corner is that of the other triangle too
  beyond_next : {c : ℕ} → Cut L s c → (u : ℕ) → Runs L u (tip c) (destination L c)
      → Stays L s (u / 8) ⊎ ((w : ℕ) × Runs L w (origin L c) (tip c) × Goes w)
  beyond_next {c} k u r = elim (goes_or_stays n L fit s x (u / 8)) [
    | inr z ↦ inl z
    | inl (d, l, e) ↦ inr (go d l (which u r.side d l e))
  ]
    where
      go : (d : ℕ) → Cut L s d → Around L d u → (w : ℕ) × Runs L w (origin L c) (tip c) × Goes w
      go d l (itself e) = absurd (no_tip k l (sym r.from ∙ ap (origin L) e))
      go d l (after e) = absurd (no_tip_to k l (sym r.from ∙ ap (origin L) e))
      go d l (before e) =
          let m = rw e at r in
          let y = previous_runs (cut_triangle l) in
          let f = turned_to k l (sym y.to ∙ m.to) in
          (next L d, between (next_runs (cut_triangle l)) f (sym y.from ∙ m.from), next_goes l)

  beyond_previous : {c : ℕ} → Cut L s c → (u : ℕ) → Runs L u (origin L c) (tip c)
      → Stays L s (u / 8) ⊎ ((w : ℕ) × Runs L w (tip c) (destination L c) × Goes w)
  beyond_previous {c} k u r = elim (goes_or_stays n L fit s x (u / 8)) [
    | inr z ↦ inl z
    | inl (d, l, e) ↦ inr (go d l (which u r.side d l e))
  ]
    where
      go : (d : ℕ) → Cut L s d → Around L d u → (w : ℕ) × Runs L w (tip c) (destination L c) × Goes w
      go d l (itself e) = absurd (no_tip_to k l (sym r.to ∙ ap (λ (i : ℕ). destination L i) e))
      go d l (after e) =
          let m = rw e at r in
          let y = next_runs (cut_triangle l) in
          let f = turned k l (sym y.from ∙ m.from) in
          (previous L d, between (previous_runs (cut_triangle l)) (sym y.to ∙ m.to) f, previous_goes l)
      go d l (before e) =
          let m = rw e at r in
          absurd (no_tip k l (sym m.to ∙ (previous_runs (cut_triangle l)).to))

  -- a third corner of the triangles on the edge is that of one of its sides
  third_cut : {v : ℕ} → Third L s v → (c : ℕ) × Cut L s c × (v ≡ tip c)
  unfolding third
  third_cut (inl e) = (s, record { side = x.side; is = inl refl }, e)
  third_cut (inr (z, e)) = (partner L s, record { side = (partner_runs L s z).side; is = inr refl }, e)

  at_end : {c w : ℕ} → Cut L s c → (w ≡ a) ⊎ (w ≡ b) → (w ≡ origin L c) ⊎ (w ≡ destination L c)
  at_end k (inl e) = elim (cut_ends k) [ inl (i, j) ↦ inl (e ∙ sym i) | inr (i, j) ↦ inr (e ∙ sym j) ]
  at_end k (inr e) = elim (cut_ends k) [ inl (i, j) ↦ inr (e ∙ sym j) | inr (i, j) ↦ inl (e ∙ sym i) ]

  -- a border side that stays doesn't join an end of the edge and a third corner
  none_out : {r u v : ℕ} → Runs L r u v → Stays L s (r / 8) → partner L r ≡ 0 → (u ≡ a) ⊎ (u ≡ b) → Third L s v → ⊥
  none_out r stays z o t =
      let (c, k, e) = third_cut t in
      elim (at_end k o) [
        | inl i ↦ not_border fit g.pairing (between r i e) (previous_runs (cut_triangle k)) z
        | inr i ↦ not_alike (between r i e) stays (next_runs (cut_triangle k)) (next_goes k)
      ]

  none_in : {r u v : ℕ} → Runs L r u v → Stays L s (r / 8) → partner L r ≡ 0 → (v ≡ a) ⊎ (v ≡ b) → Third L s u → ⊥
  none_in r stays z o t =
      let (c, k, e) = third_cut t in
      elim (at_end k o) [
        | inl i ↦ not_alike (between r e i) stays (previous_runs (cut_triangle k)) (previous_goes k)
        | inr i ↦ not_border fit g.pairing (between r e i) (next_runs (cut_triangle k)) z
      ]

  -- the two other sides of a triangle that goes aren't both borders, for its third corner is used still
  module _ (kept : strands n L s ≡ false) where
    tip_shared : {c : ℕ} → Cut L s c → partner L (next L c) ≡ 0 → partner L (previous L c) ≡ 0 → ⊥
    tip_shared {c} k z w =
        let side = previous_side_lem L c k.side in
        let (q, (i, e)) = says_used n L fit s kept (tip c) (tip_b k) (previous L c, (side, refl)) in
        let y = merged_coarsened n L fit s x in
        let (o, t) = g.orders (tip c) (fit.from _ side) (fit.to _ side) in
        let f = first_after L g.pairing (tip c) o t (next L c) (next_side_lem L c k.side) z (next_runs (cut_triangle k)).to in
        alone o t (f ∙ next_next L c k.side (cut_triangle k).triangle) (y.old q) (y.side q i) (y.stays q i)
        (unmerged (y.old q) (decide (means_eq (origin L (y.old q)) b)) (sym (y.from q i) ∙ e))
      where
        unmerged : (r : ℕ) → (origin L r ≡ b) ⊎ (origin L r ≡ b → ⊥) → merged_to L s (origin L r) ≡ tip c → origin L r ≡ tip c
        unmerged r (inl d) e = absurd (tip_a k (sym e ∙ ap (merged_to L s) d ∙ instead_old b a))
        unmerged r (inr d) e = sym (instead_other b a (origin L r) d) ∙ e

        alone : (o : List ℕ) → TurnOrder L (partner L) (tip c) o → at o 0 ≡ previous L c
            → (r : ℕ) → Side L r → Stays L s (r / 8) → origin L r ≡ tip c → ⊥
        alone o t f r side stays d =
            let (i, h, e) = t.all r (side, d) in
            let last = border_last L g.pairing (tip c) o t 0 (omega arith) (ap (partner L) f ∙ w) in
            let j : i ≡ 0 = omega arith in
            let same : r ≡ previous L c = sym e ∙ ap (at o) j ∙ f in
            stays c k (ap (λ (u : ℕ). u / 8) same ∙ (previous_numbered L c k.side).same)

  module _ (y : Coarsened L N s (renumbered n L s)) (free : pinches n L s ≡ false) where
    abbrev was : ℕ → ℕ
    was = y.old

    abbrev ρ : ℕ → ℕ
    ρ = renumbered n L s

    fit' : Fit (n - 1) N
    fit' = contracted_fit n L N old s x y free

    pairing' : Pairing N (partner N)
    pairing' = contracted_pairing n L N old s x y free

    -- a side runs as it did, in the new numbers
    runs_new : {q u v : ℕ} → Side N q → Runs L (was q) u v → Runs N q (ρ u) (ρ v)
    runs_new {q} i r =
        record {
          side = i;
          from = y.from q i ∙ ap ρ r.from;
          to = y.from (next N q) (next_side_lem N q i) ∙ ap (λ (p : ℕ). ρ (origin L p)) (y.follows q i) ∙ ap ρ r.to;
        }

    own_new : {q : ℕ} → Side N q → Runs N q (ρ (origin L (was q))) (ρ (destination L (was q)))
    own_new {q} i = runs_new i (own_runs (y.side q i))

    -- the ends have one
    cut_merged : {c : ℕ} → Cut L s c → ρ (origin L c) ≡ ρ (destination L c)
    cut_merged k =
        let one : ρ a ≡ ρ b = ap (instead n b) (instead_other b a a apart ∙ sym (instead_old b a)) in
        elim (cut_ends k) [ inl (i, j) ↦ ap ρ i ∙ one ∙ ap ρ (sym j) | inr (i, j) ↦ ap ρ i ∙ sym one ∙ ap ρ (sym j) ]

    is_end_lem : {c w : ℕ} → Cut L s c → ρ w ≡ ρ (origin L c) → (w ≡ origin L c) ⊎ (w ≡ destination L c)
    is_end_lem {c} {w} k e = elim (one_number n L N old s x w (origin L c) e) [
      | equal i ↦ inl i
      | forth i j ↦ at_end k (inl i)
      | back i j ↦ at_end k (inr i)
    ]

    is_tip : {c w : ℕ} → Cut L s c → ρ w ≡ ρ (tip c) → w ≡ tip c
    is_tip {c} {w} k e = elim (one_number n L N old s x w (tip c) e) [
      | equal i ↦ i
      | forth i j ↦ absurd (tip_b k j)
      | back i j ↦ absurd (tip_a k j)
    ]

    -- where a side of a triangle that goes is a border, the one beyond the other becomes it
    next_border_lem : {c q : ℕ} → Cut L s c → partner L (next L c) ≡ 0 → Side N q → Runs L (was q) (origin L c) (tip c) → partner N q ≡ 0
    next_border_lem {c} k z i r = no_against (runs_new i r) (λ w m.
        let j = m.side in
        let from = is_tip k (sym (own_new j).from ∙ m.from) in
        let mine = y.side w j in
        elim (is_end_lem k (sym (own_new j).to ∙ m.to)) [
          | inl e ↦ not_alike (record { side = mine; from = from; to = e }) (y.stays w j) (previous_runs (cut_triangle k)) (previous_goes k)
          | inr e ↦ not_border fit g.pairing (next_runs (cut_triangle k)) (record { side = mine; from = from; to = e }) z
        ])

    previous_border : {c q : ℕ} → Cut L s c → partner L (previous L c) ≡ 0 → Side N q → Runs L (was q) (tip c) (destination L c) → partner N q ≡ 0
    previous_border {c} k z i r = no_against (runs_new i r) (λ w m.
        let j = m.side in
        let to = is_tip k (sym (own_new j).to ∙ m.to) in
        let mine = y.side w j in
        elim (is_end_lem k (sym (own_new j).from ∙ m.from ∙ sym (cut_merged k))) [
          | inl e ↦ not_border fit g.pairing (previous_runs (cut_triangle k)) (record { side = mine; from = e; to = to }) z
          | inr e ↦ not_alike (record { side = mine; from = e; to = to }) (y.stays w j) (next_runs (cut_triangle k)) (next_goes k)
        ])

    -- a border that stays is one still
    kept_border : (q : ℕ) → Side N q → partner L (was q) ≡ 0 → partner N q ≡ 0
    kept_border q i z = no_against (own_new i) (λ w m.
        let j = m.side in
        go w j (one_number n L N old s x _ _ (sym (own_new j).from ∙ m.from)) (one_number n L N old s x _ _ (sym (own_new j).to ∙ m.to)))
      where
        u : ℕ
        u = was q

        mine : Runs L u (origin L u) (destination L u)
        mine = own_runs (y.side q i)

        stays : Stays L s (u / 8)
        stays = y.stays q i

        third_of : {v : ℕ} → Neighbours L a v → Neighbours L b v → Third L s v
        third_of {v} k l = says_unpinched n L fit s free v k l

        go : (w : ℕ) → Side N w → Merged a b (origin L (was w)) (destination L u) → Merged a b (destination L (was w)) (origin L u) → ⊥
        go w j (equal e) (equal f) = not_border fit g.pairing mine (between (own_runs (y.side w j)) e f) z
        go w j (equal e) (forth f h) =
            none_out mine stays z (inr h) (third_of (was w, inr (between (own_runs (y.side w j)) e f)) (u, inl (between mine h refl)))
        go w j (equal e) (back f h) =
            none_out mine stays z (inl h) (third_of (u, inl (between mine h refl)) (was w, inr (between (own_runs (y.side w j)) e f)))
        go w j (forth e f) (equal h) =
            none_in mine stays z (inr f) (third_of (was w, inl (between (own_runs (y.side w j)) e h)) (u, inr (between mine refl f)))
        go w j (back e f) (equal h) =
            none_in mine stays z (inl f) (third_of (u, inr (between mine refl f)) (was w, inl (between (own_runs (y.side w j)) e h)))
        go w j (forth e f) (forth h l) = ends_differ n L fit (was w) (y.side w j) (e ∙ sym h)
        go w j (back e f) (back h l) = ends_differ n L fit (was w) (y.side w j) (e ∙ sym h)
        go w j (forth e f) (back h l) = no_edge n L N old s x u (inl (between mine l f)) stays
        go w j (back e f) (forth h l) = no_edge n L N old s x u (inr (between mine l f)) stays

    -- the border side r of L has the border side q of N for its own
    pub data Own (r q : ℕ) : Type 0 where
      same : Side N q → r ≡ was q → partner L r ≡ 0 → Own r q
      after_cut : (c : ℕ) → Cut L s c → (partner L (previous L c) ≡ 0 → ⊥) → r ≡ next L c → Side N q → was q ≡ partner L (previous L c) → Own r q
      before_cut : (c : ℕ) → Cut L s c → (partner L (next L c) ≡ 0 → ⊥) → r ≡ previous L c → Side N q → was q ≡ partner L (next L c) → Own r q

    -- partners' partners
    back_again : (r : ℕ) → Side L r → (partner L r ≡ 0 → ⊥) → partner L (partner L r) ≡ r
    back_again r i z = (g.pairing.mutually r i z).1

    previous_there : {c : ℕ} → Cut L s c → Side L (previous L c)
    previous_there {c} k = previous_side_lem L c k.side

    next_there : {c : ℕ} → Cut L s c → Side L (next L c)
    next_there {c} k = next_side_lem L c k.side

    paired_still : (u r : ℕ) → Side L u → (partner L u ≡ 0 → ⊥) → r ≡ partner L u → partner L r ≡ 0 → ⊥
    paired_still u r i z e w = side_positive L u i (sym (back_again u i z) ∙ ap (partner L) (sym e) ∙ w)

    one_partner : (u v : ℕ) → Side L u → Side L v → (partner L u ≡ 0 → ⊥) → (partner L v ≡ 0 → ⊥) → partner L u ≡ partner L v → u ≡ v
    one_partner u v i j z w e = sym (back_again u i z) ∙ ap (partner L) e ∙ back_again v j w

    next_previous_apart : {c d : ℕ} → Cut L s c → Cut L s d → next L c ≡ previous L d → ⊥
    next_previous_apart k l e = no_tip_to l k (sym (ap (origin L) e))

    cut_by_previous : {c d : ℕ} → Cut L s c → Cut L s d → previous L c ≡ previous L d → c ≡ d
    cut_by_previous {c} {d} k l e = sym (next_previous L c k.side) ∙ ap (next L) e ∙ next_previous L d l.side

    -- q is that of r alone
    pub own_alone : (r p q : ℕ) → Own r q → Own p q → r ≡ p
    own_alone r p q (same i e z) (same j f w) = e ∙ sym f
    own_alone r p q (same i e z) (after_cut c k w f j h) = absurd (paired_still (previous L c) r (previous_there k) w (e ∙ h) z)
    own_alone r p q (same i e z) (before_cut c k w f j h) = absurd (paired_still (next L c) r (next_there k) w (e ∙ h) z)
    own_alone r p q (after_cut c k w f j h) (same i e z) = absurd (paired_still (previous L c) p (previous_there k) w (e ∙ h) z)
    own_alone r p q (before_cut c k w f j h) (same i e z) = absurd (paired_still (next L c) p (next_there k) w (e ∙ h) z)
    own_alone r p q (after_cut c k w f j h) (after_cut d l v e i m) =
        let u = one_partner (previous L c) (previous L d) (previous_there k) (previous_there l) w v (sym h ∙ m) in
        f ∙ ap (next L) (cut_by_previous k l u) ∙ sym e
    own_alone r p q (before_cut c k w f j h) (before_cut d l v e i m) =
        let u = one_partner (next L c) (next L d) (next_there k) (next_there l) w v (sym h ∙ m) in
        f ∙ ap (previous L) (next_inj L c d k.side l.side u) ∙ sym e
    own_alone r p q (after_cut c k w f j h) (before_cut d l v e i m) =
        absurd (next_previous_apart l k (sym (one_partner (previous L c) (next L d) (previous_there k) (next_there l) w v (sym h ∙ m))))
    own_alone r p q (before_cut c k w f j h) (after_cut d l v e i m) =
        absurd (next_previous_apart k l (one_partner (next L c) (previous L d) (next_there k) (previous_there l) w v (sym h ∙ m)))

    -- and r has one
    not_cut : (c q r : ℕ) → Cut L s c → Side N q → r ≡ was q → r / 8 ≡ c / 8 → ⊥
    not_cut c q r k i e f = y.stays q i c k (ap (λ (u : ℕ). u / 8) (sym e) ∙ f)

    pub own_once : (p q r : ℕ) → Own r p → Own r q → p ≡ q
    own_once p q r (same i e z) (same j f w) = y.one p q i j (sym e ∙ f)
    own_once p q r (same i e z) (after_cut c k w f j h) = absurd (not_cut c p r k i e (ap (λ (u : ℕ). u / 8) f ∙ (next_numbered L c k.side).same))
    own_once p q r (same i e z) (before_cut c k w f j h) =
        absurd (not_cut c p r k i e (ap (λ (u : ℕ). u / 8) f ∙ (previous_numbered L c k.side).same))
    own_once p q r (after_cut c k w f j h) (same i e z) = absurd (not_cut c q r k i e (ap (λ (u : ℕ). u / 8) f ∙ (next_numbered L c k.side).same))
    own_once p q r (before_cut c k w f j h) (same i e z) =
        absurd (not_cut c q r k i e (ap (λ (u : ℕ). u / 8) f ∙ (previous_numbered L c k.side).same))
    own_once p q r (after_cut c k w f j h) (after_cut d l v e i m) =
        let u = next_inj L c d k.side l.side (sym f ∙ e) in
        y.one p q j i (h ∙ ap (λ (r : ℕ). partner L (previous L r)) u ∙ sym m)
    own_once p q r (before_cut c k w f j h) (before_cut d l v e i m) =
        let u = cut_by_previous k l (sym f ∙ e) in
        y.one p q j i (h ∙ ap (λ (r : ℕ). partner L (next L r)) u ∙ sym m)
    own_once p q r (after_cut c k w f j h) (before_cut d l v e i m) = absurd (next_previous_apart k l (sym f ∙ e))
    own_once p q r (before_cut c k w f j h) (after_cut d l v e i m) = absurd (next_previous_apart l k (sym e ∙ f))

    -- a side of the edge has the other one for its partner
    cut_partner : {c : ℕ} → Cut L s c → (r : ℕ) → Side L r → partner L r ≡ c → Cut L s r
    cut_partner {c} k r i e =
        let z : partner L r ≡ 0 → ⊥ = λ w. side_positive L c k.side (sym e ∙ w) in
        let f : partner L c ≡ r = ap (partner L) (sym e) ∙ back_again r i z in
        elim k.is [
          | inl h ↦ record { side = i; is = inr (sym f ∙ ap (partner L) h) }
          | inr h ↦
              let w : partner L s ≡ 0 → ⊥ = λ v. side_positive L c k.side (h ∙ v) in
              record { side = i; is = inl (sym f ∙ ap (partner L) h ∙ back_again s x.side w) }
        ]

    first_cut : Cut L s s
    first_cut = record { side = x.side; is = inl refl }

    -- a border side of N is that of one of L, other than s
    abbrev Was : ℕ → Type 0
    Was q = (r : ℕ) × Side L r × (partner L r ≡ 0) × (r ≡ s → ⊥) × Own r q

    module _ (q : ℕ) (i : Side N q) (z : partner N q ≡ 0) where
      was_side : Side L (was q)
      was_side = y.side q i

      -- nothing runs against it in N
      unopposed : {u v u' v' : ℕ} → Runs L (was q) u v → (r : ℕ) → Runs L r v' u' → Stays L s (r / 8) → ρ u ≡ ρ u' → ρ v ≡ ρ v' → ⊥
      unopposed k r l stays e f =
          let (p, j, h) = y.all r l.side stays in
          not_border fit' pairing' (runs_new i k) (between (runs_new j (rw (← h) at l)) (sym f) (sym e)) z

      -- where it was paired, it was beyond a side of a triangle that goes, whose third side is a border
      module _ (w : partner L (was q) ≡ 0 → ⊥) where
        beyond : (u : ℕ) → partner L (was q) ≡ u → was q ≡ partner L u
        beyond u e = sym (back_again (was q) was_side w) ∙ ap (partner L) e

        paired : (u : ℕ) → partner L (was q) ≡ u → partner L u ≡ 0 → ⊥
        paired u e v = side_positive L (was q) was_side (beyond u e ∙ v)

        facing : {u v t : ℕ} → partner L (was q) ≡ t → Runs L t u v → Runs L (was q) v u
        facing {u} {v} {t} e k = rw (← beyond t e) at (between (partner_runs L t (paired t e)) k.to k.from)

        was_beyond : (c : ℕ) → Cut L s c → Around L c (partner L (was q)) → Was q
        was_beyond c k (itself e) = absurd (y.stays q i (was q) (cut_partner k (was q) was_side e) refl)
        was_beyond c k (after e) =
            let m = previous_runs (cut_triangle k) in
            let mine = facing e (next_runs (cut_triangle k)) in
            let u = previous L c in
            elim (zero_or (partner L u)) [
              | inl v ↦
                  let other : u ≡ s → ⊥ = λ f. no_tip k first_cut (ap (origin L) f) in
                  (u, m.side, v, other, before_cut c k (paired (next L c) e) refl i (beyond (next L c) e))
              | inr v ↦
                  let r = between (partner_runs L u v) m.to m.from in
                  elim (beyond_previous k (partner L u) r) [
                    | inl stays ↦ absurd (unopposed mine (partner L u) r stays refl (sym (cut_merged k)))
                    | inr (t, l, goes) ↦ absurd (not_alike mine (y.stays q i) l goes)
                  ]
            ]
        was_beyond c k (before e) =
            let m = next_runs (cut_triangle k) in
            let mine = facing e (previous_runs (cut_triangle k)) in
            let u = next L c in
            elim (zero_or (partner L u)) [
              | inl v ↦
                  let other : u ≡ s → ⊥ = λ f. no_tip_to k first_cut (sym m.to ∙ ap (λ (r : ℕ). destination L r) f) in
                  (u, m.side, v, other, after_cut c k (paired (previous L c) e) refl i (beyond (previous L c) e))
              | inr v ↦
                  let r = between (partner_runs L u v) m.to m.from in
                  elim (beyond_next k (partner L u) r) [
                    | inl stays ↦ absurd (unopposed mine (partner L u) r stays (cut_merged k) refl)
                    | inr (t, l, goes) ↦ absurd (not_alike mine (y.stays q i) l goes)
                  ]
            ]

        was_paired : Was q
        was_paired = elim (goes_or_stays n L fit s x (partner L (was q) / 8)) [
          | inl (c, k, e) ↦ was_beyond c k (which (partner L (was q)) (partner_runs L (was q) w).side c k e)
          | inr stays ↦ absurd (unopposed (own_runs was_side) (partner L (was q)) (partner_runs L (was q) w) stays refl refl)
        ]

      pub border_was : Was q
      border_was = elim (zero_or (partner L (was q))) [
        | inl w ↦ (was q, was_side, w, (λ e. y.stays q i s first_cut (ap (λ (u : ℕ). u / 8) e)), same i refl w)
        | inr w ↦ was_paired w
      ]

    -- and each border side of L but s has one
    module _ (kept : strands n L s ≡ false) where
      pub border_now : (r : ℕ) → Side L r → partner L r ≡ 0 → (r ≡ s → ⊥) → (q : ℕ) × Side N q × (partner N q ≡ 0) × Own r q
      border_now r i z d = go (goes_or_stays n L fit s x (r / 8))
        where
          Found : Type 0
          Found = (q : ℕ) × Side N q × (partner N q ≡ 0) × Own r q

          at_cut : (c : ℕ) → Cut L s c → Around L c r → Found
          at_cut c k (itself e) = elim k.is [
            | inl h ↦ absurd (d (e ∙ h))
            | inr h ↦
                let w : partner L s ≡ 0 → ⊥ = λ v. side_positive L c k.side (h ∙ v) in
                absurd (paired_still s r x.side w (e ∙ h) z)
          ]
          at_cut c k (after e) =
              let w : partner L (previous L c) ≡ 0 → ⊥ = tip_shared kept k (ap (partner L) (sym e) ∙ z) in
              let m = previous_runs (cut_triangle k) in
              let u = between (partner_runs L (previous L c) w) m.to m.from in
              elim (beyond_previous k (partner L (previous L c)) u) [
                | inl stays ↦
                    let (q, j, h) = y.all (partner L (previous L c)) u.side stays in
                    (q, j, next_border_lem k (ap (partner L) (sym e) ∙ z) j (rw (← h) at u), after_cut c k w e j h)
                | inr (t, l, goes) ↦ absurd (not_border fit g.pairing (next_runs (cut_triangle k)) l (ap (partner L) (sym e) ∙ z))
              ]
          at_cut c k (before e) =
              let w : partner L (next L c) ≡ 0 → ⊥ = λ v. tip_shared kept k v (ap (partner L) (sym e) ∙ z) in
              let m = next_runs (cut_triangle k) in
              let u = between (partner_runs L (next L c) w) m.to m.from in
              elim (beyond_next k (partner L (next L c)) u) [
                | inl stays ↦
                    let (q, j, h) = y.all (partner L (next L c)) u.side stays in
                    (q, j, previous_border k (ap (partner L) (sym e) ∙ z) j (rw (← h) at u), before_cut c k w e j h)
                | inr (t, l, goes) ↦ absurd (not_border fit g.pairing (previous_runs (cut_triangle k)) l (ap (partner L) (sym e) ∙ z))
              ]

          go : Goes r ⊎ Stays L s (r / 8) → Found
          go (inl (c, k, e)) = at_cut c k (which r i c k e)
          go (inr stays) =
              let (q, j, h) = y.all r i stays in
              (q, j, kept_border q j (ap (partner L) h ∙ z), same j (sym h) z)
