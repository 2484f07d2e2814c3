-- Document 02, point 12, as theorems about runs of the call: "Only checks 1 to 4 apply"; "Following the map from a side meets exactly the
-- sides of its vertex pair, each time round. Where build also accepts, opposite and sibling agree on paired sides."
-- Assumes nothing.
use Rattle.std.proofs.Math.Path.{◌≡◌, ap, sym}
use Rattle.std.proofs.Common.{◌∙◌, inl, inr}
use Rattle.std.specs.Prelude.{Bool, ◌⊎◌, ◌↔◌, List, ℕ, suc, ◌+◌, ◌*◌, ◌-◌, ◌/◌, ◌≤◌, ◌<◌, T, length}
use Rattle.std.proofs.Math.Bool.{true, false}
use native.Mathlib.Omega.{arith}
use Rattle.std.proofs.Math.Dec.{not_T}
use Rattle.lists.specs.TestLaws.{true_of, false_of, passes, means_eq, zero_or}
use Rattle.lists.specs.Search.{at}
use Rattle.lists.specs.SearchLaws.{at_tab}
use Rattle.rules.specs.Elements.{elements, sides, is_side, Side, slot, side_at}
use Rattle.rules.specs.Pairing.{Pairing, Element, sizes_fit, unfit_corner, repeated_corner, rows_fit}
use Rattle.rules.specs.Tables.{partner, is_border, columns, e2e_slot, least_side}
use Rattle.rules.specs.Refusals.{Answer, gives, refused, length_checks, row_checks, after}
use Rattle.rules.specs.Siblings.{sibling, sibling_entry, sibhe, v2he, SiblingBuffers, sibling_lengths, siblings_answer, siblings_leaves}
use Rattle.rules.specs.Queries.{Mesh, found, is_half_edge, opposite, opposite_answer}
use Rattle.theory.specs.Sides.{side_facts, side_at_slot, slot_below}
use Rattle.theory.specs.FitRows.{Fit, means_fit}
use Rattle.theory.specs.Entries.{wide_paired}
use Rattle.theory.specs.Columns.{at_side}
use Rattle.theory.specs.Orders.{good}
use Rattle.theory.specs.Opposites.{opposite_paired}
use Rattle.theory.specs.Answers.{check_clear, check_refuses, rows_clear, past_lengths, fit_passed, fit_rows_clear}
use Rattle.theory.specs.SiblingUses.{paired_sibling, own_border}
use Rattle.theory.specs.Rounds.{Rounds, rounds}
use Rattle.runs.specs.Runs.{SiblingsRun, LeftBy}
use Rattle.runs.proofs.OnBuilt.{passed, left_accepted, left_built, left_served}

module _ (n : ℕ) (L : List ℕ) (w : SiblingBuffers) (a : Answer) (w' : SiblingBuffers) (run : SiblingsRun n L w a w') where
  -- an answer is 0, 0, and the rows were fit
  pub answered : {p q : ℕ} → a ≡ gives p q → (a ≡ gives 0 0) × T (rows_fit n L)
  unfolding siblings_answer
  answered g =
      let (s, l, f) = past_lengths (sizes_fit n L) (sibling_lengths n L w) _ _ _ (sym run.answer ∙ g) in
      let fit = (means_fit n L).shows (fit_passed n L (gives 0 0) s f) in
      (g ∙ sym f ∙ fit_rows_clear n L fit (gives 0 0), fit)

  -- with fit lengths there is an answer exactly where the rows are fit, whatever else build would refuse
  pub answers : T (sizes_fit n L) → T (sibling_lengths n L w) → (a ≡ gives 0 0) ↔ T (rows_fit n L)
  unfolding siblings_answer length_checks
  answers s l = (
    (λ g. (answered g).1),
    (λ fit. run.answer ∙ (rw (true_of (sizes_fit n L) s, true_of (sibling_lengths n L w) l, length_checks) (fit_rows_clear n L fit (gives 0 0)))),
  )

  -- and no refusal above 4
  pub refused_early : {r p q : ℕ} → a ≡ refused r p q → (1 ≤ r) × (r ≤ 4)
  unfolding siblings_answer length_checks
  refused_early {r} {p} {q} e =
      go (sizes_fit n L) (sibling_lengths n L w) (zero_or (unfit_corner n L)) (zero_or (repeated_corner L)) (sym run.answer ∙ e)
    where
      go : (s l : Bool) → (unfit_corner n L ≡ 0) ⊎ (unfit_corner n L ≡ 0 → ⊥) → (repeated_corner L ≡ 0) ⊎ (repeated_corner L ≡ 0 → ⊥) →
          length_checks s l (row_checks n L (gives 0 0)) ≡ refused r p q → (1 ≤ r) × (r ≤ 4)
      go false l x y f = let z : r ≡ 1 = cc in omega arith
      go true false x y f = let z : r ≡ 2 = cc in omega arith
      go true true (inr d) y f = let g = sym (check_refuses _ _ _ d) ∙ f in let z : r ≡ 3 = cc in omega arith
      go true true (inl x) (inr d) f =
          let g = sym (check_clear _ _ _ x ∙ check_refuses _ _ _ d) ∙ f in let z : r ≡ 4 = cc in omega arith
      go true true (inl x) (inl y) f =
          let g = sym (rows_clear n L _ x y) ∙ f in let z : ◌≡◌ {A = ℕ} 0 1 = cc in absurd (omega arith)

  -- a refusal leaves both maps as they were
  pub refusal_keeps : {r p q : ℕ} → a ≡ refused r p q → (w'.vertices ≡ w.vertices) × (w'.siblings ≡ w.siblings)
  unfolding siblings_leaves after
  refusal_keeps e =
      let f = sym run.answer ∙ e in (
        ap (λ (b : SiblingBuffers). b.vertices) run.leaves ∙ ap (λ (x : Answer). after x (v2he n L) w.vertices) f,
        ap (λ (b : SiblingBuffers). b.siblings) run.leaves ∙ ap (λ (x : Answer). after x (sibhe L) w.siblings) f,
      )

  module _ (gave : a ≡ gives 0 0) where
    fit : Fit n L
    fit = (means_fit n L).says (answered gave).1

    given : siblings_answer n L w ≡ gives 0 0
    given = sym run.answer ∙ gave

    -- the entry of a vertex is its least side
    pub vertex_entry : (v : ℕ) → 1 ≤ v → v ≤ n → at w'.vertices (v - 1) ≡ least_side L v
    unfolding siblings_leaves after v2he
    vertex_entry v l h =
        let e : v - 1 + 1 ≡ v = omega arith in
        ap (λ (b : SiblingBuffers). at b.vertices (v - 1)) run.leaves
        ∙ ap (λ (x : Answer). at (after x (v2he n L) w.vertices) (v - 1)) given
        ∙ at_tab n (λ i. least_side L (i + 1)) (v - 1) (omega arith)
        ∙ ap (least_side L) e

    entry : (p : ℕ) → p < length L → at w'.siblings p ≡ sibling_entry L (side_at p)
    unfolding siblings_leaves after sibhe
    entry p h =
        ap (λ (b : SiblingBuffers). at b.siblings p) run.leaves
        ∙ ap (λ (x : Answer). at (after x (sibhe L) w.siblings) p) given
        ∙ at_tab (4 * elements L) (λ p. sibling_entry L (side_at p)) p (omega (arith, fit.fours))

    -- that of a side its sibling
    pub side_entry : (s : ℕ) → Side L s → at w'.siblings (slot s) ≡ sibling L s
    unfolding sibling_entry
    side_entry s b =
        entry (slot s) (slot_below L s b) ∙ ap (sibling_entry L) (side_at_slot L s b) ∙ (rw (true_of (is_side L s) b, sibling_entry))

    -- the fourth of a triangle 0
    pub fourth_entry : (f : ℕ) → Element L f → sides L f ≡ 3 → at w'.siblings (4 * (f - 1) + 3) ≡ 0
    unfolding sibling_entry side_at
    fourth_entry f (l, h) e =
        let s = side_at (4 * (f - 1) + 3) in
        let own : s / 8 ≡ f = omega arith in
        let none : Side L s → ⊥ = λ b. omega (arith, (side_facts L s b).number_to, ap (sides L) own ∙ e) in
        entry (4 * (f - 1) + 3) (omega (arith, fit.fours)) ∙ (rw (false_of (is_side L s) (not_T (is_side L s) none), sibling_entry))

    -- following the map from a side meets exactly the sides of its two vertices, each once in every round, however many they are
    pub followed : (s : ℕ) (cs : ℕ → ℕ) → Side L s → cs 0 ≡ s → ((j : ℕ) → cs (suc j) ≡ at w'.siblings (slot (cs j))) → Rounds L s cs
    followed s cs b begins steps = rounds L s b cs begins (λ j c. steps j ∙ side_entry (cs j) c)

    -- on the tables that a run of build left of the same list
    module _ (M : Mesh) (x : LeftBy n L M) (s : ℕ) (b : Side L s) where
      pairs : Pairing L (partner L)
      pairs = (good n L (left_accepted n L M x)).pairing

      paired : (T (is_border L s) → ⊥) → partner L s ≡ 0 → ⊥
      unfolding is_border
      paired d z = d ((means_eq (partner L s) 0).shows z)

      -- the E2e entry of a paired side is its sibling, and so is its opposite
      pub entry_agrees : (T (is_border L s) → ⊥) → at M.opposites (e2e_slot (columns L) s) ≡ at w'.siblings (slot s)
      entry_agrees d =
          ap (λ (N : Mesh). at N.opposites (e2e_slot (columns L) s)) (left_built n L M x)
          ∙ at_side L s b
          ∙ wide_paired L s b (paired d)
          ∙ paired_sibling L pairs s b (paired d)
          ∙ sym (side_entry s b)

      pub opposite_agrees : (T (is_border L s) → ⊥) → (r : Answer) → r ≡ opposite_answer M s → r ≡ gives (at w'.siblings (slot s)) 0
      unfolding opposite_answer found
      opposite_agrees d r e =
          let on = left_served n L M x in
          e
          ∙ passed M on.checks (is_half_edge M s) (found (opposite M s)) ((on.reads.half_edges s).shows (inl b))
          ∙ ap (λ (N : Mesh). found (opposite N s)) (left_built n L M x)
          ∙ ap found (opposite_paired n L s b (paired d))
          ∙ ap (λ (t : ℕ). gives t 0) (paired_sibling L pairs s b (paired d) ∙ sym (side_entry s b))

      -- a side is its own sibling exactly where it is a border side
      pub own_at_border : (at w'.siblings (slot s) ≡ s) ↔ T (is_border L s)
      unfolding is_border
      own_at_border =
          let own = own_border L pairs s b n fit in
          let zero = means_eq (partner L s) 0 in
          ((λ e. zero.shows (own.0 (sym (side_entry s b) ∙ e))), (λ t. side_entry s b ∙ own.1 (zero.says t)))

  -- where build answers, with fit lengths this call does
  pub answers_built : (M : Mesh) → LeftBy n L M → T (sibling_lengths n L w) → a ≡ gives 0 0
  unfolding rows_fit
  answers_built M x l =
      let rows = (left_accepted n L M x).rows in (answers (passes (sizes_fit n L) _ rows).0 l).1 rows
