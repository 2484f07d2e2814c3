-- What the call answers, and what it leaves in the list, by cases.
-- Assumes nothing.
use Rattle.std.specs.Prelude.{◌≡◌, true, false, List, ◌++◌, leb, length, drop}
use Rattle.std.proofs.Math.Path.{ap, sym}
use Rattle.std.proofs.Common.{◌∙◌}
use Prim.Native.Nat.{ℕ, ◌*◌, ◌≤◌, ◌<◌, min}
use native.Mathlib.Omega.{arith}
use borrow.Author.Tests.{eq-eqb, ne_eqb, le-leb, lt-leb}
use Rattle.lists.specs.Search.{tab}
use Rattle.lists.specs.SearchLaws.{length_tab}
use Rattle.rules.specs.Elements.{max_vertex, max_element}
use Rattle.rules.specs.Refusals.{Answer, gives, refused, check_found, after, onto}
use Rattle.off_rules.specs.Off.{Item, items, the_n, the_m, in_form, bad_line, unfit_face, corner_entry, element_list, items_answer, off_answer, off_leaves}
use Rattle.off_items.specs.Parting.{line_at}
use Rattle.off.specs.Judging.{BadAt}

module _ (t L : List ℕ) where
  abbrev x : List Item
  x = items t

  abbrev pub Answered : Answer → List ℕ → Type 0
  Answered a L' = (a ≡ off_answer t L) × (L' ≡ off_leaves t L)

  -- a refusal leaves the list
  refuses : {a : Answer} {r p q : ℕ} → off_answer t L ≡ refused r p q → a ≡ refused r p q → Answered a L
  unfolding off_leaves after
  refuses e f = (f ∙ sym e, rw e)

  pub not_in_form : {a : Answer} {p l : ℕ} → BadAt t p → l ≡ min (line_at t p) 268_435_455 → a ≡ refused 16 l 0 → Answered a L
  unfolding off_answer items_answer bad_line
  not_in_form bad e f =
      let z = e ∙ ap (λ (i : ℕ). min i 268_435_455) bad.line in
      refuses (rw (bad.form, items_answer)) (f ∙ ap (λ (i : ℕ). refused 16 i 0) z)

  module _ (form : in_form x ≡ true) where
    -- a count over its maximum
    pub many_vertices : {a : Answer} {n : ℕ} → n ≡ the_n x → max_vertex < n → a ≡ refused 1 0 0 → Answered a L
    unfolding off_answer items_answer
    many_vertices e h = refuses (rw (form, items_answer, lt-leb (the_n x) max_vertex (omega arith)))

    module _ {n m : ℕ} (vertices : n ≡ the_n x) (faces : m ≡ the_m x) (few : n ≤ max_vertex) where
      pub many_faces : {a : Answer} → max_element < m → a ≡ refused 1 0 0 → Answered a L
      unfolding off_answer items_answer
      many_faces h =
          refuses (rw (form, items_answer, le-leb (the_n x) max_vertex (omega arith), lt-leb (the_m x) max_element (omega arith)))

      module _ (few_faces : m ≤ max_element) {unfit : ℕ} (first : unfit ≡ unfit_face x) where
        counted : off_answer t L ≡ check_found (unfit_face x) (refused 17 (unfit_face x) 0)
            (elim (leb (4 * the_m x) (length L)) [ true ↦ gives (the_n x) (the_m x) | false ↦ refused 13 (4 * the_m x) 0 ])
        unfolding off_answer items_answer
        counted = rw (form, items_answer, le-leb (the_n x) max_vertex (omega arith), le-leb (the_m x) max_element (omega arith))

        pub unfit_there : {a : Answer} → (unfit ≡ 0 → ⊥) → a ≡ refused 17 unfit 0 → Answered a L
        unfolding check_found
        unfit_there d f =
            refuses (counted ∙ rw (ne_eqb (unfit_face x) 0 (λ z. d (first ∙ z)), check_found)) (f ∙ ap (λ (i : ℕ). refused 17 i 0) first)

        module _ (none : unfit ≡ 0) {k : ℕ} (needed : k ≡ 4 * m) where
          all_fit : off_answer t L ≡ elim (leb (4 * the_m x) (length L)) [ true ↦ gives (the_n x) (the_m x) | false ↦ refused 13 (4 * the_m x) 0 ]
          unfolding check_found
          all_fit = counted ∙ rw (eq-eqb (unfit_face x) 0 (sym first ∙ none), check_found)

          pub list_short : {a : Answer} → length L < k → a ≡ refused 13 k 0 → Answered a L
          list_short h f =
              let z : k ≡ 4 * the_m x = omega arith in
              refuses (all_fit ∙ rw (lt-leb (4 * the_m x) (length L) (omega arith))) (f ∙ ap (λ (i : ℕ). refused 13 i 0) z)

          pub all_written : {a : Answer} {L' : List ℕ} → k ≤ length L → L' ≡ tab k (corner_entry x) ++ drop k L → a ≡ gives n m → Answered a L'
          unfolding off_leaves after onto element_list
          all_written h w f =
              let z : k ≡ 4 * the_m x = omega arith in
              let e : off_answer t L ≡ gives (the_n x) (the_m x) = all_fit ∙ rw (le-leb (4 * the_m x) (length L) (omega arith)) in
              (f ∙ ap (λ (i : ℕ). gives i m) vertices ∙ ap (gives (the_n x)) faces ∙ sym e, w ∙ rw (e, z, length_tab (4 * the_m x) (corner_entry x)))
