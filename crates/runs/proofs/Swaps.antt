-- Document 02, point 1, as theorems about runs of swap: "It is refused, list and tables unchanged, exactly when the old or new list is refused by
-- build, the half-edge named isn't there (11), or by number 15." What every edit promises stands in `Edits`.
-- Assumes nothing.
use Rattle.std.specs.Prelude.{◌≡◌, true, ◌⊎◌, ◌↔◌, List, ℕ, ◌+◌, ◌*◌, ◌/◌, ◌%◌, ◌≤◌, T, length}
use Rattle.std.proofs.Math.Path.{ap}
use Rattle.std.proofs.Common.{sym, ◌∙◌, inl, inr, arith}
use Rattle.lists.specs.TestLaws.{decide, true_of, false_of, means_not, means_eq}
use Rattle.rules.specs.Elements.{elements}
use Rattle.rules.specs.Pairing.{Accepted, sizes_fit}
use Rattle.rules.specs.Tables.{partner, borders, columns, edges}
use Rattle.rules.specs.Refusals.{Answer, gives, refused, Buffers, crowded_side, list_answer, build_lengths, room_check}
use Rattle.rules.specs.Queries.{Mesh}
use Rattle.edit_rules.specs.Edits.{Edited, becomes, Lent, held, is_there, edit_sizes, edit_lengths, edit_answer, edit_leaves}
use Rattle.edit_rules.specs.Swap.{third, swapped, is_swappable, swap}
use Rattle.theory.specs.FitRows.{means_sizes}
use Rattle.theory.specs.Orders.{Good, good}
use Rattle.theory.specs.Replacing.{Replaced, same_size, same_columns}
use Rattle.theory.specs.Counts.{same_borders, same_edges}
use Rattle.theory.specs.Swapping.{Diagonal, means_swappable, swapped_replaced}
use Rattle.theory.specs.SwapBack.{other_diagonal, swapped_alike, crossed}
use Rattle.theory.specs.SwapRefusals.{Unjoined, swapped_crowded, swapped_clashes}
use Rattle.swap.specs.Swaps.{gone, unfit, swaps, refuses_by, becomes_swapped}
use Rattle.runs.specs.Runs.{BuildRun, RecoverRun, SwapRun, LeftBy}
use Rattle.runs.proofs.Demand3.{list_counted}
use Rattle.runs.proofs.Edits as edits
use Rattle.runs.proofs.Edits.{There, means_there, mesh_in, Untouched}

-- a diagonal is there, and is swapped
diagonal_swaps : (n : ℕ) (L : List ℕ) (s : ℕ) → Diagonal L s → swap n L s ≡ becomes n (swapped L s)
diagonal_swaps n L s d =
    swaps n L s (true_of (is_there L s) ((means_there L s).shows (inl d.side))) (true_of (is_swappable L s) ((means_swappable L s).shows d))

-- the two counts, and the sizes, stay
module _ (n : ℕ) (L : List ℕ) (s : ℕ) (old : Accepted n L) (d : Diagonal L s) where
  g : Good n L
  g = good n L old

  pub replaced : Replaced L (swapped L s) (s / 8) (partner L s / 8)
  replaced = swapped_replaced n L g.fit s d

  pub new_sizes : T (sizes_fit n (swapped L s))
  new_sizes =
      let fit = g.fit in
      let m = same_size replaced in
      (means_sizes n (swapped L s)).shows (fit.vertices, (omega (arith, fit.size, m), omega (arith, fit.fours, m, replaced.long)))

  module _ (new : Accepted n (swapped L s)) where
    pub borders_stay : borders (swapped L s) ≡ borders L
    borders_stay = same_borders (crossed n L g.fit s d) n g (good n (swapped L s) new)

    pub edges_stay : edges (swapped L s) ≡ edges L
    edges_stay = same_edges (crossed n L g.fit s d) n g (good n (swapped L s) new)

module _ (w : Lent) (s : ℕ) (a : Answer) (w' : Lent) (run : SwapRun w s a w') where
  abbrev n : ℕ
  n = w.n

  abbrev L : List ℕ
  L = held w

  abbrev L' : List ℕ
  L' = swapped L s

  abbrev x : Edited
  x = swap n L s

  -- each refusal, where checks 1 and 2 find nothing and the old list is accepted; `edits.old_refused` is of one that isn't
  module _ (sizes : T (edit_sizes w)) (lengths : T (edit_lengths w true)) (old : Accepted n L) where
    pub gives_11 : (There L s → ⊥) → a ≡ refused 11 0 0
    gives_11 f =
        edits.edit_refused x w a w' run sizes lengths old (gone n L s (false_of (is_there L s) ((means_not (means_there L s)).shows f)))

    -- "15: the side, or the code given, is a border or either element is a quadrilateral"
    pub gives_15 : There L s → (Diagonal L s → ⊥) → a ≡ refused 15 0 0
    gives_15 t f =
        let there = true_of (is_there L s) ((means_there L s).shows t) in
        let other = false_of (is_swappable L s) ((means_not (means_swappable L s)).shows f) in
        edits.edit_refused x w a w' run sizes lengths old (unfit n L s there other)

    -- a diagonal: what a run of build says of the new list
    pub new_tried : Diagonal L s → (u u' : Buffers) (b : Answer) → BuildRun n L' u b u' → T (build_lengths n L' u)
        → length u.border ≡ length w.border → a ≡ b
    new_tried d u u' b built fit room =
        edits.new_tried x w a w' run sizes lengths old (diagonal_swaps n L s d) u u' b built (new_sizes n L s old d) fit room

    -- so 6 comes where a side joins c and d, the ends of the new diagonal, already, and else only 18 and 9
    module _ (d : Diagonal L s) where
      of_new : a ≡ room_check (length w.border) (list_answer n L')
      of_new = edits.new_answer_lem x w a w' run sizes lengths old (diagonal_swaps n L s d)

      pub gives_6 : (Unjoined L (third L s) (third L (partner L s)) → ⊥) → (p : ℕ) × (q : ℕ) × (a ≡ refused 6 p q)
      unfolding room_check
      gives_6 f =
          let r = crowded_side L' in
          (r / 8, r % 8, of_new ∙ ap (room_check (length w.border)) (swapped_crowded n L old s d f))

      pub otherwise : Unjoined L (third L s) (third L (partner L s)) → {r p q : ℕ} → a ≡ refused r p q → (r ≡ 18) ⊎ (r ≡ 9)
      otherwise f {r} e = elim (decide (means_eq r 9)) [
        | inl z ↦ inr z
        | inr z ↦ inl (swapped_clashes n L old s d f (edits.not_by_room (length w.border) (list_answer n L') (sym of_new ∙ e) z))
      ]

  -- n entries of B2e are always enough
  pub never_nine : n ≤ length w.border → (p q : ℕ) → a ≡ refused 9 p q → ⊥
  never_nine long = edits.never_nine x w a w' run (λ r e z. elim (refuses_by n L s e) [ inl i ↦ omega arith | inr i ↦ omega arith ]) sized
    where
      sized : (n' : ℕ) (M : List ℕ) → Accepted n L → x ≡ becomes n' M → T (sizes_fit n' M) × (n' ≤ length w.border)
      sized n' M old e =
          let (d, vertices, same) = becomes_swapped n L s e in
          let both : T (sizes_fit n L') × (n ≤ length w.border) = (new_sizes n L s old d, long) in
          rw (same, vertices) at both

  -- an answer, exactly where none of the refusals is due
  pub record Swaps (k e : ℕ) : Type 0 where
    pub sizes : T (edit_sizes w)
    pub lengths : T (edit_lengths w true)
    pub old : Accepted n L
    pub diagonal : Diagonal L s
    pub new : Accepted n L'
    pub borders_are : k ≡ borders L'
    pub edges_are : e ≡ edges L'
    pub room : k ≤ length w.border

  pub answered : {k e : ℕ} → (a ≡ gives k e) ↔ Swaps k e
  answered {k} {e} = (
    (λ gave.
        let y = edits.answered x w a w' run gave in
        let (d, vertices, same) = becomes_swapped n L s y.edited in
        let (old, counts) = list_counted n L (edits.held_sizes w true y.sizes y.lengths) _ _ y.old in
        let (new, (b, i)) = list_counted n L' (new_sizes n L s old d) k e (rw (← vertices, ← same) at y.new) in
        record { sizes = y.sizes; lengths = y.lengths; old = old; diagonal = d; new = new; borders_are = b; edges_are = i; room = y.room }),
    (λ y.
        let f = edits.answers x w a w' run y.sizes y.lengths y.old (diagonal_swaps n L s y.diagonal) y.new (omega (arith, y.room, y.borders_are)) in
        f ∙ (λ i. gives (sym y.borders_are i) (sym y.edges_are i))),
  )

  module _ {k e : ℕ} (gave : a ≡ gives k e) where
    y : Swaps k e
    y = answered.0 gave

    edited : x ≡ becomes n L'
    edited = diagonal_swaps n L s y.diagonal

    -- what is held then: the new list, which is accepted, with the tables that build gives of it
    pub list_left : held w' ≡ L'
    list_left = ap (λ (M : Mesh). M.list) (edits.tables_left x w a w' run gave edited y.new y.borders_are)

    pub as_built : LeftBy n L' (mesh_in w' k)
    as_built = edits.as_built x w a w' run gave edited y.new y.borders_are

    -- recovery of the tables left gives the list left
    pub comes_back : (list work : List ℕ) (b : Answer) (list' work' : List ℕ)
        → RecoverRun w'.n w'.m (mesh_in w' k).vertices (mesh_in w' k).opposites list work b list' work'
        → length list ≡ 4 * w'.m → w'.n + 16 * w'.m ≤ length work → (b ≡ gives 0 0) × (list' ≡ held w')
    comes_back = edits.comes_back x w a w' run gave edited y.new y.borders_are

    -- n, m, k and the number of edges stay
    pub sizes_stay : (w'.n ≡ n) × (w'.m ≡ w.m)
    sizes_stay =
        let (long, rows) = edits.held_rows w true y.sizes y.lengths in (
          edits.same_n x w a w' run gave edited y.new y.borders_are,
          edits.same_m x w a w' run gave edited y.new y.borders_are ∙ same_size (replaced n L s y.old y.diagonal) ∙ rows,
        )

    pub counts_stay : (k ≡ borders L) × (e ≡ edges L)
    counts_stay = (
      y.borders_are ∙ borders_stay n L s y.old y.diagonal y.new,
      y.edges_are ∙ edges_stay n L s y.old y.diagonal y.new,
    )

    -- what lies past list and tables stays
    pub untouched : Untouched w w' k
    untouched = edits.untouched x w a w' run gave edited y.new y.borders_are

    -- and the next edit finds what it needs
    pub fit_still : T (edit_sizes w') × T (edit_lengths w' true) × (length w'.border ≡ length w.border)
    fit_still =
        let r = replaced n L s y.old y.diagonal in
        let (long, rows) = edits.held_rows w true y.sizes y.lengths in
        let (list, vertices, opposites, work) = edits.enough w true y.sizes y.lengths in
        let wide : columns L' * elements L' ≡ columns L * w.m = λ i. same_columns r i * (same_size r ∙ rows) i in
        edits.fit_still x w a w' run gave edited y.new y.borders_are y.sizes y.lengths
        (omega (arith, r.long)) vertices (omega (arith, wide)) y.room (omega (arith, same_size r)) true tt

-- a diagonal named from its other side: the same answer, and the same is left
pub either_side : (w : Lent) (s : ℕ) (a b : Answer) (u v : Lent) → SwapRun w s a u → SwapRun w (partner (held w) s) b v
    → Accepted w.n (held w) → Diagonal (held w) s → (b ≡ a) × (v ≡ u)
either_side w s a b u v run other old d =
    let h = good w.n (held w) old in
    let e : swap w.n (held w) (partner (held w) s) ≡ swap w.n (held w) s =
    diagonal_swaps w.n (held w) (partner (held w) s) (other_diagonal w.n (held w) h s d)
    ∙ ap (becomes w.n) (swapped_alike w.n (held w) h s d)
    ∙ sym (diagonal_swaps w.n (held w) s d) in
    (other.answer ∙ ap (edit_answer w true) e ∙ sym run.answer, other.leaves ∙ ap (edit_leaves w true) e ∙ sym run.leaves)
