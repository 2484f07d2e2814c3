-- Document 02, point 6, as theorems about runs of split: what it refuses, that of a new list only 9 can be said, and what it leaves. What every edit
-- promises stands in `Edits`.
-- Assumes nothing.
use Rattle.std.specs.Prelude.{◌≡◌, Bool, true, ◌↔◌, List, ℕ, ◌+◌, ◌*◌, ◌≤◌, ◌<◌, T, Float, length}
use Rattle.std.proofs.Math.Path.{ap}
use Rattle.std.proofs.Common.{sym, ◌∙◌, inl, inr, arith}
use Rattle.lists.specs.TestLaws.{true_of, false_of, means_not}
use Rattle.lists.specs.SearchLaws.{le_or_lt}
use Rattle.rules.specs.Elements.{elements}
use Rattle.rules.specs.Pairing.{Accepted, sizes_fit}
use Rattle.rules.specs.Tables.{partner, borders, columns, edges}
use Rattle.rules.specs.Refusals.{Answer, gives, refused, list_answer, room_check, after}
use Rattle.rules.specs.Queries.{Mesh}
use Rattle.edit_rules.specs.Edits.{becomes, refuses, Lent, held, is_there, edit_sizes, edit_lengths}
use Rattle.edit_rules.specs.Split.{is_splittable, has_points, can_hold, split, placed, split_points}
use Rattle.theory.specs.FitRows.{means_sizes}
use Rattle.theory.specs.Answers.{room_enough, room_short, gives_refused}
use Rattle.theory.specs.Orders.{Good, good}
use Rattle.theory.specs.Splitting.{Splittable, means_splittable, split_fours}
use Rattle.theory.specs.Splitting.{same_columns as columns_stay}
use Rattle.theory.specs.SplitAnswers.{split_accepted, split_answer_lem}
use Rattle.theory.specs.SplitCounts.{Grown, grown_inner, grown_border}
use Rattle.theory.specs.SplitTests.{Holds, means_hold, vertex, new, gone, unfit, full, splits, refuses_by, becomes_split}
use Rattle.runs.specs.Runs.{RecoverRun, SplitRun, LeftBy}
use Rattle.runs.proofs.Demand3.{list_counted}
use Rattle.runs.proofs.Edits as edits
use Rattle.runs.proofs.Edits.{There, means_there, mesh_in, Untouched}

-- a list that comes of an accepted one has fit sizes
pub split_sizes : (w : Lent) (P : List Float) (s : ℕ) {n : ℕ} {L : List ℕ} → Accepted w.n (held w) → split w P s ≡ becomes n L → T (sizes_fit n L)
split_sizes w P s old e =
    let x = becomes_split w P s e in
    let fours = split_fours w.n (held w) (good w.n (held w) old).fit s x.splittable (vertex w) in
    let sizes = (means_sizes (vertex w) (new w s)).shows (x.holds.vertices, (x.holds.size, fours)) in
    rw (x.same_list, x.same_n) at sizes

module _ (w : Lent) (P : List Float) (s : ℕ) (a : Answer) (w' : Lent) (P' : List Float) (run : SplitRun w P s a w' P') where
  abbrev n : ℕ
  n = w.n

  abbrev L : List ℕ
  L = held w

  abbrev L' : List ℕ
  L' = new w s

  there_is : There L s → is_there L s ≡ true
  there_is t = true_of (is_there L s) ((means_there L s).shows t)

  -- a side that may be split is there
  split_there : Splittable L s → is_there L s ≡ true
  split_there x = there_is (inl x.side)

  may : Splittable L s → is_splittable L s ≡ true
  may x = true_of (is_splittable L s) ((means_splittable L s).shows x)

  edited : Splittable L s → Holds w P (vertex w) (elements L') → split w P s ≡ becomes (vertex w) L'
  edited x h = splits w P s (split_there x) (may x) (true_of (can_hold w P (vertex w) L') ((means_hold w P (vertex w) L').shows h))

  -- each refusal, where checks 1 and 2 find nothing and the old list is accepted; `edits.old_refused` is of one that isn't
  module _ (sizes : T (edit_sizes w)) (lengths : T (edit_lengths w (has_points n P))) (old : Accepted n L) where
    turned_away : {r : ℕ} → split w P s ≡ refuses r → a ≡ refused r 0 0
    turned_away = edits.edit_refused (split w P s) w a w' run.edit sizes lengths old

    pub gives_11 : (There L s → ⊥) → a ≡ refused 11 0 0
    gives_11 f = turned_away (gone w P s (false_of (is_there L s) ((means_not (means_there L s)).shows f)))

    -- "15 is given here only for a quadrilateral or for a border code; a border side may be split"
    pub gives_15 : There L s → (Splittable L s → ⊥) → a ≡ refused 15 0 0
    gives_15 t f = turned_away (unfit w P s (there_is t) (false_of (is_splittable L s) ((means_not (means_splittable L s)).shows f)))

    module _ (x : Splittable L s) where
      -- "19: n or m would pass its maximum, or a lent buffer but B2e can't hold the new length"
      pub gives_19 : (Holds w P (vertex w) (elements L') → ⊥) → a ≡ refused 19 0 0
      gives_19 f =
          let short = false_of (can_hold w P (vertex w) L') ((means_not (means_hold w P (vertex w) L')).shows f) in
          turned_away (full w P s (split_there x) (may x) short)

      -- of the new list only 9 can be said, "by the new k"
      module _ (h : Holds w P (vertex w) (elements L')) where
        counts : a ≡ room_check (length w.border) (gives (borders L') (edges L'))
        counts =
            edits.new_answer_lem (split w P s) w a w' run.edit sizes lengths old (edited x h)
            ∙ ap (room_check (length w.border)) (split_answer_lem n L old s x h.vertices h.size)

        pub gives_9 : length w.border < borders L' → a ≡ refused 9 (borders L') 0
        gives_9 short = counts ∙ room_short (length w.border) (borders L') (edges L') short

        pub gives_counts : borders L' ≤ length w.border → a ≡ gives (borders L') (edges L')
        gives_counts room = counts ∙ room_enough (length w.border) (borders L') (edges L') room

        pub only_nine : {r p q : ℕ} → a ≡ refused r p q → r ≡ 9
        only_nine {r} e = elim (le_or_lt (borders L') (length w.border)) [
          | inl room ↦ absurd (gives_refused (sym (gives_counts room) ∙ e))
          | inr short ↦ let f = sym (gives_9 short) ∙ e in cc
        ]

  -- n + 1 entries of B2e are always enough
  pub never_nine : n + 1 ≤ length w.border → (p q : ℕ) → a ≡ refused 9 p q → ⊥
  never_nine long = edits.never_nine (split w P s) w a w' run.edit own sized
    where
      own : (r : ℕ) → split w P s ≡ refuses r → r ≡ 9 → ⊥
      own r e z = elim (refuses_by w P s e) [ inl i ↦ omega arith | inr j ↦ elim j [ inl i ↦ omega arith | inr i ↦ omega arith ] ]

      sized : (n' : ℕ) (M : List ℕ) → Accepted n L → split w P s ≡ becomes n' M → T (sizes_fit n' M) × (n' ≤ length w.border)
      sized n' M old e = (split_sizes w P s old e, omega (arith, (becomes_split w P s e).same_n))

  -- an answer, exactly where none of the refusals is due
  pub record Answered (k e : ℕ) : Type 0 where
    pub sizes : T (edit_sizes w)
    pub lengths : T (edit_lengths w (has_points n P))
    pub old : Accepted n L
    pub splittable : Splittable L s
    pub holds : Holds w P (vertex w) (elements L')
    pub borders_are : k ≡ borders L'
    pub edges_are : e ≡ edges L'
    pub room : k ≤ length w.border

  pub answered : {k e : ℕ} → (a ≡ gives k e) ↔ Answered k e
  answered {k} {e} = (
    (λ gave.
        let y = edits.answered (split w P s) w a w' run.edit gave in
        let x = becomes_split w P s y.edited in
        let h = x.holds in
        let old = (list_counted n L (edits.held_sizes w _ y.sizes y.lengths) _ _ y.old).0 in
        let new = split_answer_lem n L old s x.splittable h.vertices h.size in
        let same : gives (borders L') (edges L') ≡ gives k e = sym new ∙ (λ i. list_answer (x.same_n i) (x.same_list i)) ∙ y.new in
        record {
          sizes = y.sizes;
          lengths = y.lengths;
          old = old;
          splittable = x.splittable;
          holds = h;
          borders_are = cc;
          edges_are = cc;
          room = y.room;
        }),
    (λ y.
        gives_counts y.sizes y.lengths y.old y.splittable y.holds (omega (arith, y.room, y.borders_are))
        ∙ (λ i. gives (sym y.borders_are i) (sym y.edges_are i))),
  )

  -- a refusal leaves the points too as they were
  pub points_stay : {r p q : ℕ} → a ≡ refused r p q → P' ≡ P
  unfolding split_points after
  points_stay e = run.points ∙ ap (λ (y : Answer). after y (placed w P s) P) (sym run.edit.answer ∙ e)

  module _ {k e : ℕ} (gave : a ≡ gives k e) where
    y : Answered k e
    y = answered.0 gave

    g : Good n L
    g = good n L y.old

    pub accepted : Accepted (n + 1) L'
    accepted = split_accepted n L y.old s y.splittable y.holds.vertices y.holds.size

    made : split w P s ≡ becomes (n + 1) L'
    made = edited y.splittable y.holds

    -- what is held then: the new list, which is accepted, with the tables that build gives of it
    pub list_left : held w' ≡ L'
    list_left = ap (λ (M : Mesh). M.list) (edits.tables_left (split w P s) w a w' run.edit gave made accepted y.borders_are)

    pub as_built : LeftBy (n + 1) L' (mesh_in w' k)
    as_built = edits.as_built (split w P s) w a w' run.edit gave made accepted y.borders_are

    -- recovery of the tables left gives the list left
    pub comes_back : (list work : List ℕ) (b : Answer) (list' work' : List ℕ)
        → RecoverRun w'.n w'.m (mesh_in w' k).vertices (mesh_in w' k).opposites list work b list' work'
        → length list ≡ 4 * w'.m → w'.n + 16 * w'.m ≤ length work → (b ≡ gives 0 0) × (list' ≡ held w')
    comes_back = edits.comes_back (split w P s) w a w' run.edit gave made accepted y.borders_are

    -- the number of columns stays
    pub same_columns : columns (held w') ≡ columns L
    same_columns = ap columns list_left ∙ columns_stay n L g.fit s y.splittable (n + 1)

    pub one_more : w'.n ≡ n + 1
    one_more = edits.same_n (split w P s) w a w' run.edit gave made accepted y.borders_are

    -- n, m, k and the number of edges grow by 1, 2, 0 and 3 on an inner side, and by 1, 1, 1 and 2 on a border side
    pub record GrownBy (m' k' e' : ℕ) : Type 0 where
      pub vertices : w'.n ≡ n + 1
      pub elements : w'.m ≡ w.m + m'
      pub borders : k ≡ borders L + k'
      pub edges : e ≡ edges L + e'

    grown_by : {m' k' e' : ℕ} → Grown L L' m' k' e' → GrownBy m' k' e'
    grown_by {m'} x =
        let (long, rows) = edits.held_rows w _ y.sizes y.lengths in
        record {
          vertices = one_more;
          elements =
              edits.same_m (split w P s) w a w' run.edit gave made accepted y.borders_are ∙ x.elements_by ∙ ap (λ (i : ℕ). i + m') rows;
          borders = y.borders_are ∙ x.borders_by;
          edges = y.edges_are ∙ x.edges_by;
        }

    pub inner_grows : (partner L s ≡ 0 → ⊥) → GrownBy 2 0 3
    inner_grows z = grown_by (grown_inner n L g y.old.meeting s y.splittable y.holds.vertices y.holds.size z)

    pub border_grows : partner L s ≡ 0 → GrownBy 1 1 2
    border_grows z = grown_by (grown_border n L g y.old.meeting s y.splittable y.holds.vertices y.holds.size z)

    -- "entries past both the old and the new length stay untouched"
    pub untouched : Untouched w w' k
    untouched = edits.untouched (split w P s) w a w' run.edit gave made accepted y.borders_are

    -- checks 1 and 2 of the next edit find nothing, whatever else it is lent
    pub fit_still : (others : Bool) → T others → T (edit_sizes w') × T (edit_lengths w' others) × (length w'.border ≡ length w.border)
    fit_still =
        let h = y.holds in
        let same = columns_stay n L g.fit s y.splittable (n + 1) in
        let wide : columns L' * elements L' ≡ columns L * elements L' = ap (λ (c : ℕ). c * elements L') same in
        let long = split_fours n L g.fit s y.splittable (n + 1) in
        edits.fit_still (split w P s) w a w' run.edit gave made accepted y.borders_are y.sizes y.lengths
        (omega (arith, h.list, long)) h.v2e (omega (arith, h.e2e, wide)) y.room h.work
