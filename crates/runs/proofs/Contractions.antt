-- Document 02, point 8, as theorems about runs of contract: what it refuses, that of a new list only 8, 18 and 9 can be said, and what it leaves.
-- What every edit promises stands in `Edits`.
-- Assumes nothing.
use Rattle.std.specs.Prelude.{◌≡◌, Bool, true, ◌⊎◌, ◌↔◌, List, ℕ, ◌+◌, ◌*◌, ◌-◌, ◌≤◌, ◌<◌, T, Float, length}
use Rattle.std.proofs.Math.Path.{ap}
use Rattle.std.proofs.Common.{sym, ◌∙◌, inl, inr, arith, mul-le-mul_left}
use Rattle.lists.specs.TestLaws.{true_of, false_of, decide, means_not, means_eq}
use Rattle.rules.specs.Elements.{elements, origin, destination}
use Rattle.rules.specs.Pairing.{Accepted, sizes_fit}
use Rattle.rules.specs.Tables.{partner, borders, columns, edges}
use Rattle.rules.specs.Refusals.{Answer, gives, refused, Buffers, build_lengths, list_answer, room_check, after}
use Rattle.rules.specs.Queries.{Mesh}
use Rattle.edit_rules.specs.Edits.{Edited, becomes, refuses, Lent, held, is_there, edit_sizes, edit_lengths}
use Rattle.edit_rules.specs.Split.{is_splittable, has_points}
use Rattle.edit_rules.specs.Contract.{merged, contracted, contract, without_point, contract_points}
use Rattle.theory.specs.FitRows.{Fit, means_sizes}
use Rattle.theory.specs.Answers.{room_short, accepted_answer}
use Rattle.theory.specs.Orders.{Good, good}
use Rattle.theory.specs.Splitting.{Splittable, means_splittable}
use Rattle.theory.specs.ContractTests.{Neighbours, Third, gone, unfit, pinched, stranded, contracts, refuses_by, becomes_contracted}
use Rattle.theory.specs.Using.{Used}
use Rattle.theory.specs.Contracting.{contracted_coarsened, contracted_columns}
use Rattle.theory.specs.Unpinched.{Unpinched, KeepsUsed, pinched_by, unpinched, says_unpinched, stranded_by, keeps_used, says_used}
use Rattle.theory.specs.ContractRefusals.{contracted_refused}
use Rattle.theory.specs.SplitCounts.{Grown}
use Rattle.theory.specs.ContractCounts.{fallen_inner, fallen_border}
use Rattle.runs.specs.Runs.{BuildRun, RecoverRun, ContractRun, LeftBy}
use Rattle.runs.proofs.Demand3.{list_counted}
use Rattle.runs.proofs.Edits as edits
use Rattle.runs.proofs.Edits.{There, means_there, mesh_in, Cleared, Untouched}

-- a list that comes of an accepted one has fit sizes
pub contract_sizes : (n : ℕ) (L : List ℕ) (s : ℕ) {n' : ℕ} {L' : List ℕ} → Accepted n L → contract n L s ≡ becomes n' L' → T (sizes_fit n' L')
contract_sizes n L s old e =
    let x = becomes_contracted n L s e in
    let fit = (good n L old).fit in
    let y = contracted_coarsened n L fit s x.splittable in
    let sizes =
    (means_sizes (n - 1) (contracted n L s)).shows (omega (arith, fit.vertices), (omega (arith, fit.size, y.fewer), y.fours)) in
    rw (x.same_list, x.same_n) at sizes

module _ (w : Lent) (P : List Float) (s : ℕ) (a : Answer) (w' : Lent) (P' : List Float) (run : ContractRun w P s a w' P') where
  abbrev n : ℕ
  n = w.n

  abbrev L : List ℕ
  L = held w

  abbrev L' : List ℕ
  L' = contracted n L s

  abbrev x : Edited
  x = contract n L s

  there_is : There L s → is_there L s ≡ true
  there_is t = true_of (is_there L s) ((means_there L s).shows t)

  -- a side beside triangles alone is there
  contract_there : Splittable L s → is_there L s ≡ true
  contract_there z = there_is (inl z.side)

  may : Splittable L s → is_splittable L s ≡ true
  may z = true_of (is_splittable L s) ((means_splittable L s).shows z)

  edited : Accepted n L → Splittable L s → Unpinched L s → KeepsUsed L s → x ≡ becomes (n - 1) L'
  edited old z free kept =
      let fit = (good n L old).fit in
      contracts n L s (contract_there z) (may z) (unpinched n L fit s free) (keeps_used n L fit s kept)

  -- each refusal, where checks 1 and 2 find nothing and the old list is accepted; `edits.old_refused` is of one that isn't
  module _ (sizes : T (edit_sizes w)) (lengths : T (edit_lengths w (has_points n P))) (old : Accepted n L) where
    fit : Fit n L
    fit = (good n L old).fit

    turned_away : {r : ℕ} → x ≡ refuses r → a ≡ refused r 0 0
    turned_away = edits.edit_refused x w a w' run.edit sizes lengths old

    pub gives_11 : (There L s → ⊥) → a ≡ refused 11 0 0
    gives_11 f = turned_away (gone n L s (false_of (is_there L s) ((means_not (means_there L s)).shows f)))

    -- "quadrilaterals on the edge or a border code give 15"
    pub gives_15 : There L s → (Splittable L s → ⊥) → a ≡ refused 15 0 0
    gives_15 t f =
        turned_away (unfit n L s (there_is t) (false_of (is_splittable L s) ((means_not (means_splittable L s)).shows f)))

    module _ (z : Splittable L s) where
      -- "20: a and b have a common neighbour that is not a third corner of those triangles"
      pub gives_20 : (v : ℕ) → Neighbours L (origin L s) v → Neighbours L (destination L s) v → (Third L s v → ⊥) → a ≡ refused 20 0 0
      gives_20 v f g no_third = turned_away (pinched n L s (contract_there z) (may z) (pinched_by n L fit s v f g no_third))

      module _ (free : Unpinched L s) where
        -- "21: a vertex that was used would be left unused"
        pub gives_21 : (v : ℕ) → (v ≡ destination L s → ⊥) → Used L v → (Used (merged L s) v → ⊥) → a ≡ refused 21 0 0
        gives_21 v d u left =
            turned_away (stranded n L s (contract_there z) (may z) (unpinched n L fit s free) (stranded_by n L fit s v d u left))

        -- then it is what a run of build says of the new list
        module _ (kept : KeepsUsed L s) where
          pub new_tried : (u u' : Buffers) (b : Answer) → BuildRun (n - 1) L' u b u' → T (build_lengths (n - 1) L' u)
              → length u.border ≡ length w.border → a ≡ b
          new_tried u u' b built long room =
              let e = edited old z free kept in
              edits.new_tried x w a w' run.edit sizes lengths old e u u' b built (contract_sizes n L s old e) long room

          of_new : a ≡ room_check (length w.border) (list_answer (n - 1) L')
          of_new = edits.new_answer_lem x w a w' run.edit sizes lengths old (edited old z free kept)

          -- 9 "by the new k"
          pub gives_9 : Accepted (n - 1) L' → length w.border < borders L' → a ≡ refused 9 (borders L') 0
          gives_9 new short =
              of_new
              ∙ ap (room_check (length w.border)) (accepted_answer (n - 1) L' new.rows new)
              ∙ room_short (length w.border) (borders L') (edges L') short

          -- the new list can be refused only by a vertex without a turn order, by two elements that clash, and for room
          pub only_8_18_9 : {r p q : ℕ} → a ≡ refused r p q → (r ≡ 8) ⊎ ((r ≡ 18) ⊎ (r ≡ 9))
          only_8_18_9 {r} e = elim (decide (means_eq r 9)) [
            | inl i ↦ inr (inr i)
            | inr d ↦ elim (refused_by (edits.not_by_room (length w.border) (list_answer (n - 1) L') (sym of_new ∙ e) d)) [
              | inl i ↦ inl i
              | inr i ↦ inr (inl i)
            ]
          ]
            where
              refused_by : {r p q : ℕ} → list_answer (n - 1) L' ≡ refused r p q → (r ≡ 8) ⊎ (r ≡ 18)
              refused_by = contracted_refused n L L' old s z (contracted_coarsened n L fit s z) (unpinched n L fit s free)

  -- n - 1 entries of B2e are always enough
  pub never_nine : n - 1 ≤ length w.border → (p q : ℕ) → a ≡ refused 9 p q → ⊥
  never_nine long = edits.never_nine x w a w' run.edit own sized
    where
      own : (r : ℕ) → x ≡ refuses r → r ≡ 9 → ⊥
      own r e z = elim (refuses_by n L s e) [
        | inl i ↦ omega arith
        | inr j ↦ elim j [ inl i ↦ omega arith | inr k ↦ elim k [ inl i ↦ omega arith | inr i ↦ omega arith ] ]
      ]

      sized : (n' : ℕ) (M : List ℕ) → Accepted n L → x ≡ becomes n' M → T (sizes_fit n' M) × (n' ≤ length w.border)
      sized n' M old e = (contract_sizes n L s old e, omega (arith, (becomes_contracted n L s e).same_n))

  -- an answer, exactly where none of the refusals is due
  pub record Answered (k e : ℕ) : Type 0 where
    pub sizes : T (edit_sizes w)
    pub lengths : T (edit_lengths w (has_points n P))
    pub old : Accepted n L
    pub splittable : Splittable L s
    pub free : Unpinched L s
    pub kept : KeepsUsed L s
    pub new : Accepted (n - 1) L'
    pub borders_are : k ≡ borders L'
    pub edges_are : e ≡ edges L'
    pub room : k ≤ length w.border

  pub answered : {k e : ℕ} → (a ≡ gives k e) ↔ Answered k e
  answered {k} {e} = (
    (λ gave.
        let y = edits.answered x w a w' run.edit gave in
        let z = becomes_contracted n L s y.edited in
        let old = (list_counted n L (edits.held_sizes w _ y.sizes y.lengths) _ _ y.old).0 in
        let fit = (good n L old).fit in
        let free = says_unpinched n L fit s z.free in
        let kept = says_used n L fit s z.kept in
        let sizes = contract_sizes n L s old (edited old z.splittable free kept) in
        let (new, (b, i)) = list_counted (n - 1) L' sizes k e ((λ j. list_answer (z.same_n j) (z.same_list j)) ∙ y.new) in
        record {
          sizes = y.sizes;
          lengths = y.lengths;
          old = old;
          splittable = z.splittable;
          free = free;
          kept = kept;
          new = new;
          borders_are = b;
          edges_are = i;
          room = y.room;
        }),
    (λ y.
        edits.answers x w a w' run.edit y.sizes y.lengths y.old (edited y.old y.splittable y.free y.kept) y.new
        (omega (arith, y.room, y.borders_are))
        ∙ (λ i. gives (sym y.borders_are i) (sym y.edges_are i))),
  )

  -- a refusal leaves the points too as they were
  pub points_stay : {r p q : ℕ} → a ≡ refused r p q → P' ≡ P
  unfolding contract_points after
  points_stay e =
      run.points ∙ ap (λ (y : Answer). after y (without_point n (destination L s) P) P) (sym run.edit.answer ∙ e)

  module _ {k e : ℕ} (gave : a ≡ gives k e) where
    y : Answered k e
    y = answered.0 gave

    g : Good n L
    g = good n L y.old

    made : x ≡ becomes (n - 1) L'
    made = edited y.old y.splittable y.free y.kept

    pub accepted : Accepted (n - 1) L'
    accepted = y.new

    -- what is held then: the new list, which is accepted, with the tables that build gives of it
    pub list_left : held w' ≡ L'
    list_left = ap (λ (M : Mesh). M.list) (edits.tables_left x w a w' run.edit gave made accepted y.borders_are)

    pub as_built : LeftBy (n - 1) L' (mesh_in w' k)
    as_built = edits.as_built x w a w' run.edit gave made accepted y.borders_are

    -- recovery of the tables left gives the list left
    pub comes_back : (list work : List ℕ) (b : Answer) (list' work' : List ℕ)
        → RecoverRun w'.n w'.m (mesh_in w' k).vertices (mesh_in w' k).opposites list work b list' work'
        → length list ≡ 4 * w'.m → w'.n + 16 * w'.m ≤ length work → (b ≡ gives 0 0) × (list' ≡ held w')
    comes_back = edits.comes_back x w a w' run.edit gave made accepted y.borders_are

    -- the number of columns stays
    pub same_columns : columns (held w') ≡ columns L
    same_columns = ap columns list_left ∙ contracted_columns n L g.fit s y.splittable

    -- n falls by one
    pub vertices_fall : w'.n + 1 ≡ n
    vertices_fall =
        let side = y.splittable.side in
        omega (arith, edits.same_n x w a w' run.edit gave made accepted y.borders_are, g.fit.from s side, g.fit.to s side)

    rows_then : elements L ≡ w.m
    rows_then = (edits.held_rows w _ y.sizes y.lengths).1

    -- n, m, k and the number of edges fall by 1, 2, 0 and 3 on an inner edge, and by 1, 1, 1 and 2 on a border edge
    pub record FallenBy (m' k' e' : ℕ) : Type 0 where
      pub vertices : w'.n + 1 ≡ n
      pub elements : w'.m + m' ≡ w.m
      pub borders : k + k' ≡ borders L
      pub edges : e + e' ≡ edges L

    fallen_by : {m' k' e' : ℕ} → Grown L' L m' k' e' → FallenBy m' k' e'
    fallen_by z =
        record {
          vertices = vertices_fall;
          elements = omega (arith, edits.same_m x w a w' run.edit gave made accepted y.borders_are, rows_then, z.elements_by);
          borders = omega (arith, y.borders_are, z.borders_by);
          edges = omega (arith, y.edges_are, z.edges_by);
        }

    pub inner_falls : (partner L s ≡ 0 → ⊥) → FallenBy 2 0 3
    inner_falls z =
        fallen_by (fallen_inner n L y.old s y.splittable (unpinched n L g.fit s y.free) (keeps_used n L g.fit s y.kept) z)

    pub border_falls : partner L s ≡ 0 → FallenBy 1 1 2
    border_falls z =
        fallen_by (fallen_border n L y.old s y.splittable (unpinched n L g.fit s y.free) (keeps_used n L g.fit s y.kept) z)

    -- "Entries between the new and the old length become 0, but not in B2e", and what lies past the old lengths stays untouched
    pub cleared : Cleared w w'
    cleared = edits.cleared x w a w' run.edit gave made accepted y.borders_are

    pub untouched : Untouched w w' k
    untouched = edits.untouched x w a w' run.edit gave made accepted y.borders_are

    -- checks 1 and 2 of the next edit find nothing, whatever else it is lent
    pub fit_still : (others : Bool) → T others → T (edit_sizes w') × T (edit_lengths w' others) × (length w'.border ≡ length w.border)
    fit_still =
        let c = contracted_coarsened n L g.fit s y.splittable in
        let (list, vertices, opposites, work) = edits.enough w _ y.sizes y.lengths in
        let wide : columns L' * elements L' ≡ columns L * elements L' =
        ap (λ (j : ℕ). j * elements L') (contracted_columns n L g.fit s y.splittable) in
        let less : columns L * elements L' ≤ columns L * w.m = mul-le-mul_left (columns L) (omega (arith, c.fewer, rows_then)) in
        edits.fit_still x w a w' run.edit gave made accepted y.borders_are y.sizes y.lengths
        (omega (arith, list, c.fours, c.fewer, rows_then)) (omega (arith, vertices)) (omega (arith, wide, less, opposites))
        y.room (omega (arith, work, c.fewer, rows_then))
