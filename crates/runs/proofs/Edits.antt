-- The way of every edit, document 02, as theorems about runs: "The list as given must first be accepted by build. The result is the new list with
-- the tables that build gives of it, so recovery covers edited housings too". x is what the edit makes of the list that is held.
-- Assumes nothing.
use Rattle.std.specs.Prelude.{◌≡◌, Bool, true, false, ◌⊎◌, List, ◌++◌, ℕ, ◌+◌, ◌*◌, ◌-◌, ◌/◌, ◌%◌, ◌≤◌, ◌<◌, T, replicate}
use Rattle.std.proofs.Math.Path.{refl, ap, sym}
use Rattle.std.proofs.Common.{subst, ◌∙◌, inl, inr, arith, length-append, length-take-le, get_or-append-add}
use Rattle.std.proofs.Math.ListN.{length, take, drop, get_or-append}
use Rattle.std.proofs.lemmas.List.{length-replicate, get_or-replicate}
use Rattle.lists.specs.Tests.{both}
use Rattle.lists.specs.TestLaws.{Means, pass, fail, test, passes, true_of, means_itself, means_either, means_both, means_eq, means_le, means_within}
use Rattle.lists.specs.Search.{at}
use Rattle.lists.specs.SearchLaws.{le_or_lt}
use Rattle.rules.specs.Elements.{max_vertex, max_element, elements, is_side, Side}
use Rattle.rules.specs.Pairing.{Accepted, sizes_fit}
use Rattle.rules.specs.Tables.{borders, b2e, columns, e2e, v2e, edges}
use Rattle.rules.specs.Recovery.{HasTables}
use Rattle.rules.specs.Refusals.{Answer, gives, refused, Buffers, build_lengths, list_answer, length_checks, room_check, after, onto, work_after, build_answer}
use Rattle.rules.specs.Refusals.{recover_answer, recover_list, recover_work}
use Rattle.rules.specs.Queries.{Mesh}
use Rattle.edit_rules.specs.Edits.{Edited, becomes, refuses, Lent, with_work, over_old, is_there, held, counts_fit, has_room, once_accepted, new_answer, edit_sizes, edit_lengths, edit_answer, written, edit_leaves}
use Rattle.theory.specs.FitRows.{means_sizes}
use Rattle.theory.specs.Entries.{length_b2e, length_v2e}
use Rattle.theory.specs.Columns.{length_e2e}
use Rattle.theory.specs.Orders.{good}
use Rattle.theory.specs.Answers.{past_lengths, room_enough, room_short, accepted_answer, list_never}
use Rattle.theory.specs.Edits.{past_old, past_new, onto_front, onto_length, past_onto, over_front, over_length, past_over}
use Rattle.theory.specs.Built.{built}
use Rattle.edits.specs.Holding.{means_holds}
use Rattle.runs.specs.Runs.{BuildRun, RecoverRun, EditRun, LeftBy}
use Rattle.runs.proofs.Demand3.{list_counted}
use Rattle.runs.proofs.RoundTrip.{tables_come_back, room_for_all}
use Rattle.runs.proofs.OnBuilt.{built_left}

-- a side, or one of the border half-edges
abbrev pub There : List ℕ → ℕ → Type 0
There L s = Side L s ⊎ ((s % 8 ≡ 0) × ((1 ≤ s / 8) × (s / 8 ≤ borders L)))

pub means_there : (L : List ℕ) (s : ℕ) → Means (is_there L s) (There L s)
unfolding is_there
means_there L s = means_either (means_itself (is_side L s)) (means_both (means_eq (s % 8) 0) (means_within 1 (borders L) (s / 8)))

-- what is held: the list, its tables with its own columns, and k entries of B2e
abbrev pub mesh_in : Lent → ℕ → Mesh
mesh_in w k =
    record {
      n = w.n;
      columns = columns (held w);
      list = held w;
      vertices = take w.n w.vertices;
      opposites = take (columns (held w) * w.m) w.opposites;
      border = take k w.border;
    }

-- "entries past both the old and the new length stay untouched" (point 6): w and w' are what was lent and what is left, k the entries of B2e
pub record Untouched (w w' : Lent) (k : ℕ) : Type 0 where
  pub list : (p : ℕ) → 4 * w.m ≤ p → 4 * w'.m ≤ p → drop p w'.list ≡ drop p w.list
  pub vertices : (p : ℕ) → w.n ≤ p → w'.n ≤ p → drop p w'.vertices ≡ drop p w.vertices
  pub opposites : (p : ℕ) → columns (held w) * w.m ≤ p → columns (held w') * w'.m ≤ p → drop p w'.opposites ≡ drop p w.opposites
  pub border : (p : ℕ) → k ≤ p → drop p w'.border ≡ drop p w.border

-- "Entries between the new and the old length become 0, but not in B2e" (point 8)
pub record Cleared (w w' : Lent) : Type 0 where
  pub list : (p : ℕ) → 4 * w'.m ≤ p → p < 4 * w.m → at w'.list p ≡ 0
  pub vertices : (p : ℕ) → w'.n ≤ p → p < w.n → at w'.vertices p ≡ 0
  pub opposites : (p : ℕ) → columns (held w') * w'.m ≤ p → p < columns (held w) * w.m → at w'.opposites p ≡ 0

-- 0 stands past what is put over the old entries, up to their end
zero_over : (old : ℕ) (xs buffer : List ℕ) (p : ℕ) → length xs ≤ p → p < old → at (over_old old xs buffer) p ≡ 0
unfolding over_old onto
zero_over old xs buffer p h i =
    let zeros : List ℕ = replicate (old - length xs) 0 in
    let e : p ≡ length xs + (p - length xs) = omega arith in
    get_or-append (xs ++ zeros) (drop (length (xs ++ zeros)) buffer) 0 p
    (omega (arith, length-append xs zeros, length-replicate {A = ℕ} (old - length xs) 0))
    ∙ ap (at (xs ++ zeros)) e
    ∙ get_or-append-add xs zeros (p - length xs) 0
    ∙ get_or-replicate {A = ℕ} (old - length xs) (p - length xs) 0 0 (omega arith)

-- what a run of build says of a list with fit sizes, in buffers of fit lengths
pub build_tried : (n : ℕ) (L : List ℕ) (u : Buffers) (b : Answer) (u' : Buffers) → BuildRun n L u b u' → T (sizes_fit n L) → T (build_lengths n L u)
    → b ≡ room_check (length u.border) (list_answer n L)
unfolding build_answer length_checks
build_tried n L u b u' run sizes lengths =
    run.answer ∙ rw (true_of (sizes_fit n L) sizes, true_of (build_lengths n L u) lengths, length_checks) refl

-- a refusal other than 9 is that of the list
pub not_by_room : (room : ℕ) (a : Answer) {r p q : ℕ} → room_check room a ≡ refused r p q → (r ≡ 9 → ⊥) → a ≡ refused r p q
unfolding room_check
not_by_room room (refused r p q) e d = e
not_by_room room (gives k j) {r} e d = elim (le_or_lt k room) [
  | inl h ↦ let f = sym (room_enough room k j h) ∙ e in let z : ◌≡◌ {A = ℕ} 0 1 = cc in absurd (omega arith)
  | inr h ↦ let f = sym (room_short room k j h) ∙ e in let z : r ≡ 9 = cc in absurd (d z)
]

-- where checks 1 and 2 find nothing
module _ (w : Lent) (others : Bool) (sizes : T (edit_sizes w)) (lengths : T (edit_lengths w others)) where
  pub enough : (4 * w.m ≤ length w.list) × (w.n ≤ length w.vertices) × (columns (held w) * w.m ≤ length w.opposites) × (w.n + 16 * w.m ≤ length w.work)
  unfolding has_room edit_lengths
  enough =
      let room = (passes others (has_room w w.n w.m) lengths).1 in
      let (l, (v, (e, r))) = (means_holds w.n w.m w.list (length w.vertices) (length w.opposites) (length w.work)).says room in
      (l, v, e, r)

  -- the list that is held has m rows, and fit sizes
  pub held_rows : (length (held w) ≡ 4 * w.m) × (elements (held w) ≡ w.m)
  held_rows = let long = length-take-le (4 * w.m) w.list enough.0 in (long, omega (arith, long))

  pub held_sizes : T (sizes_fit w.n (held w))
  unfolding counts_fit edit_sizes
  held_sizes =
      let (v, m) = (means_both (means_le w.n max_vertex) (means_le w.m max_element)).says sizes in
      (means_sizes w.n (held w)).shows (v, (omega (arith, m, held_rows), omega (arith, held_rows)))

module _ {others : Bool} (x : Edited) (w : Lent) (a : Answer) (w' : Lent) (run : EditRun others x w a w') where
  abbrev L : List ℕ
  L = held w

  abbrev work' : List ℕ
  work' = work_after (edit_sizes w) (edit_lengths w others) w.work

  work_length : length work' ≡ length w.work
  unfolding work_after
  work_length = elim (test (both (edit_sizes w) (edit_lengths w others))) [
    | pass t e ↦ rw (e, work_after) (length-replicate {A = ℕ} (length w.work) 0)
    | fail t e ↦ rw (e, work_after) refl
  ]

  -- what is left, by the answer
  left_by_lem : {y : Answer} → a ≡ y → w' ≡ with_work (after y (written w x) w) work'
  unfolding edit_leaves
  left_by_lem e = run.leaves ∙ ap (λ (y : Answer). with_work (after y (written w x) w) work') (sym run.answer ∙ e)

  -- "refused, list and tables unchanged", and n and m
  pub refusal_keeps : {r p q : ℕ} → a ≡ refused r p q → w' ≡ with_work w work'
  unfolding after
  refusal_keeps e = left_by_lem e

  -- an answer has a new list, after the old one was accepted
  pub record Answered (k e : ℕ) : Type 0 where
    pub sizes : T (edit_sizes w)
    pub lengths : T (edit_lengths w others)
    pub old_borders : ℕ
    pub old_edges : ℕ
    pub old : list_answer w.n L ≡ gives old_borders old_edges
    pub n' : ℕ
    pub L' : List ℕ
    pub edited : x ≡ becomes n' L'
    pub new : list_answer n' L' ≡ gives k e
    pub room : k ≤ length w.border

  pub answered : {k e : ℕ} → a ≡ gives k e → Answered k e
  unfolding edit_answer
  answered {k} {e} g =
      let (s, l, f) = past_lengths (edit_sizes w) (edit_lengths w others) _ k e (sym run.answer ∙ g) in
      let (i, j, o, h) = past_old (list_answer w.n L) _ f in
      let (n', L', c, d, r) = past_new (length w.border) x h in
      record { sizes = s; lengths = l; old_borders = i; old_edges = j; old = o; n' = n'; L' = L'; edited = c; new = d; room = r }

  -- where checks 1 and 2 find nothing
  module _ (sizes : T (edit_sizes w)) (lengths : T (edit_lengths w others)) where
    tried : a ≡ once_accepted (list_answer w.n L) (new_answer (length w.border) x)
    unfolding edit_answer length_checks
    tried = run.answer ∙ rw (true_of (edit_sizes w) sizes, true_of (edit_lengths w others) lengths, length_checks) refl

    tried_by : {old : Answer} {y : Edited} → list_answer w.n L ≡ old → x ≡ y → a ≡ once_accepted old (new_answer (length w.border) y)
    tried_by e f = tried ∙ (λ i. once_accepted (e i) (new_answer (length w.border) (f i)))

    -- "The list as given must first be accepted by build": what a run of build says of it, but for 9
    pub old_refused : (u u' : Buffers) (b : Answer) → BuildRun w.n L u b u' → T (build_lengths w.n L u)
        → {r p q : ℕ} → b ≡ refused r p q → (r ≡ 9 → ⊥) → a ≡ refused r p q
    unfolding once_accepted
    old_refused u u' b built fit e d =
        tried_by (not_by_room (length u.border) _ (sym (build_tried w.n L u b u' built (held_sizes w others sizes lengths) fit) ∙ e) d) refl

    -- then the edit's own refusal, or what a run of build says of the new list, with 9 by its k
    module _ (old : Accepted w.n L) where
      counts : list_answer w.n L ≡ gives (borders L) (edges L)
      counts = accepted_answer w.n L old.rows old

      pub edit_refused : {r : ℕ} → x ≡ refuses r → a ≡ refused r 0 0
      unfolding once_accepted new_answer
      edit_refused e = tried_by counts e

      pub new_answer_lem : {n' : ℕ} {L' : List ℕ} → x ≡ becomes n' L' → a ≡ room_check (length w.border) (list_answer n' L')
      unfolding once_accepted new_answer
      new_answer_lem e = tried_by counts e

      pub new_tried : {n' : ℕ} {L' : List ℕ} → x ≡ becomes n' L' → (u u' : Buffers) (b : Answer) → BuildRun n' L' u b u' → T (sizes_fit n' L')
          → T (build_lengths n' L' u) → length u.border ≡ length w.border → a ≡ b
      new_tried {n'} {L'} e u u' b built fit long room =
          new_answer_lem e ∙ ap (λ (i : ℕ). room_check i (list_answer n' L')) (sym room) ∙ sym (build_tried n' L' u b u' built fit long)

      pub answers : {n' : ℕ} {L' : List ℕ} → x ≡ becomes n' L' → Accepted n' L' → borders L' ≤ length w.border → a ≡ gives (borders L') (edges L')
      answers {n'} {L'} e new room =
          new_answer_lem e
          ∙ ap (room_check (length w.border)) (accepted_answer n' L' new.rows new)
          ∙ room_enough (length w.border) (borders L') (edges L') room

  -- 9 never comes where the edit doesn't refuse by it and B2e has an entry for each vertex of the new list
  pub never_nine : ((r : ℕ) → x ≡ refuses r → r ≡ 9 → ⊥)
      → ((n' : ℕ) (L' : List ℕ) → Accepted w.n L → x ≡ becomes n' L' → T (sizes_fit n' L') × (n' ≤ length w.border))
      → (p q : ℕ) → a ≡ refused 9 p q → ⊥
  unfolding edit_answer length_checks once_accepted new_answer
  never_nine own fit p q g = go (edit_sizes w) (edit_lengths w others) refl refl (sym run.answer ∙ g)
    where
      new : Accepted w.n L → (z : Edited) → x ≡ z → new_answer (length w.border) z ≡ refused 9 p q → ⊥
      new old (refuses r) e f = own r e cc
      new old (becomes n' L') e f = let (sizes, long) = fit n' L' old e in room_for_all n' L' (length w.border) sizes long p q f

      past : T (sizes_fit w.n L) → (y : Answer) → list_answer w.n L ≡ y → once_accepted y (new_answer (length w.border) x) ≡ refused 9 p q → ⊥
      past sizes (refused r i j) e f = list_never w.n L 9 (λ r from to d e. e) p q (e ∙ f)
      past sizes (gives k e) o f = new (list_counted w.n L sizes k e o).0 x refl f

      go : (sizes lengths : Bool) → edit_sizes w ≡ sizes → edit_lengths w others ≡ lengths
          → length_checks sizes lengths (once_accepted (list_answer w.n L) (new_answer (length w.border) x)) ≡ refused 9 p q → ⊥
      go true true s l f = past (held_sizes w others (rw s tt) (rw l tt)) (list_answer w.n L) refl f
      go true false s l f = let z : ◌≡◌ {A = ℕ} 2 9 = cc in omega arith
      go false l s m f = let z : ◌≡◌ {A = ℕ} 1 9 = cc in omega arith

  -- after an answer with the list L', which is accepted
  module _ {k e n' : ℕ} {L' : List ℕ} (gave : a ≡ gives k e) (edited : x ≡ becomes n' L') (new : Accepted n' L') (number : k ≡ borders L') where
    fours : length L' ≡ 4 * elements L'
    fours = (good n' L' new).fit.fours

    left : w' ≡ with_work (written w (becomes n' L')) work'
    unfolding after
    left = left_by_lem gave ∙ ap (λ (y : Edited). with_work (written w y) work') edited

    -- what is held is that list, and the tables that build gives of it
    mesh_left : mesh_in (with_work (written w (becomes n' L')) work') k ≡ built n' L'
    unfolding written
    mesh_left =
        let list = over_front (4 * w.m) L' w.list fours in
        let opposites = (λ i. take (columns (list i) * elements L') (over_old (columns L * w.m) (e2e L') w.opposites))
        ∙ over_front (columns L * w.m) (e2e L') w.opposites (length_e2e L') in
        λ i.
        record {
          n = n';
          columns = columns (list i);
          list = list i;
          vertices = over_front w.n (v2e n' L') w.vertices (length_v2e L' n') i;
          opposites = opposites i;
          border = onto_front (b2e L') w.border (length_b2e L' ∙ sym number) i;
        }

    pub tables_left : mesh_in w' k ≡ built n' L'
    tables_left = ap (λ (u : Lent). mesh_in u k) left ∙ mesh_left

    pub as_built : LeftBy n' L' (mesh_in w' k)
    as_built = subst (LeftBy n' L') (sym tables_left) (built_left n' L' new)

    pub same_n : w'.n ≡ n'
    unfolding written
    same_n = ap (λ (u : Lent). u.n) left

    pub same_m : w'.m ≡ elements L'
    unfolding written
    same_m = ap (λ (u : Lent). u.m) left

    -- "so recovery covers edited housings too": of the tables left, told the m left, it gives the list left
    pub comes_back : (list work : List ℕ) (b : Answer) (list' work'' : List ℕ)
        → RecoverRun w'.n w'.m (mesh_in w' k).vertices (mesh_in w' k).opposites list work b list' work''
        → length list ≡ 4 * w'.m → w'.n + 16 * w'.m ≤ length work → (b ≡ gives 0 0) × (list' ≡ held w')
    comes_back list work b list' work'' recovers long room =
        let V2e = (mesh_in w' k).vertices in
        let E2e = (mesh_in w' k).opposites in
        let tables : HasTables n' (elements L') L' V2e E2e =
        record {
          accepted = new;
          size = refl;
          vertices = sym (ap (λ (M : Mesh). M.vertices) tables_left);
          opposites = sym (ap (λ (M : Mesh). M.opposites) tables_left);
        } in
        let told : RecoverRun n' (elements L') V2e E2e list work b list' work'' =
        record {
          answer = recovers.answer ∙ (λ i. recover_answer (same_n i) (same_m i) V2e E2e list work);
          leaves = recovers.leaves ∙ (λ i. recover_list (same_n i) (same_m i) V2e E2e list work);
          clears = recovers.clears ∙ (λ i. recover_work (same_n i) (same_m i) V2e E2e list work);
        } in
        let (f, g) = tables_come_back n' L' V2e E2e tables list work (omega (arith, fours, same_m)) (omega (arith, same_n, same_m)) b list' work'' told in
        (f, g ∙ sym (ap (λ (M : Mesh). M.list) tables_left))

    same_list : held w' ≡ L'
    same_list = ap (λ (M : Mesh). M.list) tables_left

    wide : length (e2e L') ≡ columns (held w') * w'.m
    wide = length_e2e L' ∙ (λ t. columns (sym same_list t) * sym same_m t)

    pub cleared : Cleared w w'
    unfolding written
    cleared =
        record {
          list = λ p h i.
              ap (λ (u : Lent). at u.list p) left ∙ zero_over (4 * w.m) L' w.list p (omega (arith, fours, same_m)) i;
          vertices = λ p h i.
              ap (λ (u : Lent). at u.vertices p) left ∙ zero_over w.n (v2e n' L') w.vertices p (omega (arith, length_v2e L' n', same_n)) i;
          opposites = λ p h i.
              ap (λ (u : Lent). at u.opposites p) left ∙ zero_over (columns L * w.m) (e2e L') w.opposites p (omega (arith, wide)) i;
        }

    pub untouched : Untouched w w' k
    unfolding written
    untouched =
        record {
          list = λ p h i. ap (λ (u : Lent). drop p u.list) left ∙ past_over (4 * w.m) L' w.list p h (omega (arith, fours, same_m));
          vertices = λ p h i.
              ap (λ (u : Lent). drop p u.vertices) left ∙ past_over w.n (v2e n' L') w.vertices p h (omega (arith, length_v2e L' n', same_n));
          opposites = λ p h i.
              ap (λ (u : Lent). drop p u.opposites) left ∙ past_over (columns L * w.m) (e2e L') w.opposites p h (omega (arith, wide));
          border = λ p h. ap (λ (u : Lent). drop p u.border) left ∙ past_onto (b2e L') w.border p (omega (arith, length_b2e L', number));
        }

    -- where the buffers have room for the old list and for the new one, the next edit finds what it needs in them
    pub fit_still : T (edit_sizes w) → T (edit_lengths w others) → length L' ≤ length w.list → n' ≤ length w.vertices
        → columns L' * elements L' ≤ length w.opposites → k ≤ length w.border → n' + 16 * elements L' ≤ length w.work
        → (others' : Bool) → T others' → T (edit_sizes w') × T (edit_lengths w' others') × (length w'.border ≡ length w.border)
    unfolding counts_fit has_room edit_sizes edit_lengths written
    fit_still sizes lengths list vertices opposites border work others' more =
        let fit = (good n' L' new).fit in
        let (l, v, e, r) = enough w others sizes lengths in
        let list_long = ap (λ (u : Lent). length u.list) left ∙ over_length (4 * w.m) L' w.list l list in
        let vertices_long = ap (λ (u : Lent). length u.vertices) left ∙ over_length w.n (v2e n' L') w.vertices v (omega (arith, length_v2e L' n')) in
        let opposites_long = ap (λ (u : Lent). length u.opposites) left ∙ over_length (columns L * w.m) (e2e L') w.opposites e (omega (arith, length_e2e L')) in
        let border_long = ap (λ (u : Lent). length u.border) left ∙ onto_length (b2e L') w.border (omega (arith, length_b2e L', number)) in
        let work_long = ap (λ (u : Lent). length u.work) left ∙ work_length in
        let columned : columns (held w') * w'.m ≡ columns L' * elements L' = λ i. columns (same_list i) * same_m i in (
          (means_both (means_le w'.n max_vertex) (means_le w'.m max_element)).shows (omega (arith, fit.vertices, same_n), omega (arith, fit.size, same_m)),
          (means_both (means_itself others') (means_holds w'.n w'.m w'.list (length w'.vertices) (length w'.opposites) (length w'.work))).shows
              (more, (omega (arith, list_long, fit.fours, same_m), (omega (arith, vertices_long, same_n), (omega (arith, opposites_long, columned), omega (arith, work_long, same_n, same_m))))),
          border_long,
        )
