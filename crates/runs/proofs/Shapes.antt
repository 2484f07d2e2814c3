-- Document 02, point 9, as theorems about runs: the number that the query tells counts joined vertex pairs; and "For every list of swap, split and
-- contract calls from an accepted element list, refused calls included, each given the n, m and list that the one before left, this number
-- after them is the one before".
-- Assumes nothing.
use Rattle.std.specs.Prelude.{◌≡◌, Bool, false, List, [], ◌∷◌, ℕ, ◌+◌, ◌-◌, Float, length}
use Rattle.std.proofs.Math.Path.{refl, ap, sym}
use Rattle.std.proofs.Common.{subst, ◌∙◌, inl, inr, arith}
use Rattle.std.proofs.Math.Dec.{T}
use Rattle.lists.specs.TestLaws.{pass, fail, test, passes, true_of, decide, means_eq}
use Rattle.rules.specs.Pairing.{Accepted, sizes_fit, rows_fit}
use Rattle.rules.specs.Tables.{partner}
use Rattle.rules.specs.Refusals.{Answer, gives, refused, Buffers, build_lengths, list_answer, length_checks, room_check, build_answer}
use Rattle.edit_rules.specs.Edits.{Edited, Lent, held, once_accepted}
use Rattle.edit_rules.specs.Swap.{swapped}
use Rattle.edit_rules.specs.Contract.{contracted}
use Rattle.edit_rules.specs.Shape.{joined_pairs, shape, signed, shape_lengths, list_shape, shape_answer}
use Rattle.theory.specs.Orders.{good}
use Rattle.theory.specs.Replacing.{same_size}
use Rattle.theory.specs.ContractCounts.{fallen_inner, fallen_border}
use Rattle.theory.specs.Unpinched.{unpinched, keeps_used}
use Rattle.theory.specs.Answers.{accepted_answer, list_never}
use Rattle.theory.specs.Joined.{pairs_are_edges}
use Rattle.theory.specs.Shaping.{same_shape, grown_shape}
use Rattle.runs.specs.Runs.{BuildRun, EditRun, SwapRun, SplitRun, ContractRun, ShapeRun}
use Rattle.runs.proofs.Demand3.{list_counted, counted}
use Rattle.runs.proofs.Edits as edits
use Rattle.runs.proofs.Swaps as swaps
use Rattle.runs.proofs.Splits as splits
use Rattle.runs.proofs.Contractions as contractions
use Rattle.runs.specs.Shapes.{Handed, handed, number, Call, Made, Follow, after, Keeps, swapping, splitting, contracting}
use Rattle.runs.proofs.SplitShapes.{split_same}

-- after an answer, with n' and the list L'
lands : (w w' : Lent) {n' : ℕ} {L' : List ℕ} → w'.n ≡ n' → held w' ≡ L' → Accepted n' L' → shape n' L' ≡ shape w.n (held w) → Keeps (handed w) (handed w')
lands w w' {n'} e f new s =
    record {
      same = (λ i. shape (e i) (f i)) ∙ s;
      accepted = λ x. subst (λ (n : ℕ). Accepted n (held w')) (sym e) (subst (Accepted n') (sym f) new);
    }

-- after a refusal: "list and tables unchanged"
edit_keeps : {others : Bool} (x : Edited) (w : Lent) (a : Answer) (w' : Lent) → EditRun others x w a w'
    → ((k e : ℕ) → a ≡ gives k e → Keeps (handed w) (handed w')) → Keeps (handed w) (handed w')
edit_keeps x w a w' run given = go a refl
  where
    go : (y : Answer) → a ≡ y → Keeps (handed w) (handed w')
    go (gives k e) g = given k e g
    go (refused r p q) g =
        let h = ap handed (edits.refusal_keeps x w a w' run g) in
        record { same = ap number h; accepted = subst (λ (g : Handed). Accepted g.n g.list) (sym h) }

-- a swap keeps n, m and the number of edges
swap_keeps : (w : Lent) (s : ℕ) (a : Answer) (w' : Lent) → SwapRun w s a w' → (k e : ℕ) → a ≡ gives k e → Keeps (handed w) (handed w')
swap_keeps w s a w' run k e gave =
    let y = (swaps.answered w s a w' run).0 gave in
    let sized = same_size (swaps.replaced w.n (held w) s y.old y.diagonal) in
    let edged = swaps.edges_stay w.n (held w) s y.old y.diagonal y.new in
    lands w w' (swaps.sizes_stay w s a w' run gave).0 (swaps.list_left w s a w' run gave) y.new
    (same_shape w.n (held w) w.n (swapped (held w) s) y.old y.new (omega (arith, sized, edged)))

split_keeps : (w : Lent) (P : List Float) (s : ℕ) (a : Answer) (w' : Lent) (P' : List Float) → SplitRun w P s a w' P'
    → (k e : ℕ) → a ≡ gives k e → Keeps (handed w) (handed w')
split_keeps w P s a w' P' run k e gave =
    lands w w' (splits.one_more w P s a w' P' run gave) (splits.list_left w P s a w' P' run gave) (splits.accepted w P s a w' P' run gave)
    (split_same w P s a w' P' run gave)

-- a contraction takes as much away
pub contract_same : (w : Lent) (P : List Float) (s : ℕ) (a : Answer) (w' : Lent) (P' : List Float) → ContractRun w P s a w' P' → {k e : ℕ} → a ≡ gives k e
    → shape w.n (held w) ≡ shape (w.n - 1) (contracted w.n (held w) s)
contract_same w P s a w' P' run gave =
    let y = (contractions.answered w P s a w' P' run).0 gave in
    let fit = (good w.n (held w) y.old).fit in
    let free = unpinched w.n (held w) fit s y.free in
    let kept = keeps_used w.n (held w) fit s y.kept in
    let one : w.n ≡ w.n - 1 + 1 = omega (arith, contractions.vertices_fall w P s a w' P' run gave) in
    elim (decide (means_eq (partner (held w) s) 0)) [
      | inl z ↦
          grown_shape (w.n - 1) _ w.n (held w) y.new y.old one
          (fallen_border w.n (held w) y.old s y.splittable free kept z) refl
      | inr z ↦
          grown_shape (w.n - 1) _ w.n (held w) y.new y.old one
          (fallen_inner w.n (held w) y.old s y.splittable free kept z) refl
    ]

contract_keeps : (w : Lent) (P : List Float) (s : ℕ) (a : Answer) (w' : Lent) (P' : List Float) → ContractRun w P s a w' P'
    → (k e : ℕ) → a ≡ gives k e → Keeps (handed w) (handed w')
contract_keeps w P s a w' P' run k e gave =
    lands w w' (omega (arith, contractions.vertices_fall w P s a w' P' run gave)) (contractions.list_left w P s a w' P' run gave)
    (contractions.accepted w P s a w' P' run gave) (sym (contract_same w P s a w' P' run gave))

call_keeps : (w : Lent) (a : Answer) (w' : Lent) → Call w a w' → Keeps (handed w) (handed w')
call_keeps w a w' (swapping s run) = edit_keeps _ w a w' run (swap_keeps w s a w' run)
call_keeps w a w' (splitting P P' s run) = edit_keeps _ w a w' run.edit (split_keeps w P s a w' P' run)
call_keeps w a w' (contracting P P' s run) = edit_keeps _ w a w' run.edit (contract_keeps w P s a w' P' run)

-- "this number after them is the one before", by induction over the list of calls. The list needn't be accepted at first: of one that isn't,
-- every edit is refused
calls_keep : (h : Handed) (cs : List Made) → Follow h cs → Keeps h (after h cs)
calls_keep h [] f = record { same = refl; accepted = λ x. x }
calls_keep h (c ∷ cs) (given, f) =
    let one = subst (λ (g : Handed). Keeps g (handed c.left)) given (call_keeps c.lent c.answer c.left c.call) in
    let rest = calls_keep (handed c.left) cs f in
    record { same = rest.same ∙ one.same; accepted = λ x. rest.accepted (one.accepted x) }

-- the count of joined vertex pairs is the number of edges that a run of build answers
pub edges_are_pairs : (n : ℕ) (L : List ℕ) (w : Buffers) (a : Answer) (w' : Buffers) → BuildRun n L w a w' → {k e : ℕ} → a ≡ gives k e → e ≡ joined_pairs n L
edges_are_pairs n L w a w' run {k} {e} gave =
    let c = counted n L w k e (sym run.answer ∙ gave) in
    c.edges_are ∙ sym (pairs_are_edges n L (good n L c.accepted))

-- a run of the query, whose work buffer is long enough
module _ (n : ℕ) (L work : List ℕ) (a : Answer) (work' : List ℕ) (run : ShapeRun n L work a work') (long : T (shape_lengths n L work)) where
  asked : T (sizes_fit n L) → a ≡ list_shape n L
  unfolding shape_answer length_checks
  asked sizes =
      run.answer ∙ rw (true_of (sizes_fit n L) sizes, true_of (shape_lengths n L work) long, length_checks) refl

  -- of an accepted list it tells the number
  pub tells : Accepted n L → a ≡ signed (shape n L)
  unfolding rows_fit list_shape once_accepted
  tells x =
      asked (passes (sizes_fit n L) _ x.rows).0
      ∙ ap (λ (y : Answer). once_accepted y (signed (shape n L))) (accepted_answer n L x.rows x)

  -- it "refuses as build does but for 9", beside a run of build in buffers of fit lengths
  module _ (u : Buffers) (b : Answer) (u' : Buffers) (built : BuildRun n L u b u') (fit : T (build_lengths n L u)) where
    unsized : sizes_fit n L ≡ false → (a ≡ refused 1 0 0) × (b ≡ refused 1 0 0)
    unfolding shape_answer build_answer length_checks
    unsized s = (run.answer ∙ rw (s, length_checks) refl, built.answer ∙ rw (s, length_checks) refl)

    judged : T (sizes_fit n L) → b ≡ room_check (length u.border) (list_answer n L)
    judged sizes = edits.build_tried n L u b u' built sizes fit

    pub refuses_alike : {r p q : ℕ} → b ≡ refused r p q → (r ≡ 9 → ⊥) → a ≡ refused r p q
    unfolding list_shape once_accepted
    refuses_alike e d = elim (test (sizes_fit n L)) [
      | pass sizes s ↦
          asked sizes
          ∙ ap (λ (y : Answer). once_accepted y (signed (shape n L)))
          (edits.not_by_room (length u.border) (list_answer n L) (sym (judged sizes) ∙ e) d)
      | fail sizes s ↦ (unsized s).0 ∙ sym (unsized s).1 ∙ e
    ]

    pub tells_else : ((r p q : ℕ) → b ≡ refused r p q → r ≡ 9) → a ≡ signed (shape n L)
    unfolding room_check
    tells_else only = elim (test (sizes_fit n L)) [
      | pass sizes s ↦ go sizes (list_answer n L) refl
      | fail sizes s ↦ let z = only 1 0 0 (unsized s).1 in absurd (omega arith)
    ]
      where
        go : T (sizes_fit n L) → (y : Answer) → list_answer n L ≡ y → a ≡ signed (shape n L)
        go sizes (gives k e) f = tells (list_counted n L sizes k e f).0
        go sizes (refused r p q) f =
            let nine = only r p q (judged sizes ∙ ap (room_check (length u.border)) f) in
            absurd (list_never n L 9 (λ r from to d e. e) p q (f ∙ ap (λ (i : ℕ). refused i p q) nine))

module _ (h : Handed) (cs : List Made) (follow : Follow h cs) where
  pub number_kept : number (after h cs) ≡ number h
  number_kept = (calls_keep h cs follow).same

  pub still_accepted : Accepted h.n h.list → Accepted (after h cs).n (after h cs).list
  still_accepted = (calls_keep h cs follow).accepted

  -- so the query tells the same before the calls and after them
  module _ (a b : Answer) (work work' room room' : List ℕ) (x : Accepted h.n h.list) where
    pub told_alike : ShapeRun h.n h.list work a work' → T (shape_lengths h.n h.list work)
        → ShapeRun (after h cs).n (after h cs).list room b room' → T (shape_lengths (after h cs).n (after h cs).list room) → b ≡ a
    told_alike before long later enough =
        tells _ _ room b room' later enough (still_accepted x) ∙ ap signed number_kept ∙ sym (tells _ _ work a work' before long x)
