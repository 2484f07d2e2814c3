-- Demand 3, as theorems about what build and recovery answer and leave, by their contracts.
--
-- "For any two different element lists that building accepts, the V2e or the E2e that it writes for them .. differs in length or in at least
-- one entry", which "is from now on read for each n and m, in recovery the m it is told" (document 02, point 10). "Whatever element list is handed to building, when lengths and rows are fit, building gives one of the refusals 5 to 8 exactly
-- when no pairing of its sides with a turn order about every vertex exists; where one exists, it refuses only a B2e shorter than k. Whatever
-- entries V2e and E2e hold, when lengths are fit, recovery gives 10 exactly when no accepted list has these tables, and otherwise writes an
-- accepted list that has exactly these tables." Of the refusals 5 to 8, "Refusal 5 no longer occurs" (document 02, point 2): 6 to 8
-- remain; and "Existence in building and recovery is read over this narrower list, 18 joining its numbers" (document 02, point 5), so with the
-- pairing and its turn orders every two different elements meet well: the list is accepted.
-- Assumes nothing.
use Rattle.std.proofs.Math.Path.{◌≡◌, ap, sym, subst}
use Rattle.std.specs.Prelude.{refl, Bool, ◌↔◌, ℕ, ◌-◌, ◌≤◌, length}
use Rattle.std.proofs.Common.{◌∙◌, arith, T_not}
use Rattle.std.proofs.Math.Bool.{true, false}
use mathlib.Core.List.{List}
use Rattle.std.proofs.Math.Dec.{T}
use Rattle.lists.specs.TestLaws.{Test, pass, fail, test}
use Rattle.lists.specs.Search.{at}
use Rattle.rules.specs.Elements.{elements, element}
use Rattle.rules.specs.Pairing.{Accepted, call_sizes, sizes_fit, rows_fit}
use Rattle.rules.specs.Tables.{borders, edges, e2e, v2e}
use Rattle.rules.specs.Recovery.{HasTables, widened, walk}
use Rattle.rules.specs.Refusals.{Answer, gives, refused, Buffers, build_lengths, room_check, list_answer, after, build_answer, build_leaves}
use Rattle.rules.specs.Refusals.{recover_lengths, recovers, recover_answer}
use Rattle.theory.specs.Answers.{past_lengths, past_room, Late, Never, accepted_answer, given_accepted, build_late, build_accepted, build_never_five}
use Rattle.theory.specs.Described.{described}
use Rattle.theory.specs.Rings.{About}
use Rattle.theory.specs.Recovering.{tables_equal, means_recovers, means_some_list, recover_gives, recover_none}
use Rattle.runs.specs.Runs.{BuildRun, RecoverRun}

-- what a run of build that counts shows of its list and its counts
pub record Counted (n : ℕ) (L : List ℕ) (w : Buffers) (k e : ℕ) : Type 0 where
  pub accepted : Accepted n L
  pub borders_are : k ≡ borders L
  pub edges_are : e ≡ edges L
  pub room : k ≤ length w.border

-- counts come only for an accepted list, and are its own
pub list_counted : (n : ℕ) (L : List ℕ) → T (sizes_fit n L) → (k e : ℕ) → list_answer n L ≡ gives k e → Accepted n L × ((k ≡ borders L) × (e ≡ edges L))
list_counted n L s k e f =
    let x = given_accepted n L s f in
    let q = sym f ∙ accepted_answer n L x.rows x in
    (x, ((cc), (cc)))

module _ (n : ℕ) (L : List ℕ) (w : Buffers) where
  pub counted : (k e : ℕ) → build_answer n L w ≡ gives k e → Counted n L w k e
  unfolding build_answer
  counted k e g =
      let (s, l, h) = past_lengths (sizes_fit n L) (build_lengths n L w) _ k e g in
      let (f, room) = past_room (length w.border) k e (list_answer n L) h in
      let (x, (b, d)) = list_counted n L s k e f in
      record { accepted = x; borders_are = b; edges_are = d; room = room }

  -- the tables that build writes are the accepted list's
  pub writes_tables : (a : Answer) (w' : Buffers) (k e : ℕ) → BuildRun n L w a w' → a ≡ gives k e → HasTables n (elements L) L w'.vertices w'.opposites
  unfolding build_leaves after
  writes_tables a w' k e run g =
      let h : build_answer n L w ≡ gives k e = sym run.answer ∙ g in
      record {
        accepted = (counted k e h).accepted;
        size = refl;
        vertices = sym (ap (λ (b : Buffers). b.vertices) run.leaves ∙ ap (λ (x : Answer). after x (v2e n L) w.vertices) h);
        opposites = sym (ap (λ (b : Buffers). b.opposites) run.leaves ∙ ap (λ (x : Answer). after x (e2e L) w.opposites) h);
      }

-- (a) two runs that accept lists of as many elements and write the same V2e and E2e were of one list, on as many vertices
pub different_lists_different_tables : (n n' : ℕ) (L L' : List ℕ) (w u w' u' : Buffers) (a b : Answer) (k e k' e' : ℕ)
    → BuildRun n L w a w' → a ≡ gives k e → BuildRun n' L' u b u' → b ≡ gives k' e' → elements L ≡ elements L'
    → w'.vertices ≡ u'.vertices → w'.opposites ≡ u'.opposites → (n ≡ n') × (L ≡ L')
different_lists_different_tables n n' L L' w u w' u' a b k e k' e' x g y h m p q =
    tables_equal n n' (elements L') L L' u'.vertices u'.opposites
    (rw (m, p, q) at (writes_tables n L w a w' k e x g))
    (writes_tables n' L' u b u' k' e' y h)

-- no run of build answers 5
pub never_five : (n : ℕ) (L : List ℕ) (w w' : Buffers) (a : Answer) → BuildRun n L w a w' → Never 5 a
never_five n L w w' a run p q e = build_never_five n L w p q (sym run.answer ∙ e)

-- (b) with fit lengths and rows
module _ (n : ℕ) (L : List ℕ) (w w' : Buffers) (a : Answer) (run : BuildRun n L w a w')
    (sizes : T (sizes_fit n L)) (lengths : T (build_lengths n L w)) (rows : T (rows_fit n L)) where
  pub late_refusals : Late a ↔ (Accepted n L → ⊥)
  late_refusals =
      let x = build_late n L rows w sizes lengths in
      ((λ l. x.0 (subst Late run.answer l)), (λ f. subst Late (sym run.answer) (x.1 f)))

  pub only_nine : Accepted n L → a ≡ room_check (length w.border) (gives (borders L) (edges L))
  only_nine x = run.answer ∙ build_accepted n L rows w sizes lengths x

-- (c) a run of recovery, told m, that answers has written a list of m elements with exactly these tables
module _ (n m : ℕ) (V2e E2e list work : List ℕ) (a : Answer) (list' work' : List ℕ) (run : RecoverRun n m V2e E2e list work a list' work') where
  pub answered : (p q : ℕ) → a ≡ gives p q → (a ≡ gives 0 0) × HasTables n m list' V2e E2e
  unfolding recover_answer
  answered p q g =
      let sizes = call_sizes n m list in
      let lengths = recover_lengths n m V2e E2e list work in
      let (s, l, f) = past_lengths sizes lengths _ p q (sym run.answer ∙ g) in
      let h = (means_recovers n m V2e E2e).says (gave p q (recovers n m V2e E2e) f) in
      let (e, d) = recover_gives n m V2e E2e list work s l (walk V2e (widened m E2e)) h in
      (run.answer ∙ e, subst (λ (X : List ℕ). HasTables n m X V2e E2e) (sym (run.leaves ∙ d)) h)
    where
      gave : (p q : ℕ) (found : Bool) → elim found [ true ↦ gives 0 0 | false ↦ refused 10 0 0 ] ≡ gives p q → T found
      gave p q true e = tt
      gave p q false e = let z : ◌≡◌ {A = ℕ} 0 1 = cc in absurd (omega arith)

  -- in that list a vertex is unused exactly where its entry is 0: a 0 for a vertex with sides, and anything else for one without, is 10
  pub unused_where_zero : (p q : ℕ) → a ≡ gives p q → (v : ℕ) → 1 ≤ v → v ≤ n → (at V2e (v - 1) ≡ 0) ↔ ((f : ℕ) → About list' v f → ⊥)
  unused_where_zero p q g v from to =
      let h = (answered p q g).1 in
      let e : at (v2e n list') (v - 1) ≡ at V2e (v - 1) = ap (λ (X : List ℕ). at X (v - 1)) h.vertices in
      let (zero, none) = (described n list' h.accepted).unused_entry v from to in
      ((λ z f (s, b, w). zero (e ∙ z) s b), (λ f. sym e ∙ none (λ s b. f (element s) (s, b, refl))))

  -- with fit lengths it gives 10 exactly when no accepted list of m elements has them, and otherwise answers
  module _ (sizes : T (call_sizes n m list)) (lengths : T (recover_lengths n m V2e E2e list work)) where
    pub ten : (a ≡ refused 10 0 0) ↔ (((L : List ℕ) × HasTables n m L V2e E2e) → ⊥)
    ten =
        let x = recover_none n m V2e E2e list work sizes lengths in
        ((λ e. x.0 (sym run.answer ∙ e)), (λ f. run.answer ∙ x.1 f))

    pub otherwise : (a ≡ refused 10 0 0 → ⊥) → (a ≡ gives 0 0) × HasTables n m list' V2e E2e
    otherwise d = go (test (recovers n m V2e E2e))
      where
        go : Test (recovers n m V2e E2e) → (a ≡ gives 0 0) × HasTables n m list' V2e E2e
        go (pass t z) = answered 0 0 (run.answer ∙ (recover_gives n m V2e E2e list work sizes lengths _ ((means_recovers n m V2e E2e).says t)).0)
        go (fail t z) = absurd (d (ten.1 (λ x. T_not (recovers n m V2e E2e) t ((means_some_list n m V2e E2e).shows x))))
