-- Building and recovery, one after the other: what was built comes back, and what came back builds the tables that it came from. And n entries
-- of B2e are always enough.
-- Assumes nothing.
use Rattle.std.proofs.Math.Path.{◌≡◌, refl}
use Rattle.std.proofs.Common.{ap, sym, ◌∙◌, inl, inr}
use Rattle.std.specs.Prelude.{Bool, ◌⊎◌, List, ℕ, ◌+◌, ◌*◌, ◌≤◌, ◌<◌, T}
use Rattle.std.proofs.Math.Bool.{true, false}
use native.Mathlib.Omega.{arith}
use Rattle.std.proofs.Math.ListN.{length}
use Rattle.lists.specs.TestLaws.{means_both, means_either, means_eq, means_le}
use Rattle.rules.specs.Elements.{elements}
use Rattle.rules.specs.Pairing.{call_sizes, sizes_fit}
use Rattle.rules.specs.Tables.{columns, wide}
use Rattle.rules.specs.Recovery.{HasTables, widened}
use Rattle.rules.specs.Refusals.{Answer, gives, refused, Buffers, call_lengths, build_lengths, length_checks, room_check, list_answer, build_answer, recover_lengths}
use Rattle.theory.specs.FitRows.{Fit, means_call_sizes}
use Rattle.theory.specs.Entries.{length_v2e}
use Rattle.theory.specs.Columns.{three_or_four, length_e2e, widened_e2e}
use Rattle.theory.specs.Orders.{good}
use Rattle.theory.specs.Rims.{borders_few}
use Rattle.theory.specs.Answers.{room_enough, list_never}
use Rattle.theory.specs.Recovering.{tables_equal, recover_gives, not_in_four}
use Rattle.runs.specs.Runs.{BuildRun, RecoverRun}
use Rattle.runs.proofs.Demand3.{counted, list_counted, writes_tables, answered, ten}

-- the tables of an accepted list have fit lengths for recovery, where the element list and the work buffer have
module _ (n : ℕ) (L V2e E2e : List ℕ) (h : HasTables n (elements L) L V2e E2e) (list work : List ℕ)
    (long : length list ≡ length L) (room : n + 16 * elements L ≤ length work) where
  fit : Fit n L
  fit = (good n L h.accepted).fit

  either_long : (length E2e ≡ 3 * elements L) ⊎ (length E2e ≡ 4 * elements L)
  either_long =
      let l = ap length (sym h.opposites) ∙ length_e2e L in
      let by : (c : ℕ) → columns L ≡ c → length E2e ≡ c * elements L = λ c e. l ∙ ap (λ (i : ℕ). i * elements L) e in
      elim (three_or_four L) [ inl e ↦ inl (by 3 e) | inr e ↦ inr (by 4 e) ]

  sizes_fit_lem : T (call_sizes n (elements L) list)
  sizes_fit_lem = (means_call_sizes n (elements L) list).shows (fit.vertices, (fit.size, omega (arith, fit.fours)))

  lengths_fit : T (recover_lengths n (elements L) V2e E2e list work)
  unfolding recover_lengths call_lengths
  lengths_fit =
      let m = elements L in
      let columned = means_either (means_eq (length E2e) (3 * m)) (means_eq (length E2e) (4 * m)) in
      (means_both (means_eq (length V2e) n)
      (means_both (means_both (means_eq (length list) (4 * m)) columned) (means_le (n + 16 * m) (length work)))).shows
      (ap length (sym h.vertices) ∙ length_v2e L n, ((omega (arith, fit.fours), either_long), room))

  -- recovery writes exactly that list
  pub tables_come_back : (b : Answer) (list' work' : List ℕ) → RecoverRun n (elements L) V2e E2e list work b list' work' → (b ≡ gives 0 0) × (list' ≡ L)
  tables_come_back b list' work' run =
      let (f, g) = recover_gives n (elements L) V2e E2e list work sizes_fit_lem lengths_fit L h in
      (run.answer ∙ f, run.leaves ∙ g)

-- a run of build that counts, and then a run of recovery on what it left, told m
module _ (n : ℕ) (L : List ℕ) (w w' : Buffers) (a : Answer) (k e : ℕ) (built : BuildRun n L w a w') (counts : a ≡ gives k e)
    (list work : List ℕ) (b : Answer) (list' work' : List ℕ) (run : RecoverRun n (elements L) w'.vertices w'.opposites list work b list' work') where
  tables : HasTables n (elements L) L w'.vertices w'.opposites
  tables = writes_tables n L w a w' k e built counts

  -- it writes exactly that list, where the element list and the work buffer have fit lengths
  pub comes_back : length list ≡ length L → n + 16 * elements L ≤ length work → (b ≡ gives 0 0) × (list' ≡ L)
  comes_back long room = tables_come_back n L w'.vertices w'.opposites tables list work long room b list' work' run

  -- ... and no other, whenever it answers
  pub comes_back_alone : (p q : ℕ) → b ≡ gives p q → list' ≡ L
  comes_back_alone p q g =
      let h = (answered n (elements L) w'.vertices w'.opposites list work b list' work' run p q g).1 in
      (tables_equal n n (elements L) list' L w'.vertices w'.opposites h tables).1

-- a run of recovery that answers, and then a run of build that counts on the list that it left: the tables are those that recovery was given
pub builds_back : (n m : ℕ) (V2e E2e list work list' work' : List ℕ) (b : Answer) (p q : ℕ) → RecoverRun n m V2e E2e list work b list' work' → b ≡ gives p q
    → (w w' : Buffers) (a : Answer) (k e : ℕ) → BuildRun n list' w a w' → a ≡ gives k e → (w'.vertices ≡ V2e) × (w'.opposites ≡ E2e)
builds_back n m V2e E2e list work list' work' b p q run g w w' a k e built counts =
    let h = (answered n m V2e E2e list work b list' work' run p q g).1 in
    let t = writes_tables n list' w a w' k e built counts in
    (sym t.vertices ∙ h.vertices, sym t.opposites ∙ h.opposites)

-- "A triangle list that isn't empty, offered in four columns, gives 10": a run of build that counts on a list without a quadrilateral, and then a
-- run of recovery on the E2e that it left, put into four columns
pub triangles_in_four : (n : ℕ) (L : List ℕ) (w w' : Buffers) (a : Answer) (k e : ℕ) → BuildRun n L w a w' → a ≡ gives k e → columns L ≡ 3 → 0 < elements L
    → (list work : List ℕ) (b : Answer) (list' work' : List ℕ)
    → RecoverRun n (elements L) w'.vertices (widened (elements L) w'.opposites) list work b list' work'
    → T (call_sizes n (elements L) list) → T (recover_lengths n (elements L) w'.vertices (widened (elements L) w'.opposites) list work)
    → b ≡ refused 10 0 0
triangles_in_four n L w w' a k e built counts three some list work b list' work' run sizes lengths =
    let m = elements L in
    let t = writes_tables n L w a w' k e built counts in
    let four : widened m w'.opposites ≡ wide L = ap (widened m) (sym t.opposites) ∙ widened_e2e L in
    (ten n m w'.vertices (widened m w'.opposites) list work b list' work' run sizes lengths).1
    (λ (X, h). not_in_four n L t.accepted three some (X, (rw (← t.vertices, four) at h)))

-- n entries of B2e are always enough, with spare vertices too, since border sides end at different vertices
pub room_for_all : (n : ℕ) (L : List ℕ) (room : ℕ) → T (sizes_fit n L) → n ≤ room → (p q : ℕ) → room_check room (list_answer n L) ≡ refused 9 p q → ⊥
unfolding room_check
room_for_all n L room s long p q g = past (list_answer n L) refl g
  where
    past : (x : Answer) → list_answer n L ≡ x → room_check room x ≡ refused 9 p q → ⊥
    past (refused r i j) e f = list_never n L 9 (λ r from to d e. e) p q (e ∙ f)
    past (gives k j) e f =
        let (x, b) = list_counted n L s k j e in
        let h : k ≤ room = omega (arith, b.0, borders_few n L (good n L x)) in
        let f' = sym (room_enough room k j h) ∙ f in
        let z : ◌≡◌ {A = ℕ} 0 1 = cc in omega arith

module _ (n : ℕ) (L : List ℕ) (w w' : Buffers) (a : Answer) (run : BuildRun n L w a w') where
  -- k is at most n
  pub few_borders : (k e : ℕ) → a ≡ gives k e → k ≤ n
  few_borders k e g =
      let c = counted n L w k e (sym run.answer ∙ g) in
      omega (arith, c.borders_are, borders_few n L (good n L c.accepted))

  -- so with n entries of B2e no list whatever is refused by 9
  pub never_nine : n ≤ length w.border → (p q : ℕ) → a ≡ refused 9 p q → ⊥
  unfolding build_answer length_checks
  never_nine long p q g = go (sizes_fit n L) (build_lengths n L w) refl (sym run.answer ∙ g)
    where
      go : (sizes lengths : Bool) → sizes_fit n L ≡ sizes → length_checks sizes lengths (room_check (length w.border) (list_answer n L)) ≡ refused 9 p q → ⊥
      go true true s f = room_for_all n L (length w.border) (rw s tt) long p q f
      go true false s f = let z : ◌≡◌ {A = ℕ} 2 9 = cc in omega arith
      go false l s f = let z : ◌≡◌ {A = ℕ} 1 9 = cc in omega arith
