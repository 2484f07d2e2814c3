-- The list that the walk over the given tables proposes: when it is accepted and these are its own.
-- Assumes nothing.
use Rattle.std.specs.Prelude.{◌≡◌, Bool, true, false, ℕ, T, eqb, length}
use Rattle.std.proofs.Math.Path.{ap}
use Rattle.std.proofs.Common.{sym, subst, ◌∙◌, T_not}
use mathlib.Core.List.{List}
use Rattle.std.proofs.Math.Dec.{not_T}
use Rattle.lists.specs.Tests.{both, same}
use Rattle.lists.specs.TestLaws.{Test, pass, fail, test, true_of, false_of, passes, both_pass, Means, means_both, means_eq, means_same}
use Rattle.lists.specs.Search.{at}
use Rattle.rules.specs.Elements.{elements, slot, origin}
use Rattle.rules.specs.Pairing.{sizes_fit, unfit_corner, repeated_corner, rows_fit}
use Rattle.rules.specs.Tables.{e2e, wide, v2e}
use Rattle.rules.specs.Recovery.{widened, walk}
use Rattle.rules.specs.Refusals.{Answer, gives, refused, crowded_side, alike_side, unordered_vertex, clashing, accepts, recovers}
use Rattle.theory.specs.Answers.{gives_refused, rows_clear}
use Rattle.theory.specs.Columns.{widened_e2e}
use Rattle.theory.specs.Deciding.{means_covered}
use Rattle.checks.specs.Pairs.{pairs_clear}
use Rattle.borders.specs.Numbers.{Ready, Numbered}
use Rattle.tabulate.specs.Results.{list_pairs, Paired, Holds, passed, pairs_found, numbered_holds}

-- the same tables
abbrev pub agree : List ℕ → List ℕ → List ℕ → List ℕ → Bool
agree V2e' E2e' V2e E2e = both (same V2e' V2e) (same E2e' E2e)

module _ (n : ℕ) (L : List ℕ) where
  -- checks 3 to 7 and 18 find nothing
  pub record Unfaulted : Type 0 where
    pub fit : unfit_corner n L ≡ 0
    pub single : repeated_corner L ≡ 0
    pub uncrowded : crowded_side L ≡ 0
    pub apart : alike_side L ≡ 0
    pub meets : clashing L ≡ 0

  accepts_unfaulted : T (accepts n L) → Unfaulted
  unfolding accepts rows_fit
  accepts_unfaulted t =
      let (r, x) = passes (both (sizes_fit n L) (both (eqb (unfit_corner n L) 0) (eqb (repeated_corner L) 0))) _ t in
      let (y, z) = passes (sizes_fit n L) (both (eqb (unfit_corner n L) 0) (eqb (repeated_corner L) 0)) r in
      let (a, b) = passes (eqb (unfit_corner n L) 0) (eqb (repeated_corner L) 0) z in
      let (c, u) = passes (eqb (crowded_side L) 0) (both (eqb (alike_side L) 0) (both (eqb (unordered_vertex n L) 0) (eqb (clashing L) 0))) x in
      let (d, w) = passes (eqb (alike_side L) 0) (both (eqb (unordered_vertex n L) 0) (eqb (clashing L) 0)) u in
      let (e, f) = passes (eqb (unordered_vertex n L) 0) (eqb (clashing L) 0) w in
      record {
        fit = (means_eq _ 0).says a;
        single = (means_eq _ 0).says b;
        uncrowded = (means_eq _ 0).says c;
        apart = (means_eq _ 0).says d;
        meets = (means_eq _ 0).says f;
      }

  unfaulted_accepts : T (sizes_fit n L) → Unfaulted → unordered_vertex n L ≡ 0 → T (accepts n L)
  unfolding accepts rows_fit
  unfaulted_accepts t s o =
      both_pass (both (sizes_fit n L) (both (eqb (unfit_corner n L) 0) (eqb (repeated_corner L) 0))) _
      (both_pass (sizes_fit n L) _ t
      (both_pass (eqb (unfit_corner n L) 0) (eqb (repeated_corner L) 0) ((means_eq _ 0).shows s.fit) ((means_eq _ 0).shows s.single)))
      (both_pass (eqb (crowded_side L) 0) _ ((means_eq _ 0).shows s.uncrowded)
      (both_pass (eqb (alike_side L) 0) _ ((means_eq _ 0).shows s.apart)
      (both_pass (eqb (unordered_vertex n L) 0) (eqb (clashing L) 0) ((means_eq _ 0).shows o) ((means_eq _ 0).shows s.meets))))

  -- a list that the walk over its own tables writes has a turn order about every vertex
  walked_ordered : walk (v2e n L) (wide L) ≡ L → unordered_vertex n L ≡ 0
  unfolding origin
  walked_ordered w =
      (means_eq (unordered_vertex n L) 0).says
      ((means_covered n L).shows (λ v a b s (x, e). ap (λ (X : List ℕ). at X (slot s)) w ∙ e))

  -- recovery of the list that the walk over the given tables writes
  module _ (V2e E2e : List ℕ) (given : walk V2e (widened (elements L) E2e) ≡ L) where
    both_tests : recovers n (elements L) V2e E2e ≡ both (accepts n L) (agree (v2e n L) (e2e L) V2e E2e)
    unfolding recovers
    both_tests = ap (λ (X : List ℕ). both (accepts n X) (agree (v2e n X) (e2e X) V2e E2e)) given

    pub faulted : (Unfaulted → ⊥) → false ≡ recovers n (elements L) V2e E2e
    faulted d =
        sym (both_tests ∙ ap (λ (b : Bool). both b (agree (v2e n L) (e2e L) V2e E2e)) (false_of (accepts n L) (not_T (accepts n L) (λ t. d (accepts_unfaulted t)))))

    -- where the tables are the list's own, the walk over its own tables wrote it
    own_walk : T (agree (v2e n L) (e2e L) V2e E2e) → walk (v2e n L) (wide L) ≡ L
    own_walk t =
        let (v, e) = (means_both (means_same (v2e n L) V2e) (means_same (e2e L) E2e)).says t in
        ap (λ (X : List ℕ). walk X (wide L)) v
        ∙ ap (walk V2e) (sym (widened_e2e L) ∙ ap (widened (elements L)) e)
        ∙ given

    pub agreement : T (sizes_fit n L) → Unfaulted → agree (v2e n L) (e2e L) V2e E2e ≡ recovers n (elements L) V2e E2e
    agreement t s = go (test (agree (v2e n L) (e2e L) V2e E2e))
      where
        go : Test (agree (v2e n L) (e2e L) V2e E2e) → agree (v2e n L) (e2e L) V2e E2e ≡ recovers n (elements L) V2e E2e
        go (pass u e) =
            e ∙ sym (both_tests ∙ true_of _ (both_pass (accepts n L) _ (unfaulted_accepts t s (walked_ordered (own_walk u))) u))
        go (fail u e) =
            let tests = both (accepts n L) (agree (v2e n L) (e2e L) V2e E2e) in
            let none = not_T tests (λ x. T_not (agree (v2e n L) (e2e L) V2e E2e) u (passes (accepts n L) (agree (v2e n L) (e2e L) V2e E2e) x).1) in
            e ∙ sym (both_tests ∙ false_of tests none)

-- the list is sound, and then its tables stand in the buffer
pub record OwnTables (n : ℕ) (L : List ℕ) (r : Bool) (w w' : List ℕ) : Type 0 where
  pub says : Means r (Unfaulted n L)
  pub holds : r ≡ true → Holds n L w'
  pub long : length w' ≡ length w

-- by the answer b of checks 3 to 7 with the element f that 18 finds
module _ {n : ℕ} {L w w₁ : List ℕ} {b : Answer} (x : Paired n L (list_pairs n L) b w w₁) where
  pub refused_faulted : {r p q : ℕ} → b ≡ refused r p q → OwnTables n L false w w₁
  refused_faulted e = record {
    says = record {
      says = λ t. absurd t;
      shows = λ s.
          gives_refused
          (sym (rows_clear n L _ s.fit s.single ∙ pairs_clear L _ s.uncrowded s.apart) ∙ sym x.answer ∙ e);
    };
    holds = λ z. absurd (subst T (sym z) tt);
    long = x.long;
  }

  module _ {f e : ℕ} (g : b ≡ gives f e) where
    pub clash_faulted : (f ≡ 0 → ⊥) → OwnTables n L false w w₁
    clash_faulted d =
        record {
          says = record { says = λ t. absurd t; shows = λ s. d ((pairs_found x g).1 ∙ s.meets) };
          holds = λ z. absurd (subst T (sym z) tt);
          long = x.long;
        }

    pub to_number : {a : ℕ} → a ≡ n → Ready a L w₁
    to_number i = rw i (pairs_found x g).0

    pub tables_stand : f ≡ 0 → {a k c : ℕ} → a ≡ n → {w₂ : List ℕ} → Numbered a L k c w₁ w₂ → OwnTables n L true w w₂
    tables_stand z i y =
        let (p, q, r, s, j) = passed x g in
        record {
          says = record {
            says = λ t. record { fit = p; single = q; uncrowded = r; apart = s; meets = sym (pairs_found x g).1 ∙ z };
            shows = λ s. tt;
          };
          holds = λ t. numbered_holds i y;
          long = y.long ∙ x.long;
        }
