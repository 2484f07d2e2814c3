-- Two accepted lists of as many elements with the same V2e and E2e are equal, and recovery gives a list exactly when an accepted list of the m
-- that it is told has the given tables.
-- Assumes nothing.
use Rattle.std.specs.Prelude.{◌≡◌, Bool, true, false, not, ◌↔◌, List, ℕ, ◌*◌, ◌<◌, T, length}
use Rattle.std.proofs.Math.Path.{ap}
use Rattle.std.proofs.Common.{sym, ◌∙◌, arith}
use Rattle.std.proofs.Math.Dec.{not_T}
use Rattle.lists.specs.TestLaws.{true_of, false_of, Means, means_both, means_same}
use Rattle.rules.specs.Elements.{elements}
use Rattle.rules.specs.Pairing.{Accepted, call_sizes}
use Rattle.rules.specs.Tables.{columns, e2e, wide, v2e}
use Rattle.rules.specs.Recovery.{HasTables, widened, walk}
use Rattle.rules.specs.Refusals.{Answer, gives, refused, length_checks, after, recover_lengths, recovers, recover_answer, recover_list}
use Rattle.theory.specs.Entries.{length_v2e, length_wide}
use Rattle.theory.specs.Columns.{length_e2e, widened_e2e, length_widened, widened_four}
use Rattle.theory.specs.Tracing.{length_walk}
use Rattle.theory.specs.Orders.{good}
use Rattle.theory.specs.Covering.{walk_back}
use Rattle.theory.specs.Deciding.{means_accepted}

-- theorem 4: the walk over the tables in four columns gives an accepted list back, so with m they say which list it is, and on how many
-- vertices
pub tables_say : (n m : ℕ) (L V2e E2e : List ℕ) → HasTables n m L V2e E2e → walk V2e (widened m E2e) ≡ L
tables_say n m L V2e E2e h =
    let e : widened m E2e ≡ wide L = ap (λ (X : List ℕ). widened m X) (sym h.opposites) ∙ ap (λ (k : ℕ). widened k (e2e L)) (sym h.size) ∙ widened_e2e L in
    ap (λ (X : List ℕ). walk X (widened m E2e)) (sym h.vertices) ∙ ap (walk (v2e n L)) e ∙ walk_back n L (good n L h.accepted)

pub tables_equal : (n n' m : ℕ) (L L' V2e E2e : List ℕ) → HasTables n m L V2e E2e → HasTables n' m L' V2e E2e → (n ≡ n') × (L ≡ L')
tables_equal n n' m L L' V2e E2e h h' = (
  sym (length_v2e L n) ∙ ap length (h.vertices ∙ sym h'.vertices) ∙ length_v2e L' n',
  sym (tables_say n m L V2e E2e h) ∙ tables_say n' m L' V2e E2e h',
)

module _ (n m : ℕ) (V2e E2e : List ℕ) where
  -- the walk's list
  abbrev back : List ℕ
  back = walk V2e (widened m E2e)

  size_back : elements back ≡ m
  size_back = omega (arith, length_walk V2e (widened m E2e), length_widened m E2e)

  -- theorem 5: the test of recovery passes exactly when the walk's list has these tables
  pub means_recovers : Means (recovers n m V2e E2e) (HasTables n m back V2e E2e)
  unfolding recovers
  means_recovers =
      let t = means_both (means_accepted n back) (means_both (means_same (v2e n back) V2e) (means_same (e2e back) E2e)) in
      record {
        says = λ x. let (a, (v, e)) = t.says x in record { accepted = a; size = size_back; vertices = v; opposites = e };
        shows = λ h. t.shows (h.accepted, (h.vertices, h.opposites));
      }

  -- ... and so exactly when some accepted list of m elements has them
  pub means_some_list : Means (recovers n m V2e E2e) ((L : List ℕ) × HasTables n m L V2e E2e)
  means_some_list =
      record {
        says = λ t. (back, means_recovers.says t);
        shows = λ (L, h). means_recovers.shows (rw (tables_say n m L V2e E2e h) h);
      }

  module _ (list work : List ℕ) (sizes : T (call_sizes n m list)) (lengths : T (recover_lengths n m V2e E2e list work)) where
    fit_answer : recover_answer n m V2e E2e list work ≡ elim (recovers n m V2e E2e) [ true ↦ gives 0 0 | false ↦ refused 10 0 0 ]
    unfolding recover_answer length_checks
    fit_answer = rw (true_of (call_sizes n m list) sizes, true_of (recover_lengths n m V2e E2e list work) lengths, length_checks)

    recovered : T (recovers n m V2e E2e) → recover_answer n m V2e E2e list work ≡ gives 0 0
    recovered t = fit_answer ∙ ap (λ (b : Bool). elim b [ true ↦ gives 0 0 | false ↦ refused 10 0 0 ]) (true_of (recovers n m V2e E2e) t)

    none : T (not (recovers n m V2e E2e)) → recover_answer n m V2e E2e list work ≡ refused 10 0 0
    none t = fit_answer ∙ ap (λ (b : Bool). elim b [ true ↦ gives 0 0 | false ↦ refused 10 0 0 ]) (false_of (recovers n m V2e E2e) t)

    -- theorem 5: with fit lengths, an accepted list of m elements that has these tables is what recovery leaves in the element list
    pub recover_gives : (L : List ℕ) → HasTables n m L V2e E2e → (recover_answer n m V2e E2e list work ≡ gives 0 0) × (recover_list n m V2e E2e list work ≡ L)
    unfolding recover_list after
    recover_gives L h =
        let e = recovered (means_some_list.shows (L, h)) in
        (e, ap (λ (a : Answer). after a back list) e ∙ tables_say n m L V2e E2e h)

    -- theorem 5: it gives 10 exactly when no accepted list of m elements has these tables
    pub recover_none : (recover_answer n m V2e E2e list work ≡ refused 10 0 0) ↔ (((L : List ℕ) × HasTables n m L V2e E2e) → ⊥)
    recover_none = (
      (λ e x. let g = recovered (means_some_list.shows x) in let z : ◌≡◌ {A = ℕ} 0 1 = cc in omega arith),
      (λ f. none (not_T (recovers n m V2e E2e) (λ t. f (means_some_list.says t)))),
    )

-- document 02, point 10: the tables of a triangle list that isn't empty, put into four columns, are no accepted list's
pub not_in_four : (n : ℕ) (L : List ℕ) → Accepted n L → columns L ≡ 3 → 0 < elements L → ((X : List ℕ) × HasTables n (elements L) X (v2e n L) (wide L)) → ⊥
not_in_four n L a three some (X, t) =
    let m = elements L in
    let as_it_is : widened m (wide L) ≡ wide L = widened_four m (wide L) (length_wide L) in
    let own : X ≡ L = sym (tables_say n m X (v2e n L) (wide L) t) ∙ ap (walk (v2e n L)) as_it_is ∙ walk_back n L (good n L a) in
    let long : length (wide L) ≡ 3 * elements X =
    ap length (sym t.opposites) ∙ length_e2e X ∙ ap (λ (c : ℕ). c * elements X) (ap columns own ∙ three) in
    omega (arith, t.size, length_wide L)
