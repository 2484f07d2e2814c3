-- The whole call: refused by the checks of a query, or for its work buffer; or what checks 12 and 13 say, with the work buffer cleared.
-- Assumes nothing.
use mathlib.Core.Path.{◌≡◌, refl, ap, ◌∙◌}
use mathlib.Core.Bool.{Bool, true, false}
use mathlib.Core.List.{List}
use Prim.Native.Nat.{ℕ, ◌+◌, ◌*◌, ◌≤◌, ◌<◌}
use native.Mathlib.Omega.{arith}
use lib.Dec.{leb}
use lib.ListN.{length, replicate}
use Rattle.lists.specs.Tests.{both}
use Rattle.lists.specs.TestLaws.{true_of, false_of, means_not, means_le}
use Rattle.rules.specs.Elements.{elements}
use Rattle.rules.specs.Pairing.{sizes_fit}
use Rattle.rules.specs.Refusals.{Answer, gives, refused, length_checks, after, onto}
use Rattle.rules.specs.Queries.{Mesh, query_lengths, asked, defined}
use Rattle.rules.specs.Holes.{HoleBuffers, holes, hole_lengths, holes_found, holes_fit, holes_answer, holes_leaves}
use Rattle.theory.specs.Calls as calls
use Rattle.std.specs.Prelude.{Ok, Err}
use Rattle.answer.specs.Numbers.{number_in}
use Rattle.answer.specs.declared.Refusal.{Refusal}
use Rattle.admission.specs.Admitting.{Admits}
use Rattle.holes.specs.Marks.{lent_holes, Outcome}

-- checks 1 and 2 name no place
placeless : (sizes query : Bool) {r p q : ℕ} → ((a : Answer) → length_checks sizes query a ≡ refused r p q) → (p ≡ 0) × (q ≡ 0)
unfolding length_checks
placeless true true f = let e = f (gives 0 0) in let z : ◌≡◌ {A = ℕ} 0 1 = cc in absurd (omega arith)
placeless true false f = let e = f (gives 0 0) in (cc, cc)
placeless false query f = let e = f (gives 0 0) in (cc, cc)

module _ (M : Mesh) (hole lengths work : List ℕ) where
  abbrev w : HoleBuffers
  w = lent_holes hole lengths work

  abbrev sizes : Bool
  sizes = sizes_fit M.n M.list

  abbrev long : Bool
  long = leb (M.n + 16 * elements M.list) (length work)

  -- by its answer, and by what the work holds
  leaves : Answer → List ℕ → HoleBuffers
  leaves a = lent_holes (after a (onto (holes M) hole) hole) (after a (onto (hole_lengths M) lengths) lengths)

  abbrev pub Whole : Answer → HoleBuffers → Type 0
  Whole a w' = (a ≡ holes_answer M w) × (w' ≡ holes_leaves M w)

  pub turned_away : {e : Refusal} → Admits M true (Err e) → Whole (refused (number_in e.reason) e.first e.second) w
  unfolding leaves after holes_answer holes_leaves holes_fit asked defined
  turned_away x =
      let (p, q) = placeless sizes (query_lengths M) x.settled in
      rw (p, q)
      (calls.unadmitted leaves sizes (query_lengths M) long (holes_found M hole lengths) work _ (λ y. rw (p, q) at (x.settled y)) refl)

  module _ {F : Mesh} (x : Admits M true (Ok F)) where
    -- checks 1 and 2 of a query find nothing
    fit : (sizes ≡ true) × (query_lengths M ≡ true)
    unfolding asked defined
    fit = calls.admitted sizes (query_lengths M) (λ y. x.settled y)

    pub short : length work < M.n + 16 * elements M.list → Whole (refused 2 0 0) w
    unfolding leaves after holes_answer holes_leaves holes_fit
    short l =
        let (s, q) = fit in
        let no = false_of long ((means_not (means_le (M.n + 16 * elements M.list) (length work))).shows (λ m. omega arith)) in
        calls.unlengthened leaves sizes (both (query_lengths M) long) (holes_found M hole lengths) work s (rw (q, no)) refl

    pub done : {a : Answer} {hole' lengths' work' : List ℕ} {l : ℕ} → M.n + 16 * elements M.list ≤ length work →
        Outcome M a hole lengths hole' lengths' × (l ≡ length work) → work' ≡ replicate l 0 → Whole a (lent_holes hole' lengths' work')
    unfolding leaves holes_answer holes_leaves holes_fit
    done {work' = work'} m (o, e) z =
        let (s, q) = fit in
        let enough = true_of long ((means_le _ _).shows m) in
        let zeros = z ∙ ap (λ (k : ℕ). replicate k 0) e in
        let (f, g) = calls.cleared leaves sizes (both (query_lengths M) long) (holes_found M hole lengths) work (s, rw (q, enough)) o.answer zeros in
        (f, (λ i. lent_holes (o.holes_left i) (o.lengths_left i) work') ∙ g)
