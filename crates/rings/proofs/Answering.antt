-- What a list query answers and leaves after the checks.
-- Assumes nothing.
use mathlib.Core.List.{List}
use mathlib.Core.Option.{Option, none, some}
use mathlib.Core.Path.{◌≡◌, refl, ap, sym, ◌∙◌}
use Prim.Native.Nat.{ℕ}
use lib.ListN.{length}
use Rattle.std.specs.Prelude.{Bool, Ok, Err}
use Rattle.answer.specs.Numbers.{number_in}
use Rattle.answer.specs.declared.Refusal.{Refusal}
use Rattle.lists.specs.Tests.{within}
use Rattle.rules.specs.Elements.{elements, element}
use Rattle.rules.specs.Refusals.{Answer, refused, after}
use Rattle.rules.specs.Queries.{Mesh, listed, list_leaves, listed_answer, start_side, onward, read_destination, loop_next, is_vertex}
use Rattle.rules.specs.Queries.{ring_answer, ring_leaves, neighbours_answer, neighbours_leaves, border_loop_answer, border_loop_leaves}
use Rattle.reads.specs.Readings.{prior_vertex}
use Rattle.admission.specs.Admitting.{Admits}
use Rattle.passes.specs.Walks.{walked, preceded, Lists}
use Rattle.passes.proofs.Listing.{lists_none}
use Rattle.rings.proofs.Rings.{ring_walk, ring_none, neighbours_walk, neighbours_unstarted, neighbours_unread, border_walk}

module _ (M : Mesh) (there : Bool) (xs : Option (List ℕ)) (out : List ℕ) where
  -- the answer and the output of a query that lists xs
  abbrev Done : Answer → List ℕ → Type 0
  Done r left = (r ≡ listed_answer M there xs out) × (left ≡ list_leaves (listed_answer M there xs out) xs out)

  refused_leaves : (a : Answer) (i p q : ℕ) → a ≡ refused i p q → out ≡ list_leaves a xs out
  unfolding list_leaves after
  refused_leaves a i p q e = sym (ap (λ (b : Answer). list_leaves b xs out) e ∙ keeps xs)
    where
      keeps : (o : Option (List ℕ)) → list_leaves (refused i p q) o out ≡ out
      keeps (some ys) = refl
      keeps none = refl

  pub list_refused : {e : Refusal} → Admits M there (Err e) → Done (refused (number_in e.reason) e.first e.second) out
  unfolding listed_answer
  list_refused x = let p = x.settled (listed (length out) xs) in (sym p, refused_leaves _ _ _ _ p)

  module _ {F : Mesh} (x : Admits M there (Ok F)) where
    pub list_done : {r : Answer} {left : List ℕ} → Lists xs out r left → Done r left
    unfolding listed_answer
    list_done l =
        let p = x.settled (listed (length out) xs) in
        (l.answer ∙ sym p, l.leaves ∙ ap (λ (a : Answer). list_leaves a xs out) (sym p))

    pub list_broken : xs ≡ none → Done (refused 12 0 0) out
    list_broken e = list_done (rw e (lists_none out))

module _ (M : Mesh) (v : ℕ) (out : List ℕ) where
  abbrev Ring : Answer → List ℕ → Type 0
  Ring r left = (r ≡ ring_answer M v out) × (left ≡ ring_leaves M v out)

  abbrev Neighbours : Answer → List ℕ → Type 0
  Neighbours r left = (r ≡ neighbours_answer M v out) × (left ≡ neighbours_leaves M v out)

  module _ {b : Bool} (t : b ≡ is_vertex M v) {e : Refusal} (x : Admits M b (Err e)) where
    pub ring_refused : Ring (refused (number_in e.reason) e.first e.second) out
    unfolding ring_answer ring_leaves
    ring_refused = list_refused _ _ _ _ (rw t at x)

    pub neighbours_refused : Neighbours (refused (number_in e.reason) e.first e.second) out
    unfolding neighbours_answer neighbours_leaves
    neighbours_refused = list_refused _ _ _ _ (rw t at x)

  module _ {b : Bool} (t : b ≡ is_vertex M v) {F : Mesh} (x : Admits M b (Ok F)) where
    pub ring_broken : start_side F v ≡ none → Ring (refused 12 0 0) out
    unfolding ring_answer ring_leaves
    ring_broken e = list_broken _ _ _ _ (rw t at x) (ring_none M v (rw x.passed.0 at e))

    pub ring_done : {s m : ℕ} {r : Answer} {left : List ℕ} → start_side F v ≡ some s → m ≡ elements F.list
        → Lists (preceded 0 (walked (λ y. some (element y)) (onward F s) m s)) out r left → Ring r left
    unfolding ring_answer ring_leaves preceded
    ring_done {s} e k l = list_done _ _ _ _ (rw t at x) (rw (← ring_walk M v s (rw x.passed.0 at e)) (rw (k, x.passed.0) at l))

    pub neighbours_unbegun : start_side F v ≡ none → Neighbours (refused 12 0 0) out
    unfolding neighbours_answer neighbours_leaves
    neighbours_unbegun e = list_broken _ _ _ _ (rw t at x) (neighbours_unstarted M v (rw x.passed.0 at e))

    pub neighbours_broken : prior_vertex F v ≡ none → Neighbours (refused 12 0 0) out
    unfolding neighbours_answer neighbours_leaves
    neighbours_broken e = list_broken _ _ _ _ (rw t at x) (neighbours_unread M v (rw x.passed.0 at e))

    pub neighbours_done : {s u m : ℕ} {r : Answer} {left : List ℕ} → start_side F v ≡ some s → prior_vertex F v ≡ some u → m ≡ elements F.list
        → Lists (preceded u (walked (read_destination F) (onward F s) m s)) out r left → Neighbours r left
    unfolding neighbours_answer neighbours_leaves
    neighbours_done {s} {u} e p k l =
        list_done _ _ _ _ (rw t at x)
        (rw (← neighbours_walk M v s u (rw x.passed.0 at e) (rw x.passed.0 at p)) (rw (k, x.passed.0) at l))

module _ (M : Mesh) (b : ℕ) (out : List ℕ) where
  abbrev Loop : Answer → List ℕ → Type 0
  Loop r left = (r ≡ border_loop_answer M b out) × (left ≡ border_loop_leaves M b out)

  pub loop_refused : {there : Bool} → there ≡ within 1 (length M.border) b → {e : Refusal} → Admits M there (Err e) → Loop (refused (number_in e.reason) e.first e.second) out
  unfolding border_loop_answer border_loop_leaves
  loop_refused t x = list_refused _ _ _ _ (rw t at x)

  module _ {there : Bool} (t : there ≡ within 1 (length M.border) b) {F : Mesh} (x : Admits M there (Ok F)) where
    pub loop_done : {k : ℕ} {r : Answer} {left : List ℕ} → k ≡ length F.border → Lists (preceded 0 (walked some (loop_next F b) k b)) out r left → Loop r left
    unfolding border_loop_answer border_loop_leaves preceded
    loop_done e l = list_done _ _ _ _ (rw t at x) (rw (← border_walk M b) (rw (e, x.passed.0) at l))
