-- The walker on built tables: its calls hand out the ring in order, then 0 for ever with the record unchanged.
-- Assumes nothing.
use Rattle.std.specs.Prelude.{◌≡◌, refl, Bool, ◌⊎◌, List, leb, eqb, length}
use Rattle.std.proofs.Math.Path.{ap}
use Rattle.std.proofs.Common.{sym, ◌∙◌, inl, inr, arith}
use Rattle.std.proofs.Math.Bool.{true}
use Rattle.std.proofs.Math.Option.{Option, some}
use Prim.Native.Nat.{ℕ, zero, suc, ◌+◌, ◌-◌, ◌≤◌, ◌<◌}
use Rattle.std.proofs.Math.ListN.{get_or-eq_default}
use Rattle.lists.specs.Tests.{both, either}
use Rattle.lists.specs.TestLaws.{true_of, false_of, decide, both_pass, means_either, means_not, means_eq, means_le, means_lt}
use Rattle.lists.specs.Search.{at}
use Rattle.rules.specs.Elements.{elements, element, is_side, Side}
use Rattle.rules.specs.Pairing.{SideAt}
use Rattle.rules.specs.Refusals.{Answer, gives}
use Rattle.rules.specs.Queries.{Mesh, asked, defined, found, and_then, is_vertex, start_side, onward, ring, Walker, Walked, walked, started, start_answer, walker_start, goes_to, moved, walker_step}
use Rattle.theory.specs.Sides.{side_positive}
use Rattle.theory.specs.FitRows.{Fit}
use Rattle.theory.specs.Orders.{Good}
use Rattle.theory.specs.Follows.{Followed}
use Rattle.theory.specs.Built.{built, asked_built, means_vertex}
use Rattle.theory.specs.Reads.{and_then_lem, Mapped}
use Rattle.theory.specs.Rings.{the_ring, ring_lists}

-- the record after i calls
unfoldable pub stepped : Mesh → Walker → ℕ → Walker
stepped M w zero = w
stepped M w (suc i) = (walker_step M (stepped M w i)).walker

-- "The calls hand out the ring in order, then 0 for ever with the record unchanged"
pub record HandsOut (M : Mesh) (w : Walker) (es : List ℕ) : Type 0 where
  pub hands : (i : ℕ) → i < length es → (walker_step M (stepped M w i)).answer ≡ gives (at es i) 0
  pub over : (i : ℕ) → length es ≤ i → (walker_step M (stepped M w i)).answer ≡ gives 0 0
  pub rests : (i : ℕ) → length es ≤ i → (walker_step M (stepped M w i)).walker ≡ stepped M w i

abbrev walker : ℕ → ℕ → ℕ → Walker
walker s x j = record { start = s; following = x; handed = j }

abbrev gone : ℕ → Walker → Walked
gone x w = record { answer = gives x 0; walker = w }

module _ (n : ℕ) (L : List ℕ) (fit : Fit n L) where
  step_rest : (s j : ℕ) → walker_step (built n L) (walker s 0 j) ≡ gone 0 (walker s 0 j)
  unfolding walker_step walked
  step_rest s j = ap (λ (a : Answer). walked a (walker s 0 j) (walker s 0 j)) (asked_built n L fit (gives 0 0))

  module _ (s x j t : ℕ) (a : Side L s) (b : Side L x) (h : j + 1 ≤ elements L) (e : onward (built n L) s x ≡ some t) (f : (t ≡ 0) ⊎ (j + 2 ≤ elements L)) where
    goes_to_lem : goes_to (built n L) (walker s x j) ≡ some t
    unfolding goes_to
    goes_to_lem =
        let whole : both (is_side L s) (both (is_side L x) (leb (j + 1) (elements L))) ≡ true =
        true_of _ (both_pass (is_side L s) _ a (both_pass (is_side L x) _ b ((means_le (j + 1) (elements L)).shows h))) in
        let p = (means_either (means_eq t 0) (means_le (j + 2) (elements L))).shows f in
        rw (whole, goes_to) (and_then_lem _ e ∙ rw (true_of (either (eqb t 0) (leb (j + 2) (elements L))) p) refl)

    step_on : walker_step (built n L) (walker s x j) ≡ gone (element x) (walker s t (j + 1))
    unfolding walker_step walked moved found and_then
    step_on =
        rw (false_of (eqb x 0) ((means_not (means_eq x 0)).shows (side_positive L x b)), walker_step)
        (ap (λ (r : Option ℕ). walked (asked (built n L) (found (and_then r (λ y. some (element x))))) (moved (built n L) (walker s x j) r) (walker s x j)) goes_to_lem
        ∙ ap (λ (c : Answer). walked c (walker s t (j + 1)) (walker s x j)) (asked_built n L fit (gives (element x) 0)))

  module _ (v s : ℕ) (o : List ℕ) (f : Followed (SideAt L v) (onward (built n L) s) (elements L) s o) where
    -- past the end of a list stands 0, as in a record whose ring is over
    onward_next : (i : ℕ) → i < length o → onward (built n L) s (at o i) ≡ some (at o (suc i))
    onward_next i h = go (decide (means_lt (suc i) (length o)))
      where
        go : (suc i < length o) ⊎ (suc i < length o → ⊥) → onward (built n L) s (at o i) ≡ some (at o (suc i))
        go (inl k) = f.trail.steps i k
        go (inr k) =
            let e : i ≡ length o - 1 = omega arith in
            ap (λ (j : ℕ). onward (built n L) s (at o j)) e
            ∙ f.stops (omega arith)
            ∙ ap some (sym (get_or-eq_default o 0 (omega arith)))

    room : (i : ℕ) → i < length o → (at o (suc i) ≡ 0) ⊎ (i + 2 ≤ elements L)
    room i h = go (decide (means_lt (suc i) (length o)))
      where
        go : (suc i < length o) ⊎ (suc i < length o → ⊥) → (at o (suc i) ≡ 0) ⊎ (i + 2 ≤ elements L)
        go (inl k) = inr (omega (arith, f.short))
        go (inr k) = inl (get_or-eq_default o 0 (omega arith))

    step_at : (i : ℕ) → i < length o → walker_step (built n L) (walker s (at o i) i) ≡ gone (element (at o i)) (walker s (at o (suc i)) (suc i))
    step_at i h =
        let a : Side L s = rw f.trail.first at (f.trail.inside 0 (omega arith)).0 in
        let e : i + 1 ≡ suc i = omega arith in
        step_on s (at o i) i (at o (suc i)) a (f.trail.inside i h).0 (omega (arith, f.short)) (onward_next i h) (room i h)
        ∙ ap (λ (j : ℕ). gone (element (at o i)) (walker s (at o (suc i)) j)) e

    -- after i calls the record names side i of the ring
    stepped_at : (i : ℕ) → i ≤ length o → stepped (built n L) (walker s s 0) i ≡ walker s (at o i) i
    unfolding stepped
    stepped_at zero h = ap (λ (x : ℕ). walker s x 0) (sym f.trail.first)
    stepped_at (suc i) h =
        ap (λ (w : Walker). (walker_step (built n L) w).walker) (stepped_at i (omega arith))
        ∙ ap (λ (w : Walked). w.walker) (step_at i (omega arith))

    stepped_end : (i : ℕ) → i ≡ length o → stepped (built n L) (walker s s 0) i ≡ walker s 0 (length o)
    stepped_end i e =
        stepped_at i (omega arith)
        ∙ ap (λ (j : ℕ). walker s (at o j) j) e
        ∙ ap (λ (x : ℕ). walker s x (length o)) (get_or-eq_default o 0 (omega arith))

    stepped_over : (i : ℕ) → length o ≤ i → stepped (built n L) (walker s s 0) i ≡ walker s 0 (length o)
    unfolding stepped
    stepped_over zero h = stepped_end 0 (omega arith)
    stepped_over (suc i) h = go (decide (means_le (length o) i)) (λ k. stepped_over i k)
      where
        go : (length o ≤ i) ⊎ (length o ≤ i → ⊥) → (length o ≤ i → stepped (built n L) (walker s s 0) i ≡ walker s 0 (length o)) → stepped (built n L) (walker s s 0) (suc i) ≡ walker s 0 (length o)
        go (inl k) r =
            ap (λ (w : Walker). (walker_step (built n L) w).walker) (r k)
            ∙ ap (λ (w : Walked). w.walker) (step_rest s (length o))
        go (inr k) r = stepped_end (suc i) (omega arith)

    hands_out : (es : List ℕ) → Mapped (λ x. element x) o es → HandsOut (built n L) (walker s s 0) es
    hands_out es m =
        record {
          hands = λ i h.
              let h' : i < length o = omega (arith, m.size) in
              ap (λ (w : Walker). (walker_step (built n L) w).answer) (stepped_at i (omega arith))
              ∙ ap (λ (w : Walked). w.answer) (step_at i h')
              ∙ ap (λ (x : ℕ). gives x 0) (sym (m.entries i h'));
          over = λ i h. ap (λ (w : Walked). w.answer) (still i h);
          rests = λ i h.
              ap (λ (w : Walked). w.walker) (still i h) ∙ sym (stepped_over i (omega (arith, m.size)));
        }
      where
        still : (i : ℕ) → length es ≤ i → walker_step (built n L) (stepped (built n L) (walker s s 0) i) ≡ gone 0 (walker s 0 (length o))
        still i h =
            ap (λ (w : Walker). walker_step (built n L) w) (stepped_over i (omega (arith, m.size))) ∙ step_rest s (length o)

module _ (n : ℕ) (L : List ℕ) (g : Good n L) (v : ℕ) (h : 1 ≤ v) (k : v ≤ n) where
  -- "Starting at v gives that start side twice and 0"
  start_at : (w : Walker) (s : ℕ) → start_side (built n L) v ≡ some s → walker_start (built n L) v w ≡ gone 0 (walker s s 0)
  unfolding walker_start walked start_answer started defined found and_then
  start_at w s e =
      let M = built n L in
      let t = true_of (is_vertex M v) ((means_vertex n L v).shows (h, k)) in
      ap (λ (r : Option ℕ). walked (asked M (defined (is_vertex M v) (found (and_then r (λ x. some 0))))) (started M r w) w) e
      ∙ ap (λ (b : Bool). walked (asked M (defined b (gives 0 0))) (walker s s 0) w) t
      ∙ ap (λ (a : Answer). walked a (walker s s 0) w) (asked_built n L g.fit (gives 0 0))

  -- theorem 6: a walker started at v on built tables hands out the ring of v
  pub walker_hands : (w : Walker) → (es : List ℕ) × (ring (built n L) v ≡ some es) × ((walker_start (built n L) v w).answer ≡ gives 0 0) × HandsOut (built n L) (walker_start (built n L) v w).walker es
  walker_hands w =
      let r = the_ring n L g v h k in
      let (es, e, l, m) = ring_lists n L g v h k in
      let q = start_at w r.start r.found in (
        es,
        e,
        ap (λ (x : Walked). x.answer) q,
        rw q (hands_out n L g.fit v r.start r.sides r.steps es m),
      )
