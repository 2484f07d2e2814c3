-- The trace of one vertex over an E2e of any content: the sides that it meets, one after another, and what it leaves written.
-- Assumes nothing.
use Rattle.std.specs.Prelude.{◌≡◌, refl, eqb, length, set}
use Rattle.std.proofs.Common.{ap, sym, ◌∙◌, arith, T_not, length-set, get_or-set_same, get_or-set_other}
use mathlib.Core.List.{List, [], ◌∷◌}
use Prim.Native.Nat.{ℕ, zero, suc, ◌+◌, ◌-◌, ◌<◌}
use Rattle.std.proofs.lemmas.List.{length-replicate}
use Rattle.lists.specs.Tests.{both}
use Rattle.lists.specs.TestLaws.{Test, pass, fail, test, passes, both_pass, means_eq}
use Rattle.lists.specs.Search.{at, zeros}
use Rattle.lists.specs.SearchLaws.{zeros_set, no_zeros}
use Rattle.rules.specs.Elements.{is_side, Side, slot}
use Rattle.rules.specs.Recovery.{turn_by, trace, walk_to, walk}
use Rattle.theory.specs.Sides.{slot_below}

-- from side s, over W, the trace of v meets the sides o and leaves W'; it stops at f
pub record Path (E : List ℕ) (v s : ℕ) (W o W' : List ℕ) (f : ℕ) : Type 0 where
  pub long : length W' ≡ length W
  pub sides : (i : ℕ) → i < length o → Side E (at o i)
  pub empty : (i : ℕ) → i < length o → at W (slot (at o i)) ≡ 0
  pub once : (i j : ℕ) → i < length o → j < length o → at o i ≡ at o j → i ≡ j
  pub first : 0 < length o → at o 0 ≡ s
  pub turns : (i : ℕ) → suc i < length o → turn_by E (at o i) ≡ at o (suc i)
  pub nowhere : length o ≡ 0 → s ≡ f
  pub last : 0 < length o → turn_by E (at o (length o - 1)) ≡ f
  pub stopped : Side E f → at W' (slot f) ≡ 0 → ⊥
  pub written : (i : ℕ) → i < length o → at W' (slot (at o i)) ≡ v
  pub kept : (q : ℕ) → ((i : ℕ) → i < length o → slot (at o i) ≡ q → ⊥) → at W' q ≡ at W q
  pub filled : length o + zeros W' ≡ zeros W

module _ (E : List ℕ) (v : ℕ) (positive : v ≡ 0 → ⊥) where
  none : (s : ℕ) (W : List ℕ) → (Side E s → at W (slot s) ≡ 0 → ⊥) → Path E v s W [] W s
  none s W h =
      record {
        long = refl;
        sides = λ i l. absurd (omega arith);
        empty = λ i l. absurd (omega arith);
        once = λ i j l. absurd (omega arith);
        first = λ l. absurd (omega arith);
        turns = λ i l. absurd (omega arith);
        nowhere = λ e. refl;
        last = λ l. absurd (omega arith);
        stopped = h;
        written = λ i l. absurd (omega arith);
        kept = λ q g. refl;
        filled = omega arith;
      }

  module _ (s : ℕ) (W : List ℕ) (a : Side E s) (l : slot s < length W) (z : at W (slot s) ≡ 0) (o W' : List ℕ) (f : ℕ) (x : Path E v (turn_by E s) (set W (slot s) v) o W' f) where
    -- the sides met later stand at other places than s, for s is written
    apart : (i : ℕ) → i < length o → slot (at o i) ≡ slot s → ⊥
    apart i h e =
        positive (sym (get_or-set_same W (slot s) v 0 l) ∙ ap (at (set W (slot s) v)) (sym e) ∙ x.empty i h)

    one : (i j : ℕ) → i < suc (length o) → j < suc (length o) → at (s ∷ o) i ≡ at (s ∷ o) j → i ≡ j
    one zero zero h k e = refl
    one zero (suc j) h k e = absurd (apart j (omega arith) (ap slot (sym e)))
    one (suc i) zero h k e = absurd (apart i (omega arith) (ap slot e))
    one (suc i) (suc j) h k e = ap suc (x.once i j (omega arith) (omega arith) e)

    at_index : (P : ℕ → Type 0) → P s → ((i : ℕ) → i < length o → P (at o i)) → (i : ℕ) → i < suc (length o) → P (at (s ∷ o) i)
    at_index P p q zero h = p
    at_index P p q (suc i) h = q i (omega arith)

    turn : (i : ℕ) → suc i < suc (length o) → turn_by E (at (s ∷ o) i) ≡ at (s ∷ o) (suc i)
    turn zero h = sym (x.first (omega arith))
    turn (suc i) h = x.turns i (omega arith)

    ending : (k : ℕ) → length o ≡ k → turn_by E (at (s ∷ o) (suc k - 1)) ≡ f
    ending zero e = x.nowhere e
    ending (suc k) e =
        let c : suc (suc k) - 1 ≡ suc (length o - 1) = omega arith in
        ap (λ (i : ℕ). turn_by E (at (s ∷ o) i)) c ∙ x.last (omega arith)

    s_kept : at W' (slot s) ≡ v
    s_kept = x.kept (slot s) apart ∙ get_or-set_same W (slot s) v 0 l

    more : Path E v s W (s ∷ o) W' f
    more =
        record {
          long = x.long ∙ length-set W (slot s) v;
          sides = at_index (Side E) a x.sides;
          empty = at_index (λ t. at W (slot t) ≡ 0) z (λ i h. sym (get_or-set_other W (slot s) (slot (at o i)) v 0 (apart i h)) ∙ x.empty i h);
          once = one;
          first = λ h. refl;
          turns = turn;
          nowhere = λ e. absurd (omega arith);
          last = λ h. ending (length o) refl;
          stopped = x.stopped;
          written = at_index (λ t. at W' (slot t) ≡ v) s_kept x.written;
          kept = λ q g.
              x.kept q (λ i h. g (suc i) (omega arith))
              ∙ get_or-set_other W (slot s) q v 0 (λ e. g 0 (omega arith) (sym e));
          filled = omega (arith, x.filled, zeros_set W (slot s) v l z positive);
        }

  -- the empty places are enough for the trace to stop by itself
  pub traced : (k s : ℕ) (W : List ℕ) → zeros W ≡ k → length W ≡ length E → (o : List ℕ) × (f : ℕ) × Path E v s W o (trace k E v s W) f
  unfolding trace
  traced zero s W e l = ([], s, none s W (λ a z. no_zeros W (slot s) e (omega (arith, slot_below E s a)) z))
  traced (suc k) s W e l = go (test (both (is_side E s) (eqb (at W (slot s)) 0))) (λ e'. traced k (turn_by E s) (set W (slot s) v) e' (length-set W (slot s) v ∙ l))
    where
      Result : Type 0
      Result = (o : List ℕ) × (f : ℕ) × Path E v s W o (trace (suc k) E v s W) f

      go : Test (both (is_side E s) (eqb (at W (slot s)) 0))
          → (zeros (set W (slot s) v) ≡ k → (o : List ℕ) × (f : ℕ) × Path E v (turn_by E s) (set W (slot s) v) o (trace k E v (turn_by E s) (set W (slot s) v)) f)
          → Result
      go (pass t c) r =
          let (a, y) = passes (is_side E s) (eqb (at W (slot s)) 0) t in
          let z : at W (slot s) ≡ 0 = (means_eq (at W (slot s)) 0).says y in
          let h : slot s < length W = omega (arith, slot_below E s a) in
          let (o, f, x) = r (omega (arith, zeros_set W (slot s) v h z positive)) in
          (s ∷ o, f, (rw (c, trace) (more s W a h z o _ f x)))
      go (fail t c) r = (
        [],
        s,
        (rw (c, trace)
            (none s W (λ a z. T_not (both (is_side E s) (eqb (at W (slot s)) 0)) t (both_pass (is_side E s) (eqb (at W (slot s)) 0) a ((means_eq (at W (slot s)) 0).shows z))))),
      )

-- a trace writes within its list, so a walk gives a list as long as E2e
length_trace : (k : ℕ) (E : List ℕ) (v s : ℕ) (W : List ℕ) → length (trace k E v s W) ≡ length W
unfolding trace
length_trace zero E v s W = refl
length_trace (suc k) E v s W =
    go (test (both (is_side E s) (eqb (at W (slot s)) 0))) (length_trace k E v (turn_by E s) (set W (slot s) v))
  where
    go : Test (both (is_side E s) (eqb (at W (slot s)) 0))
        → length (trace k E v (turn_by E s) (set W (slot s) v)) ≡ length (set W (slot s) v)
        → length (trace (suc k) E v s W) ≡ length W
    go (pass t c) r = rw (c, trace) (r ∙ length-set W (slot s) v)
    go (fail t c) r = rw (c, trace)

length_walk_to : (V2e E2e : List ℕ) (v : ℕ) → length (walk_to V2e E2e v) ≡ length E2e
unfolding walk_to
length_walk_to V2e E2e zero = length-replicate (length E2e) 0
length_walk_to V2e E2e (suc v) = length_trace _ E2e (suc v) _ _ ∙ length_walk_to V2e E2e v

pub length_walk : (V2e E2e : List ℕ) → length (walk V2e E2e) ≡ length E2e
unfolding walk
length_walk V2e E2e = length_walk_to V2e E2e (length V2e)
