-- The trace in the work buffer, step by step.
-- Assumes nothing.
use Rattle.std.specs.Prelude.{◌≡◌, Bool, true, false, List, T, eqb, length, set}
use Rattle.std.proofs.Math.Path.{refl, ap}
use Rattle.std.proofs.Common.{sym, ◌∙◌, arith, length-set, length-drop, get_or-drop}
use Prim.Native.Nat.{ℕ, zero, suc, ◌+◌, ◌*◌, ◌-◌, ◌/◌, ◌%◌, ◌≤◌, ◌<◌}
use Rattle.std.proofs.Math.Dec.{not_T}
use Rattle.std.proofs.lemmas.List.{take-set-le, drop-set-add}
use Rattle.lists.specs.Tests.{both}
use Rattle.lists.specs.TestLaws.{true_of, false_of, passes, means_eq, means_not}
use Rattle.lists.specs.Search.{at, zeros}
use Rattle.lists.specs.SearchLaws.{zeros_set}
use Rattle.lists.specs.Parts.{part, part_take}
use Rattle.rules.specs.Elements.{is_side, Side, slot}
use Rattle.rules.specs.Recovery.{turn_by, trace}
use Rattle.theory.specs.Sides.{side_facts, side_from}
use Rattle.walk.specs.Layout.{Sizes, tables, written, e2e_in, is_open, Traced}
use Rattle.walk.specs.Sides.{lent, slot_in}

-- what is read at the place of s
pub written_at : (n m : ℕ) (w : List ℕ) (s : ℕ) {p : ℕ} → p ≡ slot s → at w (n + 8 * m + p) ≡ at (written n m w) (slot s)
written_at n m w s placed = ap (λ (i : ℕ). at w (n + 8 * m + i)) placed ∙ sym (get_or-drop (n + 8 * m) w (slot s) 0)

-- whether s is open, by the tests
module _ (E W : List ℕ) (s : ℕ) where
  pub shut_side : is_side E s ≡ false → false ≡ is_open E W s
  shut_side e = rw e

  module _ {x : ℕ} (read : x ≡ at W (slot s)) where
    pub shut_place : (x ≡ 0 → ⊥) → false ≡ is_open E W s
    shut_place d =
        let e : eqb (at W (slot s)) 0 ≡ false = false_of _ ((means_not (means_eq (at W (slot s)) 0)).shows (λ q. d (read ∙ q))) in
        rw e (go (is_side E s))
      where
        go : (b : Bool) → false ≡ both b false
        go true = refl
        go false = refl

    pub open_place : is_side E s ≡ true → x ≡ 0 → true ≡ is_open E W s
    open_place a q =
        let e : eqb (at W (slot s)) 0 ≡ true = true_of _ ((means_eq (at W (slot s)) 0).shows (sym read ∙ q)) in rw (a, e)

-- the trace goes on from a side whose place is empty, and stops elsewhere
module _ (E : List ℕ) (v : ℕ) (positive : v ≡ 0 → ⊥) (s : ℕ) (W : List ℕ) where
  pub trace_on : slot s < length W → is_open E W s ≡ true → at W (slot s) ≡ 0
      → trace (zeros W) E v s W ≡ trace (zeros (set W (slot s) v)) E v (turn_by E s) (set W (slot s) v)
  unfolding trace
  trace_on h e q =
      ap (λ (k : ℕ). trace k E v s W) (sym (zeros_set W (slot s) v h q positive)) ∙ rw (e, trace)

  pub trace_off : is_open E W s ≡ false → trace (zeros W) E v s W ≡ W
  unfolding trace
  trace_off e = go (zeros W)
    where
      go : (k : ℕ) → trace k E v s W ≡ W
      go zero = refl
      go (suc k) = rw (e, trace)

-- what is open is a side
pub open_from : (E W : List ℕ) (s : ℕ) {r : Bool} → r ≡ is_open E W s → r ≡ true → (1 ≤ s / 8) × (1 ≤ s % 8)
open_from E W s e t = side_from E s (passes (is_side E s) (eqb (at W (slot s)) 0) (rw (sym e ∙ t) tt)).0

-- 0 is no side
none_there : (E W : List ℕ) → is_open E W 0 ≡ false
none_there E W =
    let e : is_side E 0 ≡ false = false_of (is_side E 0) (not_T (is_side E 0) (λ a. omega (arith, side_facts E 0 a))) in rw e

-- the tables kept, E2e is kept
pub e_kept : (n m : ℕ) (w w' : List ℕ) → Sizes n m w → length w' ≡ length w → tables n m w' ≡ tables n m w → e2e_in n m w' ≡ e2e_in n m w
e_kept n m w w' z l e =
    sym (part_take n (4 * m) (n + 8 * m) w' (omega arith) (omega (arith, z.long)))
    ∙ ap (part n (4 * m)) e
    ∙ part_take n (4 * m) (n + 8 * m) w (omega arith) (omega (arith, z.long))

-- on the way, at side t: what is still to come is what is to come from s
pub record Tracing (n m v s : ℕ) (w w' : List ℕ) (t : ℕ) : Type 0 where
  pub sizes : Sizes n m w'
  pub positive : 1 ≤ v
  pub kept : tables n m w' ≡ tables n m w
  pub long : length w' ≡ length w
  pub rest : trace (zeros (written n m w')) (e2e_in n m w) v t (written n m w') ≡ trace (zeros (written n m w)) (e2e_in n m w) v s (written n m w)

module _ {n m v s : ℕ} {w w' : List ℕ} {t : ℕ} (k : Tracing n m v s w w' t) where
  same : e2e_in n m w' ≡ e2e_in n m w
  same = sym (e_kept n m w' w k.sizes (sym k.long) (sym k.kept))

  not_zero : v ≡ 0 → ⊥
  not_zero e = omega (arith, k.positive)

  -- what the test said of E2e as it is now
  open_now : (b : Bool) → is_open (e2e_in n m w') (written n m w') t ≡ b → is_open (e2e_in n m w) (written n m w') t ≡ b
  open_now b e = rw (← same) e

  pub tracing_end : {r : Bool} → r ≡ is_open (e2e_in n m w') (written n m w') t → r ≡ false → Traced n m v s w w'
  tracing_end e q =
      record {
        kept = k.kept;
        new = sym (trace_off (e2e_in n m w) v not_zero t (written n m w') (open_now false (sym e ∙ q))) ∙ k.rest;
        long = k.long;
      }

-- the place p of t is empty
pub record Opened (n m v s : ℕ) (w w' : List ℕ) (t p : ℕ) : Type 0 where
  pub on : Tracing n m v s w w' t
  pub opens : is_open (e2e_in n m w') (written n m w') t ≡ true
  pub placed : p ≡ n + 8 * m + slot t

module _ {n m v s : ℕ} {w w' : List ℕ} {t p : ℕ} (k : Opened n m v s w w' t p) where
  open_side : T (is_side (e2e_in n m w') t) × T (eqb (at (written n m w') (slot t)) 0)
  open_side = passes (is_side (e2e_in n m w') t) (eqb (at (written n m w') (slot t)) 0) (rw k.opens tt)

  pub place_in : slot t < 4 * m
  place_in = slot_in n m w' k.on.sizes t open_side.0

  new_kept : tables n m (set w' p v) ≡ tables n m w'
  new_kept = rw k.placed (take-set-le (n + 8 * m) w' (n + 8 * m + slot t) v (omega arith))

  new_written : written n m (set w' p v) ≡ set (written n m w') (slot t) v
  new_written = rw k.placed (drop-set-add (n + 8 * m) w' (slot t) v)

  empty : at (written n m w') (slot t) ≡ 0
  empty = (means_eq (at (written n m w') (slot t)) 0).says open_side.1

  inside : slot t < length (written n m w')
  inside = simp length-drop (omega (arith, place_in, k.on.sizes.long))

  -- E2e with v written, as it is lent
  pub next_e : part n (n + 4 * m - n) (set w' p v) ≡ e2e_in n m w'
  next_e = lent n m (set w' p v) ∙ e_kept n m w' (set w' p v) k.on.sizes (length-set w' p v) new_kept

  pub next_side_lem : Side (part n (n + 4 * m - n) (set w' p v)) t
  next_side_lem = rw next_e open_side.0

  pub fewer : zeros (written n m (set w' p v)) < zeros (written n m w')
  fewer = rw new_written (omega (arith, zeros_set (written n m w') (slot t) v inside empty (not_zero k.on)))

  pub tracing_on : {u : ℕ} → u ≡ turn_by (part n (n + 4 * m - n) (set w' p v)) t → Tracing n m v s w (set w' p v) u
  tracing_on e =
      let z = k.on.sizes in
      record {
        sizes = record { vertices = z.vertices; elements = z.elements; long = length-set w' p v ∙ z.long };
        positive = k.on.positive;
        kept = new_kept ∙ k.on.kept;
        long = length-set w' p v ∙ k.on.long;
        rest =
            rw (new_written, e ∙ ap (λ (X : List ℕ). turn_by X t) (next_e ∙ same k.on))
            (sym (trace_on (e2e_in n m w) v (not_zero k.on) t (written n m w') inside (open_now k.on true k.opens) empty) ∙ k.on.rest);
      }

  -- no turn: the trace is over
  pub tracing_over : 0 ≡ turn_by (part n (n + 4 * m - n) (set w' p v)) t → Traced n m v s w (set w' p v)
  tracing_over e =
      let k' = tracing_on e in
      record {
        kept = k'.kept;
        new =
            sym (trace_off (e2e_in n m w) v (not_zero k.on) 0 (written n m (set w' p v)) (none_there (e2e_in n m w) (written n m (set w' p v))))
            ∙ k'.rest;
        long = k'.long;
      }
