-- `walk::trace` meets its contract: what is still to come is what is to come from s.
-- Assumes nothing.
use Rattle.std.proofs.Common.{◌≡◌, ap, sym, ◌∙◌, ℕ, List, Bool, true, ◌+◌, ◌*◌, arith}
use Rattle.rules.specs.Elements.{slot}
use Rattle.walk.specs.Layout.{written, e2e_in, is_open}
use Rattle.walk.specs.Steps.{side_of}
use Rattle.walk.specs.Traces.{Tracing, open_from, tracing_end, Opened, place_in, next_side_lem, fewer, tracing_on, tracing_over}
use Rattle.walk.proofs.trace.Goals as goal

-- a side whose place is empty, and its place
module _ {n m v s t p : ℕ} {w w' : List ℕ} {b : Bool} (k : Tracing n m v s w w' t) (tested : b ≡ is_open (e2e_in n m w') (written n m w') t) (passed : b ≡ true) where
  opened : p ≡ slot t → Opened n m v s w w' t (n + 8 * m + p)
  opened e = record { on = k; opens = sym tested ∙ passed; placed = ap (λ (i : ℕ). n + 8 * m + i) e }

pub slot_of-requires : goal.slot_of-requires
slot_of-requires c = open_from _ (written c.args.n c.args.m c.loop-p.work) _ c.is_open.ensures c.loop-p-test.true

pub overflow_add-p-in-loop-p : goal.overflow_add-p-in-loop-p
overflow_add-p-in-loop-p c = omega (arith, c.slot_of.ensures, place_in (opened c.loop-p.invariant c.is_open.ensures c.loop-p-test.true c.slot_of.ensures))

pub offset_bounds-work-p : goal.offset_bounds-work-p
offset_bounds-work-p c = omega (arith, c.slot_of.ensures, place_in (opened c.loop-p.invariant c.is_open.ensures c.loop-p-test.true c.slot_of.ensures))

pub bounds-work-p : goal.bounds-work-p
bounds-work-p c = omega (arith, c.slot_of.ensures, place_in (opened c.loop-p.invariant c.is_open.ensures c.loop-p-test.true c.slot_of.ensures))

pub turn-requires : goal.turn-requires
turn-requires c = next_side_lem (opened c.loop-p.invariant c.is_open.ensures c.loop-p-test.true c.slot_of.ensures)

pub returns-in_default : goal.returns-in_default
returns-in_default c =
    tracing_over (opened c.loop-p.invariant c.is_open.ensures c.loop-p-test.true c.slot_of.ensures) (sym (ap side_of c.in_default.is) ∙ c.turn.ensures)

pub loop-p-smaller : goal.loop-p-smaller
loop-p-smaller c = fewer (opened c.loop-p.invariant c.is_open.ensures c.loop-p-test.true c.slot_of.ensures)

pub loop-p-preserved : goal.loop-p-preserved
loop-p-preserved c =
    tracing_on (opened c.loop-p.invariant c.is_open.ensures c.loop-p-test.true c.slot_of.ensures) (sym (ap side_of c.in-Some.is) ∙ c.turn.ensures)

pub returns : goal.returns
returns c = tracing_end c.loop-p.invariant c.is_open.ensures c.loop-p-test.false
