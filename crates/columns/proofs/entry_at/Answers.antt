-- `columns::entry_at` meets its contract.
-- Assumes nothing.
use mathlib.Core.Path.{◌≡◌, ap, sym, ◌∙◌}
use mathlib.Core.List.{List}
use Prim.Native.Nat.{ℕ, ◌-◌, ◌/◌, ◌%◌}
use native.Mathlib.Omega.{arith}
use Rattle.lists.specs.Search.{at}
use Rattle.rules.specs.Elements.{side_at}
use Rattle.rules.specs.Tables.{e2e_slot, entry_of}
use Rattle.theory.specs.Columns.{entry_within, entry_past}
use Rattle.columns.proofs.entry_at.Goals as goal

-- the side at p has number p % 4 + 1
module _ (E2e : List ℕ) (p : ℕ) where
  fourth : p % 4 ≡ 3 → entry_of 3 E2e (side_at p) ≡ 0
  unfolding side_at
  fourth e = entry_past 3 E2e (side_at p) (omega arith)

  other : (p % 4 ≡ 3 → ⊥) → entry_of 3 E2e (side_at p) ≡ at E2e (p - p / 4)
  unfolding e2e_slot side_at
  other d =
      let here : e2e_slot 3 (side_at p) ≡ p - p / 4 = omega arith in
      entry_within 3 E2e (side_at p) (omega arith) ∙ ap (at E2e) here

pub returns-then-p-eq3 : goal.returns-then-p-eq3
returns-then-p-eq3 c = sym (fourth _ _ c.if-p-eq3.true)

pub bounds-e2e-p : goal.bounds-e2e-p
bounds-e2e-p c = omega arith

pub returns : goal.returns
returns c = sym (other c.args.e2e.now c.args.p c.if-p-eq3.false)
