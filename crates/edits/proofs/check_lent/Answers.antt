-- `edits::check_lent` meets its contract.
-- Assumes nothing.
use mathlib.Core.Path.{◌≡◌, refl, ap, sym, ◌∙◌}
use Prim.Native.Nat.{ℕ, ◌*◌, ◌-◌}
use native.Mathlib.Omega.{arith}
use lib.ListN.{take}
use Rattle.rules.specs.Tables.{columns}
use Rattle.theory.specs.Columns.{three_or_four}
use Rattle.edits.specs.Holding.{counts_say, found_long, fits}
use Rattle.edits.proofs.check_lent.Goals as goal

pub has_room-requires : goal.has_room-requires
has_room-requires c =
    let a = c.args in
    let e : 4 * c.wide-rows.result - 0 ≡ 4 * a.m = omega arith in
    let h = counts_say a.n a.m (sym c.if-not-counts_fit.ensures) in
    (h.0, h.1, rw c.columns_of-columns.ensures (three_or_four _))

pub returns : goal.returns
returns c =
    let a = c.args in
    let e : 4 * c.wide-rows.result - 0 ≡ 4 * a.m = omega arith in
    let g = c.columns_of-columns.ensures ∙ ap (λ (k : ℕ). columns (take k a.list.now)) e in
    fits (sym c.if-not-counts_fit.ensures) c.if-not-others.false (found_long _ _ _ _ _ _ g (sym c.if-not-has_room.ensures)) refl
