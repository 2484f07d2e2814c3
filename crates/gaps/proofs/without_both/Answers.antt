-- `gaps::without_both` meets its contract.
-- Assumes nothing.
use Rattle.std.proofs.Common.{arith, inl, inr, ◌≡◌, ◌*◌, take}
use Rattle.lists.specs.SearchLaws.{le_or_lt}
use Rattle.gaps.specs.Closing.{go_below, go_above}
use Rattle.gaps.proofs.without_both.Goals as goal

pub returns : goal.returns
returns c =
    let a = c.args in
    let list = a.list.now in
    elim (le_or_lt a.g a.f) [
      | inl h ↦
          let e : c.max.result ≡ a.f = omega arith in
          let s : c.min.result ≡ a.g = omega arith in
          go_above a.m (take (4 * a.m) list) list c.without_row.new.list c.without_row-2.new.list a.f a.g h (rw e at c.without_row.ensures) (rw s at c.without_row-2.ensures)
      | inr h ↦
          let e : c.max.result ≡ a.g = omega arith in
          let s : c.min.result ≡ a.f = omega arith in
          go_below a.m (take (4 * a.m) list) list c.without_row.new.list c.without_row-2.new.list a.f a.g h (rw e at c.without_row.ensures) (rw s at c.without_row-2.ensures)
    ]
