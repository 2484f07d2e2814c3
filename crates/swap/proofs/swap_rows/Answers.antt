-- `swap::swap_rows` meets its contract. The laws of its steps are in Swaps.
-- Assumes nothing.
use mathlib.Core.Path.{◌≡◌, refl, ap}
use native.Mathlib.Omega.{arith}
use lib.ListN.{length}
use borrow.Author.Rules.{rules}
use Rattle.answer.specs.Numbers.{numbers}
use Rattle.swap.specs.Swaps.{inside, puts_back, checked_new, columned_new, late, done}
use Rattle.swap.proofs.swap_rows.Goals as goal

pub row_at-row-requires : goal.row_at-row-requires
row_at-row-requires c = omega (arith, inside c.requires.0.flips)

pub row_at-other-requires : goal.row_at-other-requires
row_at-other-requires c = omega (arith, inside c.requires.0.flips)

pub build_fit-a-requires : goal.build_fit-a-requires
build_fit-a-requires c = rw c.flip_rows.ensures (checked_new c.requires.0, columned_new c.requires.0 c.requires.1)

pub put_row-requires : goal.put_row-requires
put_row-requires c =
    let same : length c.flip_rows.new.list ≡ length c.args.list.now = search rules in omega (arith, inside c.requires.0.flips)

pub put_row-requires-in_default : goal.put_row-requires-in_default
put_row-requires-in_default c =
    let same : length c.put_row.new.list ≡ length c.args.list.now = search rules in omega (arith, inside c.requires.0.flips)

pub returns-in_default-clause-left : goal.returns-in_default-clause-left
returns-in_default-clause-left c =
    let same =
    puts_back c.requires.0.flips c.element_of-f.ensures c.element_of-g.ensures c.row_at-row.ensures c.row_at-other.ensures
    c.flip_rows.ensures c.put_row.ensures c.put_row-in_default.ensures in
    late c.requires.0 c.flip_rows.ensures c.build_fit-a.ensures.built (ap numbers c.in_default.is) same

pub returns-clause-left : goal.returns-clause-left
returns-clause-left c = done c.requires.0 c.flip_rows.ensures c.in-Ok.ensures.built refl
