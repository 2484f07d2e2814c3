-- `print::put_item` meets its contract.
-- Assumes nothing.
use borrow.Author.Rules.{rules}
use mathlib.Core.List.{[], ◌∷◌}
use Prim.Native.Nat.{◌≤◌}
use lib.ListN.{length}
use Rattle.lists.specs.Search.{at}
use Rattle.print.specs.Lines.{digits}
use Rattle.print.specs.LineLaws.{ten_digits, written_next}
use native.Mathlib.Omega.{arith}
use Rattle.print.proofs.put_item.Statement.{statement}
use Rattle.print.proofs.put_item.Tie as tie

-- the comma is put
abbrev put : tie.After-shared_slice_known-2-1 → tie.After-put_byte-q
put c = c.before.before.before.before

abbrev start : tie.After-shared_slice_known-2-1 → tie.Start
start c = (put c).before.before.before.before

ten : (c : tie.After-shared_slice_known-2-1) → length (digits (at (start c).args.numbers.now (start c).args.i)) ≤ 10
ten c = ten_digits (at (start c).args.numbers.now (start c).args.i) (c.shared_slice_known-2-1.given (start c).args.i).fits

put_byte_requires : tie.Need-put_byte-q-requires
put_byte_requires c κs = search rules

mul_put_number : tie.Need-offset_bounds-numbers-i
mul_put_number c = search rules

shared_slice_read_put_number : tie.Need-bounds-numbers-i
shared_slice_read_put_number c = search rules

put_number_requires : tie.Need-put_number-requires
put_number_requires c κs = let b = (put c).put_byte-q in omega (arith, b.ensures.0, b.auto.out, ten c)

same_length : tie.Need-shape_of-out
same_length c = search rules

returns : tie.Need-returns
returns c =
    let n = c.before.before in
    let b = (put n.before).put_byte-q.ensures in (
      written_next (start n.before).args.out.now (44 ∷ []) (digits _) _ b n.put_number.ensures,
      omega (arith, b.0, n.put_number.ensures.0, ten n.before),
    )

pub put_item_spec : {M : Type 1} → statement M
put_item_spec =
    tie.close
    (tie.spec
    put_byte_requires
    mul_put_number
    shared_slice_read_put_number
    put_number_requires
    same_length
    returns)
