-- `print::put_line` meets its contract: the letter, then the items, then the newline.
-- Assumes nothing.
use borrow.Author.Rules.{rules}
use mathlib.Core.List.{[], ◌∷◌}
use Rattle.print.specs.Lines.{items}
use Rattle.print.specs.LineLaws.{written_next}
use native.Mathlib.Omega.{arith}
use Rattle.print.proofs.put_line.Statement.{statement}
use Rattle.print.proofs.put_line.Tie as tie

put_byte_requires : tie.Need-put_byte-p-requires
put_byte_requires c κs = search rules

put_items_requires : tie.Need-put_items-q-requires
put_items_requires c κs = search rules

put_byte_requires_2 : tie.Need-put_byte-requires
put_byte_requires_2 c κs = search rules

same_length : tie.Need-shape_of-out
same_length c = search rules

returns : tie.Need-returns
returns c =
    let ended = c.before.before in
    let listed = ended.before.before.before.before in
    let lettered = listed.before.before.before.before in
    let a = lettered.before.before.before.before.args in
    let xs = items a.numbers.now in
    let w = written_next a.out.now (a.letter ∷ []) xs _ lettered.put_byte-p.ensures listed.put_items-q.ensures.0 in (
      written_next a.out.now (a.letter ∷ xs) (10 ∷ []) _ w ended.put_byte.ensures,
      omega (arith, lettered.put_byte-p.ensures.0, listed.put_items-q.ensures.1, ended.put_byte.ensures.0),
    )

pub put_line_spec : {M : Type 1} → statement M
put_line_spec =
    tie.close
    (tie.spec put_byte_requires put_items_requires put_byte_requires_2 same_length returns)
