-- `pinched::is_pinched` meets its contract.
-- Assumes nothing.
use Rattle.pinched.specs.Common.{pinched_is}
use Rattle.pinched.proofs.is_pinched.Goals as goal

pub returns-clause-value : goal.returns-clause-value
returns-clause-value c =
    let a = c.args in
    let blank = rw c.wide.ensures at c.clear_first.ensures.by_index in
    pinched_is a.n a.list.now c.requires.0 a.a a.b a.c a.d blank c.mark_neighbours.ensures c.meets_marked.ensures
