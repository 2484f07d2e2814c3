-- `pinched::mark_neighbours` meets its contract.
-- Assumes nothing.
use Rattle.std.proofs.Common.{arith, ◌+◌, ◌*◌}
use Rattle.rules.specs.Elements.{elements}
use Rattle.pinched.specs.Marks.{Joined, marked_none, marked_by, before_all, neighbours_of, all_joined, joined_to, marked_range}
use Rattle.pinched.proofs.mark_neighbours.Goals as goal

pub loop-f-init : goal.loop-f-init
loop-f-init c = let a = c.args in marked_none (Joined a.list.now 0 8 a.a) _ (λ v j. before_all j)

pub returns : goal.returns
returns c =
    let m = elements c.args.list.now in
    marked_by c.loop-f.invariant (λ v j. neighbours_of j) (λ v j. joined_to (all_joined m (omega arith) j) (omega arith) (omega arith))

pub returns-2 : goal.returns-2
returns-2 c =
    let m = elements c.args.list.now in
    marked_by (marked_range {hi = 8 * c.loop-f.f + 8} c.loop-f.invariant c.mark_by_element.ensures (omega arith) (omega arith) (omega arith)) (λ v j. neighbours_of j)
    (λ v j. joined_to (all_joined m (omega arith) j) (omega arith) (omega arith))
