-- `pinched::meets_marked` meets its contract.
-- Assumes nothing.
use Rattle.std.proofs.Common.{rules, ◌+◌, ◌*◌}
use Rattle.lists.specs.TestLaws.{means_by}
use Rattle.sides.specs.Asked.{up_to, any_asked}
use Rattle.pinched.specs.Common.{Counts, Met, met_by_element}
use Rattle.pinched.proofs.meets_marked.Goals as goal

pub returns : goal.returns
returns c =
    let a = c.args in
    let (p, begins, found) = c.any.ensures.runs in
    let C = Counts a.marks.now a.c a.d in
    means_by (any_asked p _ _ (up_to c.new.ensures.start c.new.ensures.end c.new.ensures.exhausted p begins) _ _ (λ a b d e. search rules) (λ f. Met a.list.now (8 * f) (8 * f + 8) a.b C) (λ x b i j k. search rules) c.any.result found)
    (λ (f, i, j, (v, k, z)). (v, (k.side, k.runs), z))
    met_by_element
