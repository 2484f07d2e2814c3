-- `unordered::unordered_vertex` meets its contract: the least missed entry below p.
-- Assumes nothing.
use Rattle.std.proofs.Common.{◌≡◌, ◌+◌, refl, sym, ◌∙◌, arith, drop, get_or-drop}
use Rattle.lists.specs.Search.{at}
use Rattle.unordered.specs.Missed.{least_more, least_missed}
use Rattle.unordered.proofs.unordered_vertex.Goals as goal

pub loop-p-preserved : goal.loop-p-preserved
loop-p-preserved c =
    let o = c.args.o in
    let p = c.loop-p.p in
    let list = c.args.list.now in
    let work = c.args.work.now in
    let read : at work (o + p) ≡ at (drop o work) p = sym (get_or-drop o work p 0) in
    least_more list (drop o work) p _ _ _ _ refl read (λ z. read ∙ c.requires.0.empty p (omega arith) z) c.loop-p.invariant c.lesser_missed-best.ensures

pub returns : goal.returns
returns c = least_missed c.requires.1 (drop c.args.o c.args.work.now) (omega arith) c.loop-p.invariant
