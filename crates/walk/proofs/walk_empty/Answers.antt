-- `walk::walk_empty` meets its contract: the vertices before v are walked about.
-- Assumes nothing.
use Rattle.std.proofs.Common.{◌≡◌, ◌+◌, ◌-◌, ◌≤◌, ℕ, List, arith}
use Rattle.lists.specs.Search.{at}
use Rattle.rules.specs.Recovery.{walk_start}
use Rattle.walk.specs.Layout.{e2e_in, Traced}
use Rattle.walk.specs.Walks.{Walks, walks_on}
use Rattle.walk.proofs.walk_empty.Goals as goal

-- the vertex v is walked about
on : {n m v s : ℕ} {w w' w'' : List ℕ} → 1 ≤ v → v ≤ n → Walks n m (v - 1) w w' → s ≡ walk_start (e2e_in n m w') (at w' (v - 1)) → Traced n m v s w' w'' → Walks n m v w w''
on {n} {m} {v} {s} {w} {w'} {w''} a b k e t =
    let f : v - 1 + 1 ≡ v = omega arith in
    let go = walks_on k (omega arith) {s = s} {w'' = w''} in
    (rw f at go) e t

pub loop-v-preserved : goal.loop-v-preserved
loop-v-preserved c =
    let e : c.loop-v.v + 1 - 1 ≡ c.loop-v.v = omega arith in
    (omega arith, rw e (on (omega arith) (omega arith) c.loop-v.invariant.1 c.start-s.ensures c.trace.ensures))

pub returns-2 : goal.returns-2
returns-2 c =
    let e : c.loop-v.v ≡ c.args.n = omega (arith, c.loop-v.invariant.0) in
    rw e at ((on (omega arith) (omega arith) c.loop-v.invariant.1 c.start-s.ensures c.trace.ensures).walked)
