-- `halfedge::side_count` meets its contract.
-- Assumes nothing.
use mathlib.Core.Path.{refl}
use Prim.Native.Nat.{ℕ}
use Rattle.halfedge.proofs.Turns.{by_kinds}
use Rattle.halfedge.proofs.side_count.Goals as goal

pub returns : goal.returns
returns c = by_kinds (λ (k : ℕ). k) c.before.args.row refl refl c.by_kind.ensures
