-- `build::build_fit` meets its contract. The laws of its steps are in Building.
-- Assumes nothing.
use mathlib.Core.Path.{refl}
use native.Mathlib.Omega.{arith}
use Rattle.std.proofs.lemmas.Result.{err_from_is_err_and}
use Rattle.build.specs.Building.{roomy, refused_on, short_on, commits, counts_on}
use Rattle.build.proofs.build_fit.Goals as goal

pub tabulate_front-requires : goal.tabulate_front-requires
tabulate_front-requires c = roomy c.requires.0

pub returns-in_err-t-clause-built : goal.returns-in_err-t-clause-built
returns-in_err-t-clause-built c =
    let p = err_from_is_err_and c.from_residual.result c.from_residual.ensures.1 in
    rw (p.1, p.2) (refused_on c.in_err-t.ensures refl).0

pub returns-then-b2e-k-clause-built : goal.returns-then-b2e-k-clause-built
returns-then-b2e-k-clause-built c =
    (short_on c.in_ok-t.ensures refl c.wide-k.ensures (omega arith) c.refuse_at.ensures).0

pub commit-requires-clause-k_in_bounds : goal.commit-requires-clause-k_in_bounds
commit-requires-clause-k_in_bounds c =
    (commits c.requires.0 c.in_ok-t.ensures refl c.wide-vertices.ensures c.wide-k.ensures c.args.b2e.now (omega arith) c.requires.1).0

pub commit-requires-clause-n_le_max_vertex : goal.commit-requires-clause-n_le_max_vertex
commit-requires-clause-n_le_max_vertex c =
    (commits c.requires.0 c.in_ok-t.ensures refl c.wide-vertices.ensures c.wide-k.ensures c.args.b2e.now (omega arith) c.requires.1).1

pub returns-clause-built : goal.returns-clause-built
returns-clause-built c =
    (counts_on c.requires.0 c.in_ok-t.ensures refl c.wide-vertices.ensures c.wide-k.ensures c.args.b2e.now (omega arith) c.requires.1 c.commit.ensures).0
