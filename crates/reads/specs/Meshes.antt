-- A query's mesh, and what the checks before its answer leave.
-- Assumes nothing.
use Rattle.std.specs.Prelude.{List, ◌≡◌, ℕ, ◌*◌, ◌≤◌, length}
use Rattle.rules.specs.Elements.{max_element, elements}
use Rattle.rules.specs.Queries.{Mesh}

abbrev pub mesh : ℕ → ℕ → List ℕ → List ℕ → List ℕ → List ℕ → Mesh
mesh n columns list v2e e2e b2e = record { n = n; columns = columns; list = list; vertices = v2e; opposites = e2e; border = b2e }

-- what checks 1 and 2 leave
pub record Fit (M : Mesh) : Type 0 where
  pub vertices : length M.vertices ≡ M.n
  pub columns_from : 3 ≤ M.columns
  pub columns_to : M.columns ≤ 4
  pub opposites : length M.opposites ≡ M.columns * elements M.list
  pub border : length M.border ≤ 4 * elements M.list
  pub elements : elements M.list ≤ max_element
