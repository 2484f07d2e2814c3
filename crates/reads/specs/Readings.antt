-- What a read gives.
-- Assumes nothing.
use Rattle.std.proofs.Math.Option.{Option as Read, none, some}
use Rattle.std.specs.Prelude.{ℕ, Option, Some, None}
use Rattle.rules.specs.Queries.{Mesh, and_then, by_entry, read_vertex_entry, read_border_side, read_origin}

-- a read by the rules
abbrev pub read_of : Option ℕ → Read ℕ
read_of (Some x) = some x
read_of None = none

-- "for a border start, first the origin of that B2e side": that vertex, 0 for another start
unfoldable pub prior_vertex : Mesh → ℕ → Read ℕ
prior_vertex M v = and_then (read_vertex_entry M v) (λ c. by_entry c (some 0) (some 0) (and_then (read_border_side M c) (read_origin M)))
