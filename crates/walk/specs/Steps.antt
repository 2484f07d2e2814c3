-- The numbers of a step: the side that comes next, 0 where the walk is over.
-- Assumes nothing.
use Rattle.std.specs.Prelude.{ℕ, Option, Some, None}

abbrev pub side_of : Option ℕ → ℕ
side_of (Some s) = s
side_of None = 0
