-- A walker that a host holds as three numbers.
-- Assumes nothing.
use Rattle.std.specs.Prelude.{List, [], ◌∷◌, ℕ, get_or}
use Rattle.rules.specs.Queries.{Walker}

abbrev pub walker_in : List ℕ → Walker
walker_in w = record { start = get_or w 0 0; following = get_or w 1 0; handed = get_or w 2 0 }

abbrev pub entries_of : Walker → List ℕ
entries_of w = w.start ∷ w.following ∷ w.handed ∷ []
