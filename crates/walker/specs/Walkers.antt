-- A walker's three numbers, and what a walker call leaves.
-- Assumes nothing.
use Rattle.std.specs.Prelude.{ℕ, List, get_or, Result}
use Rattle.answer.specs.Numbers.{numbers}
use Rattle.answer.specs.declared.Given.{Given}
use Rattle.answer.specs.declared.Refusal.{Refusal}
use Rattle.rules.specs.Queries.{Walker, Walked}
use Rattle.walker.specs.declared.Walker.{Walker as Record}

abbrev pub record_of : Record → Walker
record_of w = record { start = w.start; following = w.following; handed = w.handed }

-- three numbers as a record
abbrev pub record_in : List ℕ → Walker
record_in w = record { start = get_or w 0 0; following = get_or w 1 0; handed = get_or w 2 0 }

-- what a call leaves, beside its answer
abbrev pub left_by : Result Given Refusal → Record → Walked
left_by a w = record { answer = numbers a; walker = record_of w }
