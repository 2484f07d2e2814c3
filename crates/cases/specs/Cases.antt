-- What a work buffer must hold after an answer, and an answer as three numbers.
-- Assumes nothing.
use Rattle.std.specs.Prelude.{true, false, ℕ, List, [], ◌∷◌, leb, ◌&&◌, Result, Ok, Err}
use Rattle.answer.specs.Numbers.{number_in}
use Rattle.answer.specs.declared.Given.{Given}
use Rattle.answer.specs.declared.Refusal.{Refusal}

-- refusals 1 and 2 leave the 5 that it held; else it is zero
abbrev pub left_after : Result Given Refusal → ℕ
left_after (Ok g) = 0
left_after (Err r) = elim (leb 1 (number_in r.reason) && leb (number_in r.reason) 2) [ true ↦ 5 | false ↦ 0 ]

-- the refusal's number (0: an answer) and the two numbers beside it
abbrev pub three : Result Given Refusal → List ℕ
three (Ok g) = 0 ∷ g.first ∷ g.second ∷ []
three (Err r) = number_in r.reason ∷ r.first ∷ r.second ∷ []
