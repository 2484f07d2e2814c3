-- Digits in a text, and the numbers that they write. Past its end a text reads as 0, which is no digit.
-- Assumes nothing.
use Rattle.std.specs.Prelude.{Bool, not, List, ℕ, zero, suc, ◌+◌, ◌*◌, ◌-◌}
use Rattle.lists.specs.Tests.{within}
use Rattle.lists.specs.Search.{at, least}

-- the bytes `0` to `9`
abbrev pub digit : ℕ → Bool
digit b = within 48 57 b

-- how many digits stand from place p on; 8 where there are more than 7
unfoldable pub run : List ℕ → ℕ → ℕ
run t p = least (λ i. not (digit (at t (p + i)))) 8

-- the number that the k digits from place p on write
unfoldable pub value : List ℕ → ℕ → ℕ → ℕ
value t p zero = 0
value t p (suc k) = 10 * value t p k + (at t (p + k) - 48)

-- the number written at place p
abbrev pub number : List ℕ → ℕ → ℕ
number t p = value t p (run t p)
