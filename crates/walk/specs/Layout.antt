-- The work buffer of the walk, and what the walk leaves in it.
-- Assumes nothing.
use Rattle.std.specs.Prelude.{◌≡◌, Bool, List, ℕ, ◌+◌, ◌*◌, ◌-◌, ◌≤◌, eqb, length, take, drop}
use Rattle.lists.specs.Tests.{both}
use Rattle.lists.specs.Search.{at, zeros}
use Rattle.lists.specs.Parts.{part}
use Rattle.rules.specs.Elements.{is_side, slot}
use Rattle.rules.specs.Recovery.{side_of_border, trace, walk_to}

pub record Sizes (n m : ℕ) (w : List ℕ) : Type 0 where
  pub vertices : n ≤ 1_000_000
  pub elements : m ≤ 1_000_000
  pub long : length w ≡ n + 12 * m

-- the tables, and what the walk writes
abbrev pub tables : ℕ → ℕ → List ℕ → List ℕ
tables n m w = take (n + 8 * m) w

abbrev pub written : ℕ → ℕ → List ℕ → List ℕ
written n m w = drop (n + 8 * m) w

abbrev pub v2e_in : ℕ → List ℕ → List ℕ
v2e_in n w = take n w

abbrev pub e2e_in : ℕ → ℕ → List ℕ → List ℕ
e2e_in n m w = part n (4 * m) w

-- a side whose place is still empty
abbrev pub is_open : List ℕ → List ℕ → ℕ → Bool
is_open E W s = both (is_side E s) (eqb (at W (slot s)) 0)

-- at each border number the least side with that border
abbrev pub Linked : ℕ → ℕ → List ℕ → Type 0
Linked n m w = (b : ℕ) → 1 ≤ b → b ≤ 4 * m → at w (n + 4 * m + b - 1) ≡ side_of_border (e2e_in n m w) (8 * b)

-- the tables are kept, and v is traced from s
pub record Traced (n m v s : ℕ) (w w' : List ℕ) : Type 0 where
  pub kept : tables n m w' ≡ tables n m w
  pub new : written n m w' ≡ trace (zeros (written n m w)) (e2e_in n m w) v s (written n m w)
  pub long : length w' ≡ length w

-- the vertices 1 to v are walked about
pub record Walking (n m v : ℕ) (w w' : List ℕ) : Type 0 where
  pub kept : tables n m w' ≡ tables n m w
  pub new : written n m w' ≡ walk_to (v2e_in n w) (e2e_in n m w) v
  pub long : length w' ≡ length w
