-- Lines that are printed.
-- Assumes nothing.
use Rattle.std.specs.Prelude.{Bool, true, List, [], ◌∷◌, ℕ, T}
use Prim.Native.Char.{code}
use Prim.Native.String.{String, [] as empty, ◌∷◌ as ◌then◌}
use Rattle.lists.specs.Tests.{both, same}
use Rattle.print.specs.Lines.{last_digits, digits, joined, line_of, refusal_line}

unfoldable pub bytes : String → List ℕ
bytes empty = []
bytes (c then s) = code c ∷ bytes s

-- a line, and how it reads
pub data Case : Type 0 where
  prints : List ℕ → String → Case

unfoldable pub holds : Case → Bool
holds (prints line s) = same line (bytes s)

unfoldable pub every : List Case → Bool
every [] = true
every (c ∷ cs) = both (holds c) (every cs)

unfoldable pub cases : List Case
cases =
    prints (line_of 86 (32 ∷ 8 ∷ 16 ∷ 24 ∷ [])) "V,32,8,16,24\n" ∷
    prints (line_of 66 []) "B\n" ∷
    prints (line_of 69 (0 ∷ 10 ∷ 109 ∷ 4294967295 ∷ [])) "E,0,10,109,4294967295\n" ∷
    prints (refusal_line 5 1 0) "R,5,1,0\n" ∷
    []

pub cases_hold : T (every cases)
unfolding bytes holds every cases same last_digits digits joined
cases_hold = tt
