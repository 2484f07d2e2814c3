-- Texts, and what the rules make of them.
-- Assumes nothing.
use Rattle.std.specs.Prelude.{Bool, true, List, [], ◌∷◌, ℕ, T, eqb}
use Prim.Native.String.{String}
use Rattle.lists.specs.Tests.{both, same}
use Rattle.lists.specs.Search.{least, tab}
use Rattle.print.specs.Cases.{bytes}
use Rattle.digits.specs.Digits.{run, value}
use Rattle.text.specs.Form.{place, mark, first_bad_field, the_n, the_m, good_head, first_bad_from, first_bad, the_list}

pub data Case : Type 0 where
  -- a text in form: its n, m and rows
  gives : String → ℕ → ℕ → List ℕ → Case
  -- a text that is not, by its first bad line
  bad : String → ℕ → Case

unfoldable pub holds : Case → Bool
holds (gives s n m L) =
    let t = bytes s in
    both (eqb (first_bad t) 0) (both (eqb (the_n t) n) (both (eqb (the_m t) m) (same (the_list t) L)))
holds (bad s line) = eqb (first_bad (bytes s)) line

unfoldable pub every : List Case → Bool
every [] = true
every (c ∷ cs) = both (holds c) (every cs)

unfoldable pub cases : List Case
cases =
    -- document 01's listing, and 0,0
    gives "4,2\n1,2,3,0\n1,3,4,0\n" 4 2 (1 ∷ 2 ∷ 3 ∷ 0 ∷ 1 ∷ 3 ∷ 4 ∷ 0 ∷ []) ∷
    gives "0,0\n" 0 0 [] ∷
    -- 1 to 7 digits; n and m at most 200
    gives "0000004,01\n0,0000007,9999999,10\n" 4 1 (0 ∷ 7 ∷ 9999999 ∷ 10 ∷ []) ∷
    gives "200,0\n" 200 0 [] ∷
    bad "00000004,0\n" 1 ∷
    bad "201,0\n" 1 ∷
    bad "0,201\n" 1 ∷
    bad "4,1\n1,2,30000000,0\n" 2 ∷
    bad "4,1\n1,,3,0\n" 2 ∷
    -- two fields, then four
    bad "4\n" 1 ∷
    bad "4,1,0\n1,2,3,0\n" 1 ∷
    bad "4,1\n1,2,3\n" 2 ∷
    bad "4,1\n1,2,3,0,0\n" 2 ∷
    -- a missing line, a missing newline, bytes after the last line
    bad "" 1 ∷
    bad "4,2" 1 ∷
    bad "4,2\n1,2,3,0\n" 3 ∷
    bad "4,2\n1,2,3,0\n1,3,4,0" 3 ∷
    bad "0,0\n\n" 2 ∷
    bad "4,2\n1,2,3,0\n1,3,4,0\n1,2,3,0\n" 4 ∷
    -- no other bytes
    bad " 4,1\n1,2,3,0\n" 1 ∷
    bad "4,1\r\n1,2,3,0\n" 1 ∷
    bad "4,1\n1,2,-3,0\n" 2 ∷
    bad "4,1\n\n1,2,3,0\n" 2 ∷
    -- the first bad line of several
    bad "4,2\n1,2,x,0\n1,x,4,0\n" 2 ∷
    []

pub cases_hold : T (every cases)
unfolding bytes holds every cases same least tab run value place mark first_bad_field the_n the_m good_head first_bad_from first_bad the_list
cases_hold = tt
