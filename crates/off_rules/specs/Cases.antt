-- Texts, and what the rules make of them.
-- Assumes nothing.
use Rattle.std.specs.Prelude.{Bool, List, [], ◌∷◌, ◌++◌, ℕ, ◌*◌, replicate}
use Prim.Native.String.{String}
use Rattle.lists.specs.Tests.{both, same}
use Rattle.print.specs.Cases.{bytes}
use Rattle.rules.specs.Refusals.{Answer, gives, refused}
use Rattle.rules.specs.Cases.{tri, quad, same_answer}
use Rattle.off_rules.specs.Off.{off_answer, off_leaves}

pub data Case : Type 0 where
  -- a text that is read: its n, m and rows; a list of two entries more keeps them
  reads : String → ℕ → ℕ → List ℕ → Case
  -- a text with a list of this length, and its refusal, which leaves the list as it was
  refuses : String → ℕ → Answer → Case

unfoldable pub outcome : List ℕ → List ℕ → Answer → List ℕ → Bool
outcome t list answer left = both (same_answer (off_answer t list) answer) (same (off_leaves t list) left)

unfoldable pub holds : Case → Bool
holds (reads s n m L) = outcome (bytes s) (replicate (4 * m) 9 ++ (9 ∷ 9 ∷ [])) (gives n m) (L ++ (9 ∷ 9 ∷ []))
holds (refuses s room answer) = outcome (bytes s) (replicate room 9) answer (replicate room 9)

-- a triangle and a quadrilateral
unfoldable pub rows : List ℕ
rows = tri 1 2 3 ++ quad 1 3 4 5

unfoldable pub cases : List Case
cases =
    -- "the word OFF; vertex, face and edge counts; three decimal numbers for each vertex; then faces as a corner count and corner numbers
    -- from 0"; "adding 1 to every corner and ignoring the edge count and coordinates"
    reads "OFF\n5 2 6\n0 0 0\n1 0 0\n1 1 0\n0 1 0\n0.5 2 -1.25\n3 0 1 2\n4 0 2 3 4\n" 5 2 rows ∷
    reads "OFF 0 0 0" 0 0 [] ∷
    reads "OFF 1 0 9999999 0 0 0" 1 0 [] ∷
    -- "A # starts a comment to the end of the line. Blanks (space, tab, return, newline) and comments part items"
    reads "# a plate\r\nOFF#x\r\n\t5 2#6\n 6\n0 0 0 1 0 0 1 1 0 0 1 0 0 0 0 3 0 1 2 # 7\n\n4 0 2 3 4# end" 5 2 rows ∷
    -- "Corners above the vertex count are left for build to refuse"
    reads "OFF 0 1 0 3 7 9999999 0" 0 1 (tri 8 10_000_000 1) ∷
    -- "a decimal has an optional sign, digits, and perhaps a point with digits after it"
    reads "OFF 2 0 0 -0 007 +1.50 12345678901 -0.000000001 +3" 2 0 [] ∷
    refuses "OFF 1 0 0\n.5 0 0" 0 (refused 16 2 0) ∷
    refuses "OFF 1 0 0\n5. 0 0" 0 (refused 16 2 0) ∷
    refuses "OFF 1 0 0\n0 1e3 0" 0 (refused 16 2 0) ∷
    refuses "OFF 1 0 0\n0 0\n--1" 0 (refused 16 3 0) ∷
    refuses "OFF 1 0 0\n0 0 1.2.3" 0 (refused 16 2 0) ∷
    refuses "OFF 1 0 0\n0 0 +" 0 (refused 16 2 0) ∷
    -- "A whole number has 1 to 7 digits"
    reads "OFF 0000001 0 0 0 0 0" 1 0 [] ∷
    refuses "OFF 00000001 0 0 0 0 0" 0 (refused 16 1 0) ∷
    refuses "OFF 0 0 +1" 0 (refused 16 1 0) ∷
    refuses "OFF 0 1 0\n3 0 1 2.0" 4 (refused 16 2 0) ∷
    -- "16: text not in this form, an item past the last face included, with the line of the first bad item or of the text's end, counted as 1 plus
    -- the newlines before it"
    refuses "" 0 (refused 16 1 0) ∷
    refuses "off 0 0 0" 0 (refused 16 1 0) ∷
    refuses "\nOFFX 0 0 0" 0 (refused 16 2 0) ∷
    refuses "OFF\n0 0\n\n# 0\n" 0 (refused 16 5 0) ∷
    refuses "OFF 0 1 0 3 0 1 # 2\n" 4 (refused 16 2 0) ∷
    refuses "OFF 0 0 0\n\n0" 0 (refused 16 3 0) ∷
    refuses "OFF 0 1 0 3 0 1 2\r3\n" 4 (refused 16 1 0) ∷
    refuses "OFF 1 1 0\n0 0 x\n3 0 1 y" 4 (refused 16 2 0) ∷
    -- "17: a face with a corner count other than 3 or 4, with the first such face; 16 first"
    refuses "OFF 0 3 0 3 0 1 2 2 0 1 5 0 1 2 3 4" 12 (refused 17 2 0) ∷
    refuses "OFF 0 1 0 0" 0 (refused 17 1 0) ∷
    refuses "OFF 0 1 0 5 0 1 2 3 4" 4 (refused 17 1 0) ∷
    refuses "OFF 0 2 0\n5 0 1 2 3 4\n3 0 1" 8 (refused 16 3 0) ∷
    -- "then 13 for a list too short"
    refuses "OFF 0 2 0 3 0 1 2 4 0 2 3 4" 7 (refused 13 8 0) ∷
    refuses "OFF 0 2 0 3 0 1 2 2 0 2" 7 (refused 17 2 0) ∷
    []
