-- Document 01, "The listing program": the text that it reads, byte by byte. Past its end a text reads as 0, which is no digit and no mark.
-- Assumes nothing.
use Rattle.std.specs.Prelude.{Bool, true, false, not, List, ℕ, zero, suc, ◌+◌, ◌*◌, ◌/◌, ◌%◌, leb, eqb, length}
use Rattle.lists.specs.Tests.{both, within}
use Rattle.lists.specs.Search.{at, least, tab}
use Rattle.digits.specs.Digits.{run, number}

-- "A field is 1 to 7 digits", and the byte after it is the mark c
abbrev pub is_field : List ℕ → ℕ → ℕ → Bool
is_field t p c = both (within 1 7 (run t p)) (eqb (at t (p + run t p)) c)

-- Fields are counted through the text, from 0: fields 0 and 1 are line 1, and each later line has four.

-- the place where field i starts: one mark stands between fields
unfoldable pub place : List ℕ → ℕ → ℕ
place t zero = 0
place t (suc i) = let p = place t i in p + run t p + 1

-- "line 1 "n,m", then m lines of four fields": the line of field i
abbrev pub line_of_field : ℕ → ℕ
line_of_field i = (i + 2) / 4 + 1

-- "commas between", "each line ends in one newline": the mark after field i, a newline after 1, 5, 9, ..
unfoldable pub mark : ℕ → ℕ
mark i = elim (eqb (i % 4) 1) [ true ↦ 10 | false ↦ 44 ]

abbrev pub good_field : List ℕ → ℕ → Bool
good_field t i = is_field t (place t i) (mark i)

-- the first of the first k fields that is not good; k where all are
unfoldable pub first_bad_field : List ℕ → ℕ → ℕ
first_bad_field t k = least (λ i. not (good_field t i)) k

unfoldable pub the_n : List ℕ → ℕ
the_n t = number t (place t 0)

unfoldable pub the_m : List ℕ → ℕ
the_m t = number t (place t 1)

-- "line 1 "n,m""; "n and m at most 200"
unfoldable pub good_head : List ℕ → Bool
good_head t = both (eqb (first_bad_field t 2) 2) (both (leb (the_n t) 200) (leb (the_m t) 200))

-- how many fields a text has whose line 1 is good
abbrev pub fields : List ℕ → ℕ
fields t = 4 * the_m t + 2

-- "A missing line is a bad line, and bytes after the last one make line m + 2 bad": the line of the first bad field,
-- which is m + 2 where no field is bad; 0 where the text ends after the last field's newline
unfoldable pub first_bad_from : List ℕ → ℕ → ℕ
first_bad_from t i = elim (both (eqb i (fields t)) (eqb (place t i) (length t))) [ true ↦ 0 | false ↦ line_of_field i ]

-- "text input not in form", "first bad line"; 0 for a text in form
unfoldable pub first_bad : List ℕ → ℕ
first_bad t = elim (good_head t) [ true ↦ first_bad_from t (first_bad_field t (fields t)) | false ↦ 1 ]

-- the 4 × m numbers after line 1
abbrev pub the_number : List ℕ → ℕ → ℕ
the_number t i = number t (place t (i + 2))

unfoldable pub the_list : List ℕ → List ℕ
the_list t = tab (4 * the_m t) (the_number t)
