-- Document 02, point 9: "Shape kept through editing".
-- Assumes nothing.
use Rattle.std.specs.Prelude.{Bool, List, ℕ, ◌+◌, ◌*◌, ◌-◌, ◌/◌, ◌%◌, leb, ℤ, pos, negsuc, ◌+ℤ◌, ◌-ℤ◌, length}
use Rattle.lists.specs.Search.{tab, total}
use Rattle.rules.specs.Elements.{elements, count_numbers}
use Rattle.rules.specs.Pairing.{sizes_fit}
use Rattle.rules.specs.Refusals.{Answer, gives, list_answer, length_checks, work_after}
use Rattle.edit_rules.specs.Edits.{once_accepted}
use Rattle.edit_rules.specs.Contract.{is_neighbour}

-- with how many lower vertices a side joins v
unfoldable pub lower_neighbours : List ℕ → ℕ → ℕ
lower_neighbours L v = count_numbers (v - 1) (is_neighbour L v)

-- "the count of distinct joined vertex pairs": each pair is counted at its higher vertex, however many sides join it
unfoldable pub joined_pairs : ℕ → List ℕ → ℕ
joined_pairs n L = total (tab n (λ i. lower_neighbours L (i + 1)))

-- "the signed number vertices − edges + elements, spare vertices counted. It may be negative or zero"
unfoldable pub shape : ℕ → List ℕ → ℤ
shape n L = pos n -ℤ pos (joined_pairs n L) +ℤ pos (elements L)

-- a signed number in two's complement in 56 bits, where −1 is 2^56 − 1; `negsuc x` is −(x + 1)
unfoldable pub complement : ℤ → ℕ
complement (pos x) = x
complement (negsuc x) = 72_057_594_037_927_935 - x

-- and as an answer: the upper 28 bits are its first number, the lower 28 its second
unfoldable pub signed : ℤ → Answer
signed z = gives (complement z / 268_435_456) (complement z % 268_435_456)

-- check 2 of a query that "takes n, element list and work buffer", the latter "at least n + 16 × m"
unfoldable pub shape_lengths : ℕ → List ℕ → List ℕ → Bool
shape_lengths n L work = leb (n + 16 * elements L) (length work)

-- it "refuses as build does but for 9": what is said of the list, and of the call
unfoldable pub list_shape : ℕ → List ℕ → Answer
list_shape n L = once_accepted (list_answer n L) (signed (shape n L))

unfoldable pub shape_answer : ℕ → List ℕ → List ℕ → Answer
shape_answer n L work = length_checks (sizes_fit n L) (shape_lengths n L work) (list_shape n L)

-- what it leaves in the work buffer, the only one that it writes
unfoldable pub shape_work : ℕ → List ℕ → List ℕ → List ℕ
shape_work n L work = work_after (sizes_fit n L) (shape_lengths n L work) work
