-- The numbers of document 01 for each case of the enum, and their packing.
-- Assumes nothing.
use Rattle.std.specs.Prelude.{true, false, ℕ, ◌+◌, ◌*◌, ◌-◌, ◌/◌, ◌%◌, ltb, eqb, ℤ, pos, negsuc, Result, Ok, Err}
use Rattle.rules.specs.Refusals.{Answer as Stated, gives, refused}
use Rattle.answer.specs.declared.Given.{Given}
use Rattle.answer.specs.declared.Reason.{Reason}
use Rattle.answer.specs.declared.Reason.TheVariants.{Sizes, Lengths, Unfit, Repeated, Crowded, Alike, Unordered, Borders, NoList, Absent, Broken, Room, Line, Uneditable, Item, Face, Clash, Full, Pinched, Stranded, Other}
use Rattle.answer.specs.declared.Refusal.{Refusal}

-- the paper's number of each reason
abbrev pub number_in : Reason → ℕ
number_in Sizes = 1
number_in Lengths = 2
number_in Unfit = 3
number_in Repeated = 4
number_in Crowded = 6
number_in Alike = 7
number_in Unordered = 8
number_in Borders = 9
number_in NoList = 10
number_in Absent = 11
number_in Broken = 12
number_in Room = 13
number_in Line = 14
number_in Uneditable = 15
number_in Item = 16
number_in Face = 17
number_in Clash = 18
number_in Full = 19
number_in Pinched = 20
number_in Stranded = 21
number_in (Other x) = x

abbrev pub placed : Reason → ℕ → ℕ → Refusal
placed reason a b = record { reason = reason; first = a; second = b }

-- "For an answer that is an enum, a definition gives this paper's number and values for each of its cases"
abbrev pub numbers : Result Given Refusal → Stated
numbers (Ok g) = gives g.first g.second
numbers (Err r) = refused (number_in r.reason) r.first r.second

-- a refusal, or what is told by the value that is given
abbrev pub told : {A : Type 0} → (A → Stated) → Result A Refusal → Stated
told f (Ok x) = f x
told f (Err r) = refused (number_in r.reason) r.first r.second

-- checks, which give 0, 0 where they find nothing
abbrev pub checked : Result Unit Refusal → Stated
checked = told (λ _. gives 0 0)

-- a value of one number
abbrev pub found : Result ℕ Refusal → Stated
found = told (λ x. gives x 0)

-- the refusal number (0: an answer) in bits 56 to 63, the first number in bits 28 to 55, the second in bits 0 to 27
abbrev pub packed : ℕ → ℕ → ℕ → ℕ
packed r a b = (r % 256) * 72_057_594_037_927_936 + (a % 268_435_456) * 268_435_456 + b % 268_435_456

abbrev pub packed_answer : Stated → ℕ
packed_answer (gives a b) = packed 0 a b
packed_answer (refused r a b) = packed r a b

-- the three formulas of the C header, borzhanu_refusal, borzhanu_first and borzhanu_second, and the answer that they tell
abbrev pub refusal_in : ℕ → ℕ
refusal_in x = x / 72_057_594_037_927_936

abbrev pub first_in : ℕ → ℕ
first_in x = x / 268_435_456 % 268_435_456

abbrev pub second_in : ℕ → ℕ
second_in x = x % 268_435_456

abbrev pub unpacked : ℕ → Stated
unpacked x =
    elim (eqb (refusal_in x) 0)
    [ true ↦ gives (first_in x) (second_in x) | false ↦ refused (refusal_in x) (first_in x) (second_in x) ]

-- the formula of borzhanu_signed: bits 0 to 55 as a signed number in two's complement, negative where bit 55 is set
abbrev pub sign_bit : ℕ
sign_bit = 36_028_797_018_963_968

abbrev pub signed_in : ℕ → ℤ
signed_in x =
    let low = x % 72_057_594_037_927_936 in
    elim (ltb low sign_bit) [ true ↦ pos low | false ↦ negsuc (72_057_594_037_927_935 - low) ]
