-- The packed number, taken apart by the header's three formulas, is the answer again, where its numbers have room.
-- Assumes nothing.
use Rattle.std.specs.Prelude.{◌≡◌, false, ℕ, ◌-◌, ◌%◌, ◌≤◌, ◌<◌, ltb, eqb, ℤ, pos, negsuc}
use Rattle.std.proofs.Common.{ap, ◌∙◌, arith}
use Rattle.std.specs.Int.Signed.{mag}
use Rattle.lists.specs.TestLaws.{true_of, false_of, means_not, means_eq, means_lt}
use Rattle.rules.specs.Refusals.{Answer, gives, refused}
use Rattle.edit_rules.specs.Shape.{complement, signed}
use Rattle.answer.specs.Numbers.{packed, packed_answer, refusal_in, first_in, second_in, unpacked, sign_bit, signed_in}

-- the numbers of an answer have room in the packed number: 8 bits for the refusal, 28 for each other
abbrev pub Fits : Answer → Type 0
Fits (gives a b) = (a < 268_435_456) × (b < 268_435_456)
Fits (refused r a b) = (1 ≤ r) × (r < 256) × (a < 268_435_456) × (b < 268_435_456)

module _ (r a b : ℕ) (h : r < 256) (i : a < 268_435_456) (j : b < 268_435_456) where
  refusal_in_lem : refusal_in (packed r a b) ≡ r
  refusal_in_lem = omega arith

  first_in_lem : first_in (packed r a b) ≡ a
  first_in_lem = omega arith

  second_in_lem : second_in (packed r a b) ≡ b
  second_in_lem = omega arith

unpack_packed : (x : Answer) → Fits x → unpacked (packed_answer x) ≡ x
unpack_packed (gives a b) (i, j) =
    let h : 0 < 256 = omega arith in rw (refusal_in_lem 0 a b h i j, unpacked, first_in_lem 0 a b h i j, second_in_lem 0 a b h i j)
unpack_packed (refused r a b) (l, h, i, j) =
    let d : eqb r 0 ≡ false = false_of (eqb r 0) ((means_not (means_eq r 0)).shows (λ z. omega arith)) in
    let e = refusal_in_lem r a b h i j in
    rw (e, d, unpacked, e, first_in_lem r a b h i j, second_in_lem r a b h i j)

-- what a call returned, taken apart, is the answer that it packed
pub told : (x : Answer) → Fits x → (r : ℕ) → r ≡ packed_answer x → unpacked r ≡ x
told x f r e = ap (λ (y : ℕ). unpacked y) e ∙ unpack_packed x f

-- a signed number from −2^55 to 2^55 − 1 has room in the packed number, and borzhanu_signed tells it
abbrev pub HasRoom : ℤ → Type 0
HasRoom z = mag z < sign_bit

pub signed_told : (z : ℤ) → HasRoom z → (r : ℕ) → r ≡ packed_answer (signed z) → signed_in r ≡ z
unfolding signed complement
signed_told (pos x) h r e =
    let low : r % 72_057_594_037_927_936 ≡ x = omega arith in
    rw (low, true_of (ltb x sign_bit) ((means_lt x sign_bit).shows h), signed_in) (ap pos low)
signed_told (negsuc x) h r e =
    let y = 72_057_594_037_927_935 - x in
    let low : r % 72_057_594_037_927_936 ≡ y = omega arith in
    let high = false_of (ltb y sign_bit) ((means_not (means_lt y sign_bit)).shows (λ l. omega arith)) in
    let back : 72_057_594_037_927_935 - r % 72_057_594_037_927_936 ≡ x = omega arith in
    rw (low, high, signed_in) (ap negsuc back)
