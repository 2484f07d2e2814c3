-- Document 01, "Element list and half-edge numbers": the codes of half-edges.
-- Assumes nothing.
use Rattle.std.specs.Prelude.{Bool, true, false, ◌≡◌, ℕ, ◌+◌, ◌*◌, ◌≤◌, eqb}
use Rattle.std.proofs.Common.{sym, ◌∙◌, le-leb}
use Rattle.lists.specs.Tests.{both, either, within}
use Rattle.lists.specs.TestLaws.{means_not, means_eq}
use Rattle.rules.specs.Elements.{max_element, max_border, element, number}

-- x where the test passes, else 0: "Code 0 names nothing"
abbrev pub or_nothing : Bool → ℕ → ℕ
or_nothing true x = x
or_nothing false x = 0

-- "Side ⟨f,i⟩ .. i is 1 to 3 or 1 to 4", f from 1 to the largest element number
abbrev pub side_possible : ℕ → ℕ → Bool
side_possible f i = both (within 1 max_element f) (within 1 4 i)

-- "Border half-edge ⟨b,0⟩ .. b from 1", to the largest border number
abbrev pub border_possible : ℕ → Bool
border_possible b = within 1 max_border b

-- "Its code is 8 × f + i"
unfoldable pub side_code : ℕ → ℕ → ℕ
side_code f i = or_nothing (side_possible f i) (8 * f + i)

-- "Border half-edge ⟨b,0⟩ has code 8 × b"
unfoldable pub border_code : ℕ → ℕ
border_code b = or_nothing (border_possible b) (8 * b)

-- c where it is the code of a possible side or border half-edge, else the code that names nothing
unfoldable pub known_code : ℕ → ℕ
known_code c =
    or_nothing
    (either (side_possible (element c) (number c)) (both (eqb (number c) 0) (border_possible (element c))))
    c

pub within_true : {a b x : ℕ} → a ≤ x → x ≤ b → within a b x ≡ true
within_true {a} {b} {x} l h = simp (le-leb a x l, le-leb x b h)

pub side_code_lem : (f i : ℕ) → 1 ≤ f → f ≤ max_element → 1 ≤ i → i ≤ 4 → side_code f i ≡ 8 * f + i
unfolding side_code
side_code_lem f i lf hf li hi = simp (within_true lf hf, within_true li hi)

pub border_code_lem : (b : ℕ) → 1 ≤ b → b ≤ max_border → border_code b ≡ 8 * b
unfolding border_code
border_code_lem b l h = simp (within_true l h)

-- what a test for a border tells of the code
pub of_border : (c : ℕ) {r : Bool} → r ≡ eqb (number c) 0 → r ≡ true → number c ≡ 0
of_border c e t = (means_eq (number c) 0).says (rw (sym e ∙ t) tt)

pub of_side : (c : ℕ) {r : Bool} → r ≡ eqb (number c) 0 → r ≡ false → number c ≡ 0 → ⊥
of_side c e t = (means_not (means_eq (number c) 0)).says (rw (sym e ∙ t) tt)
