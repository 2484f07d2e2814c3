-- `halfedge::HalfEdge::from_code` meets its contract. A code is 8 times its element and its number, and a number of 0 is no side's.
-- Assumes nothing.
use borrow.Author.Tests.{ne_eqb}
use mathlib.Core.Bool.{Bool, true, false}
use mathlib.Core.Path.{◌≡◌, refl, ap, ◌∙◌}
use native.Mathlib.Omega.{arith}
use Prim.Native.Nat.{ℕ, ◌+◌, ◌*◌}
use Rattle.lists.specs.Tests.{both, either}
use Rattle.rules.specs.Elements.{element, number}
use Rattle.halfedge.specs.Codes.{side_code, border_code, known_code, of_border, of_side}
use Rattle.halfedge.proofs.HalfEdge.from_code.Goals as goal

both_false : (t : Bool) → both t false ≡ false
both_false true = refl
both_false false = refl

either_false : (t : Bool) → either t false ≡ t
either_false true = refl
either_false false = refl

known_border : (c : ℕ) → number c ≡ 0 → border_code (element c) ≡ known_code c
unfolding border_code known_code
known_border c z =
    let q : 8 * element c ≡ c = omega arith in simp (z, q, both_false)

known_side : (c : ℕ) → (number c ≡ 0 → ⊥) → side_code (element c) (number c) ≡ known_code c
unfolding side_code known_code
known_side c d =
    let q : 8 * element c + number c ≡ c = omega arith in simp (ne_eqb _ _ d, q, either_false)

pub returns-then-is_border : goal.returns-then-is_border
returns-then-is_border c =
    let asked = c.before.before.before in
    c.border.ensures ∙ ap border_code c.before.element_of.ensures
    ∙ known_border _ (of_border _ asked.is_border.ensures c.before.before.if-is_border.true)

pub returns : goal.returns
returns c =
    let branch = c.before.before.before in
    rw (c.side.ensures, c.before.before.element_of-2.ensures, c.before.number_of.ensures)
    (known_side _ (of_side _ branch.before.is_border.ensures branch.if-is_border.false))
