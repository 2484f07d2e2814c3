-- `walk::start` meets its contract: v's entry itself, or the side after the one that is linked to its border number b.
-- Assumes nothing.
use Rattle.std.proofs.Common.{rules, ℕ, List, Bool, true, ◌≡◌, ◌∙◌, eqb, arith}
use Rattle.rules.specs.Elements.{element, number}
use Rattle.halfedge.specs.Codes.{of_border}
use Rattle.walk.specs.Layout.{Sizes, Linked}
use Rattle.walk.specs.Sides.{lent, start_side_lem, start_outside, Bordered, start_unlinked, start_linked, linked_side}
use Rattle.walk.proofs.start.Goals as goal
use Rattle.walk.proofs.start.Goals.{then-b-eq0-via-then-b-eq0, then-b-eq0-via-else-b-eq0+then-m-b}

-- the entry c is no border, or it is the code of b
module _ {n m c b x : ℕ} {w : List ℕ} {t : Bool} (tested : t ≡ eqb (number c) 0) where
  bordered : Sizes n m w → Linked n m w → t ≡ true → b ≡ x → x ≡ element c → Bordered n m w c b
  bordered z l e f g = record { sizes = z; linked = l; border = of_border c tested e; split = f ∙ g }

pub returns-then-not-is_border : goal.returns-then-not-is_border
returns-then-not-is_border c = start_side_lem _ _ c.is_border.ensures (search rules)

pub returns-then-b-eq0 : goal.returns-then-b-eq0
returns-then-b-eq0 c = start_outside (bordered c.is_border.ensures c.requires.0 c.requires.1 (search rules) c.wide-b.ensures c.element_of.ensures) (λ a b.
    elim c.then-b-eq0.branch [ then-b-eq0-via-then-b-eq0 w ↦ omega arith | then-b-eq0-via-else-b-eq0+then-m-b w ↦ omega arith ])

pub returns-then-s-eq0 : goal.returns-then-s-eq0
returns-then-s-eq0 c =
    start_unlinked (bordered c.is_border.ensures c.requires.0 c.requires.1 (search rules) c.wide-b.ensures c.element_of.ensures) (omega arith) (omega arith) c.if-s-eq0.true

pub next_code-requires : goal.next_code-requires
next_code-requires c =
    rw lent (linked_side (bordered c.is_border.ensures c.requires.0 c.requires.1 (search rules) c.wide-b.ensures c.element_of.ensures) (omega arith) (omega arith) c.if-s-eq0.false)

pub returns : goal.returns
returns c =
    start_linked (bordered c.is_border.ensures c.requires.0 c.requires.1 (search rules) c.wide-b.ensures c.element_of.ensures) (omega arith) (omega arith) c.if-s-eq0.false
    (rw lent at c.next_code.ensures)
