-- `halfedge::HalfEdge::side` meets its contract. Each way out goes by the two range tests.
-- Assumes nothing.
use mathlib.Core.Path.{◌∙◌, sym}
use Rattle.rules.specs.Elements.{max_element}
use Rattle.halfedge.specs.Codes.{side_code, side_code_lem}
use Rattle.halfedge.proofs.Within.{inside, failed, passed}
use Rattle.halfedge.proofs.HalfEdge.side.Goals.{then-not-is_within-via-then-not-is_within, then-not-is_within-via-else-not-is_within+then-not-is_within-2}
use Rattle.halfedge.proofs.HalfEdge.side.Goals as goal

pub returns-then-not-is_within : goal.returns-then-not-is_within
unfolding side_code
returns-then-not-is_within c =
    elim c.then-not-is_within.branch [
      | then-not-is_within-via-then-not-is_within w ↦ simp (failed c.is_within.ensures w.if-not-is_within.true-raw)
      | then-not-is_within-via-else-not-is_within+then-not-is_within-2 w ↦
          simp (passed c.is_within.ensures w.if-not-is_within.false-raw, failed w.is_within-else-not-is_within.ensures w.if-not-is_within-2.true-raw)
    ]

pub returns : goal.returns
returns c =
    let element = inside 1 max_element _ (passed c.is_within.ensures c.if-not-is_within.false-raw) in
    let number = inside 1 4 _ (passed c.is_within-else-not-is_within.ensures c.if-not-is_within-2.false-raw) in
    c.side_code.ensures ∙ sym (side_code_lem _ _ element.0 element.1 number.0 number.1)
