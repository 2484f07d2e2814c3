-- `halfedge::triangle::previous` meets its contract: each case is a step of the rule.
-- Assumes nothing.
use native.Mathlib.Omega.{arith}
use Rattle.rules.specs.Elements.{previous_number}
use Rattle.halfedge.specs.Rows.{step_in}
use Rattle.halfedge.proofs.Turns.{side_case, no_side}
use Rattle.halfedge.proofs.triangle.previous.Goals as goal

pub returns-in-1 : goal.returns-in-1
unfolding previous_number step_in
returns-in-1 c = side_case previous_number 3 1 c.in-1.is

pub returns-in-2 : goal.returns-in-2
unfolding previous_number step_in
returns-in-2 c = side_case previous_number 3 2 c.in-2.is

pub returns-in-3 : goal.returns-in-3
unfolding previous_number step_in
returns-in-3 c = side_case previous_number 3 3 c.in-3.is

pub returns-in_default : goal.returns-in_default
unfolding previous_number step_in
returns-in_default c = no_side previous_number 3 c.before.args.i (λ l h. omega arith)
