-- `off::read_off` meets its contract.
-- Assumes nothing.
use Rattle.off.specs.Answers.{not_in_form}
use Rattle.off.proofs.read_off.Goals as goal

pub returns-in-Err-clause-result_value : goal.returns-in-Err-clause-result_value
returns-in-Err-clause-result_value c = (not_in_form c.args.text.now c.args.list.now c.in-Err.ensures.bad c.line_of.ensures c.refuse_at.ensures).0

pub returns-in-Err-clause-list_after : goal.returns-in-Err-clause-list_after
returns-in-Err-clause-list_after c = (not_in_form c.args.text.now c.args.list.now c.in-Err.ensures.bad c.line_of.ensures c.refuse_at.ensures).1
