-- `gaps::is_used` meets its contract.
-- Assumes nothing.
use Rattle.gaps.specs.Asking.{used_by}
use Rattle.gaps.proofs.is_used.Goals as goal

pub returns : goal.returns
returns c =
    let (from, fours) = c.requires in
    used_by c.args.list.now c.args.v from fours c.contains.result c.contains.ensures.cases
