-- `meeting::clashing_element` meets its contract.
-- Assumes nothing.
use Rattle.meeting.specs.Clashes.{clashing_is}
use Rattle.meeting.proofs.clashing_element.Goals as goal

pub returns : goal.returns
returns c =
    let a = c.args in
    let (mapped, uncrowded, crossed) = c.requires in
    clashing_is a.n a.list.now mapped.fit uncrowded crossed (rw c.folded_element.ensures at c.lesser_of.ensures)
