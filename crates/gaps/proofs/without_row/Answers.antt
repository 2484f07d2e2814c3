-- `gaps::without_row` meets its contract.
-- Assumes nothing.
use Rattle.gaps.specs.Closing.{row_goes}
use Rattle.gaps.proofs.without_row.Goals as goal

pub returns : goal.returns
returns c =
    let (from, to, inside) = c.requires in
    row_goes c.args.m c.args.f c.args.list.now from to inside c.row_at-last.ensures c.put_row.ensures
