-- `edits::put_row` meets its contract.
-- Assumes nothing.
use Rattle.std.proofs.Common.{◌≡◌, length, rules}
use Rattle.edits.specs.RowPut.{row_put}
use Rattle.edits.proofs.put_row.Goals as goal

pub returns : goal.returns
returns c =
    let four : length c.args.row ≡ 4 = search rules in
    row_put c.args.f c.args.row c.args.list.now four c.requires.0 c.requires.1 c.wide-a.ensures c.copy.ensures
