-- `tabulate::tabulate_front` meets its contract.
-- Assumes nothing.
use borrow.Author.Rules.{rules}
use Rattle.tabulate.specs.Results.{front_fits, front_sized, scratched}
use Rattle.tabulate.proofs.tabulate_front.Goals as goal

pub returns : goal.returns
returns c = scratched c.requires c.wide.ensures c.tabulate.ensures
