-- `checks::put_first` meets its contract.
-- Assumes nothing.
use Rattle.std.proofs.Common.{sym, ◌∙◌, arith}
use Rattle.lists.specs.Stores.{kept_itself, kept_set}
use Rattle.checks.specs.Firsts.{firsts_skip, firsts_put, entry_vertex}
use Rattle.checks.proofs.put_first.Goals as goal

pub bounds-work-wide : goal.bounds-work-wide
bounds-work-wide c =
    let (fit, room, inside, read, firsts) = c.requires in
    omega (arith, c.wide.ensures, entry_vertex _ _ fit _ _ inside read c.if-x-ne0.true)

pub returns-then-x-ne0 : goal.returns-then-x-ne0
returns-then-x-ne0 c =
    let (fit, room, inside, read, firsts) = c.requires in
    rw (c.wide.ensures, c.code_at.ensures) (
      kept_set _ _ (kept_itself _ _) (omega (arith, entry_vertex _ _ fit _ _ inside read c.if-x-ne0.true)),
      firsts_put _ _ c.args.work.now fit room _ inside firsts _ read c.if-x-ne0.true,
    )

pub returns-else-x-ne0 : goal.returns-else-x-ne0
returns-else-x-ne0 c =
    let (fit, room, inside, read, firsts) = c.requires in
    (kept_itself _ _, firsts_skip _ _ c.args.work.now fit room _ inside firsts (sym read ∙ c.if-x-ne0.false))
