-- `holes::number_holes` meets its contract.
-- Assumes nothing.
use mathlib.Core.Path.{refl}
use Prim.Native.Nat.{◌+◌, ◌≤◌}
use lib.ListN.{length}
use native.Mathlib.Omega.{arith}
use Rattle.holes.proofs.Numbering.{none_marked, lost_at, unnumbered}
use Rattle.holes.proofs.number_holes.Goals as goal

pub returns-in_err-read_nexts-clause-numbered : goal.returns-in_err-read_nexts-clause-numbered
returns-in_err-read_nexts-clause-numbered c =
    let (z, i, e) = c.in_err-read_nexts.ensures.nexts.unread refl in
    let M = c.args.fitting.now in
    rw c.from_residual.ensures (unnumbered M _ z _ i (lost_at M z i e))

pub mark_all-requires : goal.mark_all-requires
mark_all-requires c =
    let room : length c.args.fitting.now.border + length c.args.fitting.now.border ≤ length c.read_nexts.new.work = omega (arith, c.requires, c.read_nexts.ensures.work_len_unchanged) in
    (c.args.fitting.now, c.border_count.ensures.count, none_marked c.args.fitting.now _ room (c.in_ok-read_nexts.ensures.nexts.read refl))

pub returns-clause-numbered : goal.returns-clause-numbered
returns-clause-numbered c =
    let room : length c.args.fitting.now.border + length c.args.fitting.now.border ≤ length c.read_nexts.new.work = omega (arith, c.requires, c.read_nexts.ensures.work_len_unchanged) in
    let size = c.border_count.ensures.count in
    let marked = none_marked c.args.fitting.now _ room (c.in_ok-read_nexts.ensures.nexts.read refl) in
    rw size at (c.mark_all.ensures.numbered c.args.fitting.now size marked)
