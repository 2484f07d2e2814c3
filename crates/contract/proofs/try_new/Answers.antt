-- `contract::try_new` meets its contract.
-- Assumes nothing.
use mathlib.Core.Path.{◌≡◌, refl, ap, sym, ◌∙◌}
use Prim.Native.Nat.{◌+◌, ◌*◌, ◌-◌, ◌≤◌}
use native.Mathlib.Omega.{arith}
use lib.ListN.{length}
use borrow.Author.Rules.{rules}
use Rattle.answer.specs.Numbers.{numbers}
use Rattle.edits.specs.Leaving.{after_refusal, after_answer}
use Rattle.contract.specs.Replacing.{fours}
use Rattle.contract.specs.Keeping.{room_to_keep, before_long, still_long, put_back}
use Rattle.contract.proofs.try_new.Goals as goal

pub copy-requires : goal.copy-requires
copy-requires c =
    let p = c.requires.contractible in
    let end = c.wide.result + 12 * c.wide-2.result in
    room_to_keep end c.args.list.now c.args.work.now (omega (arith, fours p.0 p.1, c.requires.roomy.1))

pub replace-a-requires : goal.replace-a-requires
replace-a-requires c =
    let p = c.requires.contractible in
    let end = c.wide.result + 12 * c.wide-2.result in
    let inside : end + length c.args.list.now ≤ length c.args.work.now = omega (arith, fours p.0 p.1, c.requires.roomy.1) in
    let front = before_long end c.args.list.now c.args.work.now inside c.copy.ensures in
    record { contractible = p; roomy = (c.requires.roomy.0, omega arith) }

pub slice_bounds-copy-end-in_default : goal.slice_bounds-copy-end-in_default
slice_bounds-copy-end-in_default c =
    let p = c.requires.contractible in
    let L = c.args.list.now in
    let work = c.args.work.now in
    let end = c.wide.result + 12 * c.wide-2.result in
    let inside : end + length L ≤ length work = omega (arith, fours p.0 p.1, c.requires.roomy.1) in
    let front = c.replace-a.ensures.work_len_unchanged ∙ before_long end L work inside c.copy.ensures in
    let h = still_long end L work inside c.copy.ensures c.replace-a.new.work front in search rules

pub returns-in_default-clause-tried : goal.returns-in_default-clause-tried
returns-in_default-clause-tried c =
    let p = c.requires.contractible in
    let L = c.args.list.now in
    let work = c.args.work.now in
    let end = c.wide.result + 12 * c.wide-2.result in
    let inside : end + length L ≤ length work = omega (arith, fours p.0 p.1, c.requires.roomy.1) in
    let front = c.replace-a.ensures.work_len_unchanged ∙ before_long end L work inside c.copy.ensures in
    let (tried, replaced) = c.replace-a.ensures.tried in
    let count : end + length L - end ≡ length L = omega arith in
    let old =
    put_back end L work inside c.copy.ensures c.replace-a.new.work front count c.replace-a.new.list replaced.long c.copy-in_default.ensures in
    (tried, old ∙ sym (after_refusal _ L (ap numbers c.in_default.is)))

pub returns-clause-tried : goal.returns-clause-tried
returns-clause-tried c =
    let (tried, replaced) = c.in-Ok.ensures.tried in (tried, replaced.list refl ∙ sym (after_answer _ c.args.list.now refl))
