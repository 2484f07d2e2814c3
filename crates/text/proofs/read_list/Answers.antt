-- `text::read_list` meets its contract.
-- Assumes nothing.
use Rattle.std.specs.Prelude.{◌≡◌, refl, ◌+◌}
use Rattle.std.proofs.Common.{ap, ◌∙◌, arith}
use Rattle.lists.specs.Search.{tab}
use Rattle.lists.specs.Steps.{tab_set}
use Rattle.digits.specs.Digits.{number}
use Rattle.text.specs.Form.{place, the_number}
use Rattle.text.specs.FormLaws.{place_next}
use Rattle.text.proofs.read_list.Goals as goal

pub loop-i-init : goal.loop-i-init
unfolding place tab
loop-i-init c =
    let t = c.args.text.now in
    (omega arith, place_next t 1 (place_next t 0 refl c.next.ensures.value) c.next-at.ensures.value, refl)

pub loop-i-preserved : goal.loop-i-preserved
loop-i-preserved c =
    let t = c.args.text.now in
    let i = c.loop-i.i in
    let l = c.loop-i.invariant in
    let e : i + 2 + 1 ≡ i + 1 + 2 = omega arith in (
      omega arith,
      place_next t (i + 2) l.1 c.next-at-in-loop-i.ensures.value ∙ ap (place t) e,
      tab_set (the_number t) _ i (omega arith) l.2 (c.number.ensures ∙ ap (number t) l.1),
    )

pub returns : goal.returns
returns c =
    let q : c.loop-i.i ≡ c.args.count = omega arith in rw q at c.loop-i.invariant.2
