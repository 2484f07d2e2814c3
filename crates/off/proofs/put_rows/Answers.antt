-- `off::put_rows` meets its contract.
-- Assumes nothing.
use Rattle.std.specs.Prelude.{◌≡◌, refl, ◌<◌}
use Rattle.std.proofs.Common.{arith}
use Rattle.lists.specs.Search.{tab}
use Rattle.off_rules.specs.Off.{items, the_m}
use Rattle.off.specs.Writing.{face_fit, at_next, rows_more}
use Rattle.off.proofs.put_rows.Goals as goal

pub loop-f-init : goal.loop-f-init
unfolding tab
loop-f-init c = (refl, c.requires.3)

pub read_row-face-requires : goal.read_row-face-requires
read_row-face-requires c =
    let here = c.loop-f.invariant.1 in
    let (sound, count, room, first) = c.requires in
    let more : c.loop-f.f < the_m (items c.args.text.now) = omega arith in (here.inside, face_fit c.requires.0 more here)

pub loop-f-preserved : goal.loop-f-preserved
loop-f-preserved c =
    let (sound, count, room, first) = c.requires in
    let more : c.loop-f.f < the_m (items c.args.text.now) = omega arith in
    let here = c.loop-f.invariant.1 in (
      rows_more sound more here c.read_row-face.ensures _ (omega arith) c.loop-f.invariant.0 c.put_four.ensures,
      at_next sound more here c.read_row-face.ensures,
    )

pub returns : goal.returns
returns c =
    let q : c.loop-f.f ≡ c.args.m = omega arith in rw q at c.loop-f.invariant.0
