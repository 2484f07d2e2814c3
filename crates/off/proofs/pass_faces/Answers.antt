-- `off::pass_faces` meets its contract.
-- Assumes nothing.
use Rattle.std.specs.Prelude.{◌≡◌, Err, ◌<◌}
use Rattle.std.proofs.Common.{rules, arith}
use Rattle.off_rules.specs.Off.{items, the_m}
use Rattle.off.specs.Faces.{unfit_more, faces_on, faces_bad, faces_count, faces_read}
use Rattle.off.proofs.pass_faces.Goals as goal

pub returns-in_err-face-clause-bad : goal.returns-in_err-face-clause-bad
returns-in_err-face-clause-bad c =
    let e : c.from_residual.result ≡ Err c.in_err-face.field-0.0 = search rules in
    rw e (faces_bad c.loop-f.invariant.0 (omega (arith, c.requires.1)) c.in_err-face.ensures)

pub loop-f-preserved : goal.loop-f-preserved
loop-f-preserved c =
    let i = c.loop-f.invariant in
    let more : c.loop-f.f < the_m (items c.args.text.now) = omega (arith, c.requires.1) in (
      faces_on i.0 more c.in_ok-face.ensures,
      rw c.unfit_after-unfit.ensures (unfit_more (items c.args.text.now) c.loop-f.f (faces_count i.0 more c.in_ok-face.ensures) c.loop-f.unfit i.1),
    )

pub returns-clause-good : goal.returns-clause-good
returns-clause-good c = faces_read c.loop-f.unfit (omega (arith, c.requires.1)) c.loop-f.invariant.0 c.loop-f.invariant.1
