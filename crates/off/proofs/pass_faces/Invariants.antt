-- `off::pass_faces` meets its contract: the faces passed so far are good, and the first unfit one is known.
-- Assumes nothing.
use Rattle.off_rules.specs.Off.{items, face_item}
use Rattle.off.specs.Judging.{Read}
use Rattle.off.specs.Faces.{is_unfit, Unfit}
use Rattle.off.proofs.pass_faces.Given as goal

abbrev pub invariant-loop-f : goal.invariant-loop-f
invariant-loop-f l = Read l.text (face_item (items l.text) l.f) l.end × Unfit l.f (is_unfit (items l.text)) l.unfit
