-- `off::face` meets its contract.
-- Assumes nothing.
use Rattle.std.specs.Prelude.{◌≡◌, Err}
use Rattle.std.proofs.Common.{rules}
use Rattle.off.specs.Faces.{face_bad, face_on, face_cut}
use Rattle.off.proofs.face.Goals as goal

pub returns-in_err-count : goal.returns-in_err-count
returns-in_err-count c =
    let e : c.from_residual.result ≡ Err c.in_err-count.field-0.0 = search rules in rw e (face_bad c.in_err-count.ensures)

pub returns-in_err-end : goal.returns-in_err-end
returns-in_err-end c =
    let e : c.from_residual-in_err-end.result ≡ Err c.in_err-end.field-0.0 = search rules in
    rw e (face_cut c.in_ok-count.ensures c.in_err-end.ensures)

pub returns : goal.returns
returns c = face_on c.in_ok-count.ensures c.in_ok-end.ensures
