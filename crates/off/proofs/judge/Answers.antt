-- `off::judge` meets its contract: the head, the vertices, the faces and the end, each where the one before it is good.
-- Assumes nothing.
use Rattle.std.specs.Prelude.{◌≡◌, Err}
use Rattle.std.proofs.Common.{rules, arith}
use Rattle.off.specs.Judging.{item_too_many, text_ends}
use Rattle.off.specs.Faces.{vertices_read, vertices_bad}
use Rattle.off.proofs.judge.Goals as goal

pub returns-in_err-vertices-clause-bad : goal.returns-in_err-vertices-clause-bad
returns-in_err-vertices-clause-bad c =
    let e : c.from_residual-in_err-vertices.result ≡ Err c.in_err-vertices.field-0.0 = search rules in
    let h = c.in_ok-head.ensures.good in
    rw e (vertices_bad h.read h.n.0 c.in_err-vertices.ensures)

pub pass_faces-requires : goal.pass_faces-requires
pass_faces-requires c =
    let h = c.in_ok-head.ensures.good in (vertices_read h.read h.n.0 c.in_ok-vertices.ensures, h.m)

pub returns-then-end-text-clause-bad : goal.returns-then-end-text-clause-bad
returns-then-end-text-clause-bad c = item_too_many c.in_ok-faces.ensures.good.read c.item_from-end.ensures c.if-end-text.true

pub returns-clause-form : goal.returns-clause-form
returns-clause-form c =
    let h = c.in_ok-head.ensures.good in
    let faces = c.in_ok-faces.ensures.good in
    let vertices = vertices_read h.read h.n.0 c.in_ok-vertices.ensures in
    record {
      form = text_ends faces.read c.item_from-end.ensures (omega arith);
      n = h.n.0;
      m = h.m;
      unfit = faces.unfit;
      inside = vertices.inside;
      left = vertices.left;
    }
