-- `off::write_form` meets its contract.
-- Assumes nothing.
use Rattle.std.specs.Prelude.{refl, ℕ, ◌*◌}
use Rattle.std.proofs.Common.{sym, ap, ◌∙◌, arith}
use Rattle.off.specs.Writing.{sound_form, at_first}
use Rattle.off.specs.Answers.{many_vertices, many_faces, unfit_there, list_short, all_written}
use Rattle.off.proofs.write_form.Goals.{then-n-gt-MAX_VERTEX-via-then-n-gt-MAX_VERTEX, then-n-gt-MAX_VERTEX-via-else-n-gt-MAX_VERTEX+then-m-gt-MAX_ELEMENT}
use Rattle.off.proofs.write_form.Goals as goal

pub returns-then-n-gt-MAX_VERTEX : goal.returns-then-n-gt-MAX_VERTEX
returns-then-n-gt-MAX_VERTEX c =
    let k = c.requires in
    elim c.then-n-gt-MAX_VERTEX.branch [
      | then-n-gt-MAX_VERTEX-via-then-n-gt-MAX_VERTEX w ↦
          many_vertices _ _ k.form k.n w.if-n-gt-MAX_VERTEX.true c.refuse.ensures
      | then-n-gt-MAX_VERTEX-via-else-n-gt-MAX_VERTEX+then-m-gt-MAX_ELEMENT w ↦
          many_faces _ _ k.form k.n k.m w.if-n-gt-MAX_VERTEX.false w.if-m-gt-MAX_ELEMENT.true c.refuse.ensures
    ]

pub returns-in-Some : goal.returns-in-Some
returns-in-Some c =
    let k = c.requires in
    let u = rw c.in-Some.is at k.unfit in
    unfit_there _ _ k.form k.n k.m c.if-n-gt-MAX_VERTEX.false c.if-m-gt-MAX_ELEMENT.false u.1 (λ z. omega (arith, u.0, z)) c.refuse_at.ensures

pub returns-then-list-wide : goal.returns-then-list-wide
returns-then-list-wide c =
    let k = c.requires in
    let u = rw c.in_default.is at k.unfit in
    list_short _ _ k.form k.n k.m c.if-n-gt-MAX_VERTEX.false c.if-m-gt-MAX_ELEMENT.false (sym u) refl refl
    (omega (arith, c.wide.ensures, c.if-list-wide.true)) c.refuse_at-then-list-wide.ensures

pub put_rows-requires : goal.put_rows-requires
put_rows-requires c =
    let k = c.requires in
    let u = rw c.in_default.is at k.unfit in (
      sound_form _ k.form u,
      c.wide-2.ensures ∙ k.m,
      omega (arith, c.wide-2.ensures, c.wide.ensures),
      at_first k.inside k.left,
    )

pub returns : goal.returns
returns c =
    let k = c.requires in
    let u = rw c.in_default.is at k.unfit in
    all_written _ _ k.form k.n k.m c.if-n-gt-MAX_VERTEX.false c.if-m-gt-MAX_ELEMENT.false (sym u) refl
    (ap (λ (i : ℕ). 4 * i) c.wide-2.ensures)
    (omega (arith, c.wide-2.ensures, c.wide.ensures)) c.put_rows.ensures c.give_two.ensures
