-- `shape::shape_fit` meets its contract.
-- Assumes nothing.
use mathlib.Core.Path.{refl}
use native.Mathlib.Omega.{arith}
use Rattle.std.proofs.lemmas.Result.{err_from_is_err_and}
use Rattle.shape.specs.Shapes.{refuses, small, gives_number}
use Rattle.shape.proofs.shape_fit.Goals as goal

pub returns-in_err-edges-clause-result_value : goal.returns-in_err-edges-clause-result_value
returns-in_err-edges-clause-result_value c =
    let p = err_from_is_err_and c.from_residual.result c.from_residual.ensures.1 in
    rw (p.1, p.2) (refuses c.requires c.in_err-edges.ensures.stated refl)

pub overflow_cast-m : goal.overflow_cast-m
overflow_cast-m c = let h = small c.requires c.in_ok-edges.ensures.stated refl in omega arith

pub overflow_add-n : goal.overflow_add-n
overflow_add-n c = let h = small c.requires c.in_ok-edges.ensures.stated refl in omega arith

pub give_signed-requires : goal.give_signed-requires
give_signed-requires c = let h = small c.requires c.in_ok-edges.ensures.stated refl in (omega arith, h.1)

pub returns-clause-result_value : goal.returns-clause-result_value
returns-clause-result_value c = gives_number c.requires c.in_ok-edges.ensures.stated refl c.give_signed.ensures
