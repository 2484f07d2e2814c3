-- `off::unfit_after` meets its contract.
-- Assumes nothing.
use Rattle.std.specs.Prelude.{◌≡◌, refl, Bool, not, Option, Some, None, ℕ}
use Rattle.std.proofs.Common.{ap, ◌∙◌}
use Rattle.std.specs.Option.{option_or}
use Rattle.std.specs.Bool.{then_some}
use Rattle.lists.specs.Tests.{within}
use Rattle.lists.specs.TestLaws.{Test, pass, fail, test}
use Rattle.off.specs.Faces.{unfit_after}
use Rattle.off.proofs.unfit_after.Goals as goal

by_cases : (unfit : Option ℕ) (f corners : ℕ) → option_or unfit (then_some (not (within 3 4 corners)) f) ≡ unfit_after unfit f corners
unfolding unfit_after
by_cases (Some g) f corners = refl
by_cases None f corners = go (test (within 3 4 corners))
  where
    go : Test (within 3 4 corners) → option_or None (then_some (not (within 3 4 corners)) f) ≡ unfit_after None f corners
    go (pass u e) = rw (e, unfit_after) refl
    go (fail u e) = rw (e, unfit_after) refl

pub returns : goal.returns
returns c =
    c.or.ensures ∙ ap (option_or c.args.unfit) (c.then_some.ensures ∙ ap (λ (b : Bool). then_some b c.args.f) c.is_unfit.ensures)
    ∙ by_cases c.args.unfit c.args.f c.args.corners
