-- `points::midway` meets its contract.
-- Assumes nothing.
use mathlib.Core.Path.{refl}
use lib.Ieee
use Rattle.edit_rules.specs.Split.{midway}
use Rattle.points.proofs.midway.Goals as goal

pub returns : goal.returns
unfolding Ieee.of_bits midway
returns c = refl
