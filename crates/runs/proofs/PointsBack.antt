-- Document 02, points 6 and 8: a split, and then the contraction of the same code over the points that the split left. The old points are back.
-- Assumes nothing.
use Rattle.std.specs.Prelude.{◌≡◌, List, ℕ, ◌*◌, Float, take}
use Rattle.std.proofs.Common.{◌∙◌}
use Rattle.rules.specs.Refusals.{Answer, gives}
use Rattle.edit_rules.specs.Edits.{Lent}
use Rattle.runs.specs.Runs.{SplitRun, ContractRun}
use Rattle.runs.proofs.SplitPoints as split-points
use Rattle.runs.proofs.SplitThenContract.{points_back}

module _ (w : Lent) (P : List Float) (s : ℕ) (a : Answer) (w' : Lent) (P' : List Float) (run : SplitRun w P s a w' P')
    {k e : ℕ} (gave : a ≡ gives k e) where
  abbrev n : ℕ
  n = w.n

  -- over the points that the split left: the old ones
  pub old_points_back : (b : Answer) (w'' : Lent) (P'' : List Float) → ContractRun w' P' s b w'' P'' → take (3 * n) P'' ≡ take (3 * n) P
  old_points_back b w'' P'' again =
      points_back w P s a w' P' run gave P' (split-points.points_enough w P s a w' P' run gave) b w'' P'' again
      ∙ split-points.points_before w P s a w' P' run gave
