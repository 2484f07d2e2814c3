-- A split keeps the number of a shape.
-- Assumes nothing.
use Rattle.std.specs.Prelude.{◌≡◌, List, ℕ, ◌+◌, Float}
use Rattle.std.proofs.Math.Path.{refl}
use Rattle.std.proofs.Common.{inl, inr}
use Rattle.lists.specs.TestLaws.{decide, means_eq}
use Rattle.rules.specs.Tables.{partner}
use Rattle.rules.specs.Refusals.{Answer, gives}
use Rattle.edit_rules.specs.Edits.{Lent, held}
use Rattle.edit_rules.specs.Split.{split_at}
use Rattle.edit_rules.specs.Shape.{shape}
use Rattle.theory.specs.Orders.{good}
use Rattle.theory.specs.SplitCounts.{grown_inner, grown_border}
use Rattle.theory.specs.Shaping.{grown_shape}
use Rattle.runs.specs.Runs.{SplitRun}
use Rattle.runs.proofs.Splits as splits

-- a split makes a vertex more, with two elements and three edges, or with one element and two edges
pub split_same : (w : Lent) (P : List Float) (s : ℕ) (a : Answer) (w' : Lent) (P' : List Float) → SplitRun w P s a w' P' → {k e : ℕ} → a ≡ gives k e
    → shape (w.n + 1) (split_at (held w) s (w.n + 1)) ≡ shape w.n (held w)
split_same w P s a w' P' run gave =
    let y = (splits.answered w P s a w' P' run).0 gave in
    let g = good w.n (held w) y.old in
    let h = y.holds in
    let new = splits.accepted w P s a w' P' run gave in
    elim (decide (means_eq (partner (held w) s) 0)) [
      | inl z ↦
          grown_shape w.n (held w) (w.n + 1) _ y.old new refl
          (grown_border w.n (held w) g y.old.meeting s y.splittable h.vertices h.size z) refl
      | inr z ↦
          grown_shape w.n (held w) (w.n + 1) _ y.old new refl
          (grown_inner w.n (held w) g y.old.meeting s y.splittable h.vertices h.size z) refl
    ]
