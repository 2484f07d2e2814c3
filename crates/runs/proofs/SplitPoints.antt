-- Document 02, point 6, the points after a run of split: "The new point is, for each number, the sum of the two ends times 0.5. Where both are
-- whole numbers from −2^52 to 2^52 the result is exactly half their sum"; "old points stay".
-- Assumes nothing.
use Rattle.std.specs.Prelude.{◌≡◌, List, ℕ, zero, suc, ◌+◌, ◌*◌, ◌^◌, ◌≤◌, ◌<◌, T, Float, ℤ, nat_abs, ◌+ℤ◌, length, take, drop, get_or}
use Rattle.std.proofs.Math.Path.{refl, ap}
use Rattle.std.proofs.Common.{sym, subst, ◌∙◌, arith}
use Rattle.std.specs.Float.{nan}
use Rattle.lists.specs.TestLaws.{means_le}
use Rattle.rules.specs.Elements.{origin, destination}
use Rattle.rules.specs.Refusals.{Answer, gives, after}
use Rattle.edit_rules.specs.Edits.{Lent, held, edit_sizes, edit_lengths}
use Rattle.edit_rules.specs.Split.{has_points, midway, coordinate, midpoint, with_point, placed, split_points}
use Rattle.points.specs.Exact.{Equals, midway_exact}
use Rattle.runs.specs.Runs.{SplitRun}
use Rattle.runs.proofs.Points.{with_front, with_rest, with_length, with_old, with_new}
use Rattle.runs.proofs.Splits.{answered, one_more}
use Rattle.runs.proofs.Splits.{fit_still as splits-fit}

-- number i of a midpoint
midpoint_number : (P : List Float) (a b i : ℕ) → i < 3 → get_or (midpoint P a b) i nan ≡ midway (coordinate P a i) (coordinate P b i)
unfolding midpoint
midpoint_number P a b zero h = refl
midpoint_number P a b (suc zero) h = refl
midpoint_number P a b (suc (suc zero)) h = refl
midpoint_number P a b (suc (suc (suc i))) h = absurd (omega arith)

module _ (w : Lent) (P : List Float) (s : ℕ) (a : Answer) (w' : Lent) (P' : List Float) (run : SplitRun w P s a w' P')
    {k e : ℕ} (gave : a ≡ gives k e) where
  abbrev n : ℕ
  n = w.n

  -- the two ends of the side
  abbrev from : ℕ
  from = origin (held w) s

  abbrev to : ℕ
  to = destination (held w) s

  three_new : length (midpoint P from to) ≡ 3
  unfolding midpoint
  three_new = refl

  is : P' ≡ with_point n (midpoint P from to) P
  unfolding split_points after
  is = run.points ∙ ap (λ (y : Answer). after y (placed w P s) P) (sym run.edit.answer ∙ gave)

  room : 3 * n + 3 ≤ length P
  room = omega (arith, ((answered w P s a w' P' run).0 gave).holds.points)

  -- "old points stay", all numbers before the new ones, and those after them
  pub points_before : take (3 * n) P' ≡ take (3 * n) P
  points_before = ap (take (3 * n)) is ∙ with_front n (midpoint P from to) P three_new room

  pub points_after : drop (3 * n + 3) P' ≡ drop (3 * n + 3) P
  points_after = ap (drop (3 * n + 3)) is ∙ with_rest n (midpoint P from to) P three_new room

  pub points_length : length P' ≡ length P
  points_length = ap length is ∙ with_length n (midpoint P from to) P three_new room

  pub old_point : (v i : ℕ) → 1 ≤ v → v ≤ n → i < 3 → coordinate P' v i ≡ coordinate P v i
  old_point v i l h j = ap (λ (Q : List Float). coordinate Q v i) is ∙ with_old n (midpoint P from to) P three_new room v i l h j

  -- number i of the new point; and where the numbers of the ends are whole
  module _ (i : ℕ) (h : i < 3) where
    pub new_point : coordinate P' (n + 1) i ≡ midway (coordinate P from i) (coordinate P to i)
    new_point =
        ap (λ (Q : List Float). coordinate Q (n + 1) i) is
        ∙ with_new n (midpoint P from to) P three_new room i h
        ∙ midpoint_number P from to i h

    pub exactly_half : (x y : ℤ) → Equals (coordinate P from i) x 1 → Equals (coordinate P to i) y 1 → nat_abs x ≤ 2 ^ 52 → nat_abs y ≤ 2 ^ 52
        → Equals (coordinate P' (n + 1) i) (x +ℤ y) 2
    exactly_half x y u v p q =
        subst (λ (z : Float). Equals z (x +ℤ y) 2) (sym new_point) (midway_exact (coordinate P from i) (coordinate P to i) x y u v p q)

  -- they serve the vertices that there are now: checks 1 and 2 of the next split find nothing
  pub points_enough : T (has_points w'.n P')
  unfolding has_points
  points_enough = (means_le (3 * w'.n) (length P')).shows (omega (arith, room, points_length, grows))
    where
      grows : w'.n ≡ n + 1
      grows = one_more w P s a w' P' run gave

  pub fit_still : T (edit_sizes w') × T (edit_lengths w' (has_points w'.n P')) × (length w'.border ≡ length w.border)
  fit_still = splits-fit w P s a w' P' run gave (has_points w'.n P') points_enough
