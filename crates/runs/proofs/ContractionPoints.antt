-- Document 02, point 8, the points after a run of contract: "the last vertex takes number b with its point. The point of a stays"; "Entries between
-- the new and the old length become 0".
-- Assumes nothing.
use Rattle.std.specs.Prelude.{◌≡◌, List, [], ◌∷◌, ℕ, zero, suc, ◌+◌, ◌*◌, ◌-◌, ◌≤◌, ◌<◌, T, Float, length, take, get_or}
use Rattle.std.proofs.Math.Path.{refl, ap, sym}
use Rattle.std.proofs.Common.{◌∙◌, inl, inr}
use native.Mathlib.Omega.{arith}
use Rattle.std.specs.Float.{nan}
use Rattle.std.proofs.Math.ListN.{drop}
use Rattle.std.proofs.Math.Seq.{take-take, drop-drop}
use Rattle.lists.specs.TestLaws.{passes, decide, means_eq, means_le}
use Rattle.lists.specs.SearchLaws.{le_or_lt}
use Rattle.rules.specs.Elements.{origin, destination}
use Rattle.rules.specs.Refusals.{Answer, gives, after}
use Rattle.edit_rules.specs.Edits.{Lent, held, has_room, edit_sizes, edit_lengths}
use Rattle.edit_rules.specs.Split.{has_points, coordinate, with_point}
use Rattle.edit_rules.specs.Contract.{instead, point_of, float_zero, without_point, contract_points}
use Rattle.theory.specs.FitRows.{Fit, ends_differ}
use Rattle.theory.specs.Steps.{next_side_lem}
use Rattle.theory.specs.Orders.{good}
use Rattle.theory.specs.Renaming.{instead_old, instead_other}
use Rattle.runs.specs.Runs.{ContractRun}
use Rattle.runs.proofs.Points.{with_front, with_rest, with_length, with_old, with_new, with_later}
use Rattle.runs.proofs.Contractions.{Answered, answered, vertices_fall}
use Rattle.runs.proofs.Contractions.{fit_still as contracts-fit}

-- number i of a vertex's point, and of the point of zeros
of_point : (P : List Float) (v i : ℕ) → i < 3 → get_or (point_of P v) i nan ≡ coordinate P v i
unfolding point_of
of_point P v zero h = refl
of_point P v (suc zero) h = refl
of_point P v (suc (suc zero)) h = refl
of_point P v (suc (suc (suc i))) h = absurd (omega arith)

abbrev zeros : List Float
zeros = float_zero ∷ float_zero ∷ float_zero ∷ []

of_zeros : (i : ℕ) → i < 3 → get_or zeros i nan ≡ float_zero
of_zeros zero h = refl
of_zeros (suc zero) h = refl
of_zeros (suc (suc zero)) h = refl
of_zeros (suc (suc (suc i))) h = absurd (omega arith)

-- the points of n vertices once vertex b has gone
module _ (n b : ℕ) (P : List Float) (from : 1 ≤ b) (to : b ≤ n) (room : 3 * n ≤ length P) where
  three_moved : length (point_of P n) ≡ 3
  unfolding point_of
  three_moved = refl

  -- once the last point stands at b
  abbrev Q : List Float
  Q = with_point (b - 1) (point_of P n) P

  long : length Q ≡ length P
  long = with_length (b - 1) (point_of P n) P three_moved (omega arith)

  -- that of the last vertex, and every other one
  moved_there : (i : ℕ) → i < 3 → coordinate Q b i ≡ coordinate P n i
  moved_there i h =
      let e : b ≡ b - 1 + 1 = omega arith in
      ap (λ (v : ℕ). coordinate Q v i) e ∙ with_new (b - 1) (point_of P n) P three_moved (omega arith) i h ∙ of_point P n i h

  others_stay : (v i : ℕ) → 1 ≤ v → (v ≡ b → ⊥) → i < 3 → coordinate Q v i ≡ coordinate P v i
  others_stay v i l d h = elim (le_or_lt v (b - 1)) [
    | inl j ↦ with_old (b - 1) (point_of P n) P three_moved (omega arith) v i l j h
    | inr j ↦ with_later (b - 1) (point_of P n) P three_moved (omega arith) v i (omega arith)
  ]

  without_before : (v i : ℕ) → 1 ≤ v → v < n → i < 3 → coordinate (without_point n b P) v i ≡ coordinate Q v i
  unfolding without_point
  without_before v i l h j = with_old (n - 1) zeros Q refl (omega (arith, long)) v i l (omega arith) j

  -- "the last vertex takes number b with its point"; every vertex but b keeps its point, under the number that it has then
  pub without_kept : (v i : ℕ) → 1 ≤ v → v ≤ n → (v ≡ b → ⊥) → i < 3 → coordinate (without_point n b P) (instead n b v) i ≡ coordinate P v i
  without_kept v i l h d j = elim (decide (means_eq v n)) [
    | inl e ↦
        ap (λ (u : ℕ). coordinate (without_point n b P) u i) (ap (instead n b) e ∙ instead_old n b)
        ∙ without_before b i from (omega (arith, e, d)) j
        ∙ moved_there i j
        ∙ ap (λ (u : ℕ). coordinate P u i) (sym e)
    | inr f ↦
        ap (λ (u : ℕ). coordinate (without_point n b P) u i) (instead_other n b v f)
        ∙ without_before v i l (omega (arith, f)) j
        ∙ others_stay v i l d j
  ]

  -- all numbers before those of b stay, and those past the last vertex
  pub without_front : take (3 * (b - 1)) (without_point n b P) ≡ take (3 * (b - 1)) P
  unfolding without_point
  without_front =
      sym (take-take (3 * (b - 1)) (3 * (n - 1)) (without_point n b P) (omega arith))
      ∙ ap (take (3 * (b - 1))) (with_front (n - 1) zeros Q refl (omega (arith, long)))
      ∙ take-take (3 * (b - 1)) (3 * (n - 1)) Q (omega arith)
      ∙ with_front (b - 1) (point_of P n) P three_moved (omega arith)

  pub without_rest : drop (3 * n) (without_point n b P) ≡ drop (3 * n) P
  unfolding without_point
  without_rest =
      let e : 3 * n ≡ 3 * (n - 1) + 3 = omega arith in
      let f : 3 * n ≡ 3 * (b - 1) + 3 + 3 * (n - b) = omega arith in
      ap (λ (k : ℕ). drop k (without_point n b P)) e
      ∙ with_rest (n - 1) zeros Q refl (omega (arith, long))
      ∙ ap (λ (k : ℕ). drop k Q) (sym e ∙ f)
      ∙ sym (drop-drop (3 * (n - b)) (3 * (b - 1) + 3) Q)
      ∙ ap (drop (3 * (n - b))) (with_rest (b - 1) (point_of P n) P three_moved (omega arith))
      ∙ drop-drop (3 * (n - b)) (3 * (b - 1) + 3) P
      ∙ ap (λ (k : ℕ). drop k P) (sym f)

  -- 0 behind
  pub without_last : (i : ℕ) → i < 3 → coordinate (without_point n b P) n i ≡ float_zero
  unfolding without_point
  without_last i h =
      let e : n ≡ n - 1 + 1 = omega arith in
      ap (λ (v : ℕ). coordinate (without_point n b P) v i) e ∙ with_new (n - 1) zeros Q refl (omega (arith, long)) i h ∙ of_zeros i h

  pub without_length : length (without_point n b P) ≡ length P
  unfolding without_point
  without_length = with_length (n - 1) zeros Q refl (omega (arith, long)) ∙ long

module _ (w : Lent) (P : List Float) (s : ℕ) (a : Answer) (w' : Lent) (P' : List Float) (run : ContractRun w P s a w' P')
    {k e : ℕ} (gave : a ≡ gives k e) where
  abbrev n : ℕ
  n = w.n

  -- the ends of the side: b goes, a stays
  abbrev kept : ℕ
  kept = origin (held w) s

  abbrev b : ℕ
  b = destination (held w) s

  y : Answered w P s a w' P' run k e
  y = (answered w P s a w' P' run).0 gave

  fit : Fit n (held w)
  fit = (good n (held w) y.old).fit

  ends : (1 ≤ b) × (b ≤ n) × (1 ≤ kept) × (kept ≤ n)
  ends =
      let q = next_side_lem (held w) s y.splittable.side in
      (fit.from _ q, fit.to _ q, fit.from s y.splittable.side, fit.to s y.splittable.side)

  room : 3 * n ≤ length P
  unfolding edit_lengths has_points
  room = (means_le (3 * n) (length P)).says (passes (has_points n P) (has_room w n w.m) y.lengths).0

  is : P' ≡ without_point n b P
  unfolding contract_points after
  is = run.points ∙ ap (λ (z : Answer). after z (without_point n b P) P) (sym run.edit.answer ∙ gave)

  -- every vertex but b keeps its point, under the number that it has then: "the last vertex takes number b with its point"
  module _ (i : ℕ) (h : i < 3) where
    pub point_kept : (v : ℕ) → 1 ≤ v → v ≤ n → (v ≡ b → ⊥) → coordinate P' (instead n b v) i ≡ coordinate P v i
    point_kept v l m d =
        ap (λ (Q : List Float). coordinate Q (instead n b v) i) is ∙ without_kept n b P ends.0 ends.1 room v i l m d h

    -- "The point of a stays"
    pub point_stays : coordinate P' (instead n b kept) i ≡ coordinate P kept i
    point_stays = point_kept kept ends.2 ends.3 (ends_differ n (held w) fit s y.splittable.side)

    -- the last vertex's goes to b
    pub last_moves : (b ≡ n → ⊥) → coordinate P' b i ≡ coordinate P n i
    last_moves d =
        ap (λ (v : ℕ). coordinate P' v i) (sym (instead_old n b)) ∙ point_kept n (omega (arith, ends)) (omega arith) (λ e. d (sym e))

    -- "Entries between the new and the old length become 0"
    pub zero_behind : coordinate P' n i ≡ float_zero
    zero_behind = ap (λ (Q : List Float). coordinate Q n i) is ∙ without_last n b P ends.0 ends.1 room i h

  -- all numbers before those of b stay, and those past the last vertex
  pub points_before : take (3 * (b - 1)) P' ≡ take (3 * (b - 1)) P
  points_before = ap (take (3 * (b - 1))) is ∙ without_front n b P ends.0 ends.1 room

  pub points_after : drop (3 * n) P' ≡ drop (3 * n) P
  points_after = ap (drop (3 * n)) is ∙ without_rest n b P ends.0 ends.1 room

  pub points_length : length P' ≡ length P
  points_length = ap length is ∙ without_length n b P ends.0 ends.1 room

  -- checks 1 and 2 of the next edit find nothing
  pub points_enough : T (has_points w'.n P')
  unfolding has_points
  points_enough =
      (means_le (3 * w'.n) (length P')).shows (omega (arith, room, points_length, vertices_fall w P s a w' P' run gave))

  pub fit_still : T (edit_sizes w') × T (edit_lengths w' (has_points w'.n P')) × (length w'.border ≡ length w.border)
  fit_still = contracts-fit w P s a w' P' run gave (has_points w'.n P') points_enough
