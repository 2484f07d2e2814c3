-- The points of document 02, points 6 and 8, with one put in: what stands at its place, and that all others stay.
-- Assumes nothing.
use Rattle.std.specs.Prelude.{◌≡◌, ℕ, ◌+◌, ◌*◌, ◌-◌, ◌≤◌, ◌<◌, Float}
use Rattle.std.proofs.Math.Path.{ap, sym}
use Rattle.std.proofs.Common.{◌∙◌, length-append, length-drop, length-take-le}
use mathlib.Core.List.{List, ◌++◌}
use native.Mathlib.Omega.{arith}
use Rattle.std.specs.Float.Ieee.{nan}
use Rattle.std.proofs.Math.ListN.{length, take, drop, get_or, get_or-append}
use Rattle.std.proofs.Math.Seq.{take-append_seam, drop-append-add, get_or-append-add, get_or-take, get_or-drop}
use Rattle.edit_rules.specs.Split.{coordinate, with_point}

-- the points with p for that of the vertex after n
module _ (n : ℕ) (p P : List Float) (three : length p ≡ 3) (room : 3 * n + 3 ≤ length P) where
  abbrev front : List Float
  front = take (3 * n) P

  long : length front ≡ 3 * n
  long = length-take-le (3 * n) P (omega arith)

  -- those before it, those after it, and as many
  pub with_front : take (3 * n) (with_point n p P) ≡ front
  unfolding with_point
  with_front = ap (λ (k : ℕ). take k (with_point n p P)) (sym long) ∙ take-append_seam front (p ++ drop (3 * n + 3) P)

  pub with_rest : drop (3 * n + 3) (with_point n p P) ≡ drop (3 * n + 3) P
  unfolding with_point
  with_rest =
      let last = p ++ drop (3 * n + 3) P in
      let e : 3 * n + 3 ≡ length front + 3 = omega (arith, long) in
      let f : 3 ≡ length p + 0 = omega arith in
      ap (λ (k : ℕ). drop k (front ++ last)) e
      ∙ drop-append-add front last 3
      ∙ ap (λ (k : ℕ). drop k last) f
      ∙ drop-append-add p (drop (3 * n + 3) P) 0

  pub with_length : length (with_point n p P) ≡ length P
  unfolding with_point
  with_length = simp (length-append, length-drop) (omega (arith, long))

  pub with_old : (v i : ℕ) → 1 ≤ v → v ≤ n → i < 3 → coordinate (with_point n p P) v i ≡ coordinate P v i
  unfolding with_point coordinate
  with_old v i from to h =
      let j = 3 * (v - 1) + i in
      get_or-append front (p ++ drop (3 * n + 3) P) nan j (omega (arith, long)) ∙ get_or-take (3 * n) P j nan (omega arith)

  pub with_new : (i : ℕ) → i < 3 → coordinate (with_point n p P) (n + 1) i ≡ get_or p i nan
  unfolding with_point coordinate
  with_new i h =
      let last = p ++ drop (3 * n + 3) P in
      let e : 3 * (n + 1 - 1) + i ≡ length front + i = omega (arith, long) in
      ap (λ (k : ℕ). get_or (front ++ last) k nan) e
      ∙ get_or-append-add front last i nan
      ∙ get_or-append p (drop (3 * n + 3) P) nan i (omega arith)

  pub with_later : (v i : ℕ) → n + 1 < v → coordinate (with_point n p P) v i ≡ coordinate P v i
  unfolding coordinate
  with_later v i h =
      let j = 3 * (v - (n + 2)) + i in
      let e : 3 * (v - 1) + i ≡ 3 * n + 3 + j = omega arith in
      ap (λ (k : ℕ). get_or (with_point n p P) k nan) e
      ∙ sym (get_or-drop (3 * n + 3) (with_point n p P) j nan)
      ∙ ap (λ (Q : List Float). get_or Q j nan) with_rest
      ∙ get_or-drop (3 * n + 3) P j nan
      ∙ ap (λ (k : ℕ). get_or P k nan) (sym e)
