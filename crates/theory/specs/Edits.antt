-- An edit's answer has passed the trials of the old list and of the new one; and what it puts over the old entries.
-- Assumes nothing.
use Rattle.std.specs.Prelude.{◌≡◌, refl, ℕ, ◌+◌, ◌-◌, ◌≤◌}
use Rattle.std.proofs.Math.Path.{ap}
use Rattle.std.proofs.Common.{sym, ◌∙◌, length-drop}
use mathlib.Core.List.{List, ◌++◌, append_assoc, append-nil}
use native.Mathlib.Omega.{arith}
use Rattle.std.proofs.Math.ListN.{length, take, drop, replicate, length-append, length-replicate}
use Rattle.std.proofs.Math.Seq.{take-append_seam, drop-drop, drop-append-add}
use Rattle.rules.specs.Refusals.{Answer, gives, refused, list_answer, onto}
use Rattle.edit_rules.specs.Edits.{Edited, becomes, refuses, over_old, once_accepted, new_answer}
use Rattle.theory.specs.Answers.{past_room}

pub past_old : (old new : Answer) {k e : ℕ} → once_accepted old new ≡ gives k e → (i : ℕ) × (j : ℕ) × (old ≡ gives i j) × (new ≡ gives k e)
unfolding once_accepted
past_old (gives i j) new g = (i, j, refl, g)
past_old (refused r a b) new g = let z : ◌≡◌ {A = ℕ} 0 1 = cc in absurd (omega arith)

pub past_new : (room : ℕ) (x : Edited) {k e : ℕ} → new_answer room x ≡ gives k e
    → (n : ℕ) × (L : List ℕ) × (x ≡ becomes n L) × (list_answer n L ≡ gives k e) × (k ≤ room)
unfolding new_answer
past_new room (becomes n L) {k} {e} g = let (f, h) = past_room room k e (list_answer n L) g in (n, L, refl, f, h)
past_new room (refuses r) g = let z : ◌≡◌ {A = ℕ} 0 1 = cc in absurd (omega arith)

-- what is put at a buffer's start stands there, and the buffer is as long as it was
module _ (xs buffer : List ℕ) where
  pub onto_front : {k : ℕ} → length xs ≡ k → take k (onto xs buffer) ≡ xs
  unfolding onto
  onto_front e = ap (λ (j : ℕ). take j (onto xs buffer)) (sym e) ∙ take-append_seam xs (drop (length xs) buffer)

  pub onto_length : length xs ≤ length buffer → length (onto xs buffer) ≡ length buffer
  unfolding onto
  onto_length h = simp (length-append, length-drop) (omega arith)

  pub past_onto : (p : ℕ) → length xs ≤ p → drop p (onto xs buffer) ≡ drop p buffer
  unfolding onto
  past_onto p h =
      let e : length xs + (p - length xs) ≡ p = omega arith in
      ap (λ (i : ℕ). drop i (onto xs buffer)) (sym e)
      ∙ drop-append-add xs (drop (length xs) buffer) (p - length xs)
      ∙ drop-drop (p - length xs) (length xs) buffer
      ∙ ap (λ (i : ℕ). drop i buffer) e

-- the same over `old` entries, with 0 up to their end
module _ (old : ℕ) (xs buffer : List ℕ) where
  abbrev zeros : List ℕ
  zeros = replicate (old - length xs) 0

  pub over_front : {k : ℕ} → length xs ≡ k → take k (over_old old xs buffer) ≡ xs
  unfolding over_old onto
  over_front e =
      let rest = drop (length (xs ++ zeros)) buffer in
      ap (λ (j : ℕ). take j ((xs ++ zeros) ++ rest)) (sym e)
      ∙ ap (take (length xs)) (append_assoc xs zeros rest)
      ∙ take-append_seam xs (zeros ++ rest)

  pub over_length : old ≤ length buffer → length xs ≤ length buffer → length (over_old old xs buffer) ≡ length buffer
  unfolding over_old
  over_length h i =
      onto_length (xs ++ zeros) buffer (omega (arith, length-append xs zeros, length-replicate {A = ℕ} (old - length xs) 0))

  -- where they are as many as the old ones, or more, no 0 comes after them
  pub over_longer : old ≤ length xs → over_old old xs buffer ≡ onto xs buffer
  unfolding over_old
  over_longer h =
      let z : old - length xs ≡ 0 = omega arith in
      ap (λ (k : ℕ). onto (xs ++ replicate k 0) buffer) z ∙ ap (λ (ys : List ℕ). onto ys buffer) (append-nil xs)

  -- where they stand there already, 0 comes after them
  pub over_again : over_old old xs (onto xs buffer) ≡ over_old old xs buffer
  unfolding over_old onto
  over_again =
      ap (λ (r : List ℕ). (xs ++ zeros) ++ r) (past_onto xs buffer (length (xs ++ zeros)) (omega (arith, length-append xs zeros)))

  -- what stands past both stays
  pub past_over : (p : ℕ) → old ≤ p → length xs ≤ p → drop p (over_old old xs buffer) ≡ drop p buffer
  unfolding over_old
  past_over p h i =
      past_onto (xs ++ zeros) buffer p (omega (arith, length-append xs zeros, length-replicate {A = ℕ} (old - length xs) 0))
