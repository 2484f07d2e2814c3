-- The old list, kept in the last words of the work buffer while the new one is tried, and put back.
-- Assumes nothing.
use Rattle.std.specs.Prelude.{◌≡◌, ℕ, ◌+◌, ◌-◌, ◌≤◌}
use Rattle.std.proofs.Math.Path.{ap}
use Rattle.std.proofs.Common.{sym, ◌∙◌, length-append, length-take-le}
use mathlib.Core.List.{List, ◌++◌}
use native.Mathlib.Omega.{arith}
use Rattle.std.proofs.Math.ListN.{length, take, drop, length-take, length-drop}
use Rattle.std.proofs.Math.Seq.{take_at, drop_at}
use Rattle.lists.specs.Parts.{part, length_part, put_drop, put_length}
use Rattle.rules.specs.Refusals.{onto}
use Rattle.buffers.specs.Whole.{onto_full}

-- there is room for the list from `end` on
pub room_to_keep : (end : ℕ) (L work : List ℕ) → end + length L ≤ length work → length L ≤ length (part end (length work - end) work)
room_to_keep end L work inside = omega (arith, length_part end (length work - end) work (omega arith))

-- the old list is kept in the work buffer from `end` on, while what stands before it becomes f
module _ (end : ℕ) (L work : List ℕ) (inside : end + length L ≤ length work) {ys : List ℕ}
    (saved : ys ≡ onto L (part end (length work - end) work)) where
  -- the work buffer with the list in it
  abbrev pub keeping : List ℕ
  keeping = take end work ++ (ys ++ drop (length work - end) (drop end work))

  many : length ys ≡ length work - end
  unfolding onto
  many = ap length saved ∙ simp (length-append, length-drop, length-take, length-drop) (omega arith)

  pub keeping_long : length keeping ≡ length work
  keeping_long = put_length end work ys (omega arith) many

  pub before_long : length (take (end - 0) keeping) ≡ end
  before_long = omega (arith, length-take-le (end - 0) keeping (omega (arith, keeping_long)))

  module _ (f : List ℕ) (front : length f ≡ end) where
    abbrev after_it : List ℕ
    after_it = f ++ drop (end - 0) keeping

    pub still_long : length after_it ≡ length work
    still_long = omega (arith, length-append f (drop (end - 0) keeping), length-drop (end - 0) keeping, keeping_long)

    -- and is put back over L₁
    pub put_back : {k : ℕ} → k ≡ length L → (L₁ : List ℕ) {L₂ : List ℕ} → length L₁ ≡ length L → L₂ ≡ onto (take k (drop end after_it)) L₁ → L₂ ≡ L
    unfolding onto
    put_back {k} e L₁ same is =
        let start : end - 0 ≡ end = omega arith in
        let kept : drop end after_it ≡ ys =
        drop_at f (drop (end - 0) keeping) end front ∙ ap (λ (i : ℕ). drop i keeping) start ∙ put_drop end work ys (omega arith) in
        let read : take k (drop end after_it) ≡ L =
        ap (take k) (kept ∙ saved) ∙ take_at L (drop (length L) (part end (length work - end) work)) k (sym e) in
        is ∙ ap (λ (X : List ℕ). onto X L₁) read ∙ onto_full L L₁ (sym same)
