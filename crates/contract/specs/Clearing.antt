-- What stands between a new length and an old one becomes 0.
-- Assumes nothing.
use Rattle.std.specs.Prelude.{◌≡◌, List, ◌++◌, ℕ, ◌+◌, ◌-◌, ◌≤◌, length, take, drop, replicate}
use Rattle.std.proofs.Common.{ap, sym, ◌∙◌, append_assoc, arith, length-take, length-drop, length-append, length-take-le, drop-drop}
use Rattle.std.proofs.lemmas.List.{length-replicate}
use Rattle.rules.specs.Refusals.{onto}
use Rattle.edit_rules.specs.Edits.{over_old}

-- the part from `new` to `old` was cleared
pub cleared_between : (new old : ℕ) (X : List ℕ) {ys : List ℕ} → new ≤ old → old ≤ length X
    → ys ≡ replicate (length (take (old - new) (drop new X))) 0
    → take new X ++ (ys ++ drop (old - new) (drop new X)) ≡ over_old old (take new X) X
unfolding over_old onto
cleared_between new old X {ys} h i e =
    let front = take new X in
    let long : length front ≡ new = length-take-le new X (omega arith) in
    let count : length (take (old - new) (drop new X)) ≡ old - length front = simp (length-take, length-drop) (omega (arith, long)) in
    let zeros : ys ≡ replicate (old - length front) 0 = e ∙ ap (λ (k : ℕ). replicate k 0) count in
    let end : new + (old - new) ≡ length (front ++ replicate (old - length front) 0) =
    simp (length-append, length-replicate) (omega (arith, long)) in
    ap (λ (X' : List ℕ). front ++ (X' ++ drop (old - new) (drop new X))) zeros
    ∙ ap (λ (r : List ℕ). front ++ (replicate (old - length front) 0 ++ r)) (drop-drop (old - new) new X ∙ ap (λ (k : ℕ). drop k X) end)
    ∙ sym (append_assoc front (replicate (old - length front) 0) (drop (length (front ++ replicate (old - length front) 0)) X))
