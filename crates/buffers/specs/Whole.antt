-- A buffer that is written whole, and four entries of it.
-- Assumes nothing.
use Rattle.std.specs.Prelude.{◌≡◌, List, [], ◌∷◌, ◌++◌, ℕ, suc, ◌+◌, length, get_or, set}
use Rattle.std.proofs.Common.{ap, ◌∙◌, append-nil, arith, drop_of_length-le}
use Rattle.std.proofs.lemmas.List.Edits.{sets}
use Rattle.rules.specs.Refusals.{onto}

-- a list written over one of its own length is all that is there
pub onto_full : (xs out : List ℕ) → length xs ≡ length out → onto xs out ≡ xs
unfolding onto
onto_full xs out e = ap (λ (r : List ℕ). xs ++ r) (drop_of_length-le out {i = length xs} (omega arith)) ∙ append-nil xs

-- four stores
pub four_stores : (row L : List ℕ) (q : ℕ) → length row ≡ 4 →
    set (set (set (set L q (get_or row 0 0)) (q + 1) (get_or row 1 0)) (q + 2) (get_or row 2 0)) (q + 3) (get_or row 3 0) ≡ sets L q row
four_stores (a ∷ b ∷ c ∷ d ∷ []) L q e =
    let u : q + 1 ≡ suc q = omega arith in
    let v : q + 2 ≡ suc (suc q) = omega arith in
    let w : q + 3 ≡ suc (suc (suc q)) = omega arith in
    rw (u, v, w)
four_stores [] L q e = absurd (omega arith)
four_stores (a ∷ []) L q e = absurd (omega arith)
four_stores (a ∷ b ∷ []) L q e = absurd (omega arith)
four_stores (a ∷ b ∷ c ∷ []) L q e = absurd (omega arith)
four_stores (a ∷ b ∷ c ∷ d ∷ f ∷ row) L q e = absurd (omega arith)
