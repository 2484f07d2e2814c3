-- A list with one more entry, and one with a part of it cleared.
-- Assumes nothing.
use Rattle.std.specs.Prelude.{◌≡◌, ◌⊎◌, List, [], ◌∷◌, ◌++◌, ℕ, ◌+◌, ◌≤◌, ◌<◌, length, take, drop, replicate}
use Rattle.std.proofs.Common.{ap, sym, ◌∙◌, inl, inr, arith, length-append, length-take, length-drop, get_or-take, get_or-drop, drop_at, length-take-le}
use Rattle.std.proofs.lemmas.List.{length-replicate}
use Rattle.std.proofs.Math.ListN.{get_or-append, get_or-eq_default}
use Rattle.lists.specs.Search.{at}
use Rattle.lists.specs.SearchLaws.{le_or_lt, at_blank}
use Rattle.lists.specs.Parts.{put_take}

-- an entry put after the last changes no other
pub at_snoc_other : (xs : List ℕ) (x i : ℕ) → (i ≡ length xs → ⊥) → at (xs ++ (x ∷ [])) i ≡ at xs i
at_snoc_other xs x i d = go (le_or_lt (length xs) i)
  where
    go : (length xs ≤ i) ⊎ (i < length xs) → at (xs ++ (x ∷ [])) i ≡ at xs i
    go (inl h) =
        let past : length (xs ++ (x ∷ [])) ≤ i = rw (length-append xs (x ∷ [])) (omega arith) in
        get_or-eq_default (xs ++ (x ∷ [])) 0 past ∙ sym (get_or-eq_default xs 0 h)
    go (inr h) = get_or-append xs (x ∷ []) 0 i h

-- k places from a on replaced by zeros
module _ (a k : ℕ) (w ys : List ℕ) (inside : a + k ≤ length w) (blank : ys ≡ replicate k 0) where
  abbrev blanked : List ℕ
  blanked = take a w ++ (ys ++ drop k (drop a w))

  long : length ys ≡ k
  long = ap length blank ∙ length-replicate k 0

  pub blank_length : length blanked ≡ length w
  blank_length = simp (length-append, length-take, length-drop) (omega (arith, long))

  pub blank_before : (i : ℕ) → i < a → at blanked i ≡ at w i
  blank_before i h =
      sym (get_or-take a blanked i 0 h)
      ∙ ap (λ (u : List ℕ). at u i) (put_take a w ys (omega arith) k)
      ∙ get_or-take a w i 0 h

  pub blank_here : (j : ℕ) → j < k → at blanked (a + j) ≡ 0
  blank_here j h =
      sym (get_or-drop a blanked j 0)
      ∙ ap (λ (u : List ℕ). at u j) (drop_at (take a w) (ys ++ drop k (drop a w)) a (length-take-le a w (omega arith)))
      ∙ get_or-append ys (drop k (drop a w)) 0 j (omega (arith, long))
      ∙ ap (λ (u : List ℕ). at u j) blank
      ∙ at_blank k j
