-- Parts of a list, and lists that are filled from the front.
-- Assumes nothing.
use Rattle.std.specs.Prelude.{◌≡◌, List, ◌++◌, ℕ, suc, ◌+◌, ◌-◌, ◌≤◌, ◌<◌, length, take, drop, set, replicate}
use Rattle.std.proofs.Common.{ap, sym, ◌∙◌, append-nil, add-one, arith, length-append, drop_of_length-le, length-take, length-drop, get_or-take, get_or-drop, get_or-append-add, ext_get_or, take_at, drop_at, drop-cons, length-take-le, take-suc}
use Rattle.std.proofs.Math.ListN.{get_or-append}
use Rattle.std.proofs.lemmas.List.{set_at}
use Rattle.std.proofs.Math.Seq.{append_snoc, take-length, drop-length}
use Rattle.lists.specs.Search.{at}

-- the part of k entries from a on
abbrev pub part : ℕ → ℕ → List ℕ → List ℕ
part a k w = take k (drop a w)

pub at_part : (a k : ℕ) (w : List ℕ) (i : ℕ) → i < k → at (part a k w) i ≡ at w (a + i)
at_part a k w i h = get_or-take k (drop a w) i 0 h ∙ get_or-drop a w i 0

pub length_part : (a k : ℕ) (w : List ℕ) → a + k ≤ length w → length (part a k w) ≡ k
length_part a k w h = simp (length-take, length-drop) (omega arith)

-- a part that ends by o is the same of what stands before o
pub part_take : (a k o : ℕ) (w : List ℕ) → a + k ≤ o → o ≤ length w → part a k (take o w) ≡ part a k w
part_take a k o w h l =
    ext_get_or 0 (part a k (take o w)) (part a k w)
    (length_part a k (take o w) (simp length-take (omega arith)) ∙ sym (length_part a k w (omega arith)))
    (λ i b.
    let c : i < k = omega (arith, length_part a k (take o w) (simp length-take (omega arith))) in
    at_part a k (take o w) i c ∙ get_or-take o w (a + i) 0 (omega arith) ∙ sym (at_part a k w i c))

-- a copy to the front of a list, one entry more
pub copy_more : (s d : List ℕ) (i : ℕ) → i < length s → i < length d → set (take i s ++ drop i d) i (at s i) ≡ take (i + 1) s ++ drop (i + 1) d
copy_more s d i h k =
    ap (λ (r : List ℕ). set (take i s ++ r) i (at s i)) (drop-cons d i 0 k)
    ∙ set_at (take i s) (at d i) (drop (suc i) d) (at s i) i (length-take-le i s (omega arith))
    ∙ sym (append_snoc (take i s) (at s i) (drop (suc i) d))
    ∙ ap (λ (r : List ℕ). r ++ drop (suc i) d) (sym (take-suc s i 0 h))
    ∙ ap (λ (j : ℕ). take j s ++ drop j d) (sym (add-one i))

pub copy_all : (s d : List ℕ) (i : ℕ) → i ≡ length s → take i s ++ drop i d ≡ s ++ drop (length s) d
copy_all s d i e = ap (λ (j : ℕ). take j s ++ drop j d) e ∙ ap (λ (r : List ℕ). r ++ drop (length s) d) (take-length s)

pub clear_all : (d : List ℕ) (i : ℕ) → i ≡ length d → replicate i 0 ++ drop i d ≡ replicate (length d) 0
clear_all d i e =
    ap (λ (j : ℕ). replicate j 0 ++ drop j d) e
    ∙ ap (λ (r : List ℕ). replicate (length d) 0 ++ r) (drop-length d)
    ∙ append-nil (replicate (length d) 0)

-- what stands from a on replaced by ys, as many: what was before a stays
module _ (a : ℕ) (w ys : List ℕ) (inside : a ≤ length w) where
  pub put_take : (k : ℕ) → take a (take a w ++ (ys ++ drop k (drop a w))) ≡ take a w
  put_take k = take_at (take a w) (ys ++ drop k (drop a w)) a (length-take-le a w inside)

  pub put_drop : drop a (take a w ++ (ys ++ drop (length w - a) (drop a w))) ≡ ys
  put_drop =
      drop_at (take a w) (ys ++ drop (length w - a) (drop a w)) a (length-take-le a w inside)
      ∙ ap (λ (r : List ℕ). ys ++ r) (drop_of_length-le (drop a w) {i = length w - a} (simp length-drop (omega arith)))
      ∙ append-nil ys

  pub put_length : length ys ≡ length w - a → length (take a w ++ (ys ++ drop (length w - a) (drop a w))) ≡ length w
  put_length e = simp (length-append, length-take, length-drop) (omega arith)

-- as many entries as ys has, from a to e, replaced by ys
module _ (a e : ℕ) (w ys : List ℕ) (from_to : e ≡ a + length ys) (inside : e ≤ length w) where
  abbrev new : List ℕ
  new = take a w ++ (ys ++ drop e w)

  front : length (take a w) ≡ a
  front = length-take-le a w (omega arith)

  pub splice_length : length new ≡ length w
  splice_length = simp (length-append, length-append, length-drop) (omega (arith, front))

  pub splice_at : (j : ℕ) → j < length ys → at new (a + j) ≡ at ys j
  splice_at j h =
      ap (λ (k : ℕ). at new (k + j)) (sym front) ∙ get_or-append-add (take a w) (ys ++ drop e w) j 0 ∙ get_or-append ys (drop e w) 0 j h

  pub splice_before : (p : ℕ) → p < a → at new p ≡ at w p
  splice_before p h = get_or-append (take a w) (ys ++ drop e w) 0 p (omega (arith, front)) ∙ get_or-take a w p 0 h

  pub splice_after : (p : ℕ) → e ≤ p → at new p ≡ at w p
  splice_after p h =
      let i : p ≡ length (take a w) + (length ys + (p - e)) = omega (arith, front) in
      let j : e + (p - e) ≡ p = omega arith in
      ap (at new) i
      ∙ get_or-append-add (take a w) (ys ++ drop e w) (length ys + (p - e)) 0
      ∙ get_or-append-add ys (drop e w) (p - e) 0
      ∙ get_or-drop e w (p - e) 0
      ∙ ap (at w) j
