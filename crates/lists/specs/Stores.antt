-- Stores in a list of numbers, and what a list keeps of another.
-- Assumes nothing.
use Rattle.std.specs.Prelude.{◌≡◌, refl, ◌⊎◌, List, ◌++◌, ℕ, ◌+◌, ◌-◌, ◌≤◌, ◌<◌, length, set, drop}
use Rattle.std.proofs.Common.{ap, sym, ◌∙◌, inl, inr, arith, length-set, length-append, length-drop, get_or-set_same, get_or-set_other, get_or-append-add, get_or-drop}
use Rattle.std.proofs.Math.ListN.{get_or-append}
use Rattle.lists.specs.Search.{at}
use Rattle.lists.specs.SearchLaws.{lt_or_eq}

pub at_same : (W : List ℕ) (i x : ℕ) → i < length W → at (set W i x) i ≡ x
at_same W i x h = get_or-set_same W i x 0 h

pub at_other : (W : List ℕ) (i x j : ℕ) → (j ≡ i → ⊥) → at (set W i x) j ≡ at W j
at_other W i x j d = get_or-set_other W i j x 0 d

-- up to i the entries are those of f, and f i is written at i
pub by_set : (f : ℕ → ℕ) (W : List ℕ) (i x : ℕ) → i < length W → x ≡ f i → ((j : ℕ) → j < i → at W j ≡ f j) → (j : ℕ) → j < i + 1 → at (set W i x) j ≡ f j
by_set f W i x h e g j l = go (lt_or_eq j i (omega arith))
  where
    go : (j < i) ⊎ (j ≡ i) → at (set W i x) j ≡ f j
    go (inl k) = at_other W i x j (λ z. omega arith) ∙ g j k
    go (inr z) = ap (at (set W i x)) z ∙ at_same W i x h ∙ e ∙ ap f (sym z)

-- W is as long as U, and has the same entries from place k on
pub record Kept (k : ℕ) (U W : List ℕ) : Type 0 where
  pub long : length W ≡ length U
  pub entries : (j : ℕ) → k ≤ j → at W j ≡ at U j

pub kept_itself : (k : ℕ) (W : List ℕ) → Kept k W W
kept_itself k W = record { long = refl; entries = λ j h. refl }

pub kept_on : {k : ℕ} {T U W : List ℕ} → Kept k T U → Kept k U W → Kept k T W
kept_on p q = record { long = q.long ∙ p.long; entries = λ j h. q.entries j h ∙ p.entries j h }

pub kept_set : {k : ℕ} {U W : List ℕ} (i x : ℕ) → Kept k U W → i < k → Kept k U (set W i x)
kept_set {W = W} i x p h =
    record {
      long = length-set W i x ∙ p.long;
      entries = λ j l. let d : j ≡ i → ⊥ = λ e. omega arith in at_other W i x j d ∙ p.entries j l;
    }

pub kept_later : {k m : ℕ} {U W : List ℕ} → Kept k U W → k ≤ m → Kept m U W
kept_later p h = record { long = p.long; entries = λ j l. p.entries j (omega arith) }

-- the first n entries replaced by ys
module _ (n : ℕ) (w ys : List ℕ) (inside : n ≤ length w) (many : length ys ≡ n) where
  pub front_kept : Kept n w (ys ++ drop (n - 0) w)
  front_kept =
      record {
        long = simp (length-append, length-drop) (omega arith);
        entries = λ j h.
            let e : j ≡ length ys + (j - n) = omega arith in
            let f : n - 0 + (j - n) ≡ j = omega arith in
            ap (at (ys ++ drop (n - 0) w)) e ∙ get_or-append-add ys (drop (n - 0) w) (j - n) 0 ∙ get_or-drop (n - 0) w (j - n) 0 ∙ ap (at w) f;
      }

  pub front_at : (i : ℕ) → i < n → at (ys ++ drop (n - 0) w) i ≡ at ys i
  front_at i h = get_or-append ys (drop (n - 0) w) 0 i (omega arith)
