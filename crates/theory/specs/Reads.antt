-- What is read from what was read, and from each entry of a list; and what isn't read.
-- Assumes nothing.
use Rattle.std.specs.Prelude.{◌≡◌, refl, Bool, true, false, ◌⊎◌, List, [], ◌∷◌, ℕ, zero, suc, ◌%◌, ◌<◌, T, length}
use Rattle.std.proofs.Common.{ap, subst, ◌∙◌, inl, inr, arith}
use Rattle.std.proofs.Math.Option.{Option, none, some}
use Rattle.lists.specs.Search.{at}
use Rattle.rules.specs.Elements.{is_side}
use Rattle.rules.specs.Queries.{Mesh, and_then, prepend, read_all, read, is_border_code, is_half_edge, read_opposite}
use Rattle.theory.specs.Columns.{entry_past}

pub and_then_lem {ℓ} : {A : Type ℓ} {r : Option ℕ} {x : ℕ} (f : ℕ → Option A) → r ≡ some x → and_then r f ≡ f x
unfolding and_then
and_then_lem f e = ap (λ r. and_then r f) e

pub and_none {ℓ} : {A : Type ℓ} {r : Option ℕ} (f : ℕ → Option A) → r ≡ none → and_then r f ≡ none
unfolding and_then
and_none f e = ap (λ (r : Option ℕ). and_then r f) e

-- what was read from what was read
pub and_some {ℓ} : {A : Type ℓ} (r : Option ℕ) (f : ℕ → Option A) (y : A) → and_then r f ≡ some y → (x : ℕ) × (r ≡ some x) × (f x ≡ some y)
unfolding and_then
and_some (some x) f y e = (x, refl, e)
and_some none f y e = let z : ◌≡◌ {A = ℕ} 0 1 = cc in absurd (omega arith)

-- something was read, or nothing
pub either_read : (r : Option ℕ) → ((x : ℕ) × (r ≡ some x)) ⊎ (r ≡ none)
either_read (some x) = inl (x, refl)
either_read none = inr refl

pub nothing : {A : Type 0} {x : A} → none ≡ some x → ⊥
nothing p = let z : ◌≡◌ {A = ℕ} 0 1 = cc in omega arith

-- what was read is valid
read_by : (b : Bool) (x y : ℕ) → read (λ _. b) x ≡ some y → (b ≡ true) × (x ≡ y)
read_by true x y e = (refl, (cc))
read_by false x y e = let z : ◌≡◌ {A = ℕ} 0 1 = cc in absurd (omega arith)

pub was_valid : (valid : ℕ → Bool) (x y : ℕ) → read valid x ≡ some y → T (valid y)
was_valid valid x y e =
    let (t, p) = read_by (valid x) x y e in subst (λ (z : ℕ). T (valid z)) p (rw t tt)

-- ys holds f of each entry of xs
pub record Mapped (f : ℕ → ℕ) (xs ys : List ℕ) : Type 0 where
  pub size : length ys ≡ length xs
  pub entries : (i : ℕ) → i < length xs → at ys i ≡ f (at xs i)

pub read_all_lem : (step : ℕ → Option ℕ) (f : ℕ → ℕ) (xs : List ℕ) → ((i : ℕ) → i < length xs → step (at xs i) ≡ some (f (at xs i))) → (ys : List ℕ) × (read_all step xs ≡ some ys) × Mapped f xs ys
unfolding read_all prepend
read_all_lem step f [] h = ([], refl, record { size = refl; entries = λ i k. absurd (omega arith) })
read_all_lem step f (x ∷ xs) h =
    let (ys, e, m) = read_all_lem step f xs (λ i k. h (suc i) (omega arith)) in
    (f x ∷ ys, and_then_lem _ (h 0 (omega arith)) ∙ ap (prepend (f x)) e, record { size = ap suc m.size; entries = more ys m })
  where
    more : (ys : List ℕ) → Mapped f xs ys → (i : ℕ) → i < suc (length xs) → at (f x ∷ ys) i ≡ f (at (x ∷ xs) i)
    more ys m zero k = refl
    more ys m (suc i) k = m.entries i (omega arith)

-- where the columns told have no entry for a side, nothing is read: that of a fourth side in three columns
pub none_past : (M : Mesh) (s : ℕ) → M.columns < s % 8 → read_opposite M s ≡ none
unfolding read_opposite is_half_edge is_side is_border_code
none_past M s h = ap (read (is_half_edge M)) (entry_past M.columns M.opposites s h)
