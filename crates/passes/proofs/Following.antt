-- Laws of a walk: its steps, its length, and the list that it leaves.
-- Assumes nothing.
use borrow.Author.Tests.{ne_eqb}
use mathlib.Core.Logic.{◌⊎◌, inl, inr}
use mathlib.Core.Option.{Option, none, some}
use mathlib.Core.List.{List, [], ◌∷◌, ◌++◌}
use Rattle.std.proofs.Math.ListN.{drop_of_length-le}
use Rattle.std.proofs.lemmas.List.{append-nil}
use mathlib.Core.Path.{◌≡◌, refl, ap, sym, ◌∙◌}
use Prim.Native.Nat.{ℕ, suc, ◌+◌, ◌<◌}
use native.Mathlib.Omega.{arith}
use lib.ListN.{length}
use lib.Seq.{sets, sets-eq}
use Rattle.rules.specs.Queries.{and_then, prepend, read_all, follow, over}
use Rattle.passes.specs.Walks.{size_of, list_of}
use Rattle.theory.specs.Follows.{follow_none}
use Rattle.theory.specs.Reads.{and_then_lem, and_none, nothing}

-- k more
unfoldable pub raised : ℕ → Option ℕ → Option ℕ
raised k (some n) = some (k + n)
raised k none = none

and_nothing : {A : Type 0} (o : Option ℕ) → and_then {A = A} o (λ x. none) ≡ none
unfolding and_then
and_nothing (some x) = refl
and_nothing none = refl

and_lost : {A : Type 0} (o : Option ℕ) {r : Option ℕ} (f : ℕ → ℕ → Option A) → r ≡ none → and_then o (λ y. and_then r (f y)) ≡ none
unfolding and_then
and_lost o f p = ap (λ (r : Option ℕ). and_then o (λ y. and_then r (f y))) p ∙ and_nothing o

module _ (step shown : ℕ → Option ℕ) where
  abbrev walk : ℕ → ℕ → Option (List ℕ)
  walk j x = over shown (follow step j x)

  -- a walk from 0 has stopped
  pub walk_stopped : (j x : ℕ) → x ≡ 0 → walk j x ≡ some []
  unfolding over read_all
  walk_stopped j x z = ap (λ (y : ℕ). walk j y) z ∙ ap (over shown) (follow_none step j)

  over_prepend : (x : ℕ) (o : Option (List ℕ)) → over shown (prepend x o) ≡ and_then (shown x) (λ e. prepend e (over shown o))
  unfolding over prepend read_all
  over_prepend x (some xs) = refl
  over_prepend x none = sym (and_nothing (shown x))

  module _ (x : ℕ) (d : x ≡ 0 → ⊥) where
    -- any other is its first step and the walk after it
    walk_step : (j : ℕ) → walk (suc j) x ≡ and_then (step x) (λ y. and_then (shown x) (λ e. prepend e (walk j y)))
    unfolding follow over and_then
    walk_step j = rw (ne_eqb x 0 d, follow) (go (step x))
      where
        go : (o : Option ℕ) → over shown (and_then o (λ y. prepend x (follow step j y))) ≡ and_then o (λ y. and_then (shown x) (λ e. prepend e (walk j y)))
        go (some y) = over_prepend x (follow step j y)
        go none = refl

    pub walk_to_lem : (j e y : ℕ) → shown x ≡ some e → step x ≡ some y → walk (suc j) x ≡ prepend e (walk j y)
    walk_to_lem j e y p q = walk_step j ∙ and_then_lem _ q ∙ and_then_lem _ p

    pub walk_lost : (j : ℕ) → (shown x ≡ none) ⊎ (step x ≡ none) → walk (suc j) x ≡ none
    walk_lost j (inl p) = walk_step j ∙ and_lost (step x) (λ y e. prepend e (walk j y)) p
    walk_lost j (inr q) = walk_step j ∙ and_none _ q

    pub walk_none : walk 0 x ≡ none
    unfolding follow over
    walk_none = rw (ne_eqb x 0 d, follow)

-- lengths
pub raised_none : (o : Option ℕ) → raised 0 o ≡ o
unfolding raised
raised_none (some n) = let e : 0 + n ≡ n = omega arith in rw e
raised_none none = refl

pub raised_more : (k e : ℕ) (o : Option (List ℕ)) → raised k (size_of (prepend e o)) ≡ raised (k + 1) (size_of o)
unfolding raised size_of prepend
raised_more k e (some xs) = let p : k + suc (length xs) ≡ k + 1 + length xs = omega arith in rw p
raised_more k e none = refl

pub raised_some : (k : ℕ) (o : Option ℕ) (n : ℕ) → raised k o ≡ some n → (j : ℕ) × (o ≡ some j) × (k + j ≡ n)
unfolding raised
raised_some k (some j) n p = (j, refl, (cc))
raised_some k none n p = absurd (nothing p)

pub size_positive : (e : ℕ) (o : Option (List ℕ)) (j : ℕ) → size_of (prepend e o) ≡ some j → 0 < j
unfolding size_of prepend
size_positive e (some xs) j p = let q : suc (length xs) ≡ j = cc in omega arith
size_positive e none j p = absurd (nothing p)

pub list_more : (j e : ℕ) (o : Option (List ℕ)) → size_of (prepend e o) ≡ some j → list_of (prepend e o) ≡ e ∷ list_of o
unfolding size_of prepend list_of
list_more j e (some xs) p = refl
list_more j e none p = let z : ◌≡◌ {A = ℕ} 0 1 = cc in absurd (omega arith)

-- a list has its size
pub size_some : (o : Option (List ℕ)) (k : ℕ) → size_of o ≡ some k → (o ≡ some (list_of o)) × (length (list_of o) ≡ k)
unfolding size_of list_of
size_some (some xs) k p = (refl, (cc))
size_some none k p = let z : ◌≡◌ {A = ℕ} 0 1 = cc in absurd (omega arith)

-- a list put over one of its length
pub sets_whole : (zs out : List ℕ) → length zs ≡ length out → sets out 0 zs ≡ zs
sets_whole zs out e =
    sets-eq zs out 0 (omega (arith, e))
    ∙ ap (λ (ys : List ℕ). zs ++ ys) (drop_of_length-le out (omega (arith, e)))
    ∙ append-nil zs
