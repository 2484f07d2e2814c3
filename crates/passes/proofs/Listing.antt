-- What a list query answers and leaves, by the list that it finds.
-- Assumes nothing.
use borrow.Author.Tests.{le-leb, lt-leb, ne_eqb}
use Rattle.std.proofs.lemmas.List.{length-take, length-drop}
use mir.Val.{bool_byte}
use lib.Dec.{eqb}
use mathlib.Core.Bool.{not}
use mathlib.Core.Bool.{Bool, true, false}
use mathlib.Core.Option.{Option, none, some}
use mathlib.Core.List.{List, [], ◌∷◌, ◌++◌}
use mathlib.Core.Path.{◌≡◌, refl, ap, sym, ◌∙◌}
use Prim.Native.Nat.{ℕ, zero, suc, ◌+◌, ◌≤◌, ◌<◌}
use native.Mathlib.Omega.{arith}
use lib.ListN.{length, take, drop, set, length-append}
use Rattle.rules.specs.Refusals.{Answer, gives, refused, after, onto}
use Rattle.rules.specs.Queries.{prepend, listed, list_leaves}
use Rattle.passes.specs.Walks.{size_of, leading, preceded, Lists}

-- an output with the vertex before a list at its start, where there is one
unfoldable pub led : ℕ → List ℕ → List ℕ
led zero out = out
led (suc u) out = set out 0 (suc u)

pub preceded_some : (u : ℕ) (zs : List ℕ) → preceded u (some zs) ≡ some (leading u ++ zs)
unfolding preceded leading prepend
preceded_some zero zs = refl
preceded_some (suc u) zs = refl

pub preceded_none : (u : ℕ) → preceded u none ≡ none
unfolding preceded prepend
preceded_none zero = refl
preceded_none (suc u) = refl

no_size : (o : Option (List ℕ)) → size_of o ≡ none → o ≡ none
unfolding size_of
no_size (some xs) e = let z : ◌≡◌ {A = ℕ} 0 1 = cc in absurd (omega arith)
no_size none e = refl

-- the list of a walk put after the vertex before it, and after that what the output held
pub led_onto : (u : ℕ) (zs out : List ℕ) → length (leading u ++ zs) ≤ length out
    → take (length (leading u)) (led u out) ++ (zs ++ drop (length zs) (drop (length (leading u)) (led u out))) ≡ onto (leading u ++ zs) out
unfolding leading led onto
led_onto zero zs out h = refl
led_onto (suc u) zs [] h = absurd (omega arith)
led_onto (suc u) zs (y ∷ ys) h = refl

module _ (ys out : List ℕ) where
  abbrev by_room : Bool → Answer
  by_room b = elim b [ true ↦ gives (length ys) 0 | false ↦ refused 13 (length ys) 0 ]

  pub lists_short : length out < length ys → Lists (some ys) out (refused 13 (length ys) 0) out
  unfolding listed list_leaves after
  lists_short h =
      let e = ap by_room (lt-leb _ _ h) in
      record { answer = sym e; leaves = sym (ap (λ (a : Answer). after a (onto ys out) out) e) }

  pub lists_all : length ys ≤ length out → Lists (some ys) out (gives (length ys) 0) (onto ys out)
  unfolding listed list_leaves after
  lists_all h =
      let e = ap by_room (le-leb _ _ h) in
      record { answer = sym e; leaves = sym (ap (λ (a : Answer). after a (onto ys out) out) e) }

pub lists_none : (out : List ℕ) → Lists none out (refused 12 0 0) out
unfolding listed list_leaves
lists_none out = record { answer = refl; leaves = refl }

-- a walk that was counted, with the entry u before it
module _ (u : ℕ) (o : Option (List ℕ)) (out : List ℕ) where
  pub none_listed : {r : Answer} → size_of o ≡ none → r ≡ refused 12 0 0 → Lists (preceded u o) out r out
  none_listed e f = rw (no_size o e, preceded_none u, f) (lists_none out)

  module _ {zs : List ℕ} (e : o ≡ some zs) {first size : ℕ} (f : first ≡ length (leading u)) (g : length zs ≡ size) where
    needed : length (leading u ++ zs) ≡ first + size
    needed = length-append (leading u) zs ∙ omega arith

    pub short_listed : {r : Answer} → length out < first + size → r ≡ refused 13 (first + size) 0 → Lists (preceded u o) out r out
    short_listed h q =
        let n = needed in rw (q, e, preceded_some u zs, ← n) (lists_short (leading u ++ zs) out (omega arith))

    pub all_listed : {r : Answer} {left : List ℕ} → first + size ≤ length out → r ≡ gives (first + size) 0
        → left ≡ take first (led u out) ++ (zs ++ drop size (drop first (led u out))) → Lists (preceded u o) out r left
    all_listed h q p =
        let n = needed in
        let l : length (leading u ++ zs) ≤ length out = omega arith in
        rw (q, e, preceded_some u zs, ← n, p, f, ← g, led_onto u zs out l) (lists_all (leading u ++ zs) out l)

pub leading_one : (u : ℕ) → length (leading u) ≤ 1
unfolding leading
leading_one zero = omega arith
leading_one (suc u) = omega arith

-- how many entries stand before the list
pub first_is : (u : ℕ) → bool_byte (not (eqb u 0)) ≡ length (leading u)
unfolding leading
first_is zero = refl
first_is (suc u) = rw (ne_eqb (suc u) 0 (λ e. omega (arith, e))) refl

pub led_none : {u : ℕ} (out : List ℕ) → u ≡ 0 → led u out ≡ out
unfolding led
led_none out z = rw z refl

pub led_some : {u : ℕ} (out : List ℕ) → (u ≡ 0 → ⊥) → led u out ≡ set out 0 u
unfolding led
led_some {u = zero} out d = absurd (d refl)
led_some {u = suc u} out d = refl

-- a part of a list has its length
pub length_part : (i j : ℕ) (xs : List ℕ) → i + j ≤ length xs → length (take j (drop i xs)) ≡ j
length_part i j xs h = omega (arith, length-take j (drop i xs), length-drop i xs)

pub filled : {xs ys part zs : List ℕ} {i j first size : ℕ} → xs ≡ ys → i ≡ first → j ≡ size → part ≡ zs
    → take i xs ++ (part ++ drop j (drop i xs)) ≡ take first ys ++ (zs ++ drop size (drop first ys))
filled a b k z = rw (a, b, k, z) refl
