-- A pass over a walk: what holds after some of its steps.
-- Assumes nothing.
use mathlib.Core.Logic.{◌⊎◌}
use mathlib.Core.Option.{Option, none, some}
use mathlib.Core.List.{List, [], ◌∷◌}
use mathlib.Core.Path.{◌≡◌, refl, ap, sym, ◌∙◌}
use Prim.Native.Nat.{ℕ, suc, ◌+◌, ◌-◌, ◌≤◌, ◌<◌}
use native.Mathlib.Omega.{arith}
use lib.ListN.{length, set, length-set}
use lib.Seq.{sets}
use Rattle.rules.specs.Queries.{prepend}
use Rattle.passes.specs.Walks.{walked, size_of, list_of}
use Rattle.passes.proofs.Following.{raised, walk_stopped, walk_to_lem, walk_lost, walk_none, raised_none, raised_more, raised_some, size_positive, list_more, size_some, sets_whole}

one_more : (a b : ℕ) → a < b → b - a ≡ suc (b - (a + 1))
one_more a b h = omega arith

module _ (stands : ℕ → Type 0) (shows goes : ℕ → Option ℕ) (limit start : ℕ) where
  abbrev rest : ℕ → ℕ → Option (List ℕ)
  rest = walked shows goes

  abbrev whole : Option (List ℕ)
  whole = rest limit start

  -- `count` steps of a walk of at most `limit` were taken, and it is at x; what it listed is put into the output, as far as that has room
  pub record Passing (before : List ℕ) (count x : ℕ) (out : List ℕ) : Type 0 where
    pub bound : count ≤ limit
    pub standing : (x ≡ 0 → ⊥) → stands x
    pub total : raised count (size_of (rest (limit - count) x)) ≡ size_of whole
    pub same : length out ≡ length before
    pub ends : size_of whole ≡ some (length before) → sets out count (list_of (rest (limit - count) x)) ≡ list_of whole

  pub passing_none : (out : List ℕ) → ((start ≡ 0 → ⊥) → stands start) → Passing out 0 start out
  passing_none out s =
      let e : limit - 0 ≡ limit = omega arith in
      record {
        bound = omega arith;
        standing = s;
        total = raised_none _ ∙ ap (λ (j : ℕ). size_of (rest j start)) e;
        same = refl;
        ends = λ p. ap (λ (j : ℕ). sets out 0 (list_of (rest j start))) e ∙ sets_whole (list_of whole) out (size_some whole _ p).1;
      }

  module _ {count x : ℕ} {before out : List ℕ} (c : Passing before count x out) where
    -- by what is left of the walk
    size_is : (o : Option (List ℕ)) → rest (limit - count) x ≡ o → raised count (size_of o) ≡ size_of whole
    size_is o e = sym (ap (λ (p : Option (List ℕ)). raised count (size_of p)) e) ∙ c.total

    -- the walk is over
    module _ (z : x ≡ 0) where
      pub counted : some count ≡ size_of whole
      unfolding raised size_of
      counted =
          let e : count + 0 ≡ count = omega arith in
          ap some (sym e) ∙ size_is (some []) (walk_stopped _ _ (limit - count) x z)

      pub written : size_of whole ≡ some (length before) → out ≡ list_of whole
      unfolding list_of
      written p = sym (ap (λ (o : Option (List ℕ)). sets out count (list_of o)) (walk_stopped _ _ (limit - count) x z)) ∙ c.ends p

    module _ (d : x ≡ 0 → ⊥) where
      -- it is broken
      pub overlong : limit ≤ count → none ≡ size_of whole
      unfolding raised size_of
      overlong h =
          let e : limit - count ≡ 0 = omega arith in
          size_is none (ap (λ (j : ℕ). rest j x) e ∙ walk_none _ _ x d)

      module _ (h : count < limit) where
        pub lost : (shows x ≡ none) ⊎ (goes x ≡ none) → none ≡ size_of whole
        unfolding raised size_of
        lost r = size_is none (ap (λ (j : ℕ). rest j x) (one_more count limit h) ∙ walk_lost _ _ x d (limit - (count + 1)) r)

        module _ (e y : ℕ) (p : shows x ≡ some e) (q : goes x ≡ some y) (s : (y ≡ 0 → ⊥) → stands y) where
          abbrev left : Option (List ℕ)
          left = rest (limit - (count + 1)) y

          step : rest (limit - count) x ≡ prepend e left
          step = ap (λ (j : ℕ). rest j x) (one_more count limit h) ∙ walk_to_lem _ _ x d (limit - (count + 1)) e y p q

          total_on : raised (count + 1) (size_of left) ≡ size_of whole
          total_on = sym (raised_more count e _) ∙ size_is (prepend e left) step

          pub passing_put : count < length out → Passing before (count + 1) y (set out count e)
          passing_put k =
              record {
                bound = omega arith;
                standing = s;
                total = total_on;
                same = length-set out count e ∙ c.same;
                ends = λ f.
                    let (j, g, i) = raised_some count (size_of (prepend e left)) _ (size_is (prepend e left) step ∙ f) in
                    let l : list_of (rest (limit - count) x) ≡ e ∷ list_of left = ap list_of step ∙ list_more j e left g in
                    let b : count + 1 ≡ suc count = omega arith in
                    ap (λ (a : ℕ). sets (set out count e) a (list_of left)) b ∙ sym (ap (sets out count) l) ∙ c.ends f;
              }

          -- there is no room
          pub passing_over : length out ≤ count → Passing before (count + 1) y out
          passing_over k =
              record {
                bound = omega arith;
                standing = s;
                total = total_on;
                same = c.same;
                ends = λ f.
                    let (j, g, i) = raised_some count (size_of (prepend e left)) _ (size_is (prepend e left) step ∙ f) in
                    absurd (omega (arith, size_positive e left j g, c.same));
              }
