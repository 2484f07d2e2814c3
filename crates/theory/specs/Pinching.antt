-- Refusal 20 by the four corners, document 02, point 8: the third corners are c and d, and on a border both are the one that there is.
-- Assumes nothing.
use Rattle.std.specs.Prelude.{◌≡◌, refl, Bool, true, false, not, List, ℕ, T, eqb}
use Rattle.std.proofs.Common.{ap, sym, subst}
use Rattle.lists.specs.Tests.{both, either}
use Rattle.lists.specs.TestLaws.{Test, pass, fail, test, means_one}
use Rattle.rules.specs.Elements.{origin, destination, some_number}
use Rattle.rules.specs.Tables.{is_border}
use Rattle.edit_rules.specs.Swap.{third}
use Rattle.edit_rules.specs.Contract.{is_neighbour, is_third, pinches}
use Rattle.theory.specs.Least.{means_some_number}
use Rattle.theory.specs.Coarsening.{beyond, pinches_by}

-- tests that agree on every number find some number alike
pub some_alike : (n : ℕ) (t u : ℕ → Bool) → ((v : ℕ) → t v ≡ u v) → some_number n t ≡ some_number n u
some_alike n t u e =
    means_one (means_some_number n t) (means_some_number n u)
    (λ (v, a, b, w). (v, a, b, subst T (e v) w))
    (λ (v, a, b, w). (v, a, b, subst T (sym (e v)) w))

-- one corner twice
twice : (b : Bool) → either b false ≡ either b b
twice true = refl
twice false = refl

pub third_by : (L : List ℕ) (s v : ℕ) → is_third L s v ≡ either (eqb v (third L s)) (eqb v (beyond L s))
unfolding is_third beyond
third_by L s v = go (test (is_border L s))
  where
    go : Test (is_border L s) → is_third L s v ≡ either (eqb v (third L s)) (eqb v (beyond L s))
    go (pass t e) = rw (e, is_third, beyond) (twice (eqb v (third L s)))
    go (fail t e) = rw (e, is_third, beyond) refl

pub pinches_by_lem : (n : ℕ) (L : List ℕ) (s : ℕ) {a b c d : ℕ} → a ≡ origin L s → b ≡ destination L s → c ≡ third L s → d ≡ beyond L s
    → pinches n L s ≡ pinches_by n L a b c d
unfolding pinches pinches_by
pinches_by_lem n L s e f g h =
    rw (e, f, g, h)
    (some_alike n _ _
    (λ v. ap (λ (x : Bool). both (is_neighbour L (origin L s) v) (both (is_neighbour L (destination L s) v) (not x))) (third_by L s v)))
