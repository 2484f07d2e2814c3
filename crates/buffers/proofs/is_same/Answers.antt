-- `buffers::is_same` meets its contract: std compares by pairs, as `same` does.
-- Assumes nothing.
use Rattle.std.proofs.Common.{◌≡◌, refl, ◌∙◌, Bool, true, false, ◌&&◌, List, [], ◌∷◌, ℕ}
use lib.Dec.{eqb}
use lib.Pointwise.{pointwise}
use Rattle.lists.specs.Tests.{both, same}
use Rattle.buffers.proofs.is_same.Goals as goal

both_is : (p q r : Bool) → q ≡ r → (p && q) ≡ both p r
both_is true q r e = e
both_is false q r e = refl

by_pairs : (a b : List ℕ) → pointwise eqb a b ≡ same a b
unfolding same
by_pairs [] [] = refl
by_pairs [] (y ∷ ys) = refl
by_pairs (x ∷ xs) [] = refl
by_pairs (x ∷ xs) (y ∷ ys) = both_is (eqb x y) (pointwise eqb xs ys) (same xs ys) (by_pairs xs ys)

pub returns : goal.returns
returns c = c.eq.ensures ∙ by_pairs c.args.a.now c.args.b.now
