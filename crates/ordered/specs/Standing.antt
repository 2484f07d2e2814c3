-- The work buffer with a list's own tables in it, over which the sides are counted that the walk meets.
-- Assumes nothing.
use Rattle.std.specs.Prelude.{◌≡◌, ◌⊎◌, List, ℕ, ◌+◌, ◌*◌}
use Rattle.lists.specs.Search.{at, zeros}
use Rattle.rules.specs.Elements.{elements, number, Side, slot}
use Rattle.rules.specs.Pairing.{Pairing}
use Rattle.rules.specs.Tables.{partner, wide, v2e}
use Rattle.rules.specs.Recovery.{walk_to}
use Rattle.theory.specs.FitRows.{Fit}
use Rattle.walk.specs.Layout.{Sizes, v2e_in, e2e_in, Linked}

-- the entry of side s is a side or a border
pub record Known (E : List ℕ) (s : ℕ) : Type 0 where
  pub side : Side E s
  pub entry : Side E (at E (slot s)) ⊎ (number (at E (slot s)) ≡ 0)

-- the sides of L are paired, and its tables stand in the work w
pub record Standing (n : ℕ) (L w : List ℕ) : Type 0 where
  pub fit : Fit n L
  pub pairing : Pairing L (partner L)
  pub sizes : Sizes n (elements L) w
  pub vertices : v2e_in n w ≡ v2e n L
  pub opposites : e2e_in n (elements L) w ≡ wide L
  pub linked : Linked n (elements L) w

-- about the vertices 1 to v the walk meets so many sides, and leaves the other places empty
pub record MetBy (n : ℕ) (L : List ℕ) (v met : ℕ) : Type 0 where
  pub all : met + zeros (walk_to (v2e n L) (wide L) v) ≡ 4 * elements L
