-- The numbering of border sides in the work buffer: what it needs, what it leaves, and its state at place p of the list.
-- Assumes nothing.
use Rattle.std.specs.Prelude.{◌≡◌, true, List, ℕ, ◌+◌, ◌*◌, ◌-◌, ◌%◌, ◌≤◌, ◌<◌, eqb, length, set}
use Rattle.lists.specs.Search.{at, count, upto}
use Rattle.lists.specs.Parts.{part}
use Rattle.rules.specs.Elements.{elements, Side, slot, origin, destination, side_at, side_with, first_side, count_sides}
use Rattle.rules.specs.Tables.{partner, is_border, b2e, border_number, borders, wide, v2e}
use Rattle.rules.specs.Refusals.{crowded_side, alike_side}
use Rattle.rules.specs.Siblings.{sibling}
use Rattle.theory.specs.FitRows.{Fit}
use Rattle.checks.specs.Maps.{Mapped}
use Rattle.checks.specs.Firsts.{Firsts}
use Rattle.walk.specs.Layout.{Linked, v2e_in, e2e_in}

-- checks 3 to 7 found nothing, and left the siblings and each vertex's least side
pub record Ready (n : ℕ) (L w : List ℕ) : Type 0 where
  pub mapped : Mapped n L w
  pub firsts : Firsts n L w
  pub uncrowded : crowded_side L ≡ 0
  pub apart : alike_side L ≡ 0
  pub long : length w ≡ n + 12 * elements L

-- the tables stand in the work w', and k and c are the numbers of border sides and of sides
pub record Numbered (n : ℕ) (L : List ℕ) (k c : ℕ) (w w' : List ℕ) : Type 0 where
  pub number : k ≡ borders L
  pub sides : c ≡ count_sides L (λ s. true)
  pub vertices : v2e_in n w' ≡ v2e n L
  pub opposites : e2e_in n (elements L) w' ≡ wide L
  pub border : part (n + 4 * elements L) (borders L) w' ≡ b2e L
  pub entries : (j : ℕ) → j < 4 * elements L → at w' (n + 4 * elements L + j) ≡ at (b2e L) j
  pub linked : Linked n (elements L) w'
  pub long : length w' ≡ length w

-- what the checks say of the list: a side that is its own sibling is a border side, and any other is paired with its sibling
pub record Matched (n : ℕ) (L : List ℕ) : Type 0 where
  pub fit : Fit n L
  pub lone : (s : ℕ) → Side L s → sibling L s ≡ s → partner L s ≡ 0
  pub other : (s : ℕ) → Side L s → (sibling L s ≡ s → ⊥) → partner L s ≡ sibling L s

-- s is a border side that ends at v
pub record Into (L : List ℕ) (v s : ℕ) : Type 0 where
  pub side : Side L s
  pub border : partner L s ≡ 0
  pub ends : destination L s ≡ v

-- x is the entry of vertex v by the border sides before place p: the border of the least one that ends there, or the least side with
-- origin v, 0 where there is none
pub data Entry (L : List ℕ) (p v x : ℕ) : Type 0 where
  rim : (s : ℕ) → Into L v s → slot s < p → ((t : ℕ) → Into L v t → slot s ≤ slot t) → x ≡ 8 * border_number L s → Entry L p v x
  inner : ((s : ℕ) → Into L v s → slot s < p → ⊥) → x ≡ first_side L (λ s. eqb (origin L s) v) → Entry L p v x

-- the places before p are done, with k border sides and c sides
pub record Numbering (n : ℕ) (L : List ℕ) (p k c : ℕ) (w : List ℕ) : Type 0 where
  pub number : k ≡ count (side_with L (is_border L)) p
  pub sides : c ≡ count (side_with L (λ s. true)) p
  pub done : (q : ℕ) → q < p → at w (n + q) ≡ at (wide L) q
  pub ahead : (s : ℕ) → Side L s → p ≤ slot s → at w (n + slot s) ≡ sibling L s
  pub empty : (q : ℕ) → p ≤ q → q < length L → (Side L (side_at q) → ⊥) → at w (n + q) ≡ 0
  pub border : (j : ℕ) → j < length L → at w (n + length L + j) ≡ at (upto (side_with L (is_border L)) side_at p) j
  pub vertices : (v : ℕ) → 1 ≤ v → v ≤ n → Entry L p v (at w (v - 1))
  pub long : length w ≡ n + 12 * elements L

-- x put at i, unless a border stands there
pub data Put (i x : ℕ) (w w' : List ℕ) : Type 0 where
  kept : at w i % 8 ≡ 0 → w' ≡ w → Put i x w w'
  put : (at w i % 8 ≡ 0 → ⊥) → w' ≡ set w i x → Put i x w w'

-- the E2e and the B2e entry of the border side at p, whose number is b
abbrev pub entered : ℕ → List ℕ → ℕ → ℕ → List ℕ → List ℕ
entered n L p b w = set (set w (n + p) (8 * b)) (n + length L + b - 1) (side_at p)
