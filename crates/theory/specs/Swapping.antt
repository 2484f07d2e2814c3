-- A list with a diagonal swapped: the rows of the two triangles are as point 1 of document 02 says, and all others stay.
-- Assumes nothing.
use Rattle.std.specs.Prelude.{◌≡◌, List, ℕ, ◌+◌, ◌*◌, ◌-◌, ◌/◌, ◌≤◌, ◌<◌, T, length}
use Rattle.std.proofs.Math.Path.{refl, ap}
use Rattle.std.proofs.Common.{sym, ◌∙◌}
use native.Mathlib.Omega.{arith}
use Rattle.lists.specs.TestLaws.{Means, means_itself, means_both, means_not, means_eq}
use Rattle.lists.specs.Search.{at}
use Rattle.rules.specs.Elements.{corner, sides, is_side, Side, slot, origin, destination, next, previous}
use Rattle.rules.specs.Pairing.{opposed, Element}
use Rattle.rules.specs.Tables.{partner}
use Rattle.edit_rules.specs.Edits.{with_row}
use Rattle.edit_rules.specs.Swap.{flipped, swapped, is_swappable}
use Rattle.theory.specs.Sides.{three, four, SidesBy, sides_by_lem}
use Rattle.theory.specs.Steps.{next_numbered, next_previous, next_differs}
use Rattle.theory.specs.Triangles.{next_next}
use Rattle.theory.specs.Meeting.{element_of}
use Rattle.theory.specs.FitRows.{Fit}
use Rattle.theory.specs.Pairings.{means_opposed, partner_opposed}
use Rattle.theory.specs.Entries.{means_border}
use Rattle.theory.specs.Rows.{row_length, row_entry_lem, row_other}
use Rattle.theory.specs.Replacing.{Replaced}

-- s is an inner side between two triangles
pub record Diagonal (L : List ℕ) (s : ℕ) : Type 0 where
  pub side : Side L s
  pub paired : partner L s ≡ 0 → ⊥
  pub mine_three : sides L (s / 8) ≡ 3
  pub other_three : sides L (partner L s / 8) ≡ 3

pub means_swappable : (L : List ℕ) (s : ℕ) → Means (is_swappable L s) (Diagonal L s)
unfolding is_swappable
means_swappable L s =
    let parts =
    means_both (means_itself (is_side L s))
    (means_both (means_not (means_border L s)) (means_both (means_eq (sides L (s / 8)) 3) (means_eq (sides L (partner L s / 8)) 3))) in
    record {
      says = λ t. let (a, (b, (c, d))) = parts.says t in record { side = a; paired = b; mine_three = c; other_three = d };
      shows = λ x. parts.shows (x.side, (x.paired, (x.mine_three, x.other_three)));
    }

-- an element with three sides has 0 for a fourth corner
three_corners_lem : (L : List ℕ) (f : ℕ) → sides L f ≡ 3 → corner L f 4 ≡ 0
three_corners_lem L f e = go (sides_by_lem (corner L f 4)) e
  where
    go : {k : ℕ} → SidesBy (corner L f 4) k → k ≡ 3 → corner L f 4 ≡ 0
    go (three z h) i = z
    go (four z h) i = omega arith

module _ (n : ℕ) (L : List ℕ) (fit : Fit n L) (s : ℕ) (x : Diagonal L s) where
  abbrev t : ℕ
  t = partner L s

  abbrev f : ℕ
  f = s / 8

  abbrev g : ℕ
  g = t / 8

  pub across : Side L t × T (opposed L s t)
  across = partner_opposed L s x.paired

  -- a and b, at either end
  pub starts : origin L s ≡ destination L t
  starts = ((means_opposed L s t).says across.1).0

  pub ends : destination L s ≡ origin L t
  ends = ((means_opposed L s t).says across.1).1

  -- the partner is in another element: in one triangle each would follow the other, and the side before s would be s
  pub apart : f ≡ g → ⊥
  apart e =
      let i = next_numbered L s x.side in
      let j = next_numbered L t across.0 in
      let on = fit.differ (next L s) t i.side across.0 (i.same ∙ e) ends in
      let back = fit.differ (next L t) s j.side x.side (j.same ∙ sym e) (sym starts) in
      let same : previous L s ≡ s = sym (next_next L s x.side x.mine_three) ∙ ap (next L) on ∙ back in
      next_differs L s x.side (sym (ap (next L) same) ∙ next_previous L s x.side)

  pub mine : Element L f
  mine = element_of L s x.side

  pub other : Element L g
  other = element_of L t across.0

  -- with any two rows of four in their places, f's first
  module _ (row row' : List ℕ) (long : length row ≡ 4) (long' : length row' ≡ 4) where
    abbrev one : List ℕ
    one = with_row f row L

    abbrev two : List ℕ
    two = with_row g row' one

    same_long : length one ≡ length L
    same_long = row_length f row L long mine

    still : Element one g
    still = (other.0, omega (arith, other.1, same_long))

    pub at_mine : (j : ℕ) → j < 4 → at two (4 * (f - 1) + j) ≡ at row j
    at_mine j h =
        row_other g row' one long' still (4 * (f - 1) + j) (λ e. apart (omega (arith, mine.0))) ∙ row_entry_lem f row L long mine j h

    pub at_other : (j : ℕ) → j < 4 → at two (4 * (g - 1) + j) ≡ at row' j
    at_other j h = row_entry_lem g row' one long' still j h

    pub put_twice : at row 3 ≡ 0 → at row' 3 ≡ 0 → Replaced L two f g
    put_twice z z' =
        record {
          mine = mine;
          other = other;
          long = row_length g row' one long' still ∙ same_long;
          mine_three = three_corners_lem L f x.mine_three;
          other_three = three_corners_lem L g x.other_three;
          mine_still = at_mine 3 (omega arith) ∙ z;
          other_still = at_other 3 (omega arith) ∙ z';
          rest = λ p d e. row_other g row' one long' still p e ∙ row_other f row L long mine p d;
        }

    -- the corners of the two rows, as origins
    pub origin_mine : (i : ℕ) → 1 ≤ i → i ≤ 4 → origin two (8 * f + i) ≡ at row (i - 1)
    unfolding origin slot
    origin_mine i l h =
        let p : slot (8 * f + i) ≡ 4 * (f - 1) + (i - 1) = omega arith in ap (at two) p ∙ at_mine (i - 1) (omega arith)

    pub origin_other : (i : ℕ) → 1 ≤ i → i ≤ 4 → origin two (8 * g + i) ≡ at row' (i - 1)
    unfolding origin slot
    origin_other i l h =
        let p : slot (8 * g + i) ≡ 4 * (g - 1) + (i - 1) = omega arith in ap (at two) p ∙ at_other (i - 1) (omega arith)

  -- (c,a,d) and (d,b,c)
  pub swapped_replaced : Replaced L (swapped L s) f g
  unfolding swapped flipped
  swapped_replaced = put_twice (flipped L s t) (flipped L t s) refl refl refl refl
