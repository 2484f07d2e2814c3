-- A diagonal named from either side is swapped alike. Swapping the new diagonal as well: the two old triangles come back in each other's rows
-- and turned, and the list is accepted again.
-- Assumes nothing.
use Rattle.std.specs.Prelude.{◌≡◌, ℕ, ◌+◌, ◌*◌, ◌/◌}
use Rattle.std.proofs.Math.Path.{refl, ap, sym}
use Rattle.std.proofs.Common.{◌∙◌}
use mathlib.Core.List.{List, [], ◌∷◌}
use native.Mathlib.Omega.{arith}
use Rattle.rules.specs.Elements.{sides, origin}
use Rattle.rules.specs.Pairing.{Accepted}
use Rattle.rules.specs.Tables.{partner}
use Rattle.edit_rules.specs.Edits.{with_row}
use Rattle.edit_rules.specs.Swap.{third, flipped, swapped}
use Rattle.theory.specs.Sides.{side_positive}
use Rattle.theory.specs.FitRows.{Fit}
use Rattle.theory.specs.Triangles.{TriangleSide}
use Rattle.theory.specs.Rows.{rows_alike, rows_either_way}
use Rattle.theory.specs.Replacing.{Replaced}
use Rattle.theory.specs.Turned.{Turned, turned_accepted}
use Rattle.theory.specs.Orders.{Good}
use Rattle.theory.specs.Counterparts.{Crossed, paired_across, crossed_swapped}
use Rattle.theory.specs.Swapping.{Diagonal, across, starts, ends, apart, mine, other, put_twice, origin_mine, origin_other, swapped_replaced}

-- the other side of a diagonal is one
module _ (n : ℕ) (L : List ℕ) (g : Good n L) (s : ℕ) (x : Diagonal L s) where
  back : partner L (partner L s) ≡ s
  back = (g.pairing.mutually s x.side x.paired).1

  pub other_diagonal : Diagonal L (partner L s)
  other_diagonal =
      record {
        side = (across n L g.fit s x).0;
        paired = λ z. side_positive L s x.side (sym back ∙ z);
        mine_three = x.other_three;
        other_three = ap (λ (r : ℕ). sides L (r / 8)) back ∙ x.mine_three;
      }

  pub swapped_alike : swapped L (partner L s) ≡ swapped L s
  unfolding swapped flipped
  swapped_alike =
      let t = partner L s in
      ap (λ (r : ℕ). with_row (r / 8) (flipped L r t) (with_row (t / 8) (flipped L t r) L)) back
      ∙ rows_either_way (s / 8) (t / 8) (flipped L s t) (flipped L t s) L refl refl (mine n L g.fit s x) (other n L g.fit s x)
      (apart n L g.fit s x)

-- the rows (a,d,b) of s and (b,c,a) of t: the other's triangle in each, turned
unfoldable pub turned_back : List ℕ → ℕ → List ℕ
turned_back L s =
    let t = partner L s in
    with_row (t / 8) (origin L t ∷ third L s ∷ origin L s ∷ 0 ∷ []) (with_row (s / 8) (origin L s ∷ third L t ∷ origin L t ∷ 0 ∷ []) L)

module _ (n : ℕ) (L : List ℕ) (fit : Fit n L) (s : ℕ) (x : Diagonal L s) where
  abbrev t : ℕ
  t = partner L s

  abbrev f : ℕ
  f = s / 8

  abbrev g : ℕ
  g = t / 8

  abbrev L' : List ℕ
  L' = swapped L s

  replaced : Replaced L L' f g
  replaced = swapped_replaced n L fit s x

  -- the corners of the new rows: (c,a,d) and (d,b,c)
  pub crossed : Crossed L L' s t
  unfolding swapped flipped third
  crossed =
      let mine_at = origin_mine n L fit s x (flipped L s t) (flipped L t s) refl refl in
      let other_at = origin_other n L fit s x (flipped L s t) (flipped L t s) refl refl in
      record {
        replaced = replaced;
        mine = x.side;
        other = (across n L fit s x).0;
        apart = apart n L fit s x;
        across = (across n L fit s x).1;
        mine_first = mine_at 1 (omega arith) (omega arith);
        mine_second = mine_at 2 (omega arith) (omega arith);
        mine_third = mine_at 3 (omega arith) (omega arith);
        other_first = other_at 1 (omega arith) (omega arith);
        other_second = other_at 2 (omega arith) (omega arith);
        other_third = other_at 3 (omega arith) (omega arith);
      }

  -- the new diagonal, from either side: d to c with a before it, c to d with b before it
  abbrev pub s' : ℕ
  s' = 8 * f + 3

  abbrev pub t' : ℕ
  t' = 8 * g + 3

  new_mine : TriangleSide L' s' (third L t) (third L s) (origin L s)
  unfolding third
  new_mine = (crossed_swapped crossed).new.one

  new_other : TriangleSide L' t' (third L s) (third L t) (origin L t)
  unfolding third
  new_other = (crossed_swapped crossed).new.other

  -- what the rows of both lists hold: (a,d,b) and (b,c,a)
  abbrev row : List ℕ
  row = origin L s ∷ third L t ∷ origin L t ∷ 0 ∷ []

  abbrev row' : List ℕ
  row' = origin L t ∷ third L s ∷ origin L s ∷ 0 ∷ []

  -- where the new list is accepted, its own pairing pairs them, and they can be swapped
  module _ (new : Good n L') where
    pub new_partner : partner L' s' ≡ t'
    new_partner = paired_across (crossed_swapped crossed).new new.pairing

    pub new_diagonal : Diagonal L' s'
    new_diagonal =
        record {
          side = new_mine.runs.side;
          paired = λ z. side_positive L' t' new_other.runs.side (sym new_partner ∙ z);
          mine_three = new_mine.triangle;
          other_three = ap (λ (r : ℕ). sides L' (r / 8)) new_partner ∙ new_other.triangle;
        }

    flips_mine : flipped L' s' t' ≡ row
    unfolding flipped third
    flips_mine = rw (new_mine.third, new_mine.runs.from, new_other.third) refl

    flips_other : flipped L' t' s' ≡ row'
    unfolding flipped third
    flips_other = rw (new_other.third, new_other.runs.from, new_mine.third) refl

    pub swapped_again : swapped L' s' ≡ turned_back L s
    unfolding swapped turned_back
    swapped_again =
        let e : s' / 8 ≡ f = omega arith in
        let d : t' / 8 ≡ g = omega arith in
        ap (λ (r : ℕ). with_row (r / 8) (flipped L' r s') (with_row (s' / 8) (flipped L' s' r) L')) new_partner
        ∙ ap (λ (X : List ℕ). with_row (t' / 8) X (with_row (s' / 8) (flipped L' s' t') L')) flips_other
        ∙ ap (λ (X : List ℕ). with_row (t' / 8) row' (with_row (s' / 8) X L')) flips_mine
        ∙ ap (λ (i : ℕ). with_row (t' / 8) row' (with_row i row L')) e
        ∙ ap (λ (i : ℕ). with_row i row' (with_row f row L')) d
        ∙ rows_alike f g row row' L L' refl refl (mine n L fit s x) (other n L fit s x) replaced.long replaced.rest

  -- the same triangles under other codes
  turned : Turned L (turned_back L s) s t
  unfolding turned_back third
  turned =
      let mine_at = origin_mine n L fit s x row row' refl refl in
      let other_at = origin_other n L fit s x row row' refl refl in
      record {
        replaced = put_twice n L fit s x row row' refl refl refl refl;
        mine = x.side;
        other = (across n L fit s x).0;
        apart = apart n L fit s x;
        mine_first = mine_at 1 (omega arith) (omega arith) ∙ starts n L fit s x;
        mine_second = mine_at 2 (omega arith) (omega arith);
        mine_third = mine_at 3 (omega arith) (omega arith);
        other_first = other_at 1 (omega arith) (omega arith) ∙ sym (ends n L fit s x);
        other_second = other_at 2 (omega arith) (omega arith);
        other_third = other_at 3 (omega arith) (omega arith);
      }

  pub back_accepted : Accepted n L → Accepted n (turned_back L s)
  back_accepted = turned_accepted turned
