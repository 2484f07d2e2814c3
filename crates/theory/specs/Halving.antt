-- A list with one triangle halved, document 02, point 6: "A triangle (a,b,c) becomes (a,v,c) and appended (v,b,c)".
-- Assumes nothing.
use Rattle.std.specs.Prelude.{◌≡◌, not, ◌⊎◌, List, T}
use Rattle.std.proofs.Math.Path.{ap}
use Rattle.std.proofs.Common.{sym, ◌∙◌, inl, inr, arith}
use Rattle.std.proofs.Math.Bool.{Bool, true, false}
use Prim.Native.Nat.{ℕ, ◌+◌, ◌*◌, ◌-◌, ◌/◌, ◌%◌, ◌≤◌, ◌<◌}
use Rattle.std.proofs.Math.Dec.{eqb}
use Rattle.std.proofs.Math.ListN.{length, length-append, length-set, get_or-append}
use Rattle.std.proofs.Math.Seq.{get_or-append-add}
use Rattle.lists.specs.TestLaws.{means_not, means_eq}
use Rattle.lists.specs.Search.{at}
use Rattle.lists.specs.SearchLaws.{le_or_lt}
use Rattle.lists.specs.Parts.{at_part, length_part}
use Rattle.lists.specs.Stores.{at_same, at_other}
use Rattle.rules.specs.Elements.{elements, row, sides_by, sides, element, number, Side, slot, origin}
use Rattle.rules.specs.Elements.{next_number, previous_number, next, previous, first_side}
use Rattle.rules.specs.Pairing.{Element}
use Rattle.edit_rules.specs.Split.{with_corner, halved}
use Rattle.rules.specs.Tables.{columns}
use Rattle.theory.specs.Sides.{side_facts, side_of_lem, slot_below, slot_inj}
use Rattle.theory.specs.Least.{First, nobody, somebody, first_side_lem, first_is}
use Rattle.theory.specs.Steps.{next_numbered, next_side_lem, previous_numbered}
use Rattle.theory.specs.Meeting.{element_of}
use Rattle.theory.specs.Triangles.{TriangleSide, next_of_three, previous_of_three}
use Rattle.theory.specs.Refining.{Kept}

-- where corner i of element f stands, and that it stands there alone
place : (f i : ℕ) → 1 ≤ i → i ≤ 4 → slot (8 * f + i) ≡ 4 * (f - 1) + (i - 1)
unfolding slot
place f i l h = omega arith

place_inj : (r i : ℕ) → 1 ≤ i → 1 ≤ r % 8 → 4 * (r / 8 - 1) + (i - 1) ≡ slot r → i ≡ r % 8
unfolding slot
place_inj r i l h e = omega arith

-- r is a side of a triangle, in a list of whole rows
pub record Halvable (L : List ℕ) (r : ℕ) : Type 0 where
  pub fours : length L ≡ 4 * elements L
  pub side : Side L r
  pub triangle : sides L (r / 8) ≡ 3

module _ {L : List ℕ} {r : ℕ} (v : ℕ) (y : Halvable L r) where
  abbrev M : List ℕ
  M = halved L r v

  pub front_long : length (with_corner L (next L r) v) ≡ length L
  unfolding with_corner
  front_long = length-set L (slot (next L r)) v

  row_long : length (row (with_corner L r v) (element r)) ≡ 4
  unfolding with_corner
  row_long = length_part (4 * (r / 8 - 1)) 4 (with_corner L r v) (omega (arith, side_facts L r y.side, length-set L (slot r) v))

  -- one row more
  pub halved_length : length M ≡ length L + 4
  unfolding halved
  halved_length =
      let front = with_corner L (next L r) v in
      let last = row (with_corner L r v) (element r) in
      let sum : length front + length last ≡ length L + 4 = omega (arith, front_long, row_long) in
      length-append front last ∙ sum

  pub halved_size : elements M ≡ elements L + 1
  halved_size = omega (arith, halved_length, y.fours)

  pub halved_fours : length M ≡ 4 * elements M
  halved_fours = omega (arith, halved_length, y.fours)

  -- the rows of L have v for the destination of r
  pub at_stays : (p : ℕ) → p < length L → (p ≡ slot (next L r) → ⊥) → at M p ≡ at L p
  unfolding halved with_corner
  at_stays p h d =
      get_or-append (with_corner L (next L r) v) _ 0 p (omega (arith, front_long)) ∙ at_other L (slot (next L r)) v p d

  at_next : at M (slot (next L r)) ≡ v
  unfolding halved with_corner
  at_next =
      let h = slot_below L (next L r) (next_side_lem L r y.side) in
      get_or-append (with_corner L (next L r) v) _ 0 (slot (next L r)) (omega (arith, front_long)) ∙ at_same L (slot (next L r)) v h

  -- the row after them is that of r, with v for its origin
  pub at_appended : (j : ℕ) → j < 4 → at M (length L + j) ≡ at (with_corner L r v) (4 * (r / 8 - 1) + j)
  unfolding halved
  at_appended j h =
      ap (λ (k : ℕ). at M (k + j)) (sym front_long)
      ∙ get_or-append-add (with_corner L (next L r) v) (row (with_corner L r v) (element r)) j 0
      ∙ at_part (4 * (r / 8 - 1)) 4 (with_corner L r v) j h

  at_copied : (j : ℕ) → j < 4 → (4 * (r / 8 - 1) + j ≡ slot r → ⊥) → at M (length L + j) ≡ at L (4 * (r / 8 - 1) + j)
  unfolding with_corner
  at_copied j h d = at_appended j h ∙ at_other L (slot r) v (4 * (r / 8 - 1) + j) d

  -- r has one of the first three places in its row, and so has the next side
  number_three : (1 ≤ r % 8) × (r % 8 ≤ 3)
  number_three = omega (arith, side_facts L r y.side, y.triangle)

  pub next_is : next L r ≡ 8 * (r / 8) + (r % 8 % 3 + 1)
  next_is = next_of_three L r y.side y.triangle

  previous_is : previous L r ≡ 8 * (r / 8) + ((r % 8 + 1) % 3 + 1)
  previous_is = previous_of_three L r y.side y.triangle

  -- elements have as many sides as they had, and the new one has three
  sides_stay : (f : ℕ) → Element L f → sides M f ≡ sides L f
  unfolding slot
  sides_stay f el =
      ap sides_by
      (at_stays (4 * (f - 1) + 3) (omega (arith, y.fours)) (λ e. omega (arith, el, next_is, side_facts L r y.side)))

  pub new_three : sides M (elements L + 1) ≡ 3
  unfolding slot
  new_three =
      let p : 4 * (elements L + 1 - 1) + 3 ≡ length L + 3 = omega (arith, y.fours) in
      ap sides_by (ap (at M) p ∙ at_copied 3 (omega arith) (λ e. omega (arith, number_three))) ∙ y.triangle

  -- sides of L are sides of M, and follow one another as they did
  pub side_stays : (q : ℕ) → Side L q → Side M q
  side_stays q a =
      let i = side_facts L q a in
      let e = sides_stay (q / 8) (element_of L q a) in
      side_of_lem M q i.element_from (omega (arith, i, halved_size)) i.number_from (omega (arith, i, e))

  next_stays : (q : ℕ) → Side L q → next M q ≡ next L q
  unfolding next
  next_stays q a = ap (λ (k : ℕ). 8 * element q + next_number k (number q)) (sides_stay (q / 8) (element_of L q a))

  previous_stays : (q : ℕ) → Side L q → previous M q ≡ previous L q
  unfolding previous
  previous_stays q a = ap (λ (k : ℕ). 8 * element q + previous_number k (number q)) (sides_stay (q / 8) (element_of L q a))

  -- the others are those of the new triangle
  pub side_new : (i : ℕ) → 1 ≤ i → i ≤ 3 → Side M (8 * (elements L + 1) + i)
  side_new i l h =
      let e : (8 * (elements L + 1) + i) / 8 ≡ elements L + 1 = omega arith in
      side_of_lem M (8 * (elements L + 1) + i) (omega arith) (omega (arith, halved_size)) (omega arith) (omega (arith, new_three, ap (sides M) e))

  pub old_or_new : (q : ℕ) → Side M q → Side L q ⊎ (q / 8 ≡ elements L + 1)
  old_or_new q a = go (le_or_lt (q / 8) (elements L))
    where
      go : (q / 8 ≤ elements L) ⊎ (elements L < q / 8) → Side L q ⊎ (q / 8 ≡ elements L + 1)
      go (inl h) =
          let i = side_facts M q a in
          let e = sides_stay (q / 8) (i.element_from, h) in
          inl (side_of_lem L q i.element_from h i.number_from (omega (arith, i, e)))
      go (inr h) = inr (omega (arith, side_facts M q a, halved_size))

  -- every side of L but the next one begins where it did
  origin_stays : (q : ℕ) → Side L q → (q ≡ next L r → ⊥) → origin M q ≡ origin L q
  unfolding origin
  origin_stays q a d =
      at_stays (slot q) (slot_below L q a) (λ e. d (slot_inj L q (next L r) a (next_side_lem L r y.side) e))

  origin_next : origin M (next L r) ≡ v
  unfolding origin
  origin_next = at_next

  -- and so does every side of the new triangle but the one for r
  origin_copied : (i : ℕ) → 1 ≤ i → i ≤ 3 → (i ≡ r % 8 → ⊥) → origin M (8 * (elements L + 1) + i) ≡ origin L (8 * (r / 8) + i)
  unfolding origin
  origin_copied i l h d =
      let p : slot (8 * (elements L + 1) + i) ≡ length L + (i - 1) = omega (arith, y.fours, place (elements L + 1) i l (omega arith)) in
      ap (at M) p
      ∙ at_copied (i - 1) (omega arith) (λ e. d (place_inj r i l number_three.0 e))
      ∙ ap (at L) (sym (place (r / 8) i l (omega arith)))

  abbrev twin : ℕ
  twin = 8 * (elements L + 1) + r % 8

  origin_twin : origin M twin ≡ v
  unfolding origin slot with_corner
  origin_twin =
      let p : slot twin ≡ length L + (r % 8 - 1) = omega (arith, y.fours, number_three) in
      ap (at M) p ∙ at_appended (r % 8 - 1) (omega (arith, number_three)) ∙ at_same L (slot r) v (slot_below L r y.side)

  module _ {a b c : ℕ} (x : TriangleSide L r a b c) where
    -- "(a,v,c)"
    pub near : TriangleSide M r a v c
    near =
        let n = next_is in
        let p = previous_is in
        let z = (previous_numbered L r y.side).side in
        let i = number_three in
        record {
          runs = record {
            side = side_stays r y.side;
            from = origin_stays r y.side (λ e. omega arith) ∙ x.runs.from;
            to = ap (origin M) (next_stays r y.side) ∙ origin_next;
          };
          third = ap (origin M) (previous_stays r y.side) ∙ origin_stays (previous L r) z (λ e. omega arith) ∙ x.third;
          triangle = sides_stay (r / 8) (element_of L r y.side) ∙ y.triangle;
        }

    -- "(v,b,c)"
    pub far : TriangleSide M twin v b c
    far =
        let i = number_three in
        let d = side_new (r % 8) i.0 i.1 in
        let e : twin / 8 ≡ elements L + 1 = omega arith in
        let three : sides M (twin / 8) ≡ 3 = ap (sides M) e ∙ new_three in
        let n : next M twin ≡ 8 * (elements L + 1) + (r % 8 % 3 + 1) = omega (arith, next_of_three M twin d three) in
        let p : previous M twin ≡ 8 * (elements L + 1) + ((r % 8 + 1) % 3 + 1) = omega (arith, previous_of_three M twin d three) in
        record {
          runs = record {
            side = d;
            from = origin_twin;
            to =
                ap (origin M) n
                ∙ origin_copied (r % 8 % 3 + 1) (omega arith) (omega arith) (λ z. omega arith)
                ∙ ap (origin L) (sym next_is)
                ∙ x.runs.to;
          };
          third =
              ap (origin M) p
              ∙ origin_copied ((r % 8 + 1) % 3 + 1) (omega arith) (omega arith) (λ z. omega arith)
              ∙ ap (origin L) (sym previous_is)
              ∙ x.third;
          triangle = three;
        }

  -- a side of another element begins where it did
  origin_elsewhere : (q : ℕ) → (q / 8 ≡ r / 8 → ⊥) → Side L q → origin M q ≡ origin L q
  origin_elsewhere q apart a =
      origin_stays q a (λ e. apart (ap (λ (k : ℕ). k / 8) e ∙ (next_numbered L r y.side).same))

  module _ (q : ℕ) (apart : q / 8 ≡ r / 8 → ⊥) where
    pub kept_elsewhere : Side L q → Kept L M q
    kept_elsewhere a =
        record {
          side = side_stays q a;
          from = origin_elsewhere q apart a;
          follows = next_stays q a;
          sided = sides_stay (q / 8) (element_of L q a);
        }

    pub triangle_elsewhere : {a b c : ℕ} → TriangleSide L q a b c → TriangleSide M q a b c
    triangle_elsewhere x =
        let d = x.runs.side in
        let i = next_numbered L q d in
        let j = previous_numbered L q d in
        record {
          runs = record {
            side = side_stays q d;
            from = origin_elsewhere q apart d ∙ x.runs.from;
            to = ap (origin M) (next_stays q d) ∙ origin_elsewhere (next L q) (λ e. apart (sym i.same ∙ e)) i.side ∙ x.runs.to;
          };
          third = ap (origin M) (previous_stays q d) ∙ origin_elsewhere (previous L q) (λ e. apart (sym j.same ∙ e)) j.side ∙ x.third;
          triangle = sides_stay (q / 8) (element_of L q d) ∙ x.triangle;
        }

  -- no fourth side comes or goes
  pub columns_stay : columns M ≡ columns L
  unfolding columns
  columns_stay = ap (λ (q : ℕ). elim (eqb q 0) [ true ↦ 3 | false ↦ 4 ]) (first_is M fourth (first_side L fourth) (go (first_side_lem L fourth)))
    where
      fourth : ℕ → Bool
      fourth q = eqb (number q) 4

      old : (q : ℕ) → Side M q → (Side L q → T (not (fourth q))) → T (not (fourth q))
      old q a f =
          elim (old_or_new q a) [
            | inl b ↦ f b
            | inr e ↦ (means_not (means_eq (q % 8) 4)).shows (λ z. omega (arith, side_facts M q a, ap (sides M) e, new_three))
          ]

      go : {q : ℕ} → First L fourth q → First M fourth q
      go (nobody e f) = nobody e (λ q a. old q a (f q))
      go (somebody a u f) = somebody (side_stays _ a) u (λ q b h. old q b (λ c. f q c h))
