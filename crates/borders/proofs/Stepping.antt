-- The numbering goes on by one place.
-- Assumes nothing.
use mathlib.Core.Path.{◌≡◌, ap, sym, subst, ◌∙◌}
use mathlib.Core.Bool.{Bool, true, not}
use mathlib.Core.Logic.{◌⊎◌, inl, inr}
use mathlib.Core.List.{List, [], ◌∷◌, ◌++◌}
use Prim.Native.Nat.{ℕ, suc, ◌+◌, ◌*◌, ◌-◌, ◌≤◌, ◌<◌}
use native.Mathlib.Omega.{arith}
use native.Mathlib.Numerals.{add-one}
use lib.Dec.{T, eqb, T_not, not_T}
use lib.ListN.{length, set, length-set}
use lib.Seq.{get_or_at}
use Rattle.lists.specs.TestLaws.{Test, pass, fail, test, decide, passes, both_pass, means_eq}
use Rattle.lists.specs.Search.{at, count, upto}
use Rattle.lists.specs.SearchLaws.{lt_or_eq, le_not_lt, count_pass, count_fail, count_bound, upto_pass, upto_fail, length_upto}
use Rattle.lists.specs.Changes.{at_snoc_other}
use Rattle.lists.specs.Stores.{at_same, at_other}
use Rattle.rules.specs.Elements.{max_element, is_side, Side, slot, origin, destination, next, side_at, side_with, first_side}
use Rattle.rules.specs.Tables.{partner, is_border, border_number, wide}
use Rattle.rules.specs.Siblings.{sibling}
use Rattle.theory.specs.Sides.{side_facts, side_positive, side_at_slot, slot_side_at, slot_below}
use Rattle.theory.specs.Least.{First, nobody, somebody, first_side_lem}
use Rattle.theory.specs.Steps.{next_side_lem}
use Rattle.theory.specs.Entries.{means_border, wide_paired, wide_border, wide_empty}
use Rattle.theory.specs.SiblingUses.{sibling_side}
use Rattle.borders.specs.Numbers.{Matched, Into, Entry, rim, inner, Numbering, Put, kept, put, entered}

pub put_length : {i x : ℕ} {w w' : List ℕ} → Put i x w w' → length w' ≡ length w
put_length (kept e f) = ap length f
put_length {i} {x} {w} (put e f) = ap length f ∙ length-set w i x

-- what is put in, by the code x of border b, b as the index i, the code s of the side and the vertex d where it ends
pub put_read : (n : ℕ) (L w : List ℕ) (p b : ℕ) {x i s d : ℕ} {w' : List ℕ} → x ≡ 8 * b → i ≡ b → s ≡ side_at p → d ≡ destination L (side_at p) →
    Put (d - 1) x (set (set w (n + p) x) (n + length L + i - 1) s) w' → Put (destination L (side_at p) - 1) (8 * b) (entered n L p b w) w'
put_read n L w p b e f g h q = rw (e, f, g, h) at q

module _ {n : ℕ} {L : List ℕ} (m : Matched n L) {p k c : ℕ} {w : List ℕ} (s : Numbering n L p k c w) (inside : p < length L) where
  abbrev is_border_at : ℕ → Bool
  is_border_at = side_with L (is_border L)

  abbrev is_side_at : ℕ → Bool
  is_side_at = side_with L (λ t. true)

  -- the counts fit
  pub few : (k ≤ p) × (c ≤ p)
  few = ((rw s.number (count_bound is_border_at p)), (rw s.sides (count_bound is_side_at p)))

  pub room : (length L ≤ 4 * max_element) × (n + 2 * length L ≤ length w)
  room = omega (arith, m.fit.fours, m.fit.size, s.long)

  -- what stands at p is 0 where there is no side, and else the side's sibling
  sibling_at : Side L (side_at p) → at w (n + p) ≡ sibling L (side_at p)
  sibling_at a =
      ap (λ (i : ℕ). at w (n + i)) (sym (slot_side_at p)) ∙ s.ahead (side_at p) a (rw (slot_side_at p) (omega arith))

  side_not : at w (n + p) ≡ 0 → Side L (side_at p) → ⊥
  side_not e a =
      side_positive L (sibling L (side_at p)) (sibling_side L (side_at p) a) (sym (sibling_at a) ∙ e)

  pub side_here : (at w (n + p) ≡ 0 → ⊥) → Side L (side_at p)
  side_here d = go (test (is_side L (side_at p)))
    where
      go : Test (is_side L (side_at p)) → Side L (side_at p)
      go (pass t e) = t
      go (fail t e) = absurd (d (s.empty p (omega arith) inside (T_not (is_side L (side_at p)) t)))

  -- the side at p is the only one there
  here : (t : ℕ) → Side L t → slot t ≡ p → t ≡ side_at p
  here t a e = sym (side_at_slot L t a) ∙ ap side_at e

  side_count : Side L (side_at p) → c + 1 ≡ count is_side_at (p + 1)
  side_count a =
      add-one c
      ∙ ap suc s.sides
      ∙ sym (ap (count is_side_at) (add-one p) ∙ count_pass is_side_at p (both_pass (is_side L (side_at p)) true a tt))

  -- the entry of a vertex where no border side from p ends
  later : {v x : ℕ} → ((t : ℕ) → Into L v t → slot t ≡ p → ⊥) → Entry L p v x → Entry L (p + 1) v x
  later g (rim t i h f e) = rim t i (omega arith) f e
  later g (inner f e) =
      inner (λ t i h. elim (lt_or_eq (slot t) p (omega arith)) [ inl l ↦ f t i l | inr q ↦ g t i q ]) e

  -- no border side begins at p, and its E2e entry stands
  module _ (free : Side L (side_at p) → partner L (side_at p) ≡ 0 → ⊥) (entry : at w (n + p) ≡ at (wide L) p) where
    no_border : T (not (is_border_at p))
    no_border =
        not_T (is_border_at p)
        (λ t.
        let (a, z) = passes (is_side L (side_at p)) (is_border L (side_at p)) t in
        free a ((means_border L (side_at p)).says z))

    not_here : (v t : ℕ) → Into L v t → slot t ≡ p → ⊥
    not_here v t i q =
        let e = here t i.side q in
        free (subst (Side L) e i.side) (ap (partner L) (sym e) ∙ i.border)

    numbering_on : (c' : ℕ) → c' ≡ count is_side_at (p + 1) → Numbering n L (p + 1) k c' w
    numbering_on c' sides =
        record {
          number = s.number ∙ sym (ap (count is_border_at) (add-one p) ∙ count_fail is_border_at p no_border);
          sides = sides;
          done = λ q h.
              elim (lt_or_eq q p (omega arith))
              [ inl l ↦ s.done q l | inr e ↦ subst (λ (i : ℕ). at w (n + i) ≡ at (wide L) i) (sym e) entry ];
          ahead = λ t a h. s.ahead t a (omega arith);
          empty = λ q h i f. s.empty q (omega arith) i f;
          border = λ j h.
              s.border j h
              ∙ ap (λ (xs : List ℕ). at xs j) (sym (ap (upto is_border_at side_at) (add-one p) ∙ upto_fail is_border_at side_at p no_border));
          vertices = λ v a b. later (not_here v) (s.vertices v a b);
          long = s.long;
        }

  -- no side begins at p
  pub none_on : at w (n + p) ≡ 0 → Numbering n L (p + 1) k c w
  none_on e =
      let none = not_T (is_side L (side_at p)) (side_not e) in
      numbering_on (λ a z. side_not e a) (e ∙ sym (wide_empty L p none)) c
      (s.sides
      ∙ sym (ap (count is_side_at) (add-one p) ∙ count_fail is_side_at p (not_T (is_side_at p) (λ t. side_not e (passes (is_side L (side_at p)) true t).0))))

  -- the side at p is paired
  pub paired_on : (at w (n + p) ≡ 0 → ⊥) → (at w (n + p) ≡ side_at p → ⊥) → Numbering n L (p + 1) k (c + 1) w
  paired_on d e =
      let a = side_here d in
      let o : partner L (side_at p) ≡ at w (n + p) = m.other (side_at p) a (λ q. e (sibling_at a ∙ q)) ∙ sym (sibling_at a) in
      let x : partner L (side_at p) ≡ 0 → ⊥ = λ z. d (sym o ∙ z) in
      numbering_on (λ b z. x z) (sym o ∙ sym (wide_paired L (side_at p) a x) ∙ ap (at (wide L)) (slot_side_at p)) (c + 1) (side_count a)

  -- the side at p is a border side
  module _ (a : Side L (side_at p)) (same : at w (n + p) ≡ side_at p) where
    pub ends_fit : (1 ≤ destination L (side_at p)) × (destination L (side_at p) ≤ n)
    ends_fit =
        let b = next_side_lem L (side_at p) a in (m.fit.from (next L (side_at p)) b, m.fit.to (next L (side_at p)) b)

    -- a side begins where this one ends, so the least one there is a side
    least_there : {v : ℕ} → v ≡ destination L (side_at p) → Side L (first_side L (λ t. eqb (origin L t) v))
    least_there {v} e = go (first_side_lem L (λ t. eqb (origin L t) v))
      where
        go : {c : ℕ} → First L (λ t. eqb (origin L t) v) c → Side L c
        go (nobody z f) =
            let t = next L (side_at p) in
            absurd (T_not (eqb (origin L t) v) (f t (next_side_lem L (side_at p) a)) ((means_eq (origin L t) v).shows (sym e)))
        go (somebody b t f) = b

    lone : partner L (side_at p) ≡ 0
    lone = m.lone (side_at p) a (sym (sibling_at a) ∙ same)

    border_here : T (is_border_at p)
    border_here = both_pass (is_side L (side_at p)) (is_border L (side_at p)) a ((means_border L (side_at p)).shows lone)

    own_number : border_number L (side_at p) ≡ k + 1
    unfolding border_number
    own_number = ap (λ (q : ℕ). count is_border_at q + 1) (slot_side_at p) ∙ ap (λ (i : ℕ). i + 1) (sym s.number)

    abbrev both_entered : List ℕ
    both_entered = entered n L p (k + 1) w

    entered_wide : at both_entered (n + p) ≡ 8 * (k + 1)
    entered_wide =
        at_other (set w (n + p) (8 * (k + 1))) (n + length L + (k + 1) - 1) (side_at p) (n + p) (λ e. omega arith)
        ∙ at_same w (n + p) (8 * (k + 1)) (omega (arith, room))

    entered_b2e : at both_entered (n + length L + (k + 1) - 1) ≡ side_at p
    entered_b2e =
        at_same (set w (n + p) (8 * (k + 1))) (n + length L + (k + 1) - 1) (side_at p)
        (rw (length-set w (n + p) (8 * (k + 1))) (omega (arith, room, few)))

    entered_rest : (j : ℕ) → (j ≡ n + p → ⊥) → (j ≡ n + length L + (k + 1) - 1 → ⊥) → at both_entered j ≡ at w j
    entered_rest j d e =
        at_other (set w (n + p) (8 * (k + 1))) (n + length L + (k + 1) - 1) (side_at p) j e ∙ at_other w (n + p) (8 * (k + 1)) j d

    entered_long : length both_entered ≡ length w
    entered_long =
        length-set (set w (n + p) (8 * (k + 1))) (n + length L + (k + 1) - 1) (side_at p) ∙ length-set w (n + p) (8 * (k + 1))

    listed : upto is_border_at side_at (p + 1) ≡ upto is_border_at side_at p ++ (side_at p ∷ [])
    listed = ap (upto is_border_at side_at) (add-one p) ∙ upto_pass is_border_at side_at p border_here

    last : length (upto is_border_at side_at p) ≡ k
    last = length_upto is_border_at side_at p ∙ sym s.number

    b2e_more : (j : ℕ) → j < length L → at both_entered (n + length L + j) ≡ at (upto is_border_at side_at (p + 1)) j
    b2e_more j h = rw listed (go (decide (means_eq j k)))
      where
        go : (j ≡ k) ⊎ (j ≡ k → ⊥) → at both_entered (n + length L + j) ≡ at (upto is_border_at side_at p ++ (side_at p ∷ [])) j
        go (inl e) =
            let i : n + length L + j ≡ n + length L + (k + 1) - 1 = omega arith in
            ap (at both_entered) i
            ∙ entered_b2e
            ∙ sym (get_or_at (upto is_border_at side_at p) (side_at p) [] 0 j (last ∙ sym e))
        go (inr d) =
            entered_rest (n + length L + j) (λ e. omega arith) (λ e. d (omega arith))
            ∙ s.border j h
            ∙ sym (at_snoc_other (upto is_border_at side_at p) (side_at p) j (λ e. d (e ∙ last)))

    module _ {w' : List ℕ} (q : Put (destination L (side_at p) - 1) (8 * (k + 1)) both_entered w') where
      off : (j : ℕ) → (j ≡ destination L (side_at p) - 1 → ⊥) → at w' j ≡ at both_entered j
      off j d = go q
        where
          go : Put (destination L (side_at p) - 1) (8 * (k + 1)) both_entered w' → at w' j ≡ at both_entered j
          go (kept e f) = ap (λ (u : List ℕ). at u j) f
          go (put e f) = ap (λ (u : List ℕ). at u j) f ∙ at_other both_entered (destination L (side_at p) - 1) (8 * (k + 1)) j d

      table : (j : ℕ) → at w' (n + j) ≡ at both_entered (n + j)
      table j = off (n + j) (λ e. omega (arith, ends_fit))

      table_rest : (j : ℕ) → j < length L → (j ≡ p → ⊥) → at w' (n + j) ≡ at w (n + j)
      table_rest j h d = table j ∙ entered_rest (n + j) (λ e. d (omega arith)) (λ e. omega arith)

      -- the entry of the vertex where the side ends
      own_entry : {v : ℕ} → v ≡ destination L (side_at p) → Put (v - 1) (8 * (k + 1)) both_entered w' → Entry L p v (at w (v - 1)) → Entry L (p + 1) v (at w' (v - 1))
      own_entry {v} at-v q x = go q x
        where
          before : at both_entered (v - 1) ≡ at w (v - 1)
          before = entered_rest (v - 1) (λ e. omega (arith, ends_fit)) (λ e. omega (arith, ends_fit))

          go : Put (v - 1) (8 * (k + 1)) both_entered w' → Entry L p v (at w (v - 1)) → Entry L (p + 1) v (at w' (v - 1))
          go (kept e f) (rim t i h g x) =
              rim t i (omega arith) g (ap (λ (u : List ℕ). at u (v - 1)) f ∙ before ∙ x)
          go (kept e f) (inner g x) = absurd (omega (arith, x, before, (side_facts L _ (least_there at-v)).number_from))
          go (put e f) (rim t i h g x) = absurd (e (omega (arith, before)))
          go (put e f) (inner g x) =
              rim (side_at p) (record { side = a; border = lone; ends = sym at-v }) (rw (slot_side_at p) (omega arith))
              (λ t i. rw (slot_side_at p) (le_not_lt p (slot t) (λ h. g t i h)))
              (ap (λ (u : List ℕ). at u (v - 1)) f
              ∙ at_same both_entered (v - 1) (8 * (k + 1)) (rw entered_long (omega (arith, ends_fit, room)))
              ∙ ap (λ (b : ℕ). 8 * b) (sym own_number))

      -- and of any other
      other_entry : (v : ℕ) → 1 ≤ v → v ≤ n → (v ≡ destination L (side_at p) → ⊥) → Entry L p v (at w (v - 1)) → Entry L (p + 1) v (at w' (v - 1))
      other_entry v l h d x =
          let e : at w' (v - 1) ≡ at w (v - 1) = off (v - 1) (λ e. d (omega (arith, ends_fit))) ∙ entered_rest (v - 1) (λ e. omega arith) (λ e. omega arith) in
          rw e (later (λ t i q. d (sym i.ends ∙ ap (destination L) (here t i.side q))) x)

      vertex_on : (v : ℕ) → 1 ≤ v → v ≤ n → Entry L (p + 1) v (at w' (v - 1))
      vertex_on v l h = go (decide (means_eq v (destination L (side_at p))))
        where
          go : (v ≡ destination L (side_at p)) ⊎ (v ≡ destination L (side_at p) → ⊥) → Entry L (p + 1) v (at w' (v - 1))
          go (inl e) = own_entry e (subst (λ (u : ℕ). Put (u - 1) (8 * (k + 1)) both_entered w') (sym e) q) (s.vertices v l h)
          go (inr d) = other_entry v l h d (s.vertices v l h)

      done_on : (j : ℕ) → j < p + 1 → at w' (n + j) ≡ at (wide L) j
      done_on j h = go (lt_or_eq j p (omega arith))
        where
          go : (j < p) ⊎ (j ≡ p) → at w' (n + j) ≡ at (wide L) j
          go (inl l) = table_rest j (omega arith) (λ e. omega arith) ∙ s.done j l
          go (inr e) =
              ap (λ (i : ℕ). at w' (n + i)) e
              ∙ table p
              ∙ entered_wide
              ∙ ap (λ (b : ℕ). 8 * b) (sym own_number)
              ∙ sym (wide_border L (side_at p) a lone)
              ∙ ap (at (wide L)) (slot_side_at p ∙ sym e)

      pub border_on : Numbering n L (p + 1) (k + 1) (c + 1) w'
      border_on =
          record {
            number = add-one k ∙ ap suc s.number ∙ sym (ap (count is_border_at) (add-one p) ∙ count_pass is_border_at p border_here);
            sides = side_count a;
            done = done_on;
            ahead = λ t b h. table_rest (slot t) (slot_below L t b) (λ e. omega arith) ∙ s.ahead t b (omega arith);
            empty = λ j h i f. table_rest j i (λ e. omega arith) ∙ s.empty j (omega arith) i f;
            border = λ j h.
                off (n + length L + j) (λ e. omega (arith, ends_fit)) ∙ b2e_more j h;
            vertices = vertex_on;
            long = put_length q ∙ entered_long ∙ s.long;
          }
