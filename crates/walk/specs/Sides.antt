-- E2e in the work buffer, and the turn and the start of the walk by what is read there.
-- Assumes nothing.
use Rattle.std.specs.Prelude.{◌≡◌, Bool, List, ℕ, ◌+◌, ◌*◌, ◌-◌, ◌/◌, ◌%◌, ◌≤◌, ◌<◌, length}
use Rattle.std.proofs.Math.Path.{ap, sym}
use Rattle.std.proofs.Common.{◌∙◌, arith}
use Rattle.std.proofs.Math.Bool.{true, false}
use Rattle.std.proofs.Math.Dec.{eqb, not_T}
use Rattle.lists.specs.Tests.{within}
use Rattle.lists.specs.TestLaws.{true_of, false_of, Means, means_eq, means_not, means_within}
use Rattle.lists.specs.Search.{at}
use Rattle.lists.specs.Parts.{part, at_part, length_part}
use Rattle.rules.specs.Elements.{elements, number, is_side, Side, slot, next, first_side}
use Rattle.rules.specs.Recovery.{side_of_border, walk_start, turn_by}
use Rattle.theory.specs.Sides.{slot_below}
use Rattle.theory.specs.Least.{First, first_side_lem}
use Rattle.walk.specs.Layout.{Sizes, e2e_in, Linked}

-- E2e as it is lent, from n to n + 4m
pub lent : (n m : ℕ) (w : List ℕ) → part n (n + 4 * m - n) w ≡ e2e_in n m w
lent n m w = let e : n + 4 * m - n ≡ 4 * m = omega arith in rw e

module _ (n m : ℕ) (w : List ℕ) (z : Sizes n m w) where
  pub e_length : length (e2e_in n m w) ≡ 4 * m
  e_length = length_part n (4 * m) w (omega (arith, z.long))

  pub e_elements : elements (e2e_in n m w) ≡ m
  e_elements = omega (arith, e_length)

  pub e_at : (i : ℕ) → i < 4 * m → at (e2e_in n m w) i ≡ at w (n + i)
  e_at i h = at_part n (4 * m) w i h

  -- the place of a side
  pub slot_in : (s : ℕ) → Side (e2e_in n m w) s → slot s < 4 * m
  slot_in s a = omega (arith, slot_below (e2e_in n m w) s a, e_length)

-- the turn of s by the entry at its place
module _ (E : List ℕ) (s : ℕ) {p : ℕ} (placed : p ≡ slot s) {r : Bool} (tested : r ≡ is_side E (at E p)) where
  entry_tested : (b : Bool) → r ≡ b → is_side E (at E (slot s)) ≡ b
  entry_tested b e = rw placed at (sym tested ∙ e)

  pub turn_none : r ≡ false → 0 ≡ turn_by E s
  unfolding turn_by
  turn_none e = rw (entry_tested false e, turn_by)

  pub turn_next : r ≡ true → {x : ℕ} → x ≡ next E (at E p) → x ≡ turn_by E s
  unfolding turn_by
  turn_next e q = rw (entry_tested true e, turn_by) (q ∙ ap (λ (i : ℕ). next E (at E i)) placed)

-- the walk about a vertex whose entry c is no border begins with c
pub start_side_lem : (E : List ℕ) (c : ℕ) {r : Bool} → r ≡ eqb (number c) 0 → r ≡ false → c ≡ walk_start E c
unfolding walk_start
start_side_lem E c e d = let g : eqb (c % 8) 0 ≡ false = sym e ∙ d in rw (g, walk_start)

-- the entry c is the code of border b
pub record Bordered (n m : ℕ) (w : List ℕ) (c b : ℕ) : Type 0 where
  pub sizes : Sizes n m w
  pub linked : Linked n m w
  pub border : number c ≡ 0
  pub split : b ≡ c / 8

module _ (E : List ℕ) (c : ℕ) (border : number c ≡ 0) where
  is_border_lem : eqb (number c) 0 ≡ true
  is_border_lem = true_of (eqb (number c) 0) ((means_eq (number c) 0).shows border)

  start_none : side_of_border E c ≡ 0 → walk_start E c ≡ 0
  unfolding walk_start
  start_none e =
      let h : eqb (side_of_border E c) 0 ≡ true = true_of _ ((means_eq (side_of_border E c) 0).shows e) in
      rw (is_border_lem, h, walk_start)

  start_after : (side_of_border E c ≡ 0 → ⊥) → walk_start E c ≡ next E (side_of_border E c)
  unfolding walk_start
  start_after d =
      let h : eqb (side_of_border E c) 0 ≡ false = false_of _ ((means_not (means_eq (side_of_border E c) 0)).shows d) in
      rw (is_border_lem, h, walk_start)

-- the side that is linked to border b: the walk begins with the side after it
module _ {n m : ℕ} {w : List ℕ} {c b : ℕ} (k : Bordered n m w c b) where
  abbrev E : List ℕ
  E = e2e_in n m w

  abbrev found : ℕ
  found = at w (n + 4 * m + b - 1)

  known : Means (within 1 (length E) (c / 8)) ((1 ≤ b) × (b ≤ 4 * m))
  known =
      let t = means_within 1 (length E) (c / 8) in
      let l = e_length n m w k.sizes in
      record {
        says = λ x. let (f, g) = t.says x in omega (arith, k.split);
        shows = λ (f, g). t.shows (omega (arith, k.split), omega (arith, k.split));
      }

  -- a number that no border has
  pub start_outside : (1 ≤ b → b ≤ 4 * m → ⊥) → 0 ≡ walk_start E c
  unfolding side_of_border
  start_outside f =
      let t = within 1 (length E) (c / 8) in
      let out : t ≡ false = false_of t (not_T t (λ x. let (g, h) = known.says x in f g h)) in
      sym (start_none E c k.border (rw (out, side_of_border)))

  module _ (from : 1 ≤ b) (to : b ≤ 4 * m) where
    read : found ≡ side_of_border E c
    read = let e : 8 * b ≡ c = omega (arith, k.split, k.border) in k.linked b from to ∙ ap (side_of_border E) e

    pub start_unlinked : found ≡ 0 → 0 ≡ walk_start E c
    start_unlinked e = sym (start_none E c k.border (sym read ∙ e))

    pub start_linked : (found ≡ 0 → ⊥) → {x : ℕ} → x ≡ next E found → x ≡ walk_start E c
    start_linked d q = q ∙ ap (next E) read ∙ sym (start_after E c k.border (λ e. d (read ∙ e)))

    -- what is linked is a side
    pub linked_side : (found ≡ 0 → ⊥) → Side E found
    unfolding side_of_border
    linked_side d = rw read (go (first_side_lem E (λ t. eqb (at E (slot t)) c)))
      where
        inside : within 1 (length E) (c / 8) ≡ true
        inside = true_of _ (known.shows (from, to))

        first : side_of_border E c ≡ first_side E (λ t. eqb (at E (slot t)) c)
        first = rw (inside, side_of_border)

        go : First E (λ t. eqb (at E (slot t)) c) (first_side E (λ t. eqb (at E (slot t)) c)) → Side E (side_of_border E c)
        go (First.nobody e f) = absurd (d (read ∙ first ∙ e))
        go (First.somebody b t f) = rw first b
