-- The list that is held stands at the front of the one that is lent: what is read of a row or a side in the one is read in the other.
-- Assumes nothing.
use Rattle.std.specs.Prelude.{◌≡◌, List, ℕ, ◌+◌, ◌*◌, ◌-◌, ◌/◌, ◌%◌, ◌≤◌, length, take}
use Rattle.std.proofs.Math.Path.{ap}
use Rattle.std.proofs.Common.{◌∙◌, arith, length-take-le}
use Rattle.std.proofs.Math.Seq.{get_or-take}
use Rattle.lists.specs.Parts.{part_take}
use Rattle.rules.specs.Elements.{elements, row, sides_by, sides, Side, slot, origin, next_number, next, destination}
use Rattle.theory.specs.Sides.{side_facts, side_of_lem, slot_below}
use Rattle.theory.specs.Steps.{next_side_lem}

module _ (m : ℕ) (list : List ℕ) (inside : 4 * m ≤ length list) where
  abbrev L : List ℕ
  L = take (4 * m) list

  pub held_length : length L ≡ 4 * m
  held_length = length-take-le (4 * m) list inside

  pub held_elements : elements L ≡ m
  held_elements = omega (arith, held_length)

  pub held_row : (f : ℕ) → 1 ≤ f → f ≤ m → row L f ≡ row list f
  held_row f a b = part_take (4 * (f - 1)) 4 (4 * m) list (omega arith) inside

  held_sides : (f : ℕ) → 1 ≤ f → f ≤ m → sides L f ≡ sides list f
  held_sides f a b = ap sides_by (get_or-take (4 * m) list (4 * (f - 1) + 3) 0 (omega arith))

  module _ (s : ℕ) (a : Side L s) where
    pub held_inside : (1 ≤ s / 8) × (s / 8 ≤ m)
    held_inside = let i = side_facts L s a in (i.element_from, omega (arith, i.element_to, held_elements))

    same_sides : sides L (s / 8) ≡ sides list (s / 8)
    same_sides = held_sides (s / 8) held_inside.0 held_inside.1

    pub held_side : Side list s
    held_side =
        let i = side_facts L s a in
        side_of_lem list s i.element_from (omega (arith, held_inside)) i.number_from (omega (arith, i.number_to, same_sides))

    pub held_origin : origin L s ≡ origin list s
    unfolding origin
    held_origin = get_or-take (4 * m) list (slot s) 0 (omega (arith, slot_below L s a, held_length))

    pub held_next : next L s ≡ next list s
    unfolding next
    held_next = ap (λ (k : ℕ). 8 * (s / 8) + next_number k (s % 8)) same_sides

  pub held_destination : (s : ℕ) → Side L s → destination L s ≡ destination list s
  held_destination s a = held_origin (next L s) (next_side_lem L s a) ∙ ap (origin list) (held_next s a)
