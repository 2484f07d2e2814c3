-- The sides of a triangle: one, the next and the previous one, and how they run.
-- Assumes nothing.
use Rattle.std.specs.Prelude.{◌≡◌, ◌⊎◌, List, ℕ, ◌+◌, ◌*◌, ◌/◌, ◌%◌, ◌≤◌}
use Rattle.std.proofs.Math.Path.{ap}
use Rattle.std.proofs.Common.{◌∙◌, inl, inr}
use native.Mathlib.Omega.{arith}
use Rattle.lists.specs.TestLaws.{decide, means_eq}
use Rattle.rules.specs.Elements.{corner, sides_by, sides, Side, origin, next, previous, destination}
use Rattle.rules.specs.Pairing.{Element}
use Rattle.theory.specs.Sides.{side_facts, side_of_lem}
use Rattle.theory.specs.Steps.{NextNumber, PreviousNumber, wraps, grows, falls, next_number_lem, previous_number_lem}
use Rattle.theory.specs.Steps.{next_numbered, next_side_lem, previous_side_lem, next_previous}

-- side r runs from a to b
pub record Runs (L : List ℕ) (r a b : ℕ) : Type 0 where
  pub side : Side L r
  pub from : origin L r ≡ a
  pub to : destination L r ≡ b

-- s is a side of a triangle, from a to b, and c is the third corner
pub record TriangleSide (L : List ℕ) (s a b c : ℕ) : Type 0 where
  pub runs : Runs L s a b
  pub third : origin L (previous L s) ≡ c
  pub triangle : sides L (s / 8) ≡ 3

-- r is s, or the next, or the previous side
pub data Around (L : List ℕ) (s r : ℕ) : Type 0 where
  itself : r ≡ s → Around L s r
  after : r ≡ next L s → Around L s r
  before : r ≡ previous L s → Around L s r

module _ (L : List ℕ) (s : ℕ) (a : Side L s) (triangle : sides L (s / 8) ≡ 3) where
  -- next counts on from 1 to 3, and previous back
  pub next_of_three : next L s ≡ 8 * (s / 8) + (s % 8 % 3 + 1)
  unfolding next
  next_of_three = go (next_number_lem (sides L (s / 8)) (s % 8))
    where
      go : {i : ℕ} → NextNumber (sides L (s / 8)) (s % 8) i → 8 * (s / 8) + i ≡ 8 * (s / 8) + (s % 8 % 3 + 1)
      go (wraps e f) = omega (arith, triangle, side_facts L s a)
      go (grows e f) = omega (arith, triangle, side_facts L s a)

  pub previous_of_three : previous L s ≡ 8 * (s / 8) + ((s % 8 + 1) % 3 + 1)
  unfolding previous
  previous_of_three = go (previous_number_lem (sides L (s / 8)) (s % 8))
    where
      go : {i : ℕ} → PreviousNumber (sides L (s / 8)) (s % 8) i → 8 * (s / 8) + i ≡ 8 * (s / 8) + ((s % 8 + 1) % 3 + 1)
      go (wraps e f) = omega (arith, triangle, side_facts L s a)
      go (falls e f) = omega (arith, triangle, side_facts L s a)

  -- there are no other sides
  pub around : (r : ℕ) → Side L r → r / 8 ≡ s / 8 → Around L s r
  around r b e = go (decide (means_eq r s)) (decide (means_eq r (next L s)))
    where
      go : (r ≡ s) ⊎ (r ≡ s → ⊥) → (r ≡ next L s) ⊎ (r ≡ next L s → ⊥) → Around L s r
      go (inl d) c = itself d
      go (inr d) (inl c) = after c
      go (inr d) (inr c) =
          let three : r % 8 ≤ 3 = omega (arith, side_facts L r b, triangle, ap (sides L) e) in
          before (omega (arith, side_facts L r b, side_facts L s a, next_of_three, previous_of_three))

-- the next side but one is the previous one
pub next_next : (L : List ℕ) (s : ℕ) → Side L s → sides L (s / 8) ≡ 3 → next L (next L s) ≡ previous L s
next_next L s a triangle =
    let x = next_numbered L s a in
    let e = next_of_three L (next L s) x.side (ap (sides L) x.same ∙ triangle) in
    omega (arith, side_facts L s a, next_of_three L s a triangle, previous_of_three L s a triangle)

-- how the two other sides run
module _ {L : List ℕ} {s a b c : ℕ} (x : TriangleSide L s a b c) where
  pub next_runs : Runs L (next L s) b c
  next_runs =
      let d = x.runs.side in
      record { side = next_side_lem L s d; from = x.runs.to; to = ap (origin L) (next_next L s d x.triangle) ∙ x.third }

  pub previous_runs : Runs L (previous L s) c a
  previous_runs =
      let d = x.runs.side in
      record { side = previous_side_lem L s d; from = x.third; to = ap (origin L) (next_previous L s d) ∙ x.runs.from }

-- the third side of the triangle (a,b,c)
module _ (L : List ℕ) (f : ℕ) {a b c : ℕ} (el : Element L f) (three : corner L f 4 ≡ 0) where
  pub third_side : origin L (8 * f + 1) ≡ a → origin L (8 * f + 2) ≡ b → origin L (8 * f + 3) ≡ c → TriangleSide L (8 * f + 3) c a b
  unfolding sides_by
  third_side i j k =
      let s = 8 * f + 3 in
      let e : s / 8 ≡ f = omega arith in
      let triangle : sides L (s / 8) ≡ 3 = ap (sides L) e ∙ ap sides_by three in
      let d : Side L s = side_of_lem L s (omega arith) (omega arith) (omega arith) (omega arith) in
      let p : next L s ≡ 8 * f + 1 = omega (arith, next_of_three L s d triangle) in
      let q : previous L s ≡ 8 * f + 2 = omega (arith, previous_of_three L s d triangle) in
      record { runs = record { side = d; from = k; to = ap (origin L) p ∙ i }; third = ap (origin L) q ∙ j; triangle = triangle }
