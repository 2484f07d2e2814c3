-- The entries of sides 1 and 2 of an element in the sibling map, which stand side by side.
-- Assumes nothing.
use Rattle.std.specs.Prelude.{◌≡◌, List, ℕ, ◌+◌, ◌*◌, ◌<◌, length}
use Rattle.std.proofs.Math.Path.{ap}
use Rattle.std.proofs.Common.{◌∙◌, arith}
use Rattle.lists.specs.Search.{at}
use Rattle.rules.specs.Elements.{slot}
use Rattle.rules.specs.Pairing.{Element}
use Rattle.rules.specs.Siblings.{sibling}
use Rattle.theory.specs.Links.{at_corner}
use Rattle.theory.specs.Meeting.{few}
use Rattle.checks.specs.Maps.{Mapped}

module _ {n : ℕ} {L w : List ℕ} (g : Mapped n L w) (f : ℕ) (a : Element L f) {s i : ℕ} (code : s ≡ 8 * f + 1) (place : i ≡ slot s) where
  pub first_place : at w (n + i) ≡ sibling L (8 * f + 1)
  first_place =
      let c = at_corner L f 1 a.0 a.1 (omega arith) (omega arith) (omega (arith, few L f)) in
      ap (λ (j : ℕ). at w (n + j)) (place ∙ ap slot code) ∙ g.siblings (8 * f + 1) c.is_side_lem

  pub second_place : at w (n + i + 1) ≡ sibling L (8 * f + 2)
  unfolding slot
  second_place =
      let c = at_corner L f 2 a.0 a.1 (omega arith) (omega arith) (omega (arith, few L f)) in
      let e : n + i + 1 ≡ n + slot (8 * f + 2) = omega (arith, a.0) in
      ap (at w) e ∙ g.siblings (8 * f + 2) c.is_side_lem

  pub places_below : n + i + 1 < length w
  unfolding slot
  places_below = omega (arith, a.0, a.1, g.room, g.fit.fours)
