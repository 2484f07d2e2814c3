-- How the least sides of the vertices are put in, from the last place of the list to the first.
-- Assumes nothing.
use mathlib.Core.Path.{◌≡◌, refl, ap, ◌∙◌}
use mathlib.Core.List.{List}
use Prim.Native.Nat.{ℕ, ◌+◌, ◌-◌, ◌≤◌, ◌<◌}
use native.Mathlib.Omega.{arith}
use lib.ListN.{length, take, drop}
use Rattle.lists.specs.Search.{at}
use Rattle.lists.specs.Stores.{Kept, kept_itself, kept_on}
use Rattle.theory.specs.FitRows.{Fit}
use Rattle.halfedge.specs.Rows.{row_of, part_at}
use Rattle.checks.specs.Firsts.{FirstsFrom}

-- the work U has become W, which holds the least sides from place q on
pub record Sofar (n : ℕ) (L U W : List ℕ) (q : ℕ) : Type 0 where
  pub fit : Fit n L
  pub room : n ≤ length W
  pub kept : Kept n U W
  pub firsts : FirstsFrom n L q W

pub begins : {n q : ℕ} {L U : List ℕ} → Fit n L → n ≤ length U → FirstsFrom n L q U → Sofar n L U U q
begins f h g = record { fit = f; room = h; kept = kept_itself _ _; firsts = g }

module _ {n q : ℕ} {L U W : List ℕ} (g : Sofar n L U W q) where
  -- what the step at place p asks, where q is p + 1 and corner j of the row r at a stands at p
  pub asked : (a j p : ℕ) {r : List ℕ} → r ≡ row_of (take (a + 4 - a) (drop a L)) → a + 4 ≤ length L → j < 4 → a + j ≡ p → q ≡ p + 1 →
      Fit n L × (n ≤ length W) × (p < length L) × (at r j ≡ at L p) × FirstsFrom n L (p + 1) W
  asked a j p e h l s t =
      let read = ap (λ (x : List ℕ). at x j) e ∙ part_at L a (a + 4) j refl l ∙ ap (at L) s in
      (g.fit, g.room, omega arith, read, rw t at g.firsts)

  pub goes_on : {p : ℕ} {X : List ℕ} → Kept n W X × FirstsFrom n L p X → Sofar n L U X p
  goes_on (k, f) = record { fit = g.fit; room = omega (arith, k.long, g.room); kept = kept_on g.kept k; firsts = f }
