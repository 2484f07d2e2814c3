-- Links that cross: they join the same two vertices, and aren't both sides.
-- Assumes nothing.
use Rattle.std.specs.Prelude.{◌≡◌, ◌⊎◌, List, ℕ, ◌+◌, ◌/◌, ◌%◌, ◌≤◌, ◌<◌}
use Rattle.lists.specs.Search.{at}
use Rattle.rules.specs.Elements.{slot}
use Rattle.theory.specs.Links.{Spans}

-- between u and v
pub record Cross (L : List ℕ) (u v a b : ℕ) : Type 0 where
  pub one : Spans L u v a
  pub other : Spans L u v b
  pub differ : a ≡ b → ⊥
  pub diagonal : (4 < a % 8) ⊎ (4 < b % 8)

-- e is 0 or the element of a link that crosses another
abbrev pub Met : List ℕ → ℕ → Type 0
Met L e = (e ≡ 0 → ⊥) → (u : ℕ) × (v : ℕ) × (a : ℕ) × (b : ℕ) × Cross L u v a b × (a / 8 ≡ e)

-- e is the least element of a link that crosses another; 0 where there is none
pub record FirstCrossed (L : List ℕ) (e : ℕ) : Type 0 where
  pub met : Met L e
  pub least : (u v a b : ℕ) → Cross L u v a b → (1 ≤ e) × (e ≤ a / 8)

-- r is t where t is a diagonal's code, else what follows the side t in its ring
pub data First (n : ℕ) (W : List ℕ) (t r : ℕ) : Type 0 where
  itself : 4 < t % 8 → r ≡ t → First n W t r
  ringed : t % 8 ≤ 4 → r ≡ at W (n + slot t) → First n W t r

-- r is the lesser of e and f; e counts only where it isn't 0
pub data Lesser (e f r : ℕ) : Type 0 where
  new : r ≡ f → ((e ≡ 0 → ⊥) → f < e) → Lesser e f r
  old : r ≡ e → (e ≡ 0 → ⊥) → e ≤ f → Lesser e f r
