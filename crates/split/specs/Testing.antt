-- Refusal 19 by the tests that are made.
-- Assumes nothing.
use Rattle.std.specs.Prelude.{◌≡◌, refl, Bool, List, ℕ, ◌*◌, leb, Float, length}
use Rattle.lists.specs.Tests.{both}
use Rattle.rules.specs.Elements.{elements}
use Rattle.rules.specs.Tables.{columns}
use Rattle.edit_rules.specs.Edits.{Lent, counts_fit, held, has_room}
use Rattle.edit_rules.specs.Split.{has_points, can_hold}
use Rattle.edits.specs.Holding.{room_for}

-- n vertices and m elements in c columns, by lengths
unfoldable pub holds_by : ℕ → ℕ → ℕ → ℕ → ℕ → ℕ → ℕ → ℕ → Bool
holds_by n m c list v e points work = both (counts_fit n m) (both (leb (3 * n) points) (room_for c n m list v e work))

pub held_by : (n m c list v e points work : ℕ) {counts long : Bool} → counts_fit n m ≡ counts → leb (3 * n) points ≡ long
    → holds_by n m c list v e points work ≡ both counts (both long (room_for c n m list v e work))
unfolding holds_by
held_by n m c list v e points work f g = rw (f, g) refl

-- that is whether they can be held, with c and m as they were read
pub can_hold_by : (w : Lent) (P : List Float) (n : ℕ) (L : List ℕ) {c m : ℕ} → c ≡ columns (held w) → m ≡ elements L
    → holds_by n m c (length w.list) (length w.vertices) (length w.opposites) (length P) (length w.work) ≡ can_hold w P n L
unfolding holds_by can_hold has_points has_room
can_hold_by w P n L columned counted = rw (columned, counted) refl
