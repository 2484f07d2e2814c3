-- What an edit is lent, and the checks that every edit makes first.
-- Assumes nothing.
use Rattle.std.specs.Prelude.{Result, Ok, Err, ◌≡◌, refl, Bool, ◌⊎◌, List, ℕ, ◌+◌, ◌*◌, ◌≤◌, leb, eqb, length, take, get_or}
use Rattle.std.proofs.Common.{ap, ◌∙◌}
use Rattle.std.proofs.Math.Path.{sym}
use Rattle.std.proofs.Math.Bool.{true, false}
use Rattle.std.proofs.Math.Logic.{inl, inr}
use native.Mathlib.Omega.{arith}
use Rattle.lists.specs.Tests.{both, either, within}
use Rattle.lists.specs.TestLaws.{true_of, false_of, Means, means_both, means_not, means_le}
use Rattle.rules.specs.Elements.{max_vertex, max_element, element, number, is_side}
use Rattle.rules.specs.Tables.{columns, borders}
use Rattle.edit_rules.specs.Edits.{Lent, is_there, counts_fit}
use Rattle.answer.specs.Numbers.{placed}
use Rattle.answer.specs.declared.Reason.TheVariants.{Sizes, Lengths}
use Rattle.answer.specs.declared.Refusal.{Refusal}

abbrev pub lent_edit : ℕ → ℕ → List ℕ → List ℕ → List ℕ → List ℕ → List ℕ → Lent
lent_edit n m L V2e E2e B2e work =
    record { n = n; m = m; list = L; vertices = V2e; opposites = E2e; border = B2e; work = work }

-- n and m as a host holds them, in two numbers
abbrev pub lent_sized : List ℕ → List ℕ → List ℕ → List ℕ → List ℕ → List ℕ → Lent
lent_sized size = lent_edit (get_or size 0 0) (get_or size 1 0)

-- check 1 found nothing
pub counts_say : (n m : ℕ) → counts_fit n m ≡ true → (n ≤ max_vertex) × (m ≤ max_element)
unfolding counts_fit
counts_say n m e = (means_both (means_le n max_vertex) (means_le m max_element)).says (rw e tt)

-- more elements, more entries of E2e
pub more_entries : (c : ℕ) {m m' : ℕ} → (c ≡ 3) ⊎ (c ≡ 4) → m ≤ m' → c * m ≤ c * m'
more_entries c (inl e) h = rw e (omega arith)
more_entries c (inr e) h = rw e (omega arith)

-- buffers of these lengths have room for n vertices and m elements in c columns
abbrev pub room_for : ℕ → ℕ → ℕ → ℕ → ℕ → ℕ → ℕ → Bool
room_for c n m list v e work = both (leb (4 * m) list) (both (leb n v) (both (leb (c * m) e) (leb (n + 16 * m) work)))

module _ (c n m list v e work : ℕ) where
  abbrev pub Room : Type 0
  Room = (4 * m ≤ list) × ((n ≤ v) × ((c * m ≤ e) × (n + 16 * m ≤ work)))

  pub means_room : Means (room_for c n m list v e work) Room
  means_room = means_both (means_le (4 * m) list) (means_both (means_le n v) (means_both (means_le (c * m) e) (means_le (n + 16 * m) work)))

  -- none, or as far as the work goes
  pub no_room : (Room → ⊥) → false ≡ room_for c n m list v e work
  no_room f = sym (false_of (room_for c n m list v e work) ((means_not means_room).shows f))

  pub but_work : 4 * m ≤ list → n ≤ v → c * m ≤ e → leb (n + 16 * m) work ≡ room_for c n m list v e work
  but_work h i j =
      let x = true_of (leb (4 * m) list) ((means_le (4 * m) list).shows h) in
      let y = true_of (leb n v) ((means_le n v).shows i) in
      let z = true_of (leb (c * m) e) ((means_le (c * m) e).shows j) in
      sym (rw (x, y, z) refl)

-- check 2 by the list and the other lengths
abbrev pub holds : ℕ → ℕ → List ℕ → ℕ → ℕ → ℕ → Bool
holds n m L = room_for (columns (take (4 * m) L)) n m (length L)

module _ (n m : ℕ) (L : List ℕ) (v e work : ℕ) where
  pub means_holds : Means (holds n m L v e work) ((4 * m ≤ length L) × ((n ≤ v) × ((columns (take (4 * m) L) * m ≤ e) × (n + 16 * m ≤ work))))
  means_holds = means_room (columns (take (4 * m) L)) n m (length L) v e work

  -- the list is too short
  pub short : (4 * m ≤ length L → ⊥) → holds n m L v e work ≡ false
  short f = false_of (holds n m L v e work) ((means_not means_holds).shows (λ (a, b). f a))

  pub record Held (c : ℕ) : Type 0 where
    pub passed : holds n m L v e work ≡ true
    pub columned : c ≡ columns (take (4 * m) L)
    pub list : 4 * m ≤ length L
    pub vertices : n ≤ v
    pub opposites : c * m ≤ e
    pub room : n + 16 * m ≤ work

  -- its columns are c, and it goes by the room in them
  module _ {c : ℕ} (g : c ≡ columns (take (4 * m) L)) where
    by_room : holds n m L v e work ≡ room_for c n m (length L) v e work
    by_room = sym (ap (λ (k : ℕ). room_for k n m (length L) v e work) g)

    pub found_short : room_for c n m (length L) v e work ≡ false → holds n m L v e work ≡ false
    found_short d = by_room ∙ d

    pub found_long : room_for c n m (length L) v e work ≡ true → Held c
    found_long d =
        let h = by_room ∙ d in
        let (p, (q, (r, s))) = means_holds.says (rw h tt) in
        record { passed = h; columned = g; list = p; vertices = q; opposites = rw g r; room = s }

-- what checks 1 and 2 say, `others` for the lengths of what else is lent: 1, 2, or the columns of the list that is held
pub data Looked (n m : ℕ) (others : Bool) (L : List ℕ) (v e work : ℕ) (r : Result ℕ Refusal) : Type 0 where
  too_large : counts_fit n m ≡ false → r ≡ Err (placed Sizes 0 0) → Looked n m others L v e work r
  too_short : counts_fit n m ≡ true → both others (holds n m L v e work) ≡ false → r ≡ Err (placed Lengths 0 0) → Looked n m others L v e work r
  fits : {c : ℕ} → counts_fit n m ≡ true → others ≡ true → Held n m L v e work c → r ≡ Ok c → Looked n m others L v e work r

-- they found nothing
pub passed : {n m v e work c : ℕ} {others : Bool} {L : List ℕ} → Looked n m others L v e work (Ok c)
    → (counts_fit n m ≡ true) × (others ≡ true) × Held n m L v e work c
passed (too_large a q) = absurd (cc)
passed (too_short a b q) = absurd (cc)
passed {c = c} (fits {c = k} a b h q) = let same : c ≡ k = cc in (a, b, rw same h)

-- a half-edge is there by what its tests say: its side's, its border's, and its border number b against k
pub there_by : (L : List ℕ) (c : ℕ) {side border : Bool} {b k : ℕ} → side ≡ is_side L c → border ≡ eqb (number c) 0 → b ≡ element c → k ≡ borders L →
    is_there L c ≡ either side (both border (within 1 k b))
unfolding is_there
there_by L c p q r s = rw (p, q, r, s) refl
