-- What is held stands at the fronts of the buffers that are lent: checked there, and written there.
-- Assumes nothing.
use Rattle.std.specs.Prelude.{Bool, Ok, ◌≡◌, List, ◌++◌, ℕ, ◌+◌, ◌*◌, ◌≤◌, length, take, drop}
use Rattle.std.proofs.Common.{ap, sym, ◌∙◌, arith, take-append-drop, length-take-le}
use Rattle.rules.specs.Elements.{max_vertex, max_element, elements}
use Rattle.rules.specs.Tables.{b2e, columns, e2e, v2e}
use Rattle.rules.specs.Refusals.{Answer, gives, refused, list_answer, room_check, after, onto}
use Rattle.edit_rules.specs.Edits.{Lent, held}
use Rattle.theory.specs.FitRows.{means_sizes}
use Rattle.theory.specs.Entries.{length_v2e}
use Rattle.theory.specs.Columns.{length_e2e}
use Rattle.tabulate.specs.Results.{Roomy}
use Rattle.build.specs.Building.{Built, Checked, roomy}
use Rattle.edits.specs.Holding.{Held, counts_say, Looked, passed}
use Rattle.edits.specs.HeldRows.{held_length, held_elements}

-- checks 1 and 2 found nothing; the list that is held has c columns
pub record Ready (w : Lent) (c : ℕ) : Type 0 where
  pub sizes : (w.n ≤ max_vertex) × (w.m ≤ max_element)
  pub long : Held w.n w.m w.list (length w.vertices) (length w.opposites) (length w.work) c

-- what they found
pub ready : (w : Lent) {others : Bool} {c : ℕ}
    → Looked w.n w.m others w.list (length w.vertices) (length w.opposites) (length w.work) (Ok c) → Ready w c
ready w y = let x = passed y in record { sizes = counts_say w.n w.m x.0; long = x.2 }

-- the same, but the work buffer needs no room for a second list
pub record Fitting (w : Lent) (c : ℕ) : Type 0 where
  pub sizes : (w.n ≤ max_vertex) × (w.m ≤ max_element)
  pub columned : c ≡ columns (held w)
  pub list : 4 * w.m ≤ length w.list
  pub vertices : w.n ≤ length w.vertices
  pub opposites : c * w.m ≤ length w.opposites
  pub room : w.n + 12 * w.m ≤ length w.work

pub fitting : (w : Lent) {c : ℕ} → Ready w c → Fitting w c
fitting w x =
    record {
      sizes = x.sizes;
      columned = x.long.columned;
      list = x.long.list;
      vertices = x.long.vertices;
      opposites = x.long.opposites;
      room = omega (arith, x.long.room);
    }

module _ (w : Lent) {c : ℕ} (x : Fitting w c) where
  abbrev front : List ℕ
  front = take (4 * w.m) w.list

  size : elements front ≡ w.m
  size = held_elements w.m w.list x.list

  -- what is held is at the fronts of the buffers
  pub checked_front : Checked w.n front (take w.n w.vertices) (take (c * w.m) w.opposites) w.work
  checked_front =
      let long = held_length w.m w.list x.list in
      record {
        sizes = (means_sizes w.n front).shows (x.sizes.0, (omega (arith, x.sizes.1, size), omega (arith, long, size)));
        vertices = x.sizes.0;
        size = omega (arith, x.sizes.1, size);
        fours = omega (arith, long, size);
        v2e_long = length-take-le w.n w.vertices x.vertices;
        e2e_long = length-take-le (c * w.m) w.opposites x.opposites ∙ (λ k. x.columned k * sym size k);
        room = omega (arith, x.room, size);
      }

  -- by where they end, as it was worked out
  module _ {p : ℕ} (rows : p ≡ 4 * w.m) where
    -- there is room to try the list in the work buffer
    pub to_try : Roomy w.n (take p w.list) w.work
    to_try = rw rows (roomy checked_front)

    pub checked_at : {q r : ℕ} → q ≡ w.n → r ≡ c * w.m
        → Checked w.n (take p w.list) (take q w.vertices) (take r w.opposites) w.work × (c ≡ columns (take p w.list))
    checked_at vertices opposites = rw (rows, vertices, opposites) (checked_front, x.columned)

-- the tables of L, put at the starts of buffers that may be longer
pub record Fronted (n : ℕ) (L : List ℕ) (a : Answer) (V2e E2e B2e V2e' E2e' B2e' : List ℕ) : Type 0 where
  pub answer : a ≡ room_check (length B2e) (list_answer n L)
  pub vertices : V2e' ≡ after a (onto (v2e n L) V2e) V2e
  pub opposites : E2e' ≡ after a (onto (e2e L) E2e) E2e
  pub border : B2e' ≡ after a (onto (b2e L) B2e) B2e

-- a front that was written, with what comes after it
after_front : (a : Answer) (k : ℕ) (X buffer : List ℕ) {Y : List ℕ} → length X ≡ k → Y ≡ after a X (take k buffer)
    → Y ++ drop k buffer ≡ after a (onto X buffer) buffer
unfolding after onto
after_front (gives i j) k X buffer e f = (λ h. f h ++ drop (sym e h) buffer)
after_front (refused r i j) k X buffer e f = ap (λ (Y : List ℕ). Y ++ drop k buffer) f ∙ take-append-drop k buffer

-- the tables were built in the fronts, which end at q and r, of the rows to p
module _ (w : Lent) {c : ℕ} (x : Fitting w c) {p q r : ℕ} (rows : p ≡ 4 * w.m) (vertices : q ≡ w.n) (opposites : r ≡ c * w.m) where
  pub fronted : {a : Answer} {V2e E2e B2e : List ℕ}
      → Built w.n (take p w.list) a (take q w.vertices) (take r w.opposites) w.border V2e E2e B2e
      → Fronted w.n (take (4 * w.m) w.list) a w.vertices w.opposites w.border (V2e ++ drop q w.vertices)
      (E2e ++ drop r w.opposites) B2e
  fronted {a} {V2e} {E2e} {B2e} b =
      let L = take (4 * w.m) w.list in
      let y : Built w.n L a (take q w.vertices) (take r w.opposites) w.border V2e E2e B2e = rw rows at b in
      let size = held_elements w.m w.list x.list in
      record {
        answer = y.answer;
        vertices = after_front a q (v2e w.n L) w.vertices (length_v2e L w.n ∙ sym vertices) y.vertices;
        opposites =
            after_front a r (e2e L) w.opposites (length_e2e L ∙ (λ i. sym x.columned i * size i) ∙ sym opposites) y.opposites;
        border = y.border;
      }
