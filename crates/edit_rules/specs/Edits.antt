-- Document 02, the way of every edit: "The list as given must first be accepted by build. The result is the new list with the tables that
-- build gives of it". What an edit adds is its own "new list, or a refusal", in a file of its own.
-- Assumes nothing.
use Rattle.std.specs.Prelude.{Bool, List, ◌++◌, ℕ, ◌+◌, ◌*◌, ◌-◌, leb, eqb, length, take, drop, replicate}
use Rattle.lists.specs.Tests.{both, either, within}
use Rattle.rules.specs.Elements.{max_vertex, max_element, elements, element, number, is_side}
use Rattle.rules.specs.Tables.{borders, b2e, columns, e2e, v2e}
use Rattle.rules.specs.Refusals.{Answer, gives, refused, list_answer, length_checks, room_check, after, onto, work_after}

-- what an edit makes of an accepted list: a list with its n, or a refusal by number, whose place is 0,0
pub data Edited : Type 0 where
  becomes : ℕ → List ℕ → Edited
  refuses : ℕ → Edited

-- what is lent to an edit: n and m, the element list, the tables and the work buffer; point 6: they "may be longer than what they hold now"
pub record Lent : Type 0 where
  pub n : ℕ
  pub m : ℕ
  pub list : List ℕ
  pub vertices : List ℕ
  pub opposites : List ℕ
  pub border : List ℕ
  pub work : List ℕ

-- the same with another work buffer
abbrev pub with_work : Lent → List ℕ → Lent
with_work w work =
    record {
      n = w.n;
      m = w.m;
      list = w.list;
      vertices = w.vertices;
      opposites = w.opposites;
      border = w.border;
      work = work;
    }

-- xs put at the start of a buffer that held `old` entries; "entries past both the old and the new length stay untouched" (point 6), and "Entries
-- between the new and the old length become 0" (point 8)
unfoldable pub over_old : ℕ → List ℕ → List ℕ → List ℕ
over_old old xs buffer = onto (xs ++ replicate (old - length xs) 0) buffer

-- the list with this row for element f
unfoldable pub with_row : ℕ → List ℕ → List ℕ → List ℕ
with_row f row L = take (4 * (f - 1)) L ++ (row ++ drop (4 * f) L)

-- "The list as given must first be accepted": what comes then, or what was said of the list
unfoldable pub once_accepted : Answer → Answer → Answer
once_accepted (gives k e) rest = rest
once_accepted (refused r a b) rest = refused r a b

-- what is said of the new list, with 9 by its k and the length of B2e
unfoldable pub new_answer : ℕ → Edited → Answer
new_answer room (becomes n L) = room_check room (list_answer n L)
new_answer room (refuses r) = refused r 0 0

-- "the half-edge named isn't there (11)": whether a side or a border half-edge of L has this code
unfoldable pub is_there : List ℕ → ℕ → Bool
is_there L c = either (is_side L c) (both (eqb (number c) 0) (within 1 (borders L) (element c)))

-- n and m are at most their maxima
unfoldable pub counts_fit : ℕ → ℕ → Bool
counts_fit n m = both (leb n max_vertex) (leb m max_element)

module _ (w : Lent) where
  -- the list that is held: the first m rows
  abbrev pub held : List ℕ
  held = take (4 * w.m) w.list

  -- the buffers but B2e have room for a list of n vertices and m elements, with the columns of the list that is held
  unfoldable pub has_room : ℕ → ℕ → Bool
  has_room n m =
      both (leb (4 * m) (length w.list))
      (both (leb n (length w.vertices))
      (both (leb (columns held * m) (length w.opposites))
      (leb (n + 16 * m) (length w.work))))

  -- document 01: "Where a request lets buffers be longer than what they hold, the call is told m, check 1 reads n and m only, and check 2 asks
  -- for at least these lengths"
  unfoldable pub edit_sizes : Bool
  edit_sizes = counts_fit w.n w.m

  -- `others` for the lengths of what else is lent to the edit
  module _ (others : Bool) where
    unfoldable pub edit_lengths : Bool
    edit_lengths = both others (has_room w.n w.m)

    -- "in every edit the old list, 9 apart, is tried first, then 11, 15 and the new list"
    unfoldable pub edit_answer : Edited → Answer
    edit_answer x =
        length_checks edit_sizes edit_lengths (once_accepted (list_answer w.n held) (new_answer (length w.border) x))

  -- the new n and m, list and tables; 0 past them "but not in B2e" (point 8)
  unfoldable pub written : Edited → Lent
  written (becomes n L) =
      record {
        n = n;
        m = elements L;
        list = over_old (4 * w.m) L w.list;
        vertices = over_old w.n (v2e n L) w.vertices;
        opposites = over_old (columns held * w.m) (e2e L) w.opposites;
        border = onto (b2e L) w.border;
        work = w.work;
      }
  written (refuses r) = w

  -- what an edit leaves: "refused, list and tables unchanged"; and the work buffer of document 01
  unfoldable pub edit_leaves : Bool → Edited → Lent
  edit_leaves others x =
      with_work (after (edit_answer others x) (written x) w) (work_after edit_sizes (edit_lengths others) w.work)
