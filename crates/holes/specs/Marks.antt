-- The work of the call: for each of the k border half-edges k + next, and once its hole is known the number of that, at most k; and then the
-- length of each hole. M is the mesh, U and W what the work holds.
-- Assumes nothing.
use Rattle.std.specs.Prelude.{◌≡◌, Bool, true, false, ◌⊎◌, List, ℕ, ◌+◌, ◌-◌, ◌≤◌, ◌<◌, ltb, eqb, length}
use Rattle.std.proofs.Math.Option.{Option, none, some}
use Rattle.lists.specs.Search.{at, count}
use Rattle.lists.specs.Stores.{Kept}
use Rattle.rules.specs.Elements.{count_numbers}
use Rattle.rules.specs.Refusals.{Answer, after, onto}
use Rattle.rules.specs.Queries.{Mesh, next_border, border_loop}
use Rattle.rules.specs.Holes.{HoleBuffers, Reachable, least_of, holes_up_to, hole_of, holes, hole_lengths, holes_found}
use Rattle.theory.specs.Reaching.{In}
use Rattle.theory.specs.Holes.{Back}

-- the three buffers
abbrev pub lent_holes : List ℕ → List ℕ → List ℕ → HoleBuffers
lent_holes hole lengths work = record { hole = hole; lengths = lengths; work = work }

-- the mark in an entry: the number of a hole, or 0 where next still stands
unfoldable pub mark_of : ℕ → ℕ → ℕ
mark_of k e = elim (ltb k e) [ true ↦ 0 | false ↦ e ]

module _ (M : Mesh) where
  abbrev k : ℕ
  k = length M.border

  -- M has k border half-edges
  abbrev pub Of : ℕ → Type 0
  Of i = i ≡ k

  -- the mark of border half-edge z
  abbrev pub mark : List ℕ → ℕ → ℕ
  mark W z = mark_of k (at W (z - 1))

  -- next of z stands in its entry
  pub record Pending (W : List ℕ) (z : ℕ) : Type 0 where
    pub above : k < at W (z - 1)
    pub next : next_border M z ≡ some (at W (z - 1) - k)

  -- next of all was read, or that of one can't be
  pub record Nexts (all : Bool) (W : List ℕ) : Type 0 where
    pub read : all ≡ true → (z : ℕ) → In M z → Pending W z
    pub unread : all ≡ false → (z : ℕ) × In M z × (next_border M z ≡ none)

  -- marks up to h; next of what is marked is marked alike; of the others next stands there
  pub record Closed (h : ℕ) (W : List ℕ) : Type 0 where
    pub up_to : (z : ℕ) → In M z → mark W z ≤ h
    pub alike : (z y : ℕ) → In M z → (mark W z ≡ 0 → ⊥) → next_border M z ≡ some y → mark W y ≡ mark W z
    pub pending : (z : ℕ) → In M z → mark W z ≡ 0 → Pending W z

  -- the loop of b is to be marked with h, a number more than there is
  pub record Open (b h : ℕ) (W : List ℕ) : Type 0 where
    pub inside : In M b
    pub unmarked : mark W b ≡ 0
    pub positive : 1 ≤ h
    pub most : h ≤ k
    pub closed : Closed (h - 1) W
    pub room : k ≤ length W

  -- each mark is as it was, or was 0 and is h
  abbrev pub Over : ℕ → List ℕ → List ℕ → Type 0
  Over h U W = (z : ℕ) → In M z → (mark W z ≡ mark U z) ⊎ ((mark U z ≡ 0) × (mark W z ≡ h))

  -- the loop of b has come back, it is marked with h, and has r border half-edges
  pub record Looped (b h r : ℕ) (U W : List ℕ) : Type 0 where
    pub back : Back M b
    pub over : Over h U W
    pub closed : Closed h W
    pub reached : (z : ℕ) → In M z → mark W z ≡ h → Reachable M b z
    pub marked : (z : ℕ) → Reachable M b z → mark W z ≡ h
    pub counted : r ≡ count (λ j. eqb (at W j) h) k

  -- or, with none, it doesn't come back
  pub record Followed (b h : ℕ) (r : Option ℕ) (U W : List ℕ) : Type 0 where
    pub kept : Kept k U W
    pub found : (c : ℕ) → r ≡ some c → Looped b h c U W
    pub lost : r ≡ none → border_loop M b ≡ none

  -- what is known of a border half-edge that is marked, once 1 to b are
  pub record Known (b : ℕ) (W : List ℕ) (z : ℕ) : Type 0 where
    pub back : Back M z
    pub earlier : least_of M z ≤ b
    pub hole : mark W z ≡ hole_of M z

  -- border half-edges 1 to b are marked, in h holes
  pub record Marked (b h : ℕ) (W : List ℕ) : Type 0 where
    pub room : k + k ≤ length W
    pub closed : Closed h W
    pub known : (z : ℕ) → In M z → (mark W z ≡ 0 → ⊥) → Known b W z
    pub all : (z : ℕ) → 1 ≤ z → z ≤ b → mark W z ≡ 0 → ⊥
    pub many : h ≡ holes_up_to M b
    pub measured : (i : ℕ) → i < h → at W (k + i) ≡ count_numbers k (λ c. eqb (hole_of M c) (i + 1))

  -- the number of holes once 1 to b are marked; `none` where a loop doesn't come back
  pub record Numbered (b : ℕ) (W : List ℕ) (r : Option ℕ) : Type 0 where
    pub counted : (h : ℕ) → r ≡ some h → Marked b h W
    pub broken : r ≡ none → (c : ℕ) × In M c × (border_loop M c ≡ none)

  -- what checks 12 and 13 say, and the two outputs after it
  pub record Outcome (a : Answer) (hole lengths hole' lengths' : List ℕ) : Type 0 where
    pub answer : a ≡ holes_found M hole lengths
    pub holes_left : hole' ≡ after a (onto (holes M) hole) hole
    pub lengths_left : lengths' ≡ after a (onto (hole_lengths M) lengths) lengths
