-- Runs of the calls, as their contracts say: the answer, and what each buffer holds at exit. Theorems about the calls are about these.
-- Assumes nothing.
use Rattle.std.specs.Prelude.{◌≡◌, refl, Bool, true, List, ℕ, Float, take}
use Rattle.rules.specs.Tables.{columns}
use Rattle.rules.specs.Refusals.{Answer, gives, refused, Buffers, build_answer, build_leaves, recover_answer, recover_list, recover_work}
use Rattle.rules.specs.Siblings.{SiblingBuffers, siblings_answer, siblings_leaves}
use Rattle.rules.specs.Holes.{HoleBuffers, holes_answer, holes_leaves}
use Rattle.edit_rules.specs.Edits.{Edited, Lent, held, edit_answer, edit_leaves}
use Rattle.edit_rules.specs.Swap.{swap}
use Rattle.edit_rules.specs.Split.{has_points, split, split_points}
use Rattle.edit_rules.specs.Contract.{contract, contract_points}
use Rattle.edit_rules.specs.Shape.{shape_answer, shape_work}
use Rattle.off_rules.specs.Off.{off_answer, off_leaves}
use Rattle.rules.specs.Queries.{Mesh, opposite_answer, next_answer, previous_answer, element_answer, origin_answer, destination_answer, across_answer}
use Rattle.rules.specs.Queries.{half_edge_border_answer, vertex_border_answer, ring_answer, ring_leaves, neighbours_answer, neighbours_leaves}
use Rattle.rules.specs.Queries.{border_loop_answer, border_loop_leaves, Walker, walked, walker_start, walker_step}

-- a run of build on n and the list L, over the buffers w
pub record BuildRun (n : ℕ) (L : List ℕ) (w : Buffers) (a : Answer) (w' : Buffers) : Type 0 where
  pub answer : a ≡ build_answer n L w
  pub leaves : w' ≡ build_leaves n L w

-- a run of recovery, told m
pub record RecoverRun (n m : ℕ) (V2e E2e list work : List ℕ) (a : Answer) (list' work' : List ℕ) : Type 0 where
  pub answer : a ≡ recover_answer n m V2e E2e list work
  pub leaves : list' ≡ recover_list n m V2e E2e list work
  pub clears : work' ≡ recover_work n m V2e E2e list work

-- a run of the call that makes the siblings
pub record SiblingsRun (n : ℕ) (L : List ℕ) (w : SiblingBuffers) (a : Answer) (w' : SiblingBuffers) : Type 0 where
  pub answer : a ≡ siblings_answer n L w
  pub leaves : w' ≡ siblings_leaves n L w

-- a run of an edit on what is lent, w: x is what the edit makes of the list that is held, and `others` the lengths of what else is lent
pub record EditRun (others : Bool) (x : Edited) (w : Lent) (a : Answer) (w' : Lent) : Type 0 where
  pub answer : a ≡ edit_answer w others x
  pub leaves : w' ≡ edit_leaves w others x

-- a run of swap with the code s
abbrev pub SwapRun : Lent → ℕ → Answer → Lent → Type 0
SwapRun w s = EditRun true (swap w.n (held w) s) w

-- a run of split with the code s, over the points P
pub record SplitRun (w : Lent) (P : List Float) (s : ℕ) (a : Answer) (w' : Lent) (P' : List Float) : Type 0 where
  pub edit : EditRun (has_points w.n P) (split w P s) w a w'
  pub points : P' ≡ split_points w P s

-- a run of contract with the code s, over the points P
pub record ContractRun (w : Lent) (P : List Float) (s : ℕ) (a : Answer) (w' : Lent) (P' : List Float) : Type 0 where
  pub edit : EditRun (has_points w.n P) (contract w.n (held w) s) w a w'
  pub points : P' ≡ contract_points w P s

-- a run of the query for the shape
pub record ShapeRun (n : ℕ) (L work : List ℕ) (a : Answer) (work' : List ℕ) : Type 0 where
  pub answer : a ≡ shape_answer n L work
  pub clears : work' ≡ shape_work n L work

-- a run of the reader of OFF texts, over the text t and the list L
pub record OffRun (t L : List ℕ) (a : Answer) (L' : List ℕ) : Type 0 where
  pub answer : a ≡ off_answer t L
  pub leaves : L' ≡ off_leaves t L

-- runs of the queries that write a list
pub record RingRun (M : Mesh) (v : ℕ) (out : List ℕ) (a : Answer) (out' : List ℕ) : Type 0 where
  pub answer : a ≡ ring_answer M v out
  pub leaves : out' ≡ ring_leaves M v out

pub record NeighboursRun (M : Mesh) (v : ℕ) (out : List ℕ) (a : Answer) (out' : List ℕ) : Type 0 where
  pub answer : a ≡ neighbours_answer M v out
  pub leaves : out' ≡ neighbours_leaves M v out

pub record BorderLoopRun (M : Mesh) (b : ℕ) (out : List ℕ) (a : Answer) (out' : List ℕ) : Type 0 where
  pub answer : a ≡ border_loop_answer M b out
  pub leaves : out' ≡ border_loop_leaves M b out

-- a run of the call that counts the holes
pub record HolesRun (M : Mesh) (w : HoleBuffers) (a : Answer) (w' : HoleBuffers) : Type 0 where
  pub answer : a ≡ holes_answer M w
  pub leaves : w' ≡ holes_leaves M w

-- runs of the walker's calls: the answer, and the record at exit
pub record StartRun (M : Mesh) (v : ℕ) (w : Walker) (a : Answer) (w' : Walker) : Type 0 where
  pub answer : a ≡ (walker_start M v w).answer
  pub leaves : w' ≡ (walker_start M v w).walker

pub record StepRun (M : Mesh) (w : Walker) (a : Answer) (w' : Walker) : Type 0 where
  pub answer : a ≡ (walker_step M w).answer
  pub leaves : w' ≡ (walker_step M w).walker

-- an answer of a query on M, but for the step of a walker, whose record may be any
pub data Called (M : Mesh) (a : Answer) : Type 0 where
  opposite_of : (c : ℕ) → a ≡ opposite_answer M c → Called M a
  next_of : (c : ℕ) → a ≡ next_answer M c → Called M a
  previous_of : (c : ℕ) → a ≡ previous_answer M c → Called M a
  element_of : (c : ℕ) → a ≡ element_answer M c → Called M a
  origin_of : (c : ℕ) → a ≡ origin_answer M c → Called M a
  destination_of : (c : ℕ) → a ≡ destination_answer M c → Called M a
  across_of : (c : ℕ) → a ≡ across_answer M c → Called M a
  half_edge_border_of : (c : ℕ) → a ≡ half_edge_border_answer M c → Called M a
  vertex_border_of : (v : ℕ) → a ≡ vertex_border_answer M v → Called M a
  ring_of : (v : ℕ) (out : List ℕ) → a ≡ ring_answer M v out → Called M a
  neighbours_of : (v : ℕ) (out : List ℕ) → a ≡ neighbours_answer M v out → Called M a
  border_loop_of : (b : ℕ) (out : List ℕ) → a ≡ border_loop_answer M b out → Called M a
  start_of : (v : ℕ) (w w' : Walker) → StartRun M v w a w' → Called M a

pub walked_answers : (a : Answer) (new old : Walker) → (walked a new old).answer ≡ a
unfolding walked
walked_answers (gives p q) new old = refl
walked_answers (refused r p q) new old = refl

-- "Built tables are a list and what build writes for it, B2e cut to k": M is what a run of build on L has left, after it answered its counts,
-- told the list's columns
pub record LeftBy (n : ℕ) (L : List ℕ) (M : Mesh) : Type 0 where
  pub lent : Buffers
  pub left : Buffers
  pub k : ℕ
  pub edges : ℕ
  pub run : BuildRun n L lent (gives k edges) left
  pub mesh : M ≡ record { n = n; columns = columns L; list = L; vertices = left.vertices; opposites = left.opposites; border = take k left.border }
