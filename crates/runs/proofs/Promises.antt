-- Each run is what the call's own contract says: `Post` of a function holds its `ensures` of the arguments a, the result r and what its `&mut`
-- arguments hold at exit, s.
-- Assumes nothing.
use Rattle.std.specs.Prelude.{◌≡◌, ℕ}
use Rattle.std.proofs.Common.{ap}
use contract.Lifetimes.{Lfts}
use borrow.Fn.Kinds.{Dens, res_t, ended_of}
use denote.Triple.Clauses.{AtExit}
use Rattle.rules.specs.Refusals.{Buffers}
use Rattle.rules.specs.Queries.{Mesh, columns_answer, opposite_answer, next_answer, previous_answer, element_answer, origin_answer, destination_answer, across_answer}
use Rattle.rules.specs.Queries.{half_edge_border_answer, vertex_border_answer, Walked}
use Rattle.answer.specs.Numbers.{numbers}
use Rattle.build.specs.Building.{lent}
use Rattle.halfedge.specs.Rows.{next_side, previous_side}
use Rattle.halfedge.proofs.next_side.Kinds as next-side-kinds
use Rattle.halfedge.proofs.next_side.Reads as next-side-reads
use Rattle.halfedge.proofs.previous_side.Reads as previous-side-reads
use Rattle.build.proofs.build.Kinds as build-kinds
use Rattle.build.proofs.build.Reads as build-reads
use Rattle.columns.proofs.columns.Kinds as columns-kinds
use Rattle.columns.proofs.columns.Reads as columns-reads
use Rattle.recover.proofs.recover.Kinds as recover-kinds
use Rattle.recover.proofs.recover.Reads as recover-reads
use Rattle.holes.specs.Marks.{lent_holes}
use Rattle.holes.proofs.holes.Kinds as holes-kinds
use Rattle.holes.proofs.holes.Reads as holes-reads
use Rattle.edits.specs.Holding.{lent_edit, lent_sized}
use Rattle.swap.proofs.swap.Kinds as swap-kinds
use Rattle.swap.proofs.swap.Reads as swap-reads
use Rattle.split.proofs.split.Kinds as split-kinds
use Rattle.split.proofs.split.Reads as split-reads
use Rattle.contract.proofs.contract.Kinds as contract-kinds
use Rattle.contract.proofs.contract.Reads as contract-reads
use Rattle.sibling_map.specs.Mapping.{lent_maps}
use Rattle.shape.proofs.shape.Kinds as shape-kinds
use Rattle.shape.proofs.shape.Reads as shape-reads
use Rattle.off.proofs.read_off.Kinds as read-off-kinds
use Rattle.off.proofs.read_off.Reads as read-off-reads
use Rattle.sibling_map.proofs.siblings.Kinds as siblings-kinds
use Rattle.sibling_map.proofs.siblings.Reads as siblings-reads
use Rattle.rings.proofs.ring.Kinds as ring-kinds
use Rattle.rings.proofs.ring.Reads as ring-reads
use Rattle.rings.proofs.neighbours.Reads as neighbours-reads
use Rattle.rings.proofs.border_loop.Reads as border-loop-reads
use Rattle.query.proofs.opposite.Kinds as opposite-kinds
use Rattle.query.proofs.opposite.Reads as opposite-reads
use Rattle.query.proofs.next.Reads as next-reads
use Rattle.query.proofs.previous.Reads as previous-reads
use Rattle.query.proofs.element.Reads as element-reads
use Rattle.query.proofs.origin.Reads as origin-reads
use Rattle.query.proofs.destination.Reads as destination-reads
use Rattle.query.proofs.across.Reads as across-reads
use Rattle.query.proofs.halfedge_is_border.Reads as halfedge-is-border-reads
use Rattle.query.proofs.vertex_is_border.Reads as vertex-is-border-reads
use Rattle.walker.specs.Walkers.{record_of}
use Rattle.walker.proofs.Walker.start.Kinds as start-kinds
use Rattle.walker.proofs.Walker.start.Reads as start-reads
use Rattle.walker.proofs.Walker.step.Kinds as step-kinds
use Rattle.walker.proofs.Walker.step.Reads as step-reads
use Rattle.runs.specs.Runs.{StartRun, StepRun, BuildRun, RecoverRun, SiblingsRun, SwapRun, ShapeRun, OffRun}
use Rattle.runs.specs.Runs.{SplitRun, ContractRun, RingRun, NeighboursRun, BorderLoopRun, HolesRun}

-- next_side(row, i) and previous_side(row, i)
module _ (κs : Lfts 0) (a : Dens κs next-side-kinds.ps) (r : (res_t next-side-kinds.r κs).Denot) (s : AtExit (ended_of 0 next-side-kinds.ps next-side-kinds.r) κs) where
  pub next_side_run : next-side-reads.Post κs a r s → r ≡ next_side a.0 a.1.0
  next_side_run p = p

  pub previous_side_run : previous-side-reads.Post κs a r s → r ≡ previous_side a.0 a.1.0
  previous_side_run p = p

-- the buffers of build(n, list, v2e, e2e, b2e, work)
abbrev pub buffers : (κs : Lfts 5) → Dens κs build-kinds.ps → Buffers
buffers κs a = lent a.1.1.0.now a.1.1.1.0.now a.1.1.1.1.0.now a.1.1.1.1.1.0.now

module _ (κs : Lfts 5) (a : Dens κs build-kinds.ps) (r : (res_t build-kinds.r κs).Denot) (s : AtExit (ended_of 5 build-kinds.ps build-kinds.r) κs) where
  abbrev ends : Buffers
  ends = lent s.1.1.0.now s.1.1.1.0.now s.1.1.1.1.0.now s.1.1.1.1.1.0.now

  pub build_run : build-reads.Post κs a r s → BuildRun a.0 a.1.0.now (buffers κs a) (numbers r) ends
  build_run p = record { answer = p.0; leaves = p.1 }

-- recover(n, m, v2e, e2e, list, work)
module _ (κs : Lfts 4) (a : Dens κs recover-kinds.ps) (r : (res_t recover-kinds.r κs).Denot) (s : AtExit (ended_of 4 recover-kinds.ps recover-kinds.r) κs) where
  pub recover_run : recover-reads.Post κs a r s
      → RecoverRun a.0 a.1.0 a.1.1.0.now a.1.1.1.0.now a.1.1.1.1.0.now a.1.1.1.1.1.0.now (numbers r)
      s.1.1.1.1.0.now s.1.1.1.1.1.0.now
  recover_run p = record { answer = p.0; leaves = p.1.0; clears = p.1.1 }

-- siblings(n, list, v2e, sibhe, work)
module _ (κs : Lfts 4) (a : Dens κs siblings-kinds.ps) (r : (res_t siblings-kinds.r κs).Denot) (s : AtExit (ended_of 4 siblings-kinds.ps siblings-kinds.r) κs) where
  pub siblings_run : siblings-reads.Post κs a r s
      → SiblingsRun a.0 a.1.0.now (lent_maps a.1.1.0.now a.1.1.1.0.now a.1.1.1.1.0.now) (numbers r)
      (lent_maps s.1.1.0.now s.1.1.1.0.now s.1.1.1.1.0.now)
  siblings_run p = record { answer = p.0; leaves = p.1 }

-- shape(n, list, work)
module _ (κs : Lfts 2) (a : Dens κs shape-kinds.ps) (r : (res_t shape-kinds.r κs).Denot) (s : AtExit (ended_of 2 shape-kinds.ps shape-kinds.r) κs) where
  pub shape_run : shape-reads.Post κs a r s → ShapeRun a.0 a.1.0.now a.1.1.0.now (numbers r) s.1.1.0.now
  shape_run p = record { answer = p.0; clears = p.1 }

-- read_off(text, list)
module _ (κs : Lfts 2) (a : Dens κs read-off-kinds.ps) (r : (res_t read-off-kinds.r κs).Denot) (s : AtExit (ended_of 2 read-off-kinds.ps read-off-kinds.r) κs) where
  pub off_run : read-off-reads.Post κs a r s → OffRun a.0.now a.1.0.now (numbers r) s.1.0.now
  off_run p = record { answer = p.0; leaves = p.1 }

-- swap(n, m, list, v2e, e2e, b2e, work, code)
module _ (κs : Lfts 5) (a : Dens κs swap-kinds.ps) (r : (res_t swap-kinds.r κs).Denot) (s : AtExit (ended_of 5 swap-kinds.ps swap-kinds.r) κs) where
  pub swap_run : swap-reads.Post κs a r s
      → SwapRun
      (lent_edit a.0 a.1.0 a.1.1.0.now a.1.1.1.0.now a.1.1.1.1.0.now a.1.1.1.1.1.0.now a.1.1.1.1.1.1.0.now)
      a.1.1.1.1.1.1.1.0 (numbers r)
      (lent_edit a.0 a.1.0 s.1.1.0.now s.1.1.1.0.now s.1.1.1.1.0.now s.1.1.1.1.1.0.now s.1.1.1.1.1.1.0.now)
  swap_run p = record { answer = p.0; leaves = p.1 }

-- split(size, list, v2e, e2e, b2e, points, work, code)
module _ (κs : Lfts 7) (a : Dens κs split-kinds.ps) (r : (res_t split-kinds.r κs).Denot) (s : AtExit (ended_of 7 split-kinds.ps split-kinds.r) κs) where
  pub split_run : split-reads.Post κs a r s
      → SplitRun
      (lent_sized a.0.now a.1.0.now a.1.1.0.now a.1.1.1.0.now a.1.1.1.1.0.now a.1.1.1.1.1.1.0.now)
      a.1.1.1.1.1.0.now a.1.1.1.1.1.1.1.0 (numbers r)
      (lent_sized s.0.now s.1.0.now s.1.1.0.now s.1.1.1.0.now s.1.1.1.1.0.now s.1.1.1.1.1.1.0.now)
      s.1.1.1.1.1.0.now
  split_run p = record { edit = record { answer = p.0; leaves = p.1.0 }; points = p.1.1 }

-- contract(size, list, v2e, e2e, b2e, points, work, code)
module _ (κs : Lfts 7) (a : Dens κs contract-kinds.ps) (r : (res_t contract-kinds.r κs).Denot) (s : AtExit (ended_of 7 contract-kinds.ps contract-kinds.r) κs) where
  pub contract_run : contract-reads.Post κs a r s
      → ContractRun
      (lent_sized a.0.now a.1.0.now a.1.1.0.now a.1.1.1.0.now a.1.1.1.1.0.now a.1.1.1.1.1.1.0.now)
      a.1.1.1.1.1.0.now a.1.1.1.1.1.1.1.0 (numbers r)
      (lent_sized s.0.now s.1.0.now s.1.1.0.now s.1.1.1.0.now s.1.1.1.1.0.now s.1.1.1.1.1.1.0.now)
      s.1.1.1.1.1.0.now
  contract_run p = record { edit = record { answer = p.0; leaves = p.1.0 }; points = p.1.1 }

-- columns(n, list)
module _ (κs : Lfts 1) (a : Dens κs columns-kinds.ps) (r : (res_t columns-kinds.r κs).Denot) (s : AtExit (ended_of 1 columns-kinds.ps columns-kinds.r) κs) where
  pub columns_run : columns-reads.Post κs a r s → numbers r ≡ columns_answer a.0 a.1.0.now
  columns_run p = p

-- what a query (mesh, code or vertex) is asked about
abbrev pub asked : (κs : Lfts 2) → Dens κs opposite-kinds.ps → Mesh
asked κs a = a.0.now

abbrev pub of : (κs : Lfts 2) → Dens κs opposite-kinds.ps → ℕ
of κs a = a.1.0

module _ (κs : Lfts 2) (a : Dens κs opposite-kinds.ps) (r : (res_t opposite-kinds.r κs).Denot) (s : AtExit (ended_of 2 opposite-kinds.ps opposite-kinds.r) κs) where
  pub opposite_run : opposite-reads.Post κs a r s → numbers r ≡ opposite_answer (asked κs a) (of κs a)
  opposite_run p = p

  pub next_run : next-reads.Post κs a r s → numbers r ≡ next_answer (asked κs a) (of κs a)
  next_run p = p

  pub previous_run : previous-reads.Post κs a r s → numbers r ≡ previous_answer (asked κs a) (of κs a)
  previous_run p = p

  pub element_run : element-reads.Post κs a r s → numbers r ≡ element_answer (asked κs a) (of κs a)
  element_run p = p

  pub origin_run : origin-reads.Post κs a r s → numbers r ≡ origin_answer (asked κs a) (of κs a)
  origin_run p = p

  pub destination_run : destination-reads.Post κs a r s → numbers r ≡ destination_answer (asked κs a) (of κs a)
  destination_run p = p

  pub across_run : across-reads.Post κs a r s → numbers r ≡ across_answer (asked κs a) (of κs a)
  across_run p = p

  pub half_edge_border_run : halfedge-is-border-reads.Post κs a r s → numbers r ≡ half_edge_border_answer (asked κs a) (of κs a)
  half_edge_border_run p = p

  pub vertex_border_run : vertex-is-border-reads.Post κs a r s → numbers r ≡ vertex_border_answer (asked κs a) (of κs a)
  vertex_border_run p = p

-- what a query that writes a list (mesh, vertex or border, out) is asked about
abbrev pub listed : (κs : Lfts 3) → Dens κs ring-kinds.ps → Mesh
listed κs a = a.0.now

module _ (κs : Lfts 3) (a : Dens κs ring-kinds.ps) (r : (res_t ring-kinds.r κs).Denot) (s : AtExit (ended_of 3 ring-kinds.ps ring-kinds.r) κs) where
  pub ring_run : ring-reads.Post κs a r s → RingRun (listed κs a) a.1.0 a.1.1.0.now (numbers r) s.1.1.0.now
  ring_run p = record { answer = p.0; leaves = p.1 }

  pub neighbours_run : neighbours-reads.Post κs a r s → NeighboursRun (listed κs a) a.1.0 a.1.1.0.now (numbers r) s.1.1.0.now
  neighbours_run p = record { answer = p.0; leaves = p.1 }

  pub border_loop_run : border-loop-reads.Post κs a r s → BorderLoopRun (listed κs a) a.1.0 a.1.1.0.now (numbers r) s.1.1.0.now
  border_loop_run p = record { answer = p.0; leaves = p.1 }

-- holes(mesh, hole, lengths, work)
module _ (κs : Lfts 5) (a : Dens κs holes-kinds.ps) (r : (res_t holes-kinds.r κs).Denot) (s : AtExit (ended_of 5 holes-kinds.ps holes-kinds.r) κs) where
  pub holes_run : holes-reads.Post κs a r s
      → HolesRun a.0.now (lent_holes a.1.0.now a.1.1.0.now a.1.1.1.0.now) (numbers r)
      (lent_holes s.1.0.now s.1.1.0.now s.1.1.1.0.now)
  holes_run p = record { answer = p.0; leaves = p.1 }

-- a walker's calls, over the record that is lent (record, mesh, and a start's vertex)
module _ (κs : Lfts 3) (a : Dens κs start-kinds.ps) (r : (res_t start-kinds.r κs).Denot) (s : AtExit (ended_of 3 start-kinds.ps start-kinds.r) κs) where
  pub start_run : start-reads.Post κs a r s → StartRun a.1.0.now a.1.1.0 (record_of a.0.now) (numbers r) (record_of s.0.now)
  start_run p = record { answer = ap (λ (x : Walked). x.answer) p; leaves = ap (λ (x : Walked). x.walker) p }

module _ (κs : Lfts 3) (a : Dens κs step-kinds.ps) (r : (res_t step-kinds.r κs).Denot) (s : AtExit (ended_of 3 step-kinds.ps step-kinds.r) κs) where
  pub step_run : step-reads.Post κs a r s → StepRun a.1.0.now (record_of a.0.now) (numbers r) (record_of s.0.now)
  step_run p = record { answer = ap (λ (x : Walked). x.answer) p; leaves = ap (λ (x : Walked). x.walker) p }
