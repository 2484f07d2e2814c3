-- What each exported call returns, taken apart by the header's formulas, is the rule's answer. `Post` is the call's own contract.
-- Assumes nothing.
use Rattle.std.specs.Prelude.{ℕ, ◌≡◌, refl, T}
use Rattle.std.proofs.Common.{ap, ◌∙◌}
use contract.Lifetimes.{Lfts}
use borrow.Fn.Kinds.{Dens, res_t, ended_of}
use denote.Triple.Clauses.{AtExit}
use Rattle.rules.specs.Pairing.{Accepted}
use Rattle.rules.specs.Refusals.{build_answer, recover_answer}
use Rattle.rules.specs.Siblings.{siblings_answer}
use Rattle.edit_rules.specs.Swap.{swap_answer}
use Rattle.edit_rules.specs.Split.{split_answer}
use Rattle.edit_rules.specs.Contract.{contract_answer}
use Rattle.edit_rules.specs.Shape.{shape, shape_lengths, shape_answer}
use Rattle.off_rules.specs.Off.{off_answer}
use Rattle.rules.specs.Holes.{holes_answer}
use Rattle.rules.specs.Queries.{told as mesh-of}
use Rattle.rules.specs.Queries.{Mesh, columns_answer, opposite_answer, next_answer, previous_answer, element_answer, origin_answer, destination_answer, across_answer}
use Rattle.rules.specs.Queries.{half_edge_border_answer, vertex_border_answer, ring_answer, neighbours_answer, border_loop_answer, walker_start, walker_step}
use Rattle.answer.specs.Numbers.{packed_answer, unpacked, signed_in}
use Rattle.borzhanu.proofs.borzhanu_build.Kinds as build-kinds
use Rattle.borzhanu.proofs.borzhanu_build.Reads as build-reads
use Rattle.borzhanu.proofs.borzhanu_columns.Kinds as columns-kinds
use Rattle.borzhanu.proofs.borzhanu_columns.Reads as columns-reads
use Rattle.borzhanu.proofs.borzhanu_recover.Kinds as recover-kinds
use Rattle.borzhanu.proofs.borzhanu_recover.Reads as recover-reads
use Rattle.borzhanu.proofs.borzhanu_siblings.Kinds as siblings-kinds
use Rattle.borzhanu.proofs.borzhanu_siblings.Reads as siblings-reads
use Rattle.borzhanu.proofs.borzhanu_swap.Kinds as swap-kinds
use Rattle.borzhanu.proofs.borzhanu_swap.Reads as swap-reads
use Rattle.borzhanu.proofs.borzhanu_split.Kinds as split-kinds
use Rattle.borzhanu.proofs.borzhanu_split.Reads as split-reads
use Rattle.borzhanu.proofs.borzhanu_contract.Kinds as contract-kinds
use Rattle.borzhanu.proofs.borzhanu_contract.Reads as contract-reads
use Rattle.borzhanu.proofs.borzhanu_shape.Kinds as shape-kinds
use Rattle.borzhanu.proofs.borzhanu_shape.Reads as shape-reads
use Rattle.borzhanu.proofs.borzhanu_read_off.Kinds as read-off-kinds
use Rattle.borzhanu.proofs.borzhanu_read_off.Reads as read-off-reads
use Rattle.borzhanu.proofs.borzhanu_opposite.Kinds as opposite-kinds
use Rattle.borzhanu.proofs.borzhanu_opposite.Reads as opposite-reads
use Rattle.borzhanu.proofs.borzhanu_next.Reads as next-reads
use Rattle.borzhanu.proofs.borzhanu_previous.Reads as previous-reads
use Rattle.borzhanu.proofs.borzhanu_element.Reads as element-reads
use Rattle.borzhanu.proofs.borzhanu_origin.Reads as origin-reads
use Rattle.borzhanu.proofs.borzhanu_destination.Reads as destination-reads
use Rattle.borzhanu.proofs.borzhanu_across.Reads as across-reads
use Rattle.borzhanu.proofs.borzhanu_halfedge_is_border.Reads as halfedge-is-border-reads
use Rattle.borzhanu.proofs.borzhanu_vertex_is_border.Reads as vertex-is-border-reads
use Rattle.borzhanu.proofs.borzhanu_ring.Kinds as ring-kinds
use Rattle.borzhanu.proofs.borzhanu_ring.Reads as ring-reads
use Rattle.borzhanu.proofs.borzhanu_neighbours.Reads as neighbours-reads
use Rattle.borzhanu.proofs.borzhanu_border_loop.Reads as border-loop-reads
use Rattle.borzhanu.proofs.borzhanu_holes.Kinds as holes-kinds
use Rattle.borzhanu.proofs.borzhanu_holes.Reads as holes-reads
use Rattle.borzhanu.proofs.borzhanu_walker_start.Kinds as start-kinds
use Rattle.borzhanu.proofs.borzhanu_walker_start.Reads as start-reads
use Rattle.borzhanu.proofs.borzhanu_walker_step.Kinds as step-kinds
use Rattle.borzhanu.proofs.borzhanu_walker_step.Reads as step-reads
use Rattle.edits.specs.Holding.{lent_sized}
use Rattle.sibling_map.specs.Mapping.{lent_maps}
use Rattle.holes.specs.Marks.{lent_holes}
use Rattle.borzhanu.specs.Walkers.{walker_in}
use Rattle.answer.specs.Packing.{told, signed_told}
use Rattle.runs.proofs.Promises.{buffers}
use Rattle.runs.proofs.Shapes.{tells}
use Rattle.runs.proofs.Texts.{off_fits}
use Rattle.runs.proofs.Bounds.{build_fits, columns_fits, recover_fits, siblings_fits, swap_fits, split_fits}
use Rattle.runs.proofs.Bounds.{contract_fits, shape_small, shape_fits, opposite_fits, next_fits, previous_fits, element_fits, origin_fits, destination_fits}
use Rattle.runs.proofs.Bounds.{across_fits, half_edge_border_fits, vertex_border_fits, ring_fits, neighbours_fits}
use Rattle.runs.proofs.Bounds.{border_loop_fits, holes_fits, start_fits, step_fits}

module _ (κs : Lfts 5) (a : Dens κs build-kinds.ps) (r : (res_t build-kinds.r κs).Denot) (s : AtExit (ended_of 5 build-kinds.ps build-kinds.r) κs) where
  pub build_told : build-reads.Post κs a r s → unpacked r ≡ build_answer a.0 a.1.0.now (buffers κs a)
  build_told p = told _ (build_fits _ _ (buffers κs a)) r p.0

module _ (κs : Lfts 4) (a : Dens κs recover-kinds.ps) (r : (res_t recover-kinds.r κs).Denot) (s : AtExit (ended_of 4 recover-kinds.ps recover-kinds.r) κs) where
  pub recover_told : recover-reads.Post κs a r s
      → unpacked r ≡ recover_answer a.0 a.1.0 a.1.1.0.now a.1.1.1.0.now a.1.1.1.1.0.now a.1.1.1.1.1.0.now
  recover_told p = told _ (recover_fits _ _ _ _ _ _) r p.0

module _ (κs : Lfts 4) (a : Dens κs siblings-kinds.ps) (r : (res_t siblings-kinds.r κs).Denot) (s : AtExit (ended_of 4 siblings-kinds.ps siblings-kinds.r) κs) where
  pub siblings_told : siblings-reads.Post κs a r s
      → unpacked r ≡ siblings_answer a.0 a.1.0.now (lent_maps a.1.1.0.now a.1.1.1.0.now a.1.1.1.1.0.now)
  siblings_told p = told _ (siblings_fits _ _ _) r p.0

-- borzhanu_swap(size, elements, v2e, e2e, b2e, work, code)
module _ (κs : Lfts 6) (a : Dens κs swap-kinds.ps) (r : (res_t swap-kinds.r κs).Denot) (s : AtExit (ended_of 6 swap-kinds.ps swap-kinds.r) κs) where
  pub swap_told : swap-reads.Post κs a r s
      → unpacked r
      ≡ swap_answer (lent_sized a.0.now a.1.0.now a.1.1.0.now a.1.1.1.0.now a.1.1.1.1.0.now a.1.1.1.1.1.0.now)
      a.1.1.1.1.1.1.0
  swap_told p = told _ (swap_fits _ _) r p.0

-- borzhanu_split(size, elements, v2e, e2e, b2e, points, work, code)
module _ (κs : Lfts 7) (a : Dens κs split-kinds.ps) (r : (res_t split-kinds.r κs).Denot) (s : AtExit (ended_of 7 split-kinds.ps split-kinds.r) κs) where
  pub split_told : split-reads.Post κs a r s
      → unpacked r
      ≡ split_answer (lent_sized a.0.now a.1.0.now a.1.1.0.now a.1.1.1.0.now a.1.1.1.1.0.now a.1.1.1.1.1.1.0.now)
      a.1.1.1.1.1.0.now a.1.1.1.1.1.1.1.0
  split_told p = told _ (split_fits _ _ _) r p.0

-- borzhanu_contract(size, elements, v2e, e2e, b2e, points, work, code)
module _ (κs : Lfts 7) (a : Dens κs contract-kinds.ps) (r : (res_t contract-kinds.r κs).Denot) (s : AtExit (ended_of 7 contract-kinds.ps contract-kinds.r) κs) where
  pub contract_told : contract-reads.Post κs a r s
      → unpacked r
      ≡ contract_answer (lent_sized a.0.now a.1.0.now a.1.1.0.now a.1.1.1.0.now a.1.1.1.1.0.now a.1.1.1.1.1.1.0.now)
      a.1.1.1.1.1.0.now a.1.1.1.1.1.1.1.0
  contract_told p = told _ (contract_fits _ _ _) r p.0

-- borzhanu_shape(n, elements, work)
module _ (κs : Lfts 2) (a : Dens κs shape-kinds.ps) (r : (res_t shape-kinds.r κs).Denot) (s : AtExit (ended_of 2 shape-kinds.ps shape-kinds.r) κs) where
  pub shape_told : shape-reads.Post κs a r s → unpacked r ≡ shape_answer a.0 a.1.0.now a.1.1.0.now
  shape_told p = told _ (shape_fits _ _ _) r p.0

  -- of an accepted list borzhanu_signed gives the number
  pub number_told : shape-reads.Post κs a r s → Accepted a.0 a.1.0.now → T (shape_lengths a.0 a.1.0.now a.1.1.0.now)
      → signed_in r ≡ shape a.0 a.1.0.now
  number_told p x long =
      signed_told (shape a.0 a.1.0.now) (shape_small _ _ x) r
      (p.0 ∙ ap packed_answer (tells _ _ _ _ _ (record { answer = refl; clears = p.1 }) long x))

-- borzhanu_read_off(text, elements)
module _ (κs : Lfts 2) (a : Dens κs read-off-kinds.ps) (r : (res_t read-off-kinds.r κs).Denot) (s : AtExit (ended_of 2 read-off-kinds.ps read-off-kinds.r) κs) where
  pub off_told : read-off-reads.Post κs a r s → unpacked r ≡ off_answer a.0.now a.1.0.now
  off_told p = told _ (off_fits _ _) r p.0

module _ (κs : Lfts 1) (a : Dens κs columns-kinds.ps) (r : (res_t columns-kinds.r κs).Denot) (s : AtExit (ended_of 1 columns-kinds.ps columns-kinds.r) κs) where
  pub columns_told : columns-reads.Post κs a r s → unpacked r ≡ columns_answer a.0 a.1.0.now
  columns_told p = told _ (columns_fits _ _) r p

-- the mesh of an exported query (n, columns, elements, v2e, e2e, b2e, ..), told the columns
abbrev pub exported : (κs : Lfts 4) → Dens κs opposite-kinds.ps → Mesh
exported κs a = mesh-of a.0 a.1.0 a.1.1.0.now a.1.1.1.0.now a.1.1.1.1.0.now a.1.1.1.1.1.0.now

-- the code or the vertex that it is asked about
abbrev pub exported_of : (κs : Lfts 4) → Dens κs opposite-kinds.ps → ℕ
exported_of κs a = a.1.1.1.1.1.1.0

abbrev pub exported_list : (κs : Lfts 5) → Dens κs ring-kinds.ps → Mesh
exported_list κs a = mesh-of a.0 a.1.0 a.1.1.0.now a.1.1.1.0.now a.1.1.1.1.0.now a.1.1.1.1.1.0.now

module _ (κs : Lfts 4) (a : Dens κs opposite-kinds.ps) (r : (res_t opposite-kinds.r κs).Denot) (s : AtExit (ended_of 4 opposite-kinds.ps opposite-kinds.r) κs) where
  pub opposite_told : opposite-reads.Post κs a r s → unpacked r ≡ opposite_answer (exported κs a) (exported_of κs a)
  opposite_told p = told _ (opposite_fits (exported κs a) (exported_of κs a)) r p

  pub next_told : next-reads.Post κs a r s → unpacked r ≡ next_answer (exported κs a) (exported_of κs a)
  next_told p = told _ (next_fits (exported κs a) (exported_of κs a)) r p

  pub previous_told : previous-reads.Post κs a r s → unpacked r ≡ previous_answer (exported κs a) (exported_of κs a)
  previous_told p = told _ (previous_fits (exported κs a) (exported_of κs a)) r p

  pub element_told : element-reads.Post κs a r s → unpacked r ≡ element_answer (exported κs a) (exported_of κs a)
  element_told p = told _ (element_fits (exported κs a) (exported_of κs a)) r p

  pub origin_told : origin-reads.Post κs a r s → unpacked r ≡ origin_answer (exported κs a) (exported_of κs a)
  origin_told p = told _ (origin_fits (exported κs a) (exported_of κs a)) r p

  pub destination_told : destination-reads.Post κs a r s → unpacked r ≡ destination_answer (exported κs a) (exported_of κs a)
  destination_told p = told _ (destination_fits (exported κs a) (exported_of κs a)) r p

  pub across_told : across-reads.Post κs a r s → unpacked r ≡ across_answer (exported κs a) (exported_of κs a)
  across_told p = told _ (across_fits (exported κs a) (exported_of κs a)) r p

  pub half_edge_border_told : halfedge-is-border-reads.Post κs a r s → unpacked r ≡ half_edge_border_answer (exported κs a) (exported_of κs a)
  half_edge_border_told p = told _ (half_edge_border_fits (exported κs a) (exported_of κs a)) r p

  pub vertex_border_told : vertex-is-border-reads.Post κs a r s → unpacked r ≡ vertex_border_answer (exported κs a) (exported_of κs a)
  vertex_border_told p = told _ (vertex_border_fits (exported κs a) (exported_of κs a)) r p

module _ (κs : Lfts 5) (a : Dens κs ring-kinds.ps) (r : (res_t ring-kinds.r κs).Denot) (s : AtExit (ended_of 5 ring-kinds.ps ring-kinds.r) κs) where
  pub ring_told : ring-reads.Post κs a r s → unpacked r ≡ ring_answer (exported_list κs a) a.1.1.1.1.1.1.0 a.1.1.1.1.1.1.1.0.now
  ring_told p = told _ (ring_fits (exported_list κs a) _ _) r p.0

  pub neighbours_told : neighbours-reads.Post κs a r s → unpacked r ≡ neighbours_answer (exported_list κs a) a.1.1.1.1.1.1.0 a.1.1.1.1.1.1.1.0.now
  neighbours_told p = told _ (neighbours_fits (exported_list κs a) _ _) r p.0

  pub border_loop_told : border-loop-reads.Post κs a r s → unpacked r ≡ border_loop_answer (exported_list κs a) a.1.1.1.1.1.1.0 a.1.1.1.1.1.1.1.0.now
  border_loop_told p = told _ (border_loop_fits (exported_list κs a) _ _) r p.0

-- borzhanu_holes(n, columns, elements, v2e, e2e, b2e, hole, lengths, work)
module _ (κs : Lfts 7) (a : Dens κs holes-kinds.ps) (r : (res_t holes-kinds.r κs).Denot) (s : AtExit (ended_of 7 holes-kinds.ps holes-kinds.r) κs) where
  pub holes_told : holes-reads.Post κs a r s
      → unpacked r ≡ holes_answer (mesh-of a.0 a.1.0 a.1.1.0.now a.1.1.1.0.now a.1.1.1.1.0.now a.1.1.1.1.1.0.now)
      (lent_holes a.1.1.1.1.1.1.0.now a.1.1.1.1.1.1.1.0.now a.1.1.1.1.1.1.1.1.0.now)
  holes_told p = told _ (holes_fits _ _) r p.0

-- borzhanu_walker_start(n, columns, elements, v2e, e2e, b2e, v, walker) and borzhanu_walker_step(n, columns, elements, v2e, e2e, b2e, walker)
module _ (κs : Lfts 5) (a : Dens κs start-kinds.ps) (r : (res_t start-kinds.r κs).Denot) (s : AtExit (ended_of 5 start-kinds.ps start-kinds.r) κs) where
  pub start_told : start-reads.Post κs a r s
      → unpacked r ≡ (walker_start (mesh-of a.0 a.1.0 a.1.1.0.now a.1.1.1.0.now a.1.1.1.1.0.now a.1.1.1.1.1.0.now)
      a.1.1.1.1.1.1.0 (walker_in a.1.1.1.1.1.1.1.0.now)).answer
  start_told p = told _ (start_fits _ _ _) r p.0

module _ (κs : Lfts 5) (a : Dens κs step-kinds.ps) (r : (res_t step-kinds.r κs).Denot) (s : AtExit (ended_of 5 step-kinds.ps step-kinds.r) κs) where
  pub step_told : step-reads.Post κs a r s
      → unpacked r ≡ (walker_step (mesh-of a.0 a.1.0 a.1.1.0.now a.1.1.1.0.now a.1.1.1.1.0.now a.1.1.1.1.1.0.now)
      (walker_in a.1.1.1.1.1.1.0.now)).answer
  step_told p = told _ (step_fits _ _) r p.0
