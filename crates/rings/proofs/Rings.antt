-- The lists of the queries as walks.
-- Assumes nothing.
use mathlib.Core.Logic.{◌⊎◌, inl, inr}
use mathlib.Core.Option.{Option, none, some}
use mathlib.Core.List.{List, [], ◌∷◌}
use mathlib.Core.Path.{◌≡◌, refl, ap, sym, ◌∙◌}
use Prim.Native.Nat.{ℕ, zero, suc, ◌%◌}
use native.Mathlib.Omega.{arith}
use lib.Dec.{T}
use lib.ListN.{length}
use Rattle.lists.specs.TestLaws.{zero_or}
use Rattle.rules.specs.Elements.{elements, element, Side, next}
use Rattle.rules.specs.Queries.{Mesh, and_then, by_side, by_entry, prepend, read_all, follow, over, is_half_edge, is_vertex}
use Rattle.rules.specs.Queries.{read_vertex_entry, read_border_side, read_origin, read_destination, start_side, onward, ring_sides, ring, neighbours, loop_next, border_loop}
use Rattle.theory.specs.Steps.{next_side_lem}
use Rattle.reads.specs.Readings.{prior_vertex}
use Rattle.passes.specs.Walks.{walked, preceded}
use Rattle.theory.specs.Follows.{follow_none}
use Rattle.theory.specs.Reads.{and_then_lem, was_valid, and_none, and_some}
use Rattle.reads.proofs.Readings.{at_border, at_side, at_unused, at_used}
use Rattle.reads.proofs.Tested.{half_side, vertex_facts, border_side, entry_half}
use Rattle.passes.proofs.Listing.{preceded_none}

module _ (M : Mesh) (v : ℕ) where
  -- a ring starts with a side, or it doesn't start
  pub start_side_lem : (s : ℕ) → start_side M v ≡ some s → (s ≡ 0 → ⊥) → Side M.list s
  unfolding start_side
  start_side_lem s e d = let (c, p, q) = and_some (read_vertex_entry M v) _ s e in go c p q (zero_or c)
    where
      by : (c : ℕ) → T (is_half_edge M c) → by_side c (some c) (and_then (read_border_side M c) (λ s. some (next M.list s))) ≡ some s → (c % 8 ≡ 0) ⊎ (c % 8 ≡ 0 → ⊥) → Side M.list s
      by c h q (inl z) =
          let (t, p, r) = and_some (read_border_side M c) _ s (sym (at_border c _ _ z) ∙ q) in
          let f : next M.list t ≡ s = cc in
          rw f at (next_side_lem M.list t (border_side M c t p))
      by c h q (inr n) =
          let r : some c ≡ some s = sym (at_side c _ _ n) ∙ q in
          let f : c ≡ s = cc in rw f at (half_side M c h n)

      go : (c : ℕ) → read_vertex_entry M v ≡ some c → by_entry c (some 0) (some c) (and_then (read_border_side M c) (λ s. some (next M.list s))) ≡ some s →
          (c ≡ 0) ⊎ (c ≡ 0 → ⊥) → Side M.list s
      go c p q (inl z) = let r : some 0 ≡ some s = sym (at_unused c _ _ _ z) ∙ q in let f : 0 ≡ s = cc in absurd (d (sym f))
      go c p q (inr n) = by c (entry_half M v c p n) (sym (at_used c _ _ _ n) ∙ q) (zero_or (c % 8))

  pub ring_walk : (s : ℕ) → start_side M v ≡ some s → walked (λ x. some (element x)) (onward M s) (elements M.list) s ≡ ring M v
  unfolding ring ring_sides
  ring_walk s e = ap (over _) (sym (and_then_lem _ e))

  pub ring_none : start_side M v ≡ none → ring M v ≡ none
  unfolding ring ring_sides over
  ring_none e = ap (over _) (and_none _ e)

  -- the ends of the ring's sides, after the vertex before them
  ends : Option (List ℕ)
  ends = over (read_destination M) (ring_sides M v)

  before_list : (u : ℕ) (E : Option (List ℕ)) → T (is_vertex M u) → prepend u E ≡ preceded u E
  unfolding preceded
  before_list zero E t = absurd (omega (arith, vertex_facts M 0 t))
  before_list (suc u) E t = refl

  read_before : (E : Option (List ℕ)) (s : ℕ) → and_then (read_origin M s) (λ u. prepend u E) ≡ and_then (read_origin M s) (λ u. preceded u E)
  unfolding and_then read_origin
  read_before E s = go (read_origin M s) refl
    where
      go : (o : Option ℕ) → read_origin M s ≡ o → and_then o (λ u. prepend u E) ≡ and_then o (λ u. preceded u E)
      go (some u) e = before_list u E (was_valid (is_vertex M) _ u e)
      go none e = refl

  border_before : (E : Option (List ℕ)) (o : Option ℕ) → and_then o (λ s. and_then (read_origin M s) (λ u. prepend u E)) ≡ and_then (and_then o (read_origin M)) (λ u. preceded u E)
  unfolding and_then
  border_before E (some s) = read_before E s
  border_before E none = refl

  -- the ring of an unused vertex has no ends
  no_ends : read_vertex_entry M v ≡ some 0 → ends ≡ some []
  unfolding ends ring_sides start_side over read_all
  no_ends e = ap (over (read_destination M)) (and_then_lem _ (and_then_lem _ e) ∙ follow_none (onward M 0) (elements M.list))

  code_before : (E : Option (List ℕ)) (c : ℕ) →
      by_side c E (and_then (read_border_side M c) (λ s. and_then (read_origin M s) (λ u. prepend u E))) ≡ and_then (by_side c (some 0) (and_then (read_border_side M c) (read_origin M))) (λ u. preceded u E)
  unfolding and_then preceded
  code_before E c = by (zero_or (c % 8))
    where
      by : (c % 8 ≡ 0) ⊎ (c % 8 ≡ 0 → ⊥) → by_side c E (and_then (read_border_side M c) (λ s. and_then (read_origin M s) (λ u. prepend u E)))
          ≡ and_then (by_side c (some 0) (and_then (read_border_side M c) (read_origin M))) (λ u. preceded u E)
      by (inl z) = at_border c _ _ z ∙ border_before E (read_border_side M c) ∙ ap (λ (o : Option ℕ). and_then o (λ u. preceded u E)) (sym (at_border c _ _ z))
      by (inr d) = at_side c _ _ d ∙ ap (λ (o : Option ℕ). and_then o (λ u. preceded u E)) (sym (at_side c (some 0) _ d))

  entry_before : (c : ℕ) → read_vertex_entry M v ≡ some c →
      by_entry c (some []) ends (and_then (read_border_side M c) (λ s. and_then (read_origin M s) (λ u. prepend u ends)))
      ≡ and_then (by_entry c (some 0) (some 0) (and_then (read_border_side M c) (read_origin M))) (λ u. preceded u ends)
  unfolding and_then preceded
  entry_before c e = by (zero_or c)
    where
      by : (c ≡ 0) ⊎ (c ≡ 0 → ⊥) → by_entry c (some []) ends (and_then (read_border_side M c) (λ s. and_then (read_origin M s) (λ u. prepend u ends)))
          ≡ and_then (by_entry c (some 0) (some 0) (and_then (read_border_side M c) (read_origin M))) (λ u. preceded u ends)
      by (inl z) =
          at_unused c _ _ _ z
          ∙ sym (no_ends (e ∙ ap some z))
          ∙ ap (λ (o : Option ℕ). and_then o (λ u. preceded u ends)) (sym (at_unused c (some 0) (some 0) _ z))
      by (inr d) =
          at_used c _ _ _ d
          ∙ code_before ends c
          ∙ ap (λ (o : Option ℕ). and_then o (λ u. preceded u ends)) (sym (at_used c (some 0) (some 0) _ d))

  neighbours_by : neighbours M v ≡ and_then (prior_vertex M v) (λ u. preceded u ends)
  unfolding neighbours prior_vertex and_then ends
  neighbours_by = go (read_vertex_entry M v) refl
    where
      go : (o : Option ℕ) → read_vertex_entry M v ≡ o → and_then o (λ c. by_entry c (some []) ends (and_then (read_border_side M c) (λ s. and_then (read_origin M s) (λ u. prepend u ends))))
          ≡ and_then (and_then o (λ c. by_entry c (some 0) (some 0) (and_then (read_border_side M c) (read_origin M)))) (λ u. preceded u ends)
      go (some c) e = entry_before c e
      go none e = refl

  pub neighbours_walk : (s u : ℕ) → start_side M v ≡ some s → prior_vertex M v ≡ some u → preceded u (walked (read_destination M) (onward M s) (elements M.list) s) ≡ neighbours M v
  unfolding ring_sides ends
  neighbours_walk s u e p =
      ap (λ (o : Option (List ℕ)). preceded u (over (read_destination M) o)) (sym (and_then_lem _ e)) ∙ sym (neighbours_by ∙ and_then_lem _ p)

  pub neighbours_unstarted : start_side M v ≡ none → neighbours M v ≡ none
  unfolding ring_sides ends over and_then
  neighbours_unstarted e =
      neighbours_by ∙ ap (λ (o : Option (List ℕ)). and_then (prior_vertex M v) (λ u. preceded u (over (read_destination M) o))) (and_none _ e) ∙ go (prior_vertex M v)
    where
      go : (o : Option ℕ) → and_then o (λ u. preceded u none) ≡ none
      go (some u) = preceded_none u
      go none = refl

  pub neighbours_unread : prior_vertex M v ≡ none → neighbours M v ≡ none
  neighbours_unread p = neighbours_by ∙ and_none _ p

read_each : (xs : List ℕ) → read_all some xs ≡ some xs
unfolding read_all and_then prepend
read_each [] = refl
read_each (x ∷ xs) = ap (prepend x) (read_each xs)

pub border_walk : (M : Mesh) (b : ℕ) → walked some (loop_next M b) (length M.border) b ≡ border_loop M b
unfolding border_loop over
border_walk M b = go (follow (loop_next M b) (length M.border) b)
  where
    go : (o : Option (List ℕ)) → over some o ≡ o
    go (some xs) = read_each xs
    go none = refl
