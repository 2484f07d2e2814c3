-- The number of a shape, document 02, point 9, as one difference of two sums: of an accepted list it is known by n, m and the number of edges.
-- Assumes nothing.
use Rattle.std.specs.Prelude.{◌≡◌, refl, cond, List, ℕ, zero, suc, ◌+◌, ◌-◌, ◌≤◌, ◌<◌, ltb, ℤ, pos, negsuc, neg_ℤ, ◌+ℤ◌, ◌-ℤ◌}
use Rattle.std.proofs.Common.{ap, sym, ◌∙◌, inl, inr, arith}
use Rattle.std.proofs.Math.IntN.{sub_ℕ, +ℤ_assoc, +ℤ_comm}
use Rattle.lists.specs.TestLaws.{true_of, false_of, means_lt, means_not}
use Rattle.lists.specs.SearchLaws.{le_or_lt}
use Rattle.rules.specs.Elements.{elements}
use Rattle.rules.specs.Pairing.{Accepted}
use Rattle.rules.specs.Tables.{edges}
use Rattle.edit_rules.specs.Shape.{joined_pairs, shape}
use Rattle.theory.specs.Orders.{good}
use Rattle.theory.specs.Joined.{pairs_are_edges}
use Rattle.theory.specs.SplitCounts.{Grown}

-- a − b, where it isn't negative and where it is
pub sub_up : (a b : ℕ) → b ≤ a → sub_ℕ a b ≡ pos (a - b)
sub_up a b h =
    ap (λ t. cond t (negsuc (b - suc a)) (pos (a - b)))
    (false_of (ltb a b) ((means_not (means_lt a b)).shows (λ l. omega arith)))

pub sub_down : (a b : ℕ) → a < b → sub_ℕ a b ≡ negsuc (b - suc a)
sub_down a b h = ap (λ t. cond t (negsuc (b - suc a)) (pos (a - b))) (true_of (ltb a b) ((means_lt a b).shows h))

-- it is known by what is added and what is taken away
pub sub_same : (a b c d : ℕ) → a + d ≡ c + b → sub_ℕ a b ≡ sub_ℕ c d
sub_same a b c d e = elim (le_or_lt b a) [
  | inl h ↦
      let same : a - b ≡ c - d = omega arith in
      sub_up a b h ∙ ap pos same ∙ sym (sub_up c d (omega arith))
  | inr h ↦
      let same : b - suc a ≡ d - suc c = omega arith in
      sub_down a b h ∙ ap negsuc same ∙ sym (sub_down c d (omega arith))
]

minus : (a b : ℕ) → pos a -ℤ pos b ≡ sub_ℕ a b
minus a zero =
    let same : a + 0 ≡ a - 0 = omega arith in
    ap pos same ∙ sym (sub_up a 0 (omega arith))
minus a (suc b) = refl

pub shape_by : (n : ℕ) (L : List ℕ) → shape n L ≡ sub_ℕ (n + elements L) (joined_pairs n L)
unfolding shape
shape_by n L =
    let p = pos n in
    let q = neg_ℤ (pos (joined_pairs n L)) in
    let r = pos (elements L) in
    +ℤ_assoc p q r
    ∙ ap (λ (x : ℤ). p +ℤ x) (+ℤ_comm q r)
    ∙ sym (+ℤ_assoc p r q)
    ∙ minus (n + elements L) (joined_pairs n L)

pub shape_counted : (n : ℕ) (L : List ℕ) → Accepted n L → shape n L ≡ sub_ℕ (n + elements L) (edges L)
shape_counted n L x = shape_by n L ∙ ap (sub_ℕ (n + elements L)) (pairs_are_edges n L (good n L x))

module _ (n : ℕ) (L : List ℕ) (n' : ℕ) (L' : List ℕ) (old : Accepted n L) (new : Accepted n' L') where
  pub same_shape : n' + elements L' + edges L ≡ n + elements L + edges L' → shape n' L' ≡ shape n L
  same_shape e =
      shape_counted n' L' new
      ∙ sub_same (n' + elements L') (edges L') (n + elements L) (edges L) e
      ∙ sym (shape_counted n L old)

  -- a vertex more, and as many edges more as vertices and elements together
  pub grown_shape : {m k e : ℕ} → n' ≡ n + 1 → Grown L L' m k e → e ≡ m + 1 → shape n' L' ≡ shape n L
  grown_shape v x h = same_shape (omega (arith, x.elements_by, x.edges_by))
