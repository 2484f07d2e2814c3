-- Swapping the diagonal of two triangles keeps the number of border sides and of edges.
-- Assumes nothing.
use Rattle.std.specs.Prelude.{◌≡◌, Bool, true, List, ℕ, ◌≤◌, ◌<◌, T, length}
use Rattle.std.proofs.Math.Path.{refl, ap}
use Rattle.std.proofs.Common.{sym, ◌∙◌, arith}
use Rattle.lists.specs.Tests.{both}
use Rattle.lists.specs.TestLaws.{passes, both_pass}
use Rattle.lists.specs.Search.{count}
use Rattle.lists.specs.SearchLaws.{count_same}
use Rattle.lists.specs.Matches.{count_matched}
use Rattle.rules.specs.Elements.{is_side, Side, slot, origin, destination, side_at, side_with, count_sides}
use Rattle.rules.specs.Tables.{is_border, borders, edges}
use Rattle.theory.specs.Sides.{side_at_slot, slot_side_at, slot_below}
use Rattle.theory.specs.Entries.{means_border}
use Rattle.theory.specs.Triangles.{Runs}
use Rattle.theory.specs.Replacing.{same_side}
use Rattle.theory.specs.Orders.{Good, lone}
use Rattle.theory.specs.Counterparts.{Swapped, reversed, border_there, Crossed, crossed_swapped}

-- where each side of L with the test t has for its own one of L' with the test t', there are no more of them; own r q: q is that of r alone
pub sides_matched : (L L' : List ℕ) (t t' : ℕ → Bool) (own : ℕ → ℕ → Type 0) → ((r p q : ℕ) → own r q → own p q → r ≡ p)
    → ((r : ℕ) → Side L r → T (t r) → (q : ℕ) × Side L' q × T (t' q) × own r q) → count_sides L t ≤ count_sides L' t'
unfolding count_sides
sides_matched L L' t t' own alone f =
    count_matched (λ i j. own (side_at i) (side_at j)) places (side_with L t) (length L') (side_with L' t') (length L) there
  where
    places : (i k j : ℕ) → own (side_at i) (side_at j) → own (side_at k) (side_at j) → i ≡ k
    places i k j y z = sym (slot_side_at i) ∙ ap slot (alone (side_at i) (side_at k) (side_at j) y z) ∙ slot_side_at k

    there : (i : ℕ) → i < length L → T (side_with L t i) → (j : ℕ) × (j < length L') × T (side_with L' t' j) × own (side_at i) (side_at j)
    there i h y =
        let (w, z) = passes (is_side L (side_at i)) (t (side_at i)) y in
        let (q, v, u, o) = f (side_at i) w z in
        let e = side_at_slot L' q v in
        (slot q, slot_below L' q v, both_pass (is_side L' (side_at (slot q))) (t' (side_at (slot q))) (rw e v) (rw e u), rw e o)

module _ (n : ℕ) {L L' : List ℕ} {s t s' t' a b c d : ℕ} (good : Good n L) (good' : Good n L') (x : Swapped L s t L' s' t' a b c d) where
  -- a side and its counterpart
  abbrev Own : ℕ → ℕ → Type 0
  Own r q = Side L r × Runs L' q (origin L r) (destination L r)

  own_alone : (r p q : ℕ) → Own r q → Own p q → r ≡ p
  own_alone r p q (v, y) (w, z) = lone n L good r p v w (sym y.from ∙ z.from) (sym y.to ∙ z.to)

  no_fewer : borders L ≤ borders L'
  unfolding borders
  no_fewer = sides_matched L L' (is_border L) (is_border L') Own own_alone (λ r w z.
      let (q, u, still) = border_there x good'.pairing r w ((means_border L r).says z) in
      (q, u.side, (means_border L' q).shows still, (w, u)))

module _ {L L' : List ℕ} {s t : ℕ} (x : Crossed L L' s t) where
  pub same_borders : (n : ℕ) → Good n L → Good n L' → borders L' ≡ borders L
  same_borders n g h =
      let y = crossed_swapped x in omega (arith, no_fewer n g h y, no_fewer n h g (reversed y))

  -- there are as many sides as there were
  same_count : count_sides L' (λ s. true) ≡ count_sides L (λ s. true)
  unfolding count_sides
  same_count =
      let y = x.replaced in
      ap (count (side_with L' (λ s. true))) y.long
      ∙ count_same (side_with L' (λ s. true)) (side_with L (λ s. true)) (length L) (λ i h. ap (λ (b : Bool). both b true) (same_side y (side_at i)))

  pub same_edges : (n : ℕ) → Good n L → Good n L' → edges L' ≡ edges L
  unfolding edges
  same_edges n g h = rw (same_count, same_borders n g h) refl
