-- Which vertices are used, and refusal 21 of document 02, point 8: by the corners of the triangles that go.
-- Assumes nothing.
use Rattle.std.specs.Prelude.{◌≡◌, refl, not, ◌⊎◌, List, ℕ, ◌/◌, ◌≤◌, eqb}
use Rattle.std.proofs.Math.Path.{ap, sym}
use Rattle.std.proofs.Common.{◌∙◌}
use Rattle.std.proofs.Math.Logic.{inl, inr}
use Rattle.lists.specs.Tests.{both}
use Rattle.lists.specs.TestLaws.{true_of, false_of, Means, means_itself, means_one, decide, means_both, means_not, means_eq, zero_or}
use Rattle.rules.specs.Elements.{sides, is_side, Side, origin, previous, destination}
use Rattle.rules.specs.Pairing.{SideAt}
use Rattle.rules.specs.Tables.{partner, is_border}
use Rattle.edit_rules.specs.Swap.{third}
use Rattle.edit_rules.specs.Contract.{merged, is_used, strands}
use Rattle.theory.specs.Sides.{side_positive}
use Rattle.theory.specs.Least.{means_some, means_some_number}
use Rattle.theory.specs.FitRows.{Fit, ends_differ}
use Rattle.theory.specs.Entries.{means_border}
use Rattle.theory.specs.Triangles.{TriangleSide, itself, after, before, around, next_runs, previous_runs}
use Rattle.theory.specs.Refining.{Cut}
use Rattle.theory.specs.Swapping.{across, starts, ends}
use Rattle.theory.specs.Splitting.{Splittable, split_diagonal, triangle_of}
use Rattle.theory.specs.Diamonds.{runs_differ}
use Rattle.theory.specs.Renaming.{instead_other}
use Rattle.theory.specs.Coarsening.{Stays, Coarsened, merged_to, beyond, all_used}

-- a side begins at v
abbrev pub Used : List ℕ → ℕ → Type 0
Used L v = (q : ℕ) × SideAt L v q

pub means_used : (L : List ℕ) (v : ℕ) → Means (is_used L v) (Used L v)
unfolding is_used
means_used L v =
    let some = means_some L (λ s. eqb (origin L s) v) in
    record {
      says = λ t. let (q, a, u) = some.says t in (q, (a, (means_eq (origin L q) v).says u));
      shows = λ (q, (a, e)). some.shows (q, a, (means_eq (origin L q) v).shows e);
    }

-- v was used and is left unused once b, the destination of s, is merged
pub record Stranded (n : ℕ) (L : List ℕ) (s v : ℕ) : Type 0 where
  pub from : 1 ≤ v
  pub to : v ≤ n
  pub other : v ≡ destination L s → ⊥
  pub used : Used L v
  pub left : Used (merged L s) v → ⊥

module _ (n : ℕ) (L : List ℕ) (s : ℕ) where
  means_left : (v : ℕ)
      → Means (both (not (eqb v (destination L s))) (both (is_used L v) (not (is_used (merged L s) v))))
      ((v ≡ destination L s → ⊥) × (Used L v × (Used (merged L s) v → ⊥)))
  means_left v =
      means_both (means_not (means_eq v (destination L s))) (means_both (means_used L v) (means_not (means_used (merged L s) v)))

  pub means_strands : Means (strands n L s) ((v : ℕ) × Stranded n L s v)
  unfolding strands
  means_strands =
      let some = means_some_number n (λ v. both (not (eqb v (destination L s))) (both (is_used L v) (not (is_used (merged L s) v)))) in
      record {
        says = λ t.
            let (v, a, b, u) = some.says t in
            let (c, (d, e)) = (means_left v).says u in
            (v, record { from = a; to = b; other = c; used = d; left = e });
        shows = λ (v, x). some.shows (v, x.from, x.to, (means_left v).shows (x.other, (x.used, x.left)));
      }

-- the third corner beyond the edge
module _ (L : List ℕ) (s : ℕ) where
  pub beyond_border : partner L s ≡ 0 → beyond L s ≡ third L s
  unfolding beyond
  beyond_border z = rw (true_of (is_border L s) ((means_border L s).shows z), beyond)

  pub beyond_inner : (partner L s ≡ 0 → ⊥) → beyond L s ≡ third L (partner L s)
  unfolding beyond
  beyond_inner d = rw (false_of (is_border L s) ((means_not (means_border L s)).shows d), beyond)

module _ (n : ℕ) (L : List ℕ) (fit : Fit n L) (s : ℕ) (x : Splittable L s) where
  abbrev t : ℕ
  t = partner L s

  abbrev a : ℕ
  a = origin L s

  abbrev b : ℕ
  b = destination L s

  abbrev c : ℕ
  c = third L s

  abbrev d : ℕ
  d = beyond L s

  -- a corner, other than b, of a triangle that goes
  abbrev Corner : ℕ → Type 0
  Corner v = (v ≡ a) ⊎ ((v ≡ c) ⊎ (v ≡ d))

  paired : Side L t → t ≡ 0 → ⊥
  paired = side_positive L t

  gone_corner : (q r : ℕ) → Side L q → Cut L s r → q / 8 ≡ r / 8 → (origin L q ≡ b → ⊥) → Corner (origin L q)
  unfolding third
  gone_corner q r i cut e other = go cut.is
    where
      go : (r ≡ s) ⊎ (r ≡ t) → Corner (origin L q)
      go (inl k) = elim (around L s x.side x.triangle q i (e ∙ ap (λ (j : ℕ). j / 8) k)) [
        | itself f ↦ inl (ap (origin L) f)
        | after f ↦ absurd (other (ap (origin L) f))
        | before f ↦ inr (inl (ap (origin L) f))
      ]
      go (inr k) =
          let side : Side L t = rw k at cut.side in
          let y = split_diagonal x (paired side) in
          elim (around L t side y.other_three q i (e ∙ ap (λ (j : ℕ). j / 8) k)) [
            | itself f ↦ absurd (other (ap (origin L) f ∙ sym (ends n L fit s y)))
            | after f ↦ inl (ap (origin L) f ∙ sym (starts n L fit s y))
            | before f ↦ inr (inr (ap (origin L) f ∙ sym (beyond_inner L s (paired side))))
          ]

  -- an element goes or stays
  pub goes_or_stays : (f : ℕ) → ((r : ℕ) × Cut L s r × (f ≡ r / 8)) ⊎ Stays L s f
  goes_or_stays f = go (decide (means_eq f (s / 8))) (decide (means_both (means_itself (is_side L t)) (means_eq f (t / 8))))
    where
      go : (f ≡ s / 8) ⊎ (f ≡ s / 8 → ⊥) → (Side L t × (f ≡ t / 8)) ⊎ (Side L t × (f ≡ t / 8) → ⊥)
          → ((r : ℕ) × Cut L s r × (f ≡ r / 8)) ⊎ Stays L s f
      go (inl e) o = inl (s, record { side = x.side; is = inl refl }, e)
      go (inr e) (inl (i, g)) = inl (t, record { side = i; is = inr refl }, g)
      go (inr e) (inr g) = inr (λ r cut h. elim cut.is [ inl k ↦ e (rw k at h) | inr k ↦ g (rw k at cut.side, rw k at h) ])

  triangle : (r : ℕ) → Side L r → sides L (r / 8) ≡ 3 → TriangleSide L r (origin L r) (destination L r) (third L r)
  unfolding third
  triangle = triangle_of L

  -- each of them was used, and isn't b
  mine_kept : Used L c × (c ≡ b → ⊥)
  mine_kept =
      let y = triangle s x.side x.triangle in
      let p = previous_runs y in
      ((previous L s, (p.side, p.from)), (λ f. runs_differ fit (next_runs y) (sym f)))

  other_kept : (t ≡ 0) ⊎ (t ≡ 0 → ⊥) → Used L d × (d ≡ b → ⊥)
  other_kept (inl z) = let (u, o) = mine_kept in let e = beyond_border L s z in (rw e u, rw e o)
  other_kept (inr z) =
      let y = split_diagonal x z in
      let p = previous_runs (triangle t (across n L fit s y).0 y.other_three) in
      let e = beyond_inner L s z in
      ((previous L t, (p.side, p.from ∙ sym e)), (λ f. runs_differ fit p (sym e ∙ f ∙ ends n L fit s y)))

  was_used : (v : ℕ) → Corner v → Used L v × (v ≡ b → ⊥)
  was_used v (inl e) = ((s, (x.side, sym e)), (λ f. ends_differ n L fit s x.side (sym e ∙ f)))
  was_used v (inr (inl e)) = rw e mine_kept
  was_used v (inr (inr e)) = rw e (other_kept (zero_or t))

  module _ (y : Coarsened L (merged L s) s (merged_to L s)) where
    abbrev M : List ℕ
    M = merged L s

    -- a corner of an element that stays is still used
    still_used : (v : ℕ) → Used L v → (v ≡ b → ⊥) → Used M v ⊎ Corner v
    still_used v (q, (i, e)) other = elim (goes_or_stays (q / 8)) [
      | inl (r, cut, f) ↦ inr (rw (sym e) (gone_corner q r i cut f (λ z. other (sym e ∙ z))))
      | inr stays ↦
          let (p, j, was) = y.all q i stays in
          inl (p, (j, y.from p j ∙ ap (λ (r : ℕ). merged_to L s (origin L r)) was ∙ ap (merged_to L s) e ∙ instead_other b a v other))
    ]

    stranded : (v : ℕ) → Corner v → (Used M v → ⊥) → Stranded n L s v
    stranded v k left =
        let ((q, (i, e)), other) = was_used v k in
        record { from = rw (sym e) (fit.from q i); to = rw (sym e) (fit.to q i); other = other; used = (q, (i, e)); left = left }

    -- refusal 21: a, c and d are all that can be left unused
    pub strands_by : strands n L s ≡ not (all_used M a c d)
    strands_by = means_one (means_strands n L s) (means_not all) says shows
      where
        all : Means (all_used M a c d) (Used M a × (Used M c × Used M d))
        all = means_both (means_used M a) (means_both (means_used M c) (means_used M d))

        says : ((v : ℕ) × Stranded n L s v) → Used M a × (Used M c × Used M d) → ⊥
        says (v, z) (i, (j, k)) = elim (still_used v z.used z.other) [
          | inl u ↦ z.left u
          | inr (inl e) ↦ z.left (rw e i)
          | inr (inr (inl e)) ↦ z.left (rw e j)
          | inr (inr (inr e)) ↦ z.left (rw e k)
        ]

        go : Used M a ⊎ (Used M a → ⊥) → Used M c ⊎ (Used M c → ⊥) → Used M d ⊎ (Used M d → ⊥)
            → (Used M a × (Used M c × Used M d) → ⊥) → (v : ℕ) × Stranded n L s v
        go (inr o) j k f = (a, stranded a (inl refl) o)
        go (inl i) (inr o) k f = (c, stranded c (inr (inl refl)) o)
        go (inl i) (inl j) (inr o) f = (d, stranded d (inr (inr refl)) o)
        go (inl i) (inl j) (inl k) f = absurd (f (i, (j, k)))

        shows : (Used M a × (Used M c × Used M d) → ⊥) → (v : ℕ) × Stranded n L s v
        shows = go (decide (means_used M a)) (decide (means_used M c)) (decide (means_used M d))
