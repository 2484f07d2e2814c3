-- A list with an edge contracted: the rule of document 02, point 8, gives what Coarsened says, and how long the list is then.
-- Assumes nothing.
use Rattle.std.specs.Prelude.{◌≡◌, List, ℕ, ◌+◌, ◌*◌, ◌-◌, ◌/◌, ◌%◌, ◌≤◌, length}
use Rattle.std.proofs.Math.Path.{refl, ap}
use Rattle.std.proofs.Common.{sym, ◌∙◌, inl, inr}
use native.Mathlib.Omega.{arith}
use Rattle.lists.specs.TestLaws.{true_of, false_of, means_not, zero_or}
use Rattle.rules.specs.Elements.{elements, sides_by, sides, Side, slot, origin, next, destination}
use Rattle.rules.specs.Pairing.{Element}
use Rattle.rules.specs.Tables.{partner, is_border, columns}
use Rattle.edit_rules.specs.Contract.{without_row, without_both, without_edge, merged, contracted}
use Rattle.theory.specs.Sides.{side_facts, side_of_lem, side_positive}
use Rattle.theory.specs.Steps.{next_numbered, next_side_lem}
use Rattle.theory.specs.FitRows.{Fit}
use Rattle.theory.specs.Meeting.{element_of}
use Rattle.theory.specs.Entries.{means_border}
use Rattle.theory.specs.Columns.{Columns, three, four, columns_are_lem}
use Rattle.theory.specs.Refining.{Cut}
use Rattle.theory.specs.Swapping.{Diagonal, across, apart}
use Rattle.theory.specs.Splitting.{Splittable, split_diagonal}
use Rattle.theory.specs.Coarsening.{Stays, Coarsened, merged_to, renumbered}
use Rattle.theory.specs.Renaming.{KeepsNone, instead_keeps, keeps_on, renamed_sides, renamed_length}
use Rattle.theory.specs.Removing.{Remains, remains_as, remains_renamed, without_size, without_row_lem, both_size, without_both_lem}

-- the sides of the elements that stay: each keeps its number in its element
module _ {L N : List ℕ} {s : ℕ} {ρ : ℕ → ℕ} (k : KeepsNone ρ) (x : Remains L N (Stays L s) ρ) where
  old : ℕ → ℕ
  old q = 8 * x.was (q / 8) + q % 8

  old_element : (q : ℕ) → old q / 8 ≡ x.was (q / 8)
  unfolding old
  old_element q = omega arith

  old_number : (q : ℕ) → old q % 8 ≡ q % 8
  unfolding old
  old_number q = omega arith

  old_sides : (g : ℕ) → Element N g → sides N g ≡ sides L (x.was g)
  old_sides g a = ap sides_by (x.entry g 3 a (omega arith)) ∙ renamed_sides k _

  old_sided : (q : ℕ) → Side N q → sides N (q / 8) ≡ sides L (old q / 8)
  old_sided q a = old_sides (q / 8) (element_of N q a) ∙ ap (sides L) (sym (old_element q))

  old_side : (q : ℕ) → Side N q → Side L (old q)
  old_side q a =
      let i = side_facts N q a in
      let el = x.there (q / 8) (element_of N q a) in
      let e = old_element q in
      let j = old_number q in
      side_of_lem L (old q) (omega (arith, el)) (omega (arith, el)) (omega (arith, i)) (omega (arith, i, old_sided q a))

  old_from : (q : ℕ) → Side N q → origin N q ≡ ρ (origin L (old q))
  unfolding origin slot
  old_from q a =
      let p : 4 * (old q / 8 - 1) + (old q % 8 - 1) ≡ 4 * (x.was (q / 8) - 1) + (q % 8 - 1) =
      ap (λ (f : ℕ). 4 * (f - 1) + (old q % 8 - 1)) (old_element q) ∙ ap (λ (i : ℕ). 4 * (x.was (q / 8) - 1) + (i - 1)) (old_number q) in
      rw p (x.entry (q / 8) (q % 8 - 1) (element_of N q a) (omega (arith, side_facts N q a)))

  old_follows : (q : ℕ) → Side N q → old (next N q) ≡ next L (old q)
  unfolding old next
  old_follows q a =
      let n = next_numbered N q a in
      rw (n.same, n.index, old_element q, old_number q, old_sides (q / 8) (element_of N q a)) refl

  pub remains_coarsened : Coarsened L N s ρ
  remains_coarsened =
      record {
        fours = x.fours;
        fewer = x.fewer;
        old = old;
        side = old_side;
        stays = λ q a. rw (old_element q) (x.stayed (q / 8) (element_of N q a));
        from = old_from;
        follows = old_follows;
        sided = old_sided;
        together = λ q r a b e. old_element q ∙ ap x.was e ∙ sym (old_element r);
        apart = same;
        one = λ q r a b e.
            omega (arith, same q r a b (ap (λ (c : ℕ). c / 8) e), ap (λ (c : ℕ). c % 8) e, old_number q, old_number r);
        all = all;
      }
    where
      same : (q r : ℕ) → Side N q → Side N r → old q / 8 ≡ old r / 8 → q / 8 ≡ r / 8
      same q r a b e =
          x.one (q / 8) (r / 8) (element_of N q a) (element_of N r b) (sym (old_element q) ∙ e ∙ old_element r)

      all : (r : ℕ) → Side L r → Stays L s (r / 8) → (q : ℕ) × Side N q × (old q ≡ r)
      all r a z =
          let (g, b, e) = x.all (r / 8) (element_of L r a) z in
          let i = side_facts L r a in
          let q : ℕ = 8 * g + r % 8 in
          let qe : q / 8 ≡ g = omega arith in
          let qn : q % 8 ≡ r % 8 = omega arith in
          let c : sides N (q / 8) ≡ sides L (r / 8) = ap (sides N) qe ∙ old_sides g b ∙ ap (sides L) e in (
            q,
            side_of_lem N q (omega (arith, b)) (omega (arith, b)) (omega (arith, i)) (omega (arith, i)),
            omega (arith, old_element q, old_number q, ap x.was qe),
          )

-- one triangle goes, or two
module _ (L : List ℕ) (s : ℕ) where
  pub without_border : partner L s ≡ 0 → without_edge L s ≡ without_row (s / 8) L
  unfolding without_edge
  without_border z = rw (true_of (is_border L s) ((means_border L s).shows z), without_edge)

  pub without_inner : (partner L s ≡ 0 → ⊥) → without_edge L s ≡ without_both (s / 8) (partner L s / 8) L
  unfolding without_edge
  without_inner z = rw (false_of (is_border L s) ((means_not (means_border L s)).shows z), without_edge)

-- an element of four sides has a side with number 4
fourth : (L : List ℕ) (q : ℕ) → Side L q → 4 ≤ sides L (q / 8) → Side L (8 * (q / 8) + 4)
fourth L q a h =
    let e : (8 * (q / 8) + 4) / 8 ≡ q / 8 = omega arith in
    let i = side_facts L q a in
    side_of_lem L (8 * (q / 8) + 4) (omega (arith, i)) (omega (arith, i)) (omega arith) (omega (arith, ap (sides L) e))

-- only triangles go, so a fourth side stays, and there was one where there is one
module _ {L N : List ℕ} {s : ℕ} {ρ : ℕ → ℕ} (x : Splittable L s) (c : Coarsened L N s ρ) where
  on_triangle : (r : ℕ) → Cut L s r → sides L (r / 8) ≡ 3
  on_triangle r k =
      elim k.is [
        | inl e ↦ rw e x.triangle
        | inr e ↦ elim x.across [ inl z ↦ absurd (side_positive L r k.side (e ∙ z)) | inr t ↦ rw e t ]
      ]

  pub coarsened_columns : columns N ≡ columns L
  coarsened_columns = go (columns_are_lem N) (columns_are_lem L)
    where
      go : Columns N (columns N) → Columns L (columns L) → columns N ≡ columns L
      go (three e f) (three d g) = e ∙ sym d
      go (four e q a h) (four d r b i) = e ∙ sym d
      go (four e q a h) (three d g) =
          let b = fourth L (c.old q) (c.side q a) (omega (arith, side_facts N q a, c.sided q a)) in
          omega (arith, g (8 * (c.old q / 8) + 4) b)
      go (three e f) (four d r b i) =
          let four_sided : 4 ≤ sides L (r / 8) = omega (arith, side_facts L r b) in
          let (q, a, o) = c.all r b (λ t k z. omega (arith, on_triangle t k, ap (sides L) z)) in
          let kept : sides N (q / 8) ≡ sides L (r / 8) = c.sided q a ∙ ap (λ (p : ℕ). sides L (p / 8)) o in
          let g = f (8 * (q / 8) + 4) (fourth N q a (omega arith)) in
          omega (arith, g)

module _ (n : ℕ) (L : List ℕ) (fit : Fit n L) (s : ℕ) (x : Splittable L s) where
  abbrev t : ℕ
  t = partner L s

  abbrev a : ℕ
  a = origin L s

  abbrev b : ℕ
  b = destination L s

  mine : Element L (s / 8)
  mine = element_of L s x.side

  cut : Cut L s s
  cut = record { side = x.side; is = inl refl }

  -- the element across an inner edge is another one
  module _ (z : t ≡ 0 → ⊥) where
    inner : Diagonal L s
    inner = split_diagonal x z

    other : Element L (t / 8)
    other = element_of L t (across n L fit s inner).0

    cut_across : Cut L s t
    cut_across = record { side = (across n L fit s inner).0; is = inr refl }

    differ : s / 8 ≡ t / 8 → ⊥
    differ = apart n L fit s inner

  edge_remains : Remains L (without_edge L s) (Stays L s) (λ c. c)
  edge_remains =
      elim (zero_or t) [
        | inl z ↦ rw (without_border L s z) (remains_as (without_row_lem (s / 8) L fit.fours mine) (on_border z) (λ f y. y s cut))
        | inr z ↦ rw (without_inner L s z)
            (remains_as (without_both_lem L fit.fours (s / 8) (t / 8) mine (other z) (differ z)) inside (λ f y. (y s cut, y t (cut_across z))))
      ]
    where
      on_border : t ≡ 0 → (f : ℕ) → (f ≡ s / 8 → ⊥) → Stays L s f
      on_border z f d r k e =
          elim k.is [ inl i ↦ d (e ∙ ap (λ (q : ℕ). q / 8) i) | inr i ↦ side_positive L r k.side (i ∙ z) ]

      inside : (f : ℕ) → (f ≡ s / 8 → ⊥) × (f ≡ t / 8 → ⊥) → Stays L s f
      inside f d r k e =
          elim k.is [ inl i ↦ d.0 (e ∙ ap (λ (q : ℕ). q / 8) i) | inr i ↦ d.1 (e ∙ ap (λ (q : ℕ). q / 8) i) ]

  -- a, b and the last vertex are numbers of vertices
  from_one : 1 ≤ a
  from_one = fit.from s x.side

  to_one : 1 ≤ b
  to_one = fit.from (next L s) (next_side_lem L s x.side)

  last_one : 1 ≤ n
  last_one = omega (arith, from_one, fit.to s x.side)

  merging : KeepsNone (merged_to L s)
  merging = instead_keeps b a to_one from_one

  merged_remains : Remains L (merged L s) (Stays L s) (merged_to L s)
  unfolding merged
  merged_remains = remains_renamed b a edge_remains

  pub merged_coarsened : Coarsened L (merged L s) s (merged_to L s)
  merged_coarsened = remains_coarsened merging merged_remains

  contracted_remains : Remains L (contracted n L s) (Stays L s) (renumbered n L s)
  unfolding contracted
  contracted_remains = remains_renamed n b merged_remains

  pub contracted_coarsened : Coarsened L (contracted n L s) s (renumbered n L s)
  contracted_coarsened = remains_coarsened (keeps_on merging (instead_keeps n b last_one to_one)) contracted_remains

  -- as long as what stays
  pub merged_length : length (merged L s) ≡ length (without_edge L s)
  unfolding merged
  merged_length = renamed_length b a (without_edge L s)

  pub contracted_length : length (contracted n L s) ≡ length (without_edge L s)
  unfolding contracted
  contracted_length = renamed_length n b (merged L s) ∙ merged_length

  -- "The one or two triangles on the edge go"
  contracted_size : elements (contracted n L s) ≡ elements (without_edge L s)
  contracted_size = ap (λ (k : ℕ). k / 4) contracted_length

  pub contracted_border : t ≡ 0 → elements (contracted n L s) + 1 ≡ elements L
  contracted_border z =
      omega (arith, contracted_size, ap (λ (X : List ℕ). elements X) (without_border L s z), without_size (s / 8) L fit.fours mine)

  pub contracted_inner : (t ≡ 0 → ⊥) → elements (contracted n L s) + 2 ≡ elements L
  contracted_inner z =
      omega (
        arith,
        contracted_size,
        ap (λ (X : List ℕ). elements X) (without_inner L s z),
        both_size L fit.fours (s / 8) (t / 8) mine (other z) (differ z),
      )

  pub contracted_columns : columns (contracted n L s) ≡ columns L
  contracted_columns = coarsened_columns x contracted_coarsened
