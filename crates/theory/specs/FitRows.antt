-- What fit rows say of their sides: their sizes, every corner is a vertex, and the corners of an element differ.
-- Assumes nothing.
use Rattle.std.specs.Prelude.{◌≡◌, Bool, not, ◌⊎◌, List, ℕ, ◌*◌, ◌/◌, ◌≤◌, ◌<◌, ltb, eqb, length}
use Rattle.std.proofs.Math.Path.{ap}
use Rattle.std.proofs.Common.{sym, inl, inr, arith}
use Rattle.std.proofs.Math.Dec.{T}
use Rattle.lists.specs.Tests.{both, either}
use Rattle.lists.specs.TestLaws.{Test, pass, fail, test, Means, means_both, means_either, means_not, means_eq, means_le, means_lt}
use Rattle.lists.specs.Search.{at}
use Rattle.lists.specs.SearchLaws.{le_not_lt}
use Rattle.rules.specs.Elements.{max_vertex, max_element, elements, element, is_side, Side, origin, destination, next, side_at, first_side}
use Rattle.rules.specs.Pairing.{call_sizes, sizes_fit, unfit_corner, repeated_corner, rows_fit}
use Rattle.theory.specs.Sides.{slot_side_at, no_side_zero}
use Rattle.theory.specs.Least.{means_none, means_some}
use Rattle.theory.specs.Steps.{next_numbered, next_side_lem, next_differs}

pub means_call_sizes : (n m : ℕ) (L : List ℕ) → Means (call_sizes n m L) ((n ≤ max_vertex) × ((m ≤ max_element) × (length L ≡ 4 * elements L)))
unfolding call_sizes
means_call_sizes n m L = means_both (means_le n max_vertex) (means_both (means_le m max_element) (means_eq (length L) (4 * elements L)))

-- what fit rows say: their sizes, every corner is a vertex, and the corners of an element differ
pub record Fit (n : ℕ) (L : List ℕ) : Type 0 where
  pub vertices : n ≤ max_vertex
  pub size : elements L ≤ max_element
  pub fours : length L ≡ 4 * elements L
  pub from : (s : ℕ) → Side L s → 1 ≤ origin L s
  pub to : (s : ℕ) → Side L s → origin L s ≤ n
  pub differ : (s t : ℕ) → Side L s → Side L t → s / 8 ≡ t / 8 → origin L s ≡ origin L t → s ≡ t

module _ (n : ℕ) (L : List ℕ) where
  -- the tests of checks 3 and 4 at a side, and what they mean
  unfoldable pub unfit : ℕ → Bool
  unfit s = either (eqb (origin L s) 0) (ltb n (origin L s))

  unfoldable pub earlier : ℕ → ℕ → Bool
  earlier s t = both (eqb (element t) (element s)) (both (ltb t s) (eqb (origin L t) (origin L s)))

  unfoldable pub repeated : ℕ → Bool
  repeated s = both (not (eqb (origin L s) 0)) (not (eqb (first_side L (earlier s)) 0))

  pub means_unfit : (s : ℕ) → Means (unfit s) ((origin L s ≡ 0) ⊎ (n < origin L s))
  unfolding unfit
  means_unfit s = means_either (means_eq (origin L s) 0) (means_lt n (origin L s))

  pub means_earlier : (s t : ℕ) → Means (earlier s t) ((t / 8 ≡ s / 8) × ((t < s) × (origin L t ≡ origin L s)))
  unfolding earlier
  means_earlier s t = means_both (means_eq (t / 8) (s / 8)) (means_both (means_lt t s) (means_eq (origin L t) (origin L s)))

  pub means_repeated : (s : ℕ) → Means (repeated s) ((origin L s ≡ 0 → ⊥) × ((t : ℕ) × Side L t × T (earlier s t)))
  unfolding repeated
  means_repeated s = means_both (means_not (means_eq (origin L s) 0)) (means_some L (earlier s))

  no_unfit : Means (eqb (unfit_corner n L) 0) ((s : ℕ) → Side L s → T (unfit s) → ⊥)
  unfolding unfit_corner unfit
  no_unfit = means_none L unfit

  no_repeated : Means (eqb (repeated_corner L) 0) ((s : ℕ) → Side L s → T (repeated s) → ⊥)
  unfolding repeated_corner repeated earlier
  no_repeated = means_none L repeated

  pub means_sizes : Means (sizes_fit n L) ((n ≤ max_vertex) × ((elements L ≤ max_element) × (length L ≡ 4 * elements L)))
  unfolding sizes_fit
  means_sizes = means_call_sizes n (elements L) L

  -- of two different sides of an element with one origin the later one repeats a corner
  no_two : ((s : ℕ) → Side L s → T (unfit s) → ⊥) → ((s : ℕ) → Side L s → T (repeated s) → ⊥) → (s t : ℕ) → Side L s → Side L t → s / 8 ≡ t / 8 → origin L s ≡ origin L t → s < t → ⊥
  no_two f g s t a b e o h =
      g t b
      ((means_repeated t).shows
      ((λ z. f t b ((means_unfit t).shows (inl z))), (s, a, (means_earlier t s).shows (e, (h, o)))))

  pub means_fit : Means (rows_fit n L) (Fit n L)
  unfolding rows_fit
  means_fit = record { says = says; shows = shows }
    where
      says : T (rows_fit n L) → Fit n L
      says t =
          let (a, (b, c)) = (means_both means_sizes (means_both no_unfit no_repeated)).says t in
          record {
            vertices = a.0;
            size = a.1.0;
            fours = a.1.1;
            from = λ s w. le_not_lt 1 (origin L s) (λ h. b s w ((means_unfit s).shows (inl (omega arith))));
            to = λ s w. le_not_lt (origin L s) n (λ h. b s w ((means_unfit s).shows (inr h)));
            differ = λ s u w x e o.
                let p : s ≤ u = le_not_lt s u (no_two b c u s x w (sym e) (sym o)) in
                let q : u ≤ s = le_not_lt u s (no_two b c s u w x e o) in
                omega arith;
          }

      shows : Fit n L → T (rows_fit n L)
      shows f =
          (means_both means_sizes (means_both no_unfit no_repeated)).shows (
            (f.vertices, (f.size, f.fours)),
            (
              (λ s w u. elim ((means_unfit s).says u) [ inl z ↦ omega (arith, f.from s w) | inr h ↦ omega (arith, f.to s w) ]),
              (λ s w u.
                  let (z, (t, x, y)) = (means_repeated s).says u in
                  let (e, (h, o)) = (means_earlier s t).says y in
                  omega (arith, f.differ t s x w e o)),
            ),
          )

-- the ends of a side of fit rows differ
pub ends_differ : (n : ℕ) (L : List ℕ) → Fit n L → (s : ℕ) → Side L s → origin L s ≡ destination L s → ⊥
ends_differ n L f s a e =
    next_differs L s a (sym (f.differ s (next L s) a (next_side_lem L s a) (sym (next_numbered L s a).same) e))

-- on fit rows a side stands exactly where the entry isn't 0
module _ (n : ℕ) (L : List ℕ) (fit : Fit n L) (p : ℕ) where
  pub side_at_lem : p < length L → (at L p ≡ 0 → ⊥) → Side L (side_at p)
  side_at_lem h d = go (test (is_side L (side_at p)))
    where
      go : Test (is_side L (side_at p)) → Side L (side_at p)
      go (pass t e) = t
      go (fail t e) = absurd (d (no_side_zero L p (omega (arith, fit.fours)) t))

  pub entry_at : Side L (side_at p) → at L p ≡ origin L (side_at p)
  unfolding origin
  entry_at a = ap (at L) (sym (slot_side_at p))

  pub no_side_at : at L p ≡ 0 → Side L (side_at p) → ⊥
  no_side_at e a = omega (arith, fit.from (side_at p) a, entry_at a)
