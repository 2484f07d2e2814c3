-- A halved triangle of which one half goes: the old triangle is left, with the new vertex for one of its corners. And a list with v here and there
-- in place of a: with a for every v it is the list without.
-- Assumes nothing.
use Rattle.std.specs.Prelude.{◌≡◌, ◌⊎◌, List, ℕ, ◌+◌, ◌*◌, ◌-◌, ◌/◌, ◌%◌, ◌<◌, ltb}
use Rattle.std.proofs.Math.Path.{ap}
use Rattle.std.proofs.Common.{sym, ◌∙◌, inl, inr, arith}
use Rattle.std.proofs.Math.ListN.{length, take, length-set}
use Rattle.std.proofs.Math.Seq.{take_at, ext_get_or}
use Rattle.lists.specs.TestLaws.{true_of, decide, means_eq, means_lt}
use Rattle.lists.specs.Search.{at}
use Rattle.lists.specs.SearchLaws.{is_tab}
use Rattle.lists.specs.Parts.{at_part, length_part}
use Rattle.lists.specs.Stores.{at_same, at_other}
use Rattle.rules.specs.Elements.{elements, row, element, slot, origin, next}
use Rattle.rules.specs.Pairing.{Element}
use Rattle.rules.specs.Tables.{partner}
use Rattle.edit_rules.specs.Edits.{with_row}
use Rattle.edit_rules.specs.Split.{with_corner, halved}
use Rattle.edit_rules.specs.Contract.{without_row, without_both, without_edge, instead, renamed}
use Rattle.theory.specs.Sides.{side_facts}
use Rattle.theory.specs.Rows.{row_itself}
use Rattle.theory.specs.Halving.{Halvable, front_long, halved_length, halved_size, halved_fours, at_stays, at_appended, next_is}
use Rattle.theory.specs.Renaming.{instead_old, instead_other}
use Rattle.theory.specs.Removing.{without_length, without_there, without_other}
use Rattle.theory.specs.Contracting.{without_inner}

-- c is v where d is a, or it is d
abbrev Mark : ℕ → ℕ → ℕ → ℕ → Type 0
Mark v a c d = ((c ≡ v) × (d ≡ a)) ⊎ (c ≡ d)

-- N is L with v for a, here and there
pub record Marked (N L : List ℕ) (v a : ℕ) : Type 0 where
  pub long : length N ≡ length L
  pub entry : (p : ℕ) → p < length L → Mark v a (at N p) (at L p)

mark_on : {v a c d e : ℕ} → Mark v a c d → Mark v a d e → Mark v a c e
mark_on (inl (i, j)) (inl (k, l)) = inl (i, l)
mark_on (inl (i, j)) (inr k) = inl (i, sym k ∙ j)
mark_on (inr i) (inl (k, l)) = inl (i ∙ k, l)
mark_on (inr i) (inr k) = inr (i ∙ k)

pub marked_on : {A B C : List ℕ} {v a : ℕ} → Marked A B v a → Marked B C v a → Marked A C v a
marked_on x y =
    record { long = x.long ∙ y.long; entry = λ p h. mark_on (x.entry p (omega (arith, y.long))) (y.entry p h) }

pub marked_corner : (L : List ℕ) (s v : ℕ) → Marked (with_corner L s v) L v (origin L s)
unfolding with_corner origin
marked_corner L s v = record { long = length-set L (slot s) v; entry = λ p h. go p h (decide (means_eq p (slot s))) }
  where
    go : (p : ℕ) → p < length L → (p ≡ slot s) ⊎ (p ≡ slot s → ⊥) → Mark v (at L (slot s)) (at (with_corner L s v) p) (at L p)
    go p h (inl e) = inl (ap (at (with_corner L s v)) e ∙ at_same L (slot s) v (omega arith), ap (at L) e)
    go p h (inr d) = inr (at_other L (slot s) v p d)

-- with a for every v it is L, where v is in no row of L
pub unmarked : {N L : List ℕ} {v a : ℕ} → Marked N L v a → ((p : ℕ) → p < length L → at L p ≡ v → ⊥) → renamed v a N ≡ L
unfolding renamed
unmarked {N} {L} {v} {a} x d =
    sym
    (is_tab (length N) (λ p. instead v a (at N p)) L (sym x.long)
    (λ p h. let l : p < length L = omega (arith, x.long) in sym (go p l (x.entry p l))))
  where
    go : (p : ℕ) → p < length L → Mark v a (at N p) (at L p) → instead v a (at N p) ≡ at L p
    go p h (inl (i, j)) = ap (instead v a) i ∙ instead_old v a ∙ sym j
    go p h (inr i) = instead_other v a (at N p) (λ e. d p h (sym i ∙ e)) ∙ i

-- two go, "the higher-numbered first"
pub both_go : (L : List ℕ) (s : ℕ) → (partner L s ≡ 0 → ⊥) → s / 8 < partner L s / 8
    → without_edge L s ≡ without_row (s / 8) (without_row (partner L s / 8) L)
unfolding without_both
both_go L s z h =
    let first = true_of (ltb (s / 8) (partner L s / 8)) ((means_lt (s / 8) (partner L s / 8)).shows h) in
    without_inner L s z ∙ rw (first, without_both)

-- a row that goes from a marked list
pub marked_without : (f : ℕ) {N L : List ℕ} {v a : ℕ} → length L ≡ 4 * elements L → Element L f → Marked N L v a
    → Marked (without_row f N) (without_row f L) v a
marked_without f {N} {L} {v} {a} fours el x =
    record {
      long = omega (arith, without_length f N fours' el', without_length f L fours el, x.long);
      entry = λ p h. go p (omega (arith, without_length f L fours el));
    }
  where
    size : elements N ≡ elements L
    size = ap (λ (k : ℕ). k / 4) x.long

    rows : 4 * (elements N - 1) ≡ 4 * (elements L - 1)
    rows = ap (λ (k : ℕ). 4 * (k - 1)) size

    fours' : length N ≡ 4 * elements N
    fours' = omega (arith, x.long)

    el' : Element N f
    el' = omega (arith, el, size)

    go : (p : ℕ) → p < 4 * (elements L - 1) → Mark v a (at (without_row f N) p) (at (without_row f L) p)
    go p h = elim (decide (means_eq (p / 4 + 1) f)) [
      | inl e ↦
          let q : 4 * (elements N - 1) + p % 4 ≡ 4 * (elements L - 1) + p % 4 = ap (λ (k : ℕ). k + p % 4) rows in
          rw (without_there f N fours' el' p (omega (arith, rows)) e ∙ ap (at N) q, without_there f L fours el p h e)
          (x.entry (4 * (elements L - 1) + p % 4) (omega (arith, el)))
      | inr d ↦
          rw (without_other f N fours' el' p (omega (arith, rows)) d, without_other f L fours el p h d)
          (x.entry p (omega (arith, el)))
    ]

-- a halved triangle
module _ {L : List ℕ} {r : ℕ} (v : ℕ) (y : Halvable L r) where
  abbrev M : List ℕ
  M = halved L r v

  abbrev f : ℕ
  f = r / 8

  el : Element M f
  el = omega (arith, side_facts L r y.side, halved_size v y)

  -- where its row goes, the appended one takes the place: the old row with v for the origin of r
  pub near_goes : without_row f M ≡ with_corner L r v
  unfolding with_corner slot
  near_goes =
      ext_get_or 0 (without_row f M) (with_corner L r v) long
      (λ p h. go p (omega (arith, length-set L (slot r) v, long)) (decide (means_eq (p / 4 + 1) f)))
    where
      long : length (without_row f M) ≡ length (with_corner L r v)
      long = omega (arith, without_length f M (halved_fours v y) el, halved_length v y, length-set L (slot r) v)

      go : (p : ℕ) → p < length L → (p / 4 + 1 ≡ f) ⊎ (p / 4 + 1 ≡ f → ⊥) → at (without_row f M) p ≡ at (with_corner L r v) p
      go p h (inl e) =
          let i : 4 * (elements M - 1) + p % 4 ≡ length L + p % 4 = omega (arith, halved_size v y, y.fours) in
          let j : 4 * (f - 1) + p % 4 ≡ p = omega arith in
          without_there f M (halved_fours v y) el p (omega (arith, halved_size v y, y.fours)) e
          ∙ ap (at M) i
          ∙ at_appended v y (p % 4) (omega arith)
          ∙ ap (at (with_corner L r v)) j
      go p h (inr d) =
          without_other f M (halved_fours v y) el p (omega (arith, halved_size v y, y.fours)) d
          ∙ at_stays v y p h (λ e. d (omega (arith, next_is v y, side_facts L r y.side)))
          ∙ sym (at_other L (slot r) v p (λ e. d (omega (arith, side_facts L r y.side))))

  -- where the appended one goes, which is the last, the row with v for the destination of r is left
  pub far_goes : without_row (elements L + 1) M ≡ with_corner L (next L r) v
  unfolding without_row halved
  far_goes =
      ap (λ (k : ℕ). take (4 * (elements M - 1)) (with_row (elements L + 1) (row M k) M)) (halved_size v y)
      ∙ ap (take (4 * (elements M - 1))) itself
      ∙ take_at (with_corner L (next L r) v) (row (with_corner L r v) (element r)) (4 * (elements M - 1))
      (omega (arith, front_long v y, halved_size v y, y.fours))
    where
      itself : with_row (elements L + 1) (row M (elements L + 1)) M ≡ M
      itself =
          row_itself (elements L + 1) (row M (elements L + 1)) M
          (length_part (4 * (elements L + 1 - 1)) 4 M (omega (arith, halved_fours v y, halved_size v y)))
          (omega (arith, halved_size v y)) (λ j h. at_part (4 * (elements L + 1 - 1)) 4 M j h)
