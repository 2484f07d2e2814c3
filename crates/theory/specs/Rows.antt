-- A list with other rows for one element, or for two.
-- Assumes nothing.
use Rattle.std.specs.Prelude.{◌≡◌, refl, ◌⊎◌, List, ℕ, ◌+◌, ◌*◌, ◌-◌, ◌/◌, ◌%◌, ◌≤◌, ◌<◌, length}
use Rattle.std.proofs.Common.{ap, sym, ◌∙◌, inl, inr, arith, ext_get_or}
use Rattle.lists.specs.TestLaws.{decide, means_eq}
use Rattle.lists.specs.Search.{at}
use Rattle.lists.specs.SearchLaws.{le_or_lt}
use Rattle.lists.specs.Parts.{splice_length, splice_at, splice_before, splice_after}
use Rattle.rules.specs.Pairing.{Element}
use Rattle.edit_rules.specs.Edits.{with_row}

module _ (f : ℕ) (row L : List ℕ) (four : length row ≡ 4) (el : Element L f) where
  ends : 4 * f ≡ 4 * (f - 1) + length row
  ends = omega arith

  inside : 4 * f ≤ length L
  inside = omega arith

  pub row_length : length (with_row f row L) ≡ length L
  unfolding with_row
  row_length = splice_length (4 * (f - 1)) (4 * f) L row ends inside

  pub row_entry_lem : (j : ℕ) → j < 4 → at (with_row f row L) (4 * (f - 1) + j) ≡ at row j
  unfolding with_row
  row_entry_lem j h = splice_at (4 * (f - 1)) (4 * f) L row ends inside j (omega arith)

  pub row_other : (p : ℕ) → (p / 4 + 1 ≡ f → ⊥) → at (with_row f row L) p ≡ at L p
  unfolding with_row
  row_other p d = go (le_or_lt (4 * (f - 1)) p) (le_or_lt (4 * f) p)
    where
      go : (4 * (f - 1) ≤ p) ⊎ (p < 4 * (f - 1)) → (4 * f ≤ p) ⊎ (p < 4 * f) → at (with_row f row L) p ≡ at L p
      go (inr h) c = splice_before (4 * (f - 1)) (4 * f) L row ends inside p h
      go (inl h) (inl l) = splice_after (4 * (f - 1)) (4 * f) L row ends inside p l
      go (inl h) (inr l) = absurd (d (omega arith))

-- a row that stands there already changes nothing
pub row_itself : (f : ℕ) (row L : List ℕ) → length row ≡ 4 → Element L f → ((j : ℕ) → j < 4 → at row j ≡ at L (4 * (f - 1) + j)) → with_row f row L ≡ L
row_itself f row L four el same =
    ext_get_or 0 (with_row f row L) L (row_length f row L four el) (λ p h. go p (decide (means_eq (p / 4 + 1) f)))
  where
    go : (p : ℕ) → (p / 4 + 1 ≡ f) ⊎ (p / 4 + 1 ≡ f → ⊥) → at (with_row f row L) p ≡ at L p
    go p (inl e) =
        let q : p ≡ 4 * (f - 1) + p % 4 = omega arith in
        ap (at (with_row f row L)) q ∙ row_entry_lem f row L four el (p % 4) (omega arith) ∙ same (p % 4) (omega arith) ∙ sym (ap (at L) q)
    go p (inr d) = row_other f row L four el p d

-- two rows replaced in lists that agree elsewhere
module _ (f g : ℕ) (row row' L M : List ℕ) (four : length row ≡ 4) (four' : length row' ≡ 4) (mine : Element L f) (other : Element L g)
    (long : length M ≡ length L) (same : (p : ℕ) → (p / 4 + 1 ≡ f → ⊥) → (p / 4 + 1 ≡ g → ⊥) → at M p ≡ at L p) where
  abbrev twice : List ℕ → List ℕ
  twice X = with_row g row' (with_row f row X)

  -- what stands at p in either
  module _ (X : List ℕ) (sized : length X ≡ length L) where
    in_x : Element X f
    in_x = omega (arith, mine)

    in_y : Element (with_row f row X) g
    in_y = omega (arith, other, row_length f row X four in_x)

    twice_long : length (twice X) ≡ length L
    twice_long = row_length g row' (with_row f row X) four' in_y ∙ row_length f row X four in_x ∙ sized

    twice_g : (p : ℕ) → p / 4 + 1 ≡ g → at (twice X) p ≡ at row' (p % 4)
    twice_g p e =
        let q : p ≡ 4 * (g - 1) + p % 4 = omega arith in
        ap (at (twice X)) q ∙ row_entry_lem g row' (with_row f row X) four' in_y (p % 4) (omega arith)

    twice_f : (p : ℕ) → (p / 4 + 1 ≡ g → ⊥) → p / 4 + 1 ≡ f → at (twice X) p ≡ at row (p % 4)
    twice_f p d e =
        let q : p ≡ 4 * (f - 1) + p % 4 = omega arith in
        row_other g row' (with_row f row X) four' in_y p d ∙ ap (at (with_row f row X)) q ∙ row_entry_lem f row X four in_x (p % 4) (omega arith)

    twice_other : (p : ℕ) → (p / 4 + 1 ≡ g → ⊥) → (p / 4 + 1 ≡ f → ⊥) → at (twice X) p ≡ at X p
    twice_other p d e = row_other g row' (with_row f row X) four' in_y p d ∙ row_other f row X four in_x p e

  pub rows_alike : twice M ≡ twice L
  rows_alike =
      ext_get_or 0 (twice M) (twice L) (twice_long M long ∙ sym (twice_long L refl))
      (λ p h. go p (decide (means_eq (p / 4 + 1) g)) (decide (means_eq (p / 4 + 1) f)))
    where
      go : (p : ℕ) → (p / 4 + 1 ≡ g) ⊎ (p / 4 + 1 ≡ g → ⊥) → (p / 4 + 1 ≡ f) ⊎ (p / 4 + 1 ≡ f → ⊥) → at (twice M) p ≡ at (twice L) p
      go p (inl e) c = twice_g M long p e ∙ sym (twice_g L refl p e)
      go p (inr d) (inl e) = twice_f M long p d e ∙ sym (twice_f L refl p d e)
      go p (inr d) (inr e) = twice_other M long p d e ∙ same p e d ∙ sym (twice_other L refl p d e)

-- two rows, put in either order
pub rows_either_way : (f g : ℕ) (row row' L : List ℕ) → length row ≡ 4 → length row' ≡ 4 → Element L f → Element L g → (f ≡ g → ⊥)
    → with_row f row (with_row g row' L) ≡ with_row g row' (with_row f row L)
rows_either_way f g row row' L four four' mine other apart =
    ext_get_or 0 _ _
    (twice_long g f row' row L L four' four other mine refl (λ p d e. refl) L refl
    ∙ sym (twice_long f g row row' L L four four' mine other refl (λ p d e. refl) L refl))
    (λ p h. go p (decide (means_eq (p / 4 + 1) g)) (decide (means_eq (p / 4 + 1) f)))
  where
    go : (p : ℕ) → (p / 4 + 1 ≡ g) ⊎ (p / 4 + 1 ≡ g → ⊥) → (p / 4 + 1 ≡ f) ⊎ (p / 4 + 1 ≡ f → ⊥)
        → at (with_row f row (with_row g row' L)) p ≡ at (with_row g row' (with_row f row L)) p
    go p (inl e) c =
        twice_f g f row' row L L four' four other mine refl (λ p d e. refl) L refl p (λ z. apart (sym z ∙ e)) e
        ∙ sym (twice_g f g row row' L L four four' mine other refl (λ p d e. refl) L refl p e)
    go p (inr d) (inl e) =
        twice_g g f row' row L L four' four other mine refl (λ p d e. refl) L refl p e
        ∙ sym (twice_f f g row row' L L four four' mine other refl (λ p d e. refl) L refl p d e)
    go p (inr d) (inr e) =
        twice_other g f row' row L L four' four other mine refl (λ p d e. refl) L refl p e d
        ∙ sym (twice_other f g row row' L L four four' mine other refl (λ p d e. refl) L refl p d e)
