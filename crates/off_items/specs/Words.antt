-- The word that begins at a place of a text, and what stands in it.
-- Assumes nothing.
use Rattle.std.specs.Prelude.{◌≡◌, Bool, not, ◌⊎◌, List, ℕ, ◌+◌, ◌-◌, ◌≤◌, ◌<◌, leb, eqb}
use Rattle.std.proofs.Common.{subst, arith, T_not, ne_eqb}
use Rattle.std.proofs.Math.Logic.{inl, inr}
use Rattle.std.proofs.Math.Dec.{T}
use Rattle.std.proofs.Math.ListN.{length}
use Rattle.lists.specs.Tests.{either}
use Rattle.lists.specs.TestLaws.{Means, means_one, means_itself, means_eq, means_le, means_either}
use Rattle.lists.specs.Search.{at}
use Rattle.lists.specs.SearchLaws.{lt_or_eq}
use Rattle.lists.specs.Parts.{part, at_part, length_part}
use Rattle.off_rules.specs.Off.{is_blank, first_from}
use Rattle.off_items.specs.Scanning.{First, first_is, first_one}

-- a byte that belongs to no item: a blank, or the # of a comment
abbrev pub is_gap : ℕ → Bool
is_gap b = either (is_blank b) (eqb b 35)

-- a byte that is no blank
pub no_blank : (b : ℕ) → (b ≡ 32 → ⊥) → (b ≡ 9 → ⊥) → (b ≡ 13 → ⊥) → (b ≡ 10 → ⊥) → eqb b 35 ≡ is_gap b
no_blank b d e f g = rw (ne_eqb b 32 d, ne_eqb b 9 e, ne_eqb b 13 f, ne_eqb b 10 g)

pub means_blank : (b : ℕ) → Means (is_blank b) ((b ≡ 32) ⊎ ((b ≡ 9) ⊎ ((b ≡ 13) ⊎ (b ≡ 10))))
means_blank b = means_either (means_eq b 32) (means_either (means_eq b 9) (means_either (means_eq b 13) (means_eq b 10)))

pub blank_bound : (b : ℕ) → T (is_blank b) → b ≤ 32
blank_bound b h = elim ((means_blank b).says h)
    [ inl e ↦ omega arith | inr x ↦ elim x [ inl e ↦ omega arith | inr y ↦ elim y [ inl e ↦ omega arith | inr e ↦ omega arith ] ] ]

-- every digit, sign and point is greater
pub gap_bound : (b : ℕ) → T (is_gap b) → b ≤ 35
gap_bound b g =
    elim ((means_either (means_itself (is_blank b)) (means_eq b 35)).says g) [ inl h ↦ omega (arith, blank_bound b h) | inr e ↦ omega arith ]

-- no item goes on at p
unfoldable pub is_end : List ℕ → ℕ → Bool
is_end t p = either (leb (length t) p) (is_gap (at t p))

-- where the word that begins at s ends, and its bytes
abbrev pub word_end : List ℕ → ℕ → ℕ
word_end t s = first_from is_gap t s

abbrev pub word_at : List ℕ → ℕ → List ℕ
word_at t s = part s (word_end t s - s) t

module _ (t : List ℕ) {s : ℕ} (h : s ≤ length t) where
  abbrev w : List ℕ
  w = word_at t s

  pub word_ends : First is_gap t s (word_end t s)
  word_ends = first_is is_gap t h

  pub word_end_lem : word_end t s ≡ s + length w
  word_end_lem =
      let x = word_ends.passed in
      omega (arith, x.onward, length_part s (word_end t s - s) t (omega (arith, x.onward, x.inside)))

  pub word_inside : s + length w ≤ length t
  word_inside = omega (arith, word_end_lem, word_ends.passed.inside)

  pub word_byte : (j : ℕ) → j < length w → at w j ≡ at t (s + j)
  word_byte j l = at_part s (word_end t s - s) t j (omega (arith, word_end_lem))

  pub word_none : (j : ℕ) → j < length w → T (not (is_gap (at t (s + j))))
  word_none j l = word_ends.passed.none (s + j) (omega arith) (omega (arith, word_end_lem))

  -- a test that blanks and # have ends in the text where it ends in the word
  pub within_word : (test : ℕ → Bool) → ((b : ℕ) → T (is_gap b) → T (test b)) → {p : ℕ} → p ≤ length w →
      first_from test t (s + p) ≡ s + first_from test w p
  within_word test gaps {p} l =
      first_one test t (first_is test t (omega (arith, word_inside)))
      (record {
        passed = record {
          onward = omega (arith, x.passed.onward);
          inside = omega (arith, x.passed.inside, word_inside);
          none = λ j k m.
              let e : s + (j - s) ≡ j = omega arith in
              subst (λ (i : ℕ). T (not (test (at t i)))) e
              (subst (λ (b : ℕ). T (not (test b))) (word_byte (j - s) (omega (arith, x.passed.inside)))
              (x.passed.none (j - s) (omega arith) (omega arith)));
        };
        found = λ k. elim (lt_or_eq f (length w) (omega (arith, x.passed.inside))) [
          | inl m ↦ subst (λ (b : ℕ). T (test b)) (word_byte f m) (x.found m)
          | inr e ↦ let q : word_end t s ≡ s + f = omega (arith, word_end_lem) in
              gaps _ (subst (λ (i : ℕ). T (is_gap (at t i))) q (word_ends.found (omega arith)))
        ];
      })
    where
      f : ℕ
      f = first_from test w p

      x : First test w p f
      x = first_is test w l

  -- in a word no item ends but at the word's end
  pub end_told : {j : ℕ} → j ≤ length w → is_end t (s + j) ≡ eqb j (length w)
  unfolding is_end
  end_told {j} l =
      means_one (means_either (means_le (length t) (s + j)) (means_itself (is_gap (at t (s + j))))) (means_eq j (length w)) says shows
    where
      says : (length t ≤ s + j) ⊎ T (is_gap (at t (s + j))) → j ≡ length w
      says (inl k) = omega (arith, word_inside)
      says (inr g) = elim (lt_or_eq j (length w) (omega arith)) [ inl m ↦ absurd (T_not (is_gap (at t (s + j))) (word_none j m) g) | inr e ↦ e ]

      shows : j ≡ length w → (length t ≤ s + j) ⊎ T (is_gap (at t (s + j)))
      shows e = elim (lt_or_eq (s + j) (length t) (omega (arith, word_inside))) [
        | inl m ↦ let q : word_end t s ≡ s + j = omega (arith, word_end_lem) in inr (subst (λ (i : ℕ). T (is_gap (at t i))) q (word_ends.found (omega arith)))
        | inr q ↦ inl (omega arith)
      ]
