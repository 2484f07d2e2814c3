-- A list with an edge contracted, document 02, point 8: what the new list has of the old one. The triangles on the edge have gone, every other
-- element stands in some row, with its corners renamed.
-- Assumes nothing.
use Rattle.std.specs.Prelude.{◌≡◌, Bool, true, false, not, List, ℕ, ◌*◌, ◌/◌, ◌≤◌, eqb, length}
use Rattle.lists.specs.Tests.{both, either}
use Rattle.rules.specs.Elements.{elements, sides, Side, origin, next, destination, some_number}
use Rattle.rules.specs.Tables.{partner, is_border}
use Rattle.edit_rules.specs.Swap.{third}
use Rattle.edit_rules.specs.Contract.{instead, is_neighbour, is_used}
use Rattle.theory.specs.Refining.{Cut}

-- element f stays: it isn't on the edge of s
abbrev pub Stays : List ℕ → ℕ → ℕ → Type 0
Stays L s f = (r : ℕ) → Cut L s r → f ≡ r / 8 → ⊥

-- N is what stays of L, each corner x as ρ x
pub record Coarsened (L N : List ℕ) (s : ℕ) (ρ : ℕ → ℕ) : Type 0 where
  pub fours : length N ≡ 4 * elements N
  pub fewer : elements N ≤ elements L
  -- the side of L that side q of N was
  pub old : ℕ → ℕ
  pub side : (q : ℕ) → Side N q → Side L (old q)
  pub stays : (q : ℕ) → Side N q → Stays L s (old q / 8)
  pub from : (q : ℕ) → Side N q → origin N q ≡ ρ (origin L (old q))
  pub follows : (q : ℕ) → Side N q → old (next N q) ≡ next L (old q)
  pub sided : (q : ℕ) → Side N q → sides N (q / 8) ≡ sides L (old q / 8)
  -- sides of one element were of one, and those of different elements of different ones
  pub together : (q r : ℕ) → Side N q → Side N r → q / 8 ≡ r / 8 → old q / 8 ≡ old r / 8
  pub apart : (q r : ℕ) → Side N q → Side N r → old q / 8 ≡ old r / 8 → q / 8 ≡ r / 8
  pub one : (q r : ℕ) → Side N q → Side N r → old q ≡ old r → q ≡ r
  pub all : (r : ℕ) → Side L r → Stays L s (r / 8) → (q : ℕ) × Side N q × (old q ≡ r)

-- "Every b becomes a"
abbrev pub merged_to : List ℕ → ℕ → ℕ → ℕ
merged_to L s x = instead (destination L s) (origin L s) x

-- "then the last vertex takes number b"
abbrev pub renumbered : ℕ → List ℕ → ℕ → ℕ → ℕ
renumbered n L s x = instead n (destination L s) (merged_to L s x)

-- the third corner beyond the edge; on a border, the one that there is
unfoldable pub beyond : List ℕ → ℕ → ℕ
beyond L s = elim (is_border L s) [ true ↦ third L s | false ↦ third L (partner L s) ]

-- refusals 20 and 21 by the four corners, as they are tested: M is the list once b is a
unfoldable pub pinches_by : ℕ → List ℕ → ℕ → ℕ → ℕ → ℕ → Bool
pinches_by n L a b c d =
    some_number n (λ v. both (is_neighbour L a v) (both (is_neighbour L b v) (not (either (eqb v c) (eqb v d)))))

abbrev pub all_used : List ℕ → ℕ → ℕ → ℕ → Bool
all_used M a c d = both (is_used M a) (both (is_used M c) (is_used M d))
