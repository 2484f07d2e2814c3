-- One number for another: what `instead` gives, and a list in which every entry is renamed so.
-- Assumes nothing.
use Rattle.std.specs.Prelude.{◌≡◌, refl, List, ℕ, ◌≤◌, ◌<◌, eqb, length}
use Rattle.std.proofs.Common.{sym, ◌∙◌, arith}
use Rattle.lists.specs.TestLaws.{Test, pass, fail, test, means_not, means_eq}
use Rattle.lists.specs.Search.{at}
use Rattle.lists.specs.SearchLaws.{length_tab, at_tab}
use Rattle.rules.specs.Elements.{sides_by}
use Rattle.edit_rules.specs.Contract.{instead, renamed}
use Rattle.theory.specs.Sides.{three, four, SidesBy, sides_by_lem}

-- old becomes new, and every other number stays
pub data Instead (old new c r : ℕ) : Type 0 where
  becomes : c ≡ old → r ≡ new → Instead old new c r
  stays : (c ≡ old → ⊥) → r ≡ c → Instead old new c r

pub instead_is : (old new c : ℕ) → Instead old new c (instead old new c)
unfolding instead
instead_is old new c = go (test (eqb c old))
  where
    go : Test (eqb c old) → Instead old new c (instead old new c)
    go (pass t e) = becomes ((means_eq c old).says t) (rw (e, instead))
    go (fail t e) = stays ((means_not (means_eq c old)).says t) (rw (e, instead))

module _ (old new : ℕ) where
  pub instead_old : instead old new old ≡ new
  instead_old = go (instead_is old new old)
    where
      go : {r : ℕ} → Instead old new old r → r ≡ new
      go (becomes e f) = f
      go (stays d f) = absurd (d refl)

  pub instead_other : (c : ℕ) → (c ≡ old → ⊥) → instead old new c ≡ c
  instead_other c d = go (instead_is old new c)
    where
      go : {r : ℕ} → Instead old new c r → r ≡ c
      go (becomes e f) = absurd (d e)
      go (stays z f) = f

-- corners stay corners, and where there is none there is still none
pub record KeepsNone (ρ : ℕ → ℕ) : Type 0 where
  pub none : ρ 0 ≡ 0
  pub some : (x : ℕ) → (x ≡ 0 → ⊥) → ρ x ≡ 0 → ⊥

pub instead_keeps : (old new : ℕ) → 1 ≤ old → 1 ≤ new → KeepsNone (instead old new)
instead_keeps old new h l = record { none = instead_other old new 0 (λ e. omega arith); some = λ x d. go x d (instead_is old new x) }
  where
    go : (x : ℕ) → (x ≡ 0 → ⊥) → {r : ℕ} → Instead old new x r → r ≡ 0 → ⊥
    go x d (becomes e f) z = omega arith
    go x d (stays e f) z = d (sym f ∙ z)

pub keeps_on : {ρ σ : ℕ → ℕ} → KeepsNone ρ → KeepsNone σ → KeepsNone (λ x. σ (ρ x))
keeps_on {ρ} x y = record { none = rw x.none y.none; some = λ c d. y.some (ρ c) (x.some c d) }

-- a row renamed so has as many sides
pub renamed_sides : {ρ : ℕ → ℕ} → KeepsNone ρ → (fourth : ℕ) → sides_by (ρ fourth) ≡ sides_by fourth
renamed_sides {ρ} k fourth = go (sides_by_lem fourth) (sides_by_lem (ρ fourth))
  where
    go : {i j : ℕ} → SidesBy fourth i → SidesBy (ρ fourth) j → j ≡ i
    go (three z e) (three w f) = f ∙ sym e
    go (four z e) (four w f) = f ∙ sym e
    go (three z e) (four w f) = absurd (w (rw z k.none))
    go (four z e) (three w f) = absurd (k.some fourth z w)

module _ (old new : ℕ) (L : List ℕ) where
  pub renamed_length : length (renamed old new L) ≡ length L
  unfolding renamed
  renamed_length = length_tab (length L) (λ p. instead old new (at L p))

  pub renamed_at : (p : ℕ) → p < length L → at (renamed old new L) p ≡ instead old new (at L p)
  unfolding renamed
  renamed_at p h = at_tab (length L) (λ q. instead old new (at L q)) p h
