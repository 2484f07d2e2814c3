-- The step from a side by the kind of its row, and within one kind by cases, for next and previous alike.
-- Assumes nothing.
use mathlib.Core.List.{List}
use mathlib.Core.Path.{◌≡◌, sym, ap, ◌∙◌}
use Prim.Native.Nat.{ℕ, ◌≤◌}
use lib.Dec.{eqb}
use Rattle.lists.specs.Search.{at}
use Rattle.lists.specs.Tests.{within}
use Rattle.lists.specs.TestLaws.{Test, pass, fail, test, means_not, means_within, false_of}
use Rattle.rules.specs.Elements.{sides_by}
use Rattle.halfedge.specs.Rows.{sides_of, by_kind, step_in}

-- what is told of three sides and of four is told of as many sides as the row has
pub by_kinds : (f : ℕ → ℕ) (row : List ℕ) {r t q : ℕ} → t ≡ f 3 → q ≡ f 4 → r ≡ by_kind row t q → r ≡ f (sides_of row)
unfolding by_kind sides_by
by_kinds f row {t = t} {q = q} three four e = e ∙ go (test (eqb (at row 3) 0))
  where
    go : Test (eqb (at row 3) 0) → by_kind row t q ≡ f (sides_of row)
    go (pass p is) = rw (is, by_kind, sides_by) three
    go (fail p is) = rw (is, by_kind, sides_by) four

module _ (step : ℕ → ℕ → ℕ) (k : ℕ) where
  -- the case of side j
  pub side_case : {i : ℕ} (j : ℕ) → i ≡ j → step_in step k j ≡ step_in step k i
  side_case j e = ap (step_in step k) (sym e)

  pub no_side : (i : ℕ) → (1 ≤ i → i ≤ k → ⊥) → 0 ≡ step_in step k i
  unfolding step_in
  no_side i h =
      let out = false_of (within 1 k i) ((means_not (means_within 1 k i)).shows (λ b. h b.0 b.1)) in rw out
