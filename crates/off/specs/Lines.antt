-- The line of a place, counted.
-- Assumes nothing.
use Rattle.std.specs.Prelude.{◌≡◌, refl, true, false, List}
use Rattle.std.proofs.Common.{◌∙◌, add-one, arith}
use Rattle.std.proofs.Math.Bool.{Bool}
use Prim.Native.Nat.{ℕ, suc, ◌+◌, ◌≤◌}
use Rattle.std.proofs.Math.Dec.{eqb}
use Rattle.lists.specs.Search.{at, count}
use Rattle.lists.specs.SearchLaws.{count_pass, count_fail}
use Rattle.lists.specs.TestLaws.{Test, pass, fail, test}
use Rattle.off_items.specs.Parting.{line_at}

-- newlines, counted byte by byte
unfoldable pub newlines_in : ℕ → ℕ
newlines_in b = elim (eqb b 10) [ true ↦ 1 | false ↦ 0 ]

pub newlines_le : (b : ℕ) → newlines_in b ≤ 1
unfolding newlines_in
newlines_le b = elim (test (eqb b 10)) [ pass u e ↦ rw (e, newlines_in) (omega arith) | fail u e ↦ rw (e, newlines_in) (omega arith) ]

pub line_first : (t : List ℕ) → 1 ≡ line_at t 0
unfolding line_at count
line_first t = refl

module _ (t : List ℕ) (i : ℕ) {c d : ℕ} (before : suc c ≡ line_at t i) (read : d ≡ newlines_in (at t i)) where
  pub line_more : suc (c + d) ≡ line_at t (i + 1)
  unfolding line_at newlines_in
  line_more = go (test (eqb (at t i) 10))
    where
      newline : ℕ → Bool
      newline j = eqb (at t j) 10

      go : Test (eqb (at t i) 10) → suc (c + d) ≡ line_at t (i + 1)
      go (pass u e) =
          let z : d ≡ 1 = read ∙ rw (e, newlines_in) in rw add-one (omega (arith, count_pass newline i u))
      go (fail u e) =
          let z : d ≡ 0 = read ∙ rw (e, newlines_in) in rw add-one (omega (arith, count_fail newline i u))
