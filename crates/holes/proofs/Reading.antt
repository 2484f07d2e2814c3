-- Next of one border half-edge more stands in the work.
-- Assumes nothing.
use mathlib.Core.Path.{◌≡◌, ap, ◌∙◌}
use mathlib.Core.Bool.{true, false}
use mathlib.Core.Logic.{◌⊎◌, inl, inr}
use mathlib.Core.Option.{none, some}
use mathlib.Core.List.{List}
use Prim.Native.Nat.{ℕ, ◌+◌, ◌-◌, ◌≤◌, ◌<◌}
use native.Mathlib.Omega.{arith}
use lib.ListN.{length, set}
use Rattle.lists.specs.SearchLaws.{lt_or_eq}
use Rattle.lists.specs.Search.{at}
use Rattle.lists.specs.Stores.{at_same, at_other}
use Rattle.rules.specs.Queries.{Mesh, next_border}
use Rattle.theory.specs.Reaching.{In, next_in}
use Rattle.holes.specs.Marks.{Pending, Nexts}

module _ (M : Mesh) where
  abbrev k : ℕ
  k = length M.border

  pub put_next : (W : List ℕ) (b y : ℕ) {j i : ℕ} → j ≡ k → i ≡ b → b < length W → next_border M (b + 1) ≡ some y →
      ((z : ℕ) → 1 ≤ z → z ≤ b → Pending M W z) → (z : ℕ) → 1 ≤ z → z ≤ b + 1 → Pending M (set W i (j + y)) z
  put_next W b y {j} {i} size place l e before z from to = go (lt_or_eq z (b + 1) (omega arith))
    where
      go : (z < b + 1) ⊎ (z ≡ b + 1) → Pending M (set W i (j + y)) z
      go (inl m) =
          let p = before z from (omega arith) in
          let same = at_other W i (j + y) (z - 1) (λ q. omega arith) in
          record { above = rw same p.above; next = rw same p.next }
      go (inr q) =
          let back : z - 1 ≡ i = omega arith in
          let here = ap (at (set W i (j + y))) back ∙ at_same W i (j + y) (omega arith) in
          let rest : j + y - k ≡ y = omega arith in
          record { above = rw here (omega (arith, next_in M (b + 1) y e)); next = rw (here, rest, q) e }

  pub all_read : (W : List ℕ) → ((z : ℕ) → 1 ≤ z → z ≤ k → Pending M W z) → Nexts M true W
  all_read W p = record { read = λ e z (from, to). p z from to; unread = λ e. let q : ◌≡◌ {A = ℕ} 0 1 = cc in absurd (omega arith) }

  pub one_unread : (W : List ℕ) (z : ℕ) → In M z → next_border M z ≡ none → Nexts M false W
  one_unread W z i e = record { read = λ f. let q : ◌≡◌ {A = ℕ} 0 1 = cc in absurd (omega arith); unread = λ f. (z, i, e) }
