-- Following siblings from a side: sides of its two vertices only, and each of them once in every round.
-- Assumes nothing.
use Rattle.std.specs.Prelude.{◌≡◌, Bool, ◌⊎◌, List, ℕ, zero, suc, ◌+◌, ◌-◌, ◌≤◌, ◌<◌, T, length}
use Rattle.std.proofs.Math.Path.{refl}
use Rattle.std.proofs.Common.{ap, ◌∙◌}
use Rattle.std.proofs.Math.Logic.{inl, inr}
use native.Mathlib.Omega.{arith}
use Rattle.lists.specs.TestLaws.{passes, both_pass}
use Rattle.lists.specs.Search.{count}
use Rattle.lists.specs.SearchLaws.{le_or_lt, count_pass, count_lt, count_bound, count_inj, count_gap}
use Rattle.rules.specs.Elements.{is_side, Side, slot, side_at, side_with, count_sides, next_number}
use Rattle.rules.specs.Pairing.{joins}
use Rattle.rules.specs.Siblings.{sibling}
use Rattle.theory.specs.Sides.{slot_side_at, side_at_slot, slot_below, slot_inj, slot_less, less_slot}
use Rattle.theory.specs.Steps.{next_number_lem, wraps, grows, NextNumber, Ahead, on, round, ahead}
use Rattle.theory.specs.Links.{lesser, greater}
use Rattle.theory.specs.Siblings.{Between, Next, rises, returns, follows_in, joins_between, between_joins, sibling_follows}

-- t is a side that joins the two vertices of s; how many there are
abbrev pub Joined : List ℕ → ℕ → ℕ → Type 0
Joined L s t = Side L t × T (joins L s t)

abbrev pub joining : List ℕ → ℕ → ℕ
joining L s = count_sides L (joins L s)

-- the sequence meets only such sides, in every round of so many steps, wherever it begins, each of them, none of them twice, and then
-- comes back
pub record Rounds (L : List ℕ) (s : ℕ) (cs : ℕ → ℕ) : Type 0 where
  pub only : (i : ℕ) → Joined L s (cs i)
  pub each : (i t : ℕ) → Joined L s t → (j : ℕ) × (j < joining L s) × (cs (i + j) ≡ t)
  pub once : (i j h : ℕ) → j < joining L s → h < joining L s → cs (i + j) ≡ cs (i + h) → j ≡ h
  pub back : (i : ℕ) → cs (i + joining L s) ≡ cs i

module _ (L : List ℕ) (s : ℕ) (a : Side L s) where
  own : Between L (lesser L s) (greater L s) s
  own = record { side = a; low = refl; high = refl }

  between : (t : ℕ) → Joined L s t → Between L (lesser L s) (greater L s) t
  between t (b, x) = joins_between L s t own b x

  joined : (t : ℕ) → Between L (lesser L s) (greater L s) t → Joined L s t
  joined t b = (b.side, between_joins L s t own b)

  test : ℕ → Bool
  test = side_with L (joins L s)

  passes_at : (t : ℕ) → Joined L s t → T (test (slot t))
  unfolding test
  passes_at t (b, x) = rw (side_at_slot L t b) (both_pass (is_side L t) (joins L s t) b x)

  stands : (p : ℕ) → T (test p) → Joined L s (side_at p)
  unfolding test
  stands p x = passes (is_side L (side_at p)) (joins L s (side_at p)) x

  -- the number of t among them, from 1 on
  rank : ℕ → ℕ
  rank t = count test (slot t) + 1

  k : ℕ
  k = joining L s

  counted : count test (length L) ≡ k
  unfolding k test count_sides
  counted = refl

  rank_in : (t : ℕ) → Joined L s t → (1 ≤ rank t) × (rank t ≤ k)
  unfolding rank
  rank_in t x = omega (arith, counted, count_lt test (slot t) (length L) (slot_below L t x.0) (passes_at t x))

  rank_inj : (t x : ℕ) → Joined L s t → Joined L s x → rank t ≡ rank x → t ≡ x
  unfolding rank
  rank_inj t x b c e = slot_inj L t x b.0 c.0 (count_inj test (slot t) (slot x) (passes_at t b) (passes_at x c) (omega arith))

  -- where no such side stands from place c on and below d, no place there passes
  clear : (c d : ℕ) → ((y : ℕ) → Joined L s y → c ≤ slot y → slot y < d → ⊥) → (i : ℕ) → c ≤ i → i < d → T (test i) → ⊥
  clear c d f i l h x = let e = slot_side_at i in f (side_at i) (stands i x) (omega arith) (omega arith)

  -- the sibling has the next number, and the last one's the first
  rank_sibling : (t : ℕ) → Joined L s t → rank (sibling L t) ≡ next_number k (rank t)
  unfolding rank
  rank_sibling t b = go (sibling_follows L t (between t b)) (next_number_lem k (rank t))
    where
      go : {x r : ℕ} → Next L (lesser L s) (greater L s) t x → NextNumber k (rank t) r → rank x ≡ r
      go {x} (rises c h f) n =
          let y = joined x c in
          let l = slot_less L t x b.0 c.side h in
          let gap = count_gap test (suc (slot t)) (slot x) l
          (clear (suc (slot t)) (slot x) (λ z w p q. f z (between z w) (less_slot L t z b.0 w.0 p) (less_slot L z x w.0 c.side q))) in
          let here = count_pass test (slot t) (passes_at t b) in
          let most = rank_in x y in
          elim n [ wraps e g ↦ absurd (omega arith) | grows e g ↦ omega arith ]
      go {x} (returns c h f g) n =
          let none = count_gap test 0 (slot x) (omega arith) (clear 0 (slot x) (λ z w p q. g z (between z w) (less_slot L z x w.0 c.side q))) in
          let gap = count_gap test (suc (slot t)) (length L) (slot_below L t b.0)
          (clear (suc (slot t)) (length L) (λ z w p q. f z (between z w) (less_slot L t z b.0 w.0 p))) in
          let here = count_pass test (slot t) (passes_at t b) in
          elim n [ wraps e g ↦ omega (arith, count_bound test 0) | grows e g ↦ absurd (e (omega (arith, counted))) ]

  -- each of a sequence the sibling of the one before
  module _ (cs : ℕ → ℕ) (begins : cs 0 ≡ s) (steps : (j : ℕ) → Side L (cs j) → cs (suc j) ≡ sibling L (cs j)) where
    only : (i : ℕ) → Joined L s (cs i)
    only zero = rw begins (joined s own)
    only (suc i) =
        let b = only i in
        rw (steps i b.0) (joined (sibling L (cs i)) (follows_in (sibling_follows L (cs i) (between (cs i) b))))

    -- from place i on the numbers count on, and after the last from 1 again
    window : (i j : ℕ) → j ≤ k → Ahead k (rank (cs i)) j (rank (cs (i + j)))
    window i =
        let (l, h) = rank_in (cs i) (only i) in
        ahead k (rank (cs i)) (λ j. rank (cs (i + j))) l h (ap (λ (x : ℕ). rank (cs x)) (omega arith))
        (λ j p q.
        let on : i + suc j ≡ suc (i + j) = omega arith in
        ap (λ (x : ℕ). rank (cs x)) on ∙ ap rank (steps (i + j) (only (i + j)).0) ∙ rank_sibling (cs (i + j)) (only (i + j)))

    pub rounds : Rounds L s cs
    unfolding k
    rounds = record { only = only; each = each; once = once; back = back }
      where
        met : (i j t : ℕ) → j ≤ k → Joined L s t → (rank t ≡ rank (cs i) + j) ⊎ (rank t + k ≡ rank (cs i) + j) → cs (i + j) ≡ t
        met i j t h x e =
            let (a, b) = rank_in t x in
            let (c, d) = rank_in (cs (i + j)) (only (i + j)) in
            rank_inj (cs (i + j)) t (only (i + j)) x
            (elim (window i j h) [
              | on l f ↦ elim e [ inl g ↦ omega arith | inr g ↦ omega arith ]
              | round l f ↦ elim e [ inl g ↦ omega arith | inr g ↦ omega arith ]
            ])

        each : (i t : ℕ) → Joined L s t → (j : ℕ) × (j < joining L s) × (cs (i + j) ≡ t)
        each i t x =
            let (a, b) = rank_in t x in
            let (c, d) = rank_in (cs i) (only i) in
            elim (le_or_lt (rank (cs i)) (rank t)) [
              | inl l ↦
                  let j = rank t - rank (cs i) in
                  (j, omega arith, met i j t (omega arith) x (inl (omega arith)))
              | inr l ↦
                  let j = rank t + k - rank (cs i) in
                  (j, omega arith, met i j t (omega arith) x (inr (omega arith)))
            ]

        differ : {r j h x y : ℕ} → 1 ≤ r → r ≤ k → j < k → h < k → Ahead k r j x → Ahead k r h y → x ≡ y → j ≡ h
        differ a b c d (on l e) (on m f) g = omega arith
        differ a b c d (on l e) (round m f) g = omega arith
        differ a b c d (round l e) (on m f) g = omega arith
        differ a b c d (round l e) (round m f) g = omega arith

        once : (i j h : ℕ) → j < joining L s → h < joining L s → cs (i + j) ≡ cs (i + h) → j ≡ h
        once i j h p q e =
            let (l, m) = rank_in (cs i) (only i) in
            differ l m p q (window i j (omega arith)) (window i h (omega arith)) (ap rank e)

        back : (i : ℕ) → cs (i + joining L s) ≡ cs i
        back i = met i k (cs i) (omega arith) (only i) (inr refl)
