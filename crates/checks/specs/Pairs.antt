-- What checks 6 and 7 say together, told whether two sides run alike: where none do, the sides are paired, so neither finds anything.
-- Assumes nothing.
use Rattle.std.specs.Prelude.{◌≡◌, Bool, true, false, List, ℕ, T}
use Rattle.std.proofs.Common.{sym, ◌∙◌}
use Rattle.lists.specs.TestLaws.{Means}
use Rattle.rules.specs.Elements.{element, number}
use Rattle.rules.specs.Tables.{partner}
use Rattle.rules.specs.Refusals.{Answer, gives, refused, crowded_side, alike_side, side_check}
use Rattle.theory.specs.FitRows.{Fit}
use Rattle.theory.specs.Pairings.{pairing_exists, the_pairing}
use Rattle.theory.specs.Answers.{check_clear, check_refuses, past_check, gives_refused, still_refused}

-- checks 6 and 7, before what the later ones say
abbrev pub pair_checks : List ℕ → Answer → Answer
pair_checks L rest = side_check 6 (crowded_side L) (side_check 7 (alike_side L) rest)

module _ (L : List ℕ) where
  pub pairs_clear : (rest : Answer) → crowded_side L ≡ 0 → alike_side L ≡ 0 → pair_checks L rest ≡ rest
  pairs_clear rest e f = check_clear _ _ _ e ∙ check_clear _ _ _ f

  pub pairs_passed : {k e : ℕ} (rest : Answer) → pair_checks L rest ≡ gives k e → (crowded_side L ≡ 0) × (alike_side L ≡ 0) × (rest ≡ gives k e)
  pairs_passed rest g =
      let (x, h) = past_check (crowded_side L) _ _ _ _ _ _ g in
      let (y, i) = past_check (alike_side L) _ _ _ _ _ _ h in (x, y, i)

  -- what they refuse before one rest that doesn't, they refuse before any
  pub pairs_refused : (i j : ℕ) (rest : Answer) {r p q : ℕ} → pair_checks L (gives i j) ≡ refused r p q → pair_checks L rest ≡ refused r p q
  pairs_refused i j rest g = still_refused _ _ _ _ g (λ h. still_refused _ _ _ _ h (λ k. absurd (gives_refused k)))

  -- by the flag, and by the side s that check 6 found and the side t that check 7 found
  module _ {flag : Bool} (means : Means flag (alike_side L ≡ 0)) where
    pub none_alike : (n : ℕ) → Fit n L → flag ≡ true → pair_checks L (gives 0 0) ≡ gives 0 0
    none_alike n fit t =
        let z = means.says (rw t tt) in
        pairs_clear (gives 0 0) ((pairing_exists n L fit).0 (partner L, the_pairing n L fit z)).0 z

    pub crowded_refuses : {s : ℕ} → s ≡ crowded_side L → (s ≡ 0 → ⊥) → pair_checks L (gives 0 0) ≡ refused 6 (element s) (number s)
    crowded_refuses e d = rw e (check_refuses (crowded_side L) _ _ (λ z. d (e ∙ z)))

    pub alike_refuses : flag ≡ false → {s t : ℕ} → s ≡ crowded_side L → s ≡ 0 → t ≡ alike_side L
        → pair_checks L (gives 0 0) ≡ refused 7 (element t) (number t)
    alike_refuses f e z q =
        check_clear _ _ _ (sym e ∙ z) ∙ rw q (check_refuses (alike_side L) _ _ (λ y. (let x : T false = rw f at (means.shows y) in absurd x)))
