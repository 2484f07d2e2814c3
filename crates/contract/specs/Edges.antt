-- The edge of a side, as it is read: its ends, and the third corners of the triangles on it.
-- Assumes nothing.
use Rattle.std.specs.Prelude.{◌≡◌, List, ℕ, ◌%◌}
use Rattle.std.proofs.Common.{ap, sym, ◌∙◌}
use Rattle.lists.specs.Search.{at}
use Rattle.rules.specs.Elements.{Side, slot, origin, destination}
use Rattle.rules.specs.Tables.{wide}
use Rattle.edit_rules.specs.Swap.{third}
use Rattle.theory.specs.Pairings.{partner_opposed}
use Rattle.theory.specs.Coarsening.{beyond}
use Rattle.theory.specs.Using.{beyond_border, beyond_inner}
use Rattle.edits.specs.Trying.{entry_border, entry_partner}

pub record Ends (L : List ℕ) (s a b c d : ℕ) : Type 0 where
  pub from : a ≡ origin L s
  pub to : b ≡ destination L s
  pub near : c ≡ third L s
  pub far : d ≡ beyond L s

-- t is the entry of the side in E2e
module _ (L : List ℕ) (s : ℕ) {t : ℕ} (a : Side L s) (entry : t ≡ at (wide L) (slot s)) where
  pub at_border : t % 8 ≡ 0 → {d : ℕ} → d ≡ third L s → d ≡ beyond L s
  at_border z e = e ∙ sym (beyond_border L s (entry_border L s a entry z))

  module _ (inner : t % 8 ≡ 0 → ⊥) where
    pub partner_there : Side L t
    partner_there = let (e, d) = entry_partner L s a entry inner in rw e (partner_opposed L s d).0

    pub at_inner : {d : ℕ} → d ≡ third L t → d ≡ beyond L s
    at_inner e = let (f, d) = entry_partner L s a entry inner in e ∙ ap (third L) f ∙ sym (beyond_inner L s d)
