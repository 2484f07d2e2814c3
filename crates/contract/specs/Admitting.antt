-- Refusals 11, 15 and 20, before anything is written.
-- Assumes nothing.
use Rattle.std.specs.Prelude.{◌≡◌, Bool, true, false, List, ℕ}
use Rattle.std.proofs.Common.{sym, ◌∙◌}
use Rattle.lists.specs.Search.{at}
use Rattle.rules.specs.Elements.{Side, slot}
use Rattle.rules.specs.Pairing.{Accepted}
use Rattle.rules.specs.Tables.{wide}
use Rattle.rules.specs.Refusals.{Answer, gives, refused}
use Rattle.edit_rules.specs.Edits.{is_there}
use Rattle.edit_rules.specs.Split.{is_splittable}
use Rattle.edit_rules.specs.Contract.{pinches}
use Rattle.theory.specs.Splitting.{means_splittable}
use Rattle.theory.specs.Coarsening.{pinches_by}
use Rattle.theory.specs.Pinching.{pinches_by_lem}
use Rattle.theory.specs.ContractTests as tests
use Rattle.contract.specs.Edges.{Ends}
use Rattle.contract.specs.Stages.{Admitted, denied, allowed}

module _ (n : ℕ) (L : List ℕ) (s : ℕ) where
  pub gone : {r : Answer} → is_there L s ≡ false → r ≡ refused 11 0 0 → Admitted n L s r
  gone e f = denied f (tests.gone n L s e)

  module _ (there : is_there L s ≡ true) where
    pub unfit : {r : Answer} → is_splittable L s ≡ false → r ≡ refused 15 0 0 → Admitted n L s r
    unfit e f = denied f (tests.unfit n L s there e)

    module _ (fit : is_splittable L s ≡ true) where
      pub side_there : Side L s
      side_there = ((means_splittable L s).says (rw fit tt)).side

      -- the ends of the edge, and by them 20
      module _ {a b c d : ℕ} (e : Ends L s a b c d) {u : Bool} (is : u ≡ pinches_by n L a b c d) where
        by_corners : pinches n L s ≡ u
        by_corners = pinches_by_lem n L s e.from e.to e.near e.far ∙ sym is

        pub pinched : {r : Answer} → u ≡ true → r ≡ refused 20 0 0 → Admitted n L s r
        pinched h f = denied f (tests.pinched n L s there fit (by_corners ∙ h))

        pub admitted : {r : Answer} {t : ℕ} → Accepted n L → t ≡ at (wide L) (slot s) → u ≡ false → r ≡ gives t 0 → Admitted n L s r
        admitted x entry h f =
            allowed f (record { accepted = x; there = there; fit = fit; free = by_corners ∙ h; entry = entry })
