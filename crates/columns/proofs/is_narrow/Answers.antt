-- `columns::is_narrow` meets its contract.
-- Assumes nothing.
use Rattle.std.proofs.Common.{◌≡◌, refl, ap, sym, ◌∙◌, arith, Bool, true, false, List, ℕ, ◌+◌, ◌*◌, ◌/◌, ◌<◌, length}
use Rattle.std.proofs.Math.Dec.{not_T}
use borrow.Author.Tests.{ne_eqb}
use Rattle.lists.specs.Search.{at}
use Rattle.lists.specs.SearchLaws.{length_tab, at_tab, is_tab}
use Rattle.lists.specs.Tests.{same}
use Rattle.lists.specs.TestLaws.{true_of, false_of, means_same}
use Rattle.rules.specs.Elements.{elements}
use Rattle.theory.specs.Columns.{narrowed}
use Rattle.columns.proofs.is_narrow.Goals as goal

module _ (W E : List ℕ) where
  three : ℕ → ℕ
  three k = at W (k + k / 3)

  differ : (narrowed 3 W ≡ E → ⊥) → false ≡ same (narrowed 3 W) E
  differ f = sym (false_of (same (narrowed 3 W) E) (not_T (same (narrowed 3 W) E) (λ t. f ((means_same (narrowed 3 W) E).says t))))

  long : narrowed 3 W ≡ E → length E ≡ 3 * elements W
  unfolding narrowed three
  long e = ap length (sym e) ∙ length_tab (3 * elements W) three

  entry : narrowed 3 W ≡ E → (k : ℕ) → k < 3 * elements W → at E k ≡ at W (k + k / 3)
  unfolding narrowed three
  entry e k h = ap (λ (X : List ℕ). at X k) (sym e) ∙ at_tab (3 * elements W) three k h

  agree : length E ≡ 3 * elements W → ((k : ℕ) → k < length E → at E k ≡ at W (k + k / 3)) → true ≡ same (narrowed 3 W) E
  unfolding narrowed three
  agree l f =
      sym (true_of (same (narrowed 3 W) E) ((means_same (narrowed 3 W) E).shows (sym (is_tab (3 * elements W) three E l (λ k h. f k (omega arith))))))

  by_entries : (b : Bool) → length E ≡ 3 * elements W → (b ≡ true → (k : ℕ) → k < length E → at E k ≡ at W (k + k / 3))
      → (b ≡ false → (k : ℕ) × (k < length E) × (at E k ≡ at W (k + k / 3) → ⊥)) → b ≡ same (narrowed 3 W) E
  by_entries true l all found = agree l (all refl)
  by_entries false l all found = let (k, h, d) = found refl in differ (λ e. d (entry e k (omega arith)))

pub returns-then-e2e-table : goal.returns-then-e2e-table
returns-then-e2e-table c =
    by_entries c.args.table.now c.args.e2e.now c.agrees.result c.if-e2e-table.true c.agrees.ensures.all c.agrees.ensures.found

pub returns-else-e2e-table : goal.returns-else-e2e-table
returns-else-e2e-table c =
    ne_eqb _ _ c.if-e2e-table.false ∙ differ c.args.table.now c.args.e2e.now (λ e. c.if-e2e-table.false (long c.args.table.now c.args.e2e.now e))
