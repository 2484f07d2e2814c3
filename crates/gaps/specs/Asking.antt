-- Whether a vertex is used, by the entries of the list.
-- Assumes nothing.
use Rattle.std.specs.Prelude.{◌≡◌, Bool, true, false, List, ℕ, ◌*◌, ◌≤◌, ◌<◌, eqb, length}
use Rattle.std.specs.List.{IsAnyAnswer}
use Rattle.std.proofs.Math.Path.{ap, sym}
use Rattle.std.proofs.Common.{◌∙◌, arith}
use Rattle.std.proofs.Math.Dec.{not_T}
use Rattle.lists.specs.TestLaws.{Test, pass, fail, test, true_of, false_of, means_eq, passed, failed}
use Rattle.lists.specs.Search.{at}
use Rattle.rules.specs.Elements.{elements, is_side, slot, origin, side_at}
use Rattle.edit_rules.specs.Contract.{is_used}
use Rattle.theory.specs.Sides.{slot_side_at, slot_below, no_side_zero}
use Rattle.theory.specs.Using.{Used, means_used}

module _ (L : List ℕ) (v : ℕ) where
  -- where an entry isn't 0, a side begins
  entry_used : 1 ≤ v → length L ≡ 4 * elements L → (p : ℕ) → p < length L → at L p ≡ v → Used L v
  unfolding origin
  entry_used from fours p h e = go (test (is_side L (side_at p)))
    where
      go : Test (is_side L (side_at p)) → Used L v
      go (pass t f) = (side_at p, (t, ap (at L) (slot_side_at p) ∙ e))
      go (fail t f) = absurd (omega (arith, no_side_zero L p (omega arith) t))

  pub used : 1 ≤ v → length L ≡ 4 * elements L → (p : ℕ) → p < length L → at L p ≡ v → true ≡ is_used L v
  used from fours p h e = sym (true_of (is_used L v) ((means_used L v).shows (entry_used from fours p h e)))

  pub unused : ((p : ℕ) → p < length L → at L p ≡ v → ⊥) → false ≡ is_used L v
  unfolding origin
  unused f =
      sym
      (false_of (is_used L v)
      (not_T (is_used L v) (λ t. let (q, (a, e)) = (means_used L v).says t in f (slot q) (slot_below L q a) e)))

  -- by a look at each entry
  pub used_by : 1 ≤ v → length L ≡ 4 * elements L → (r : Bool) → IsAnyAnswer (λ y b. eqb y v ≡ b) L r → r ≡ is_used L v
  used_by from fours true (p, h, x) = used from fours p h (passed (means_eq (at L p) v) (x 0))
  used_by from fours false f = unused (λ p h e. failed (means_eq (at L p) v) (f p 0 (omega arith) h) e)
