-- Opposite undoes itself on built tables.
-- Assumes nothing.
use Rattle.std.specs.Prelude.{◌≡◌, refl, ◌⊎◌, List, ℕ, ◌*◌, T}
use Rattle.std.proofs.Common.{ap, sym, ◌∙◌, inl, inr}
use Rattle.std.proofs.Math.Option.{some}
use Rattle.lists.specs.TestLaws.{zero_or}
use Rattle.rules.specs.Elements.{Side}
use Rattle.rules.specs.Pairing.{Pairing}
use Rattle.rules.specs.Tables.{partner, border_number}
use Rattle.rules.specs.Queries.{is_half_edge, opposite}
use Rattle.theory.specs.Sides.{side_positive}
use Rattle.theory.specs.Built.{built, HalfEdge, side, border, by_side_lem, by_border_lem, means_half, read_paired, read_border, read_border_side_lem}

module _ (n : ℕ) (L : List ℕ) where
  pub opposite_paired : (s : ℕ) → Side L s → (partner L s ≡ 0 → ⊥) → opposite (built n L) s ≡ some (partner L s)
  unfolding opposite
  opposite_paired s a z = by_side_lem L s _ _ a ∙ read_paired n L s a z

  opposite_border : (s : ℕ) → Side L s → partner L s ≡ 0 → opposite (built n L) s ≡ some (8 * border_number L s)
  unfolding opposite
  opposite_border s a z = by_side_lem L s _ _ a ∙ read_border n L s a z

  opposite_back : (s : ℕ) → Side L s → partner L s ≡ 0 → opposite (built n L) (8 * border_number L s) ≡ some s
  unfolding opposite
  opposite_back s a z = by_border_lem (border_number L s) _ _ ∙ read_border_side_lem n L s a z

  module _ (p : Pairing L (partner L)) where
    -- theorem 6: "On built tables opposite undoes itself"
    pub opposite_undone : (c : ℕ) → T (is_half_edge (built n L) c) → (d : ℕ) × T (is_half_edge (built n L) d) × (opposite (built n L) c ≡ some d) × (opposite (built n L) d ≡ some c)
    opposite_undone c t = go ((means_half n L c).says t) (zero_or (partner L c))
      where
        go : HalfEdge L c → (partner L c ≡ 0) ⊎ (partner L c ≡ 0 → ⊥) → (d : ℕ) × T (is_half_edge (built n L) d) × (opposite (built n L) c ≡ some d) × (opposite (built n L) d ≡ some c)
        go (side a) (inl z) =
            (8 * border_number L c, (means_half n L (8 * border_number L c)).shows (border c a z refl), opposite_border c a z, opposite_back c a z)
        go (side a) (inr z) =
            let (b, e) = p.mutually c a z in (
              partner L c,
              (means_half n L (partner L c)).shows (side b),
              opposite_paired c a z,
              opposite_paired (partner L c) b (λ y. side_positive L c a (sym e ∙ y)) ∙ ap some e,
            )
        go (border s a z e) q =
            (s, (means_half n L s).shows (side a), ap (opposite (built n L)) e ∙ opposite_back s a z, opposite_border s a z ∙ ap some (sym e))
