-- A row put in its place in the list.
-- Assumes nothing.
use Rattle.std.specs.Prelude.{◌≡◌, refl, List, [], ◌∷◌, ◌++◌, ℕ, ◌+◌, ◌*◌, ◌-◌, ◌≤◌, length, take, drop}
use Rattle.std.proofs.Common.{ap, sym, ◌∙◌, arith, length-take, length-drop, drop-drop}
use Rattle.rules.specs.Refusals.{onto}
use Rattle.edit_rules.specs.Edits.{with_row}
use Rattle.halfedge.specs.Rows.{row_of}
use Rattle.buffers.specs.Whole.{onto_full}

-- a row of four
pub four_is : (r : List ℕ) → length r ≡ 4 → row_of r ≡ r
four_is (a ∷ b ∷ c ∷ d ∷ []) h = refl
four_is [] h = absurd (omega arith)
four_is (a ∷ []) h = absurd (omega arith)
four_is (a ∷ b ∷ []) h = absurd (omega arith)
four_is (a ∷ b ∷ c ∷ []) h = absurd (omega arith)
four_is (a ∷ b ∷ c ∷ d ∷ e ∷ r) h = absurd (omega arith)

-- a row is copied to where element f stands; f - 1 as an index is a
pub row_put : (f : ℕ) {a : ℕ} (r L : List ℕ) {ys : List ℕ} → length r ≡ 4 → 1 ≤ f → 4 * f ≤ length L → a ≡ f - 1
    → ys ≡ onto r (take (4 * a + 4 - 4 * a) (drop (4 * a) L)) → take (4 * a) L ++ (ys ++ drop (4 * a + 4 - 4 * a) (drop (4 * a) L)) ≡ with_row f (row_of r) L
unfolding with_row
row_put f {a} r L {ys} long from to index copied =
    let four : 4 * a + 4 - 4 * a ≡ 4 = omega arith in
    let start : 4 * a ≡ 4 * (f - 1) = omega arith in
    let end : 4 * a + (4 * a + 4 - 4 * a) ≡ 4 * f = omega arith in
    let whole : ys ≡ row_of r =
    copied ∙ onto_full r (take (4 * a + 4 - 4 * a) (drop (4 * a) L)) (simp (length-take, length-drop) (omega arith)) ∙ sym (four_is r long) in
    ap (λ (X : List ℕ). take (4 * a) L ++ (X ++ drop (4 * a + 4 - 4 * a) (drop (4 * a) L))) whole
    ∙ ap (λ (X : List ℕ). take (4 * a) L ++ (row_of r ++ X)) (drop-drop (4 * a + 4 - 4 * a) (4 * a) L)
    ∙ ap (λ (k : ℕ). take (4 * a) L ++ (row_of r ++ drop k L)) end
    ∙ ap (λ (k : ℕ). take k L ++ (row_of r ++ drop (4 * f) L)) start
