-- The border test of a vertex of built tables: it says inner, rim or unused, each exactly where the list does.
-- Assumes nothing.
use Rattle.std.specs.Prelude.{◌≡◌, refl, Bool, ◌↔◌, List, ℕ, ◌≤◌}
use Rattle.std.proofs.Math.Path.{ap}
use Rattle.std.proofs.Common.{sym, ◌∙◌, arith}
use Rattle.std.proofs.Math.Option.{Option, some}
use Rattle.lists.specs.TestLaws.{true_of}
use Rattle.rules.specs.Elements.{element, next}
use Rattle.rules.specs.Refusals.{Answer, gives}
use Rattle.rules.specs.Queries.{asked, defined, found, by_entry, is_vertex, read_vertex_entry, vertex_border_answer}
use Rattle.theory.specs.Steps.{next_side_lem}
use Rattle.theory.specs.FitRows.{Fit}
use Rattle.theory.specs.Built.{built, asked_built, by_entry_side, by_entry_border, means_vertex, ReadEntry, rim, inner, unused, read_entry}
use Rattle.theory.specs.Reads.{and_then_lem}
use Rattle.theory.specs.Rims.{BorderInto}
use Rattle.theory.specs.Rings.{About}

-- "the vertex border test now says inner, rim or unused": what the answer a says of v
pub record Tells (L : List ℕ) (v : ℕ) (a : Answer) : Type 0 where
  pub inner : (a ≡ gives 0 0) ↔ (((f : ℕ) × About L v f) × ((r : ℕ) → BorderInto L v r → ⊥))
  pub rim : (a ≡ gives 1 0) ↔ ((r : ℕ) × BorderInto L v r)
  pub unused : (a ≡ gives 2 0) ↔ ((f : ℕ) → About L v f → ⊥)

module _ (n : ℕ) (L : List ℕ) (fit : Fit n L) (v : ℕ) (h : 1 ≤ v) (k : v ≤ n) where
  -- the answer by what V2e says
  answers : (c x : ℕ) → read_vertex_entry (built n L) v ≡ some c → by_entry c 2 0 1 ≡ x → vertex_border_answer (built n L) v ≡ gives x 0
  unfolding vertex_border_answer defined found
  answers c x e q =
      let M = built n L in
      ap (λ (r : Option ℕ). asked M (defined (is_vertex M v) (found r))) (and_then_lem _ e ∙ ap some q)
      ∙ ap (λ (b : Bool). asked M (defined b (gives x 0))) (true_of (is_vertex M v) ((means_vertex n L v).shows (h, k)))
      ∙ asked_built n L fit (gives x 0)

  -- and only that one
  alone : (x y : ℕ) → vertex_border_answer (built n L) v ≡ gives x 0 → vertex_border_answer (built n L) v ≡ gives y 0 → x ≡ y
  alone x y p q = let r = sym p ∙ q in cc

  -- theorem 6: unused exactly the vertices that no element has, rim those where a border side ends, inner the others
  pub tells : Tells L v (vertex_border_answer (built n L) v)
  tells = go (read_entry n L v h k)
    where
      go : ReadEntry n L v → Tells L v (vertex_border_answer (built n L) v)
      go (rim r a z d e) =
          let p = answers _ 1 e (by_entry_border L r 2 0 1) in
          record {
            inner = ((λ q. absurd (omega (arith, alone 0 1 q p))), (λ (f, none). absurd (none r (a, z, d))));
            rim = ((λ q. (r, (a, z, d))), (λ x. p));
            unused =
                ((λ q. absurd (omega (arith, alone 2 1 q p))), (λ none. absurd (none _ (next L r, (next_side_lem L r a, d), refl))));
          }
      go (inner free s a e) =
          let p = answers s 0 e (by_entry_side L s 2 0 1 a.0) in
          record {
            inner = ((λ q. ((element s, (s, a, refl)), (λ r (b, z, d). free r b z d))), (λ x. p));
            rim = ((λ q. absurd (omega (arith, alone 1 0 q p))), (λ (r, (b, z, d)). absurd (free r b z d)));
            unused = ((λ q. absurd (omega (arith, alone 2 0 q p))), (λ none. absurd (none _ (s, a, refl))));
          }
      go (unused none e) =
          let p = answers 0 2 e refl in
          record {
            inner = ((λ q. absurd (omega (arith, alone 0 2 q p))), (λ ((f, (s, a, w)), x). absurd (none s a)));
            rim = ((λ q. absurd (omega (arith, alone 1 2 q p))), (λ (r, (b, z, d)). absurd (none (next L r) (next_side_lem L r b, d))));
            unused = ((λ q f (s, a, w). none s a), (λ x. p));
          }
