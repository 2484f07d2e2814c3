-- The computed tables of an accepted list are the ones that document 01 describes, for any pairing of its sides.
-- Assumes nothing.
use Rattle.std.specs.Prelude.{◌≡◌, ◌⊎◌, ◌↔◌, List, ℕ, suc, ◌+◌, ◌*◌, ◌-◌, ◌≤◌, ◌<◌, length}
use Rattle.std.proofs.Common.{ap, sym, ◌∙◌, inl, inr, arith}
use Rattle.lists.specs.Search.{at}
use Rattle.lists.specs.SearchLaws.{le_not_lt, lt_or_eq}
use Rattle.rules.specs.Elements.{elements, corner, Side, destination, next}
use Rattle.rules.specs.Pairing.{SideAt, Accepted}
use Rattle.rules.specs.Tables.{partner, border_number, borders, b2e, columns, e2e_slot, e2e, v2e}
use Rattle.theory.specs.Sides.{side_positive}
use Rattle.theory.specs.Steps.{next_side_lem}
use Rattle.theory.specs.Pairings.{pairing_unique}
use Rattle.theory.specs.Entries.{length_v2e, length_b2e, wide_paired, wide_border, wide_empty, b2e_border, number_from, number_to, number_less}
use Rattle.theory.specs.Entries.{numbered_border, VertexEntry, rim, inner, unused, vertex_entry}
use Rattle.theory.specs.Columns.{length_e2e, at_side, four_is_wide}
use Rattle.theory.specs.Turns.{fourth, fourth_none, triangles, quadrilateral}
use Rattle.theory.specs.Orders.{Good, good, one_border_into}

-- entry b of B2e is the side s
abbrev pub Entry : List ℕ → ℕ → ℕ → Type 0
Entry L b s = (1 ≤ b) × (b ≤ borders L) × (at (b2e L) (b - 1) ≡ s)

-- s is a border side by the pairing π
abbrev pub Border : List ℕ → (ℕ → ℕ) → ℕ → Type 0
Border L π s = Side L s × (π s ≡ 0)

pub record Described (n : ℕ) (L : List ℕ) (π : ℕ → ℕ) : Type 0 where
  -- "B2e: border sides in order of code get b = 1, 2, ..; entry b is the code of that side. Their number is k"
  pub number : length (b2e L) ≡ borders L
  pub border_side : (b s : ℕ) → Entry L b s → Border L π s
  pub side_border : (s : ℕ) → Border L π s → (b : ℕ) × Entry L b s
  pub in_order : (b c s t : ℕ) → Entry L b s → Entry L c t → b < c → s < t
  -- document 02, point 10: "Lists without a quadrilateral now use three entries for an element in E2e; others keep four"
  pub three_columns : (columns L ≡ 3) ↔ ((f : ℕ) → 1 ≤ f → f ≤ elements L → corner L f 4 ≡ 0)
  pub four_columns : (columns L ≡ 4) ↔ ((f : ℕ) × (1 ≤ f) × (f ≤ elements L) × (corner L f 4 ≡ 0 → ⊥))
  pub entries : length (e2e L) ≡ columns L * elements L
  -- "E2e: .. The entry of a paired side is its partner's code, of a border side 8 × b, and a triangle's fourth entry is 0"
  pub paired_entry : (s : ℕ) → Side L s → (π s ≡ 0 → ⊥) → at (e2e L) (e2e_slot (columns L) s) ≡ π s
  pub border_entry : (b s : ℕ) → Entry L b s → at (e2e L) (e2e_slot (columns L) s) ≡ 8 * b
  pub fourth_entry : (f : ℕ) → 1 ≤ f → columns L ≡ 4 → corner L f 4 ≡ 0 → at (e2e L) (4 * (f - 1) + 3) ≡ 0
  -- "V2e: for a vertex with a border side ending there, the border half-edge opposite that side; otherwise the least code of a side with
  -- origin there"
  pub vertex_entries : length (v2e n L) ≡ n
  pub rim_entry : (b s v : ℕ) → 1 ≤ v → v ≤ n → Entry L b s → destination L s ≡ v → at (v2e n L) (v - 1) ≡ 8 * b
  pub inner_entry : (v : ℕ) → 1 ≤ v → v ≤ n → ((s : ℕ) × SideAt L v s) → ((s : ℕ) → Border L π s → destination L s ≡ v → ⊥)
      → SideAt L v (at (v2e n L) (v - 1)) × ((s : ℕ) → SideAt L v s → at (v2e n L) (v - 1) ≤ s)
  -- document 02, point 2: "vertices that no plate uses", "with V2e entry 0"
  pub unused_entry : (v : ℕ) → 1 ≤ v → v ≤ n → (at (v2e n L) (v - 1) ≡ 0) ↔ ((s : ℕ) → SideAt L v s → ⊥)
  -- "that side" is one: at most one border side ends at a vertex
  pub one_border : (s t v : ℕ) → 1 ≤ v → v ≤ n → Border L π s → destination L s ≡ v → Border L π t → destination L t ≡ v → s ≡ t

-- a border number's side has this number
entry_number : (L : List ℕ) (b s : ℕ) → Entry L b s → Border L (partner L) s × (border_number L s ≡ b)
entry_number L b s (from, to, e) =
    let (t, a, z, g) = numbered_border L b from to in
    let h : t ≡ s = sym (b2e_border L t a z) ∙ ap (λ (x : ℕ). at (b2e L) (x - 1)) g ∙ e in
    rw (← h) ((a, z), g)

-- the V2e entry of a vertex where no border side ends, and of one without sides
inner_least : (L : List ℕ) (v c s : ℕ) → SideAt L v s → ((r : ℕ) → Border L (partner L) r → destination L r ≡ v → ⊥) → VertexEntry L v c → SideAt L v c × ((t : ℕ) → SideAt L v t → c ≤ t)
inner_least L v c s y f (rim r a z d e) = absurd (f r (a, z) d)
inner_least L v c s y f (inner h a k) = (a, k)
inner_least L v c s y f (unused k e) = absurd (k s y)

unused_zero : (L : List ℕ) (v c : ℕ) → VertexEntry L v c → (c ≡ 0) ↔ ((s : ℕ) → SideAt L v s → ⊥)
unused_zero L v c (rim r a z d e) =
    ((λ i. absurd (omega (arith, number_from L r))), (λ f. absurd (f (next L r) (next_side_lem L r a, d))))
unused_zero L v c (inner h a k) = ((λ i. absurd (side_positive L c a.0 i)), (λ f. absurd (f c a)))
unused_zero L v c (unused k e) = ((λ i. k), (λ f. e))

-- theorem 3
pub described : (n : ℕ) (L : List ℕ) (x : Accepted n L) → Described n L x.pairing
described n L x =
    record {
      number = length_b2e L;
      border_side = λ b s h. let ((a, z), e) = entry_number L b s h in (a, same s a ∙ z);
      side_border = λ s (a, z).
          let w = sym (same s a) ∙ z in (border_number L s, (number_from L s, number_to L s a w, b2e_border L s a w));
      in_order = λ b c s t h k l. le_not_lt (suc s) t (λ m. later b c s t h k l (omega arith));
      three_columns = triangles L;
      four_columns = quadrilateral L;
      entries = length_e2e L;
      paired_entry = λ s a d. at_side L s a ∙ wide_paired L s a (λ z. d (same s a ∙ z)) ∙ sym (same s a);
      border_entry = λ b s h. let ((a, z), e) = entry_number L b s h in at_side L s a ∙ wide_border L s a z ∙ ap (8 *◌) e;
      fourth_entry = λ f from four z.
          ap (λ (X : List ℕ). at X (4 * (f - 1) + 3)) (four_is_wide L four)
          ∙ wide_empty L (4 * (f - 1) + 3) (rw (fourth L f from) (fourth_none L f z));
      vertex_entries = length_v2e L n;
      rim_entry = λ b s v from to h d. let (k, e) = entry_number L b s h in rim_at s v from to k d (vertex_entry n L v from to) ∙ ap (8 *◌) e;
      inner_entry = λ v from to (s, y) f. inner_least L v _ s y (λ r (a, z). f r (a, same r a ∙ z)) (vertex_entry n L v from to);
      unused_entry = λ v from to. unused_zero L v _ (vertex_entry n L v from to);
      one_border = λ s t v from to (a, z) d (b, w) e. one s t v from to (a, sym (same s a) ∙ z) d (b, sym (same t b) ∙ w) e;
    }
  where
    g : Good n L
    g = good n L x

    same : (s : ℕ) → Side L s → x.pairing s ≡ partner L s
    same = pairing_unique L x.pairing (partner L) x.ordered.pairing g.pairing

    one : (s t v : ℕ) → 1 ≤ v → v ≤ n → Border L (partner L) s → destination L s ≡ v → Border L (partner L) t → destination L t ≡ v → s ≡ t
    one s t v from to (a, z) d (b, w) e =
        let (o, y) = g.orders v from to in one_border_into L g.pairing v o y s t a z d b w e

    -- a later number is a later side's
    later : (b c s t : ℕ) → Entry L b s → Entry L c t → b < c → t ≤ s → ⊥
    later b c s t h k l m =
        let ((a, z), e) = entry_number L b s h in
        let ((d, w), f) = entry_number L c t k in
        go a z d w e f (lt_or_eq t s (omega arith))
      where
        go : Side L s → partner L s ≡ 0 → Side L t → partner L t ≡ 0 → border_number L s ≡ b → border_number L t ≡ c → (t < s) ⊎ (t ≡ s) → ⊥
        go a z d w e f (inl i) = omega (arith, number_less L t s d w a z i)
        go a z d w e f (inr i) = omega (arith, ap (border_number L) i)

    rim_at : (s v : ℕ) → 1 ≤ v → v ≤ n → Border L (partner L) s → destination L s ≡ v → {c : ℕ} → VertexEntry L v c → c ≡ 8 * border_number L s
    rim_at s v from to k d (rim r a z e q) = q ∙ ap (λ (i : ℕ). 8 * border_number L i) (one r s v from to (a, z) e k d)
    rim_at s v from to (a, z) d (inner f b q) = absurd (f s a z d)
    rim_at s v from to (a, z) d (unused f e) = absurd (f (next L s) (next_side_lem L s a, d))
