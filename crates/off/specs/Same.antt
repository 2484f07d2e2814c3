-- Texts whose faces are equal as numbers, and their lists.
-- Assumes nothing.
use Rattle.std.specs.Prelude.{◌≡◌, ℕ, ◌+◌, ◌*◌, ◌-◌, ◌/◌, ◌%◌, ◌≤◌, ◌<◌}
use Rattle.std.proofs.Math.Path.{ap, sym}
use Rattle.std.proofs.Common.{◌∙◌, arith}
use Rattle.std.proofs.Math.Logic.{inl, inr}
use mathlib.Core.List.{List}
use Rattle.lists.specs.Search.{at, tab}
use Rattle.lists.specs.SearchLaws.{at_tab, tab_same, le_or_lt}
use Rattle.off_rules.specs.Off.{Item, the_n, the_m, corners, row_entry, corner_entry, element_list, SameFaces}
use Rattle.off.specs.Writing.{by_place, corner_entry_lem, past_entry, Sound}

module _ (x y : List Item) where
  -- "give equal lists"
  pub same_lists : SameFaces x y → element_list x ≡ element_list y
  unfolding element_list
  same_lists s =
      ap (λ (m : ℕ). tab (4 * m) (corner_entry x)) s.faces
      ∙ tab_same (4 * the_m y) (corner_entry x) (corner_entry y) (λ q h. same q (omega (arith, s.faces)))
    where
      same : (q : ℕ) → q < 4 * the_m x → corner_entry x q ≡ corner_entry y q
      same q h =
          let f = q / 4 + 1 in
          let i = q % 4 + 1 in
          let n = s.counts f (omega arith) (omega arith) in
          elim (le_or_lt i (corners x f)) [
            | inl m ↦
                corner_entry_lem x f i m
                ∙ ap (λ (c : ℕ). c + 1) (s.numbers f i (omega arith) (omega arith) (omega arith) m)
                ∙ sym (corner_entry_lem y f i (omega arith))
            | inr m ↦ past_entry x f i m ∙ sym (past_entry y f i (omega arith))
          ]

  -- and no others do: the list tells the faces
  module _ (sx : Sound x) (sy : Sound y) (n : the_n x ≡ the_n y) (m : the_m x ≡ the_m y) (same : element_list x ≡ element_list y) where
    entries : (q : ℕ) → q < 4 * the_m x → corner_entry x q ≡ corner_entry y q
    unfolding element_list
    entries q h =
        sym (at_tab (4 * the_m x) (corner_entry x) q h) ∙ ap (λ (L : List ℕ). at L q) same ∙ at_tab (4 * the_m y) (corner_entry y) q (omega arith)

    few : (z : List Item) → Sound z → (f : ℕ) → 1 ≤ f → f ≤ the_m z → (3 ≤ corners z f) × (corners z f ≤ 4)
    few z s f h l = s.few (f - 1) (omega arith)

    row : (f i : ℕ) → 1 ≤ f → f ≤ the_m x → 1 ≤ i → i ≤ 4 → row_entry x f i ≡ row_entry y f i
    row f i h l j k = sym (by_place x f i h j k) ∙ entries (4 * (f - 1) + (i - 1)) (omega arith) ∙ by_place y f i h j k

    -- a fourth corner is no 0
    fourth : (f : ℕ) → 1 ≤ f → f ≤ the_m x → corners x f ≡ corners y f
    fourth f h l =
        let a = few x sx f h l in
        let b = few y sy f h (omega arith) in
        let e = row f 4 h l (omega arith) (omega arith) in
        elim (le_or_lt 4 (corners x f)) [
          | inl j ↦ elim (le_or_lt 4 (corners y f))
              [ inl k ↦ omega arith | inr k ↦ absurd (omega (arith, corner_entry_lem x f 4 j, past_entry y f 4 k)) ]
          | inr j ↦ elim (le_or_lt 4 (corners y f))
              [ inl k ↦ absurd (omega (arith, past_entry x f 4 j, corner_entry_lem y f 4 k)) | inr k ↦ omega arith ]
        ]

    pub same_faces : SameFaces x y
    same_faces =
        record {
          vertices = n;
          faces = m;
          counts = fourth;
          numbers = λ f i h l j k.
              let a = few x sx f h l in
              let c = fourth f h l in
              omega (arith, row f i h l j (omega arith), corner_entry_lem x f i k, corner_entry_lem y f i (omega arith));
        }
