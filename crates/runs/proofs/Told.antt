-- The columns that a query is told, over runs of the calls.
--
-- "0 means that the call looks at the list itself, and is the paper's rule to the letter; 3 and 4 say that the caller has looked, once, with
-- borzhanu_columns; any other number gives 2." Told what that call answers, a query answers and leaves what it does told 0. "Told wrong, the call
-- still ends with what the definition says: lengths by the told number, and the E2e entry of a fourth side in three columns names nothing (12)."
-- Assumes nothing.
use Rattle.std.specs.Prelude.{◌≡◌, refl, true, ◌⊎◌, ◌↔◌, List, ℕ, ◌%◌, ◌≤◌, ◌<◌, eqb, take}
use Rattle.std.proofs.Math.Path.{ap}
use Rattle.std.proofs.Common.{sym, subst, ◌∙◌}
use Rattle.std.proofs.Math.Logic.{inl, inr}
use native.Mathlib.Omega.{arith}
use Rattle.std.proofs.Math.Dec.{T, not_T}
use Rattle.lists.specs.Tests.{within}
use Rattle.lists.specs.TestLaws.{true_of, false_of, means_itself, means_either, means_not, means_eq, means_within}
use Rattle.lists.specs.SearchLaws.{le_or_lt}
use Rattle.rules.specs.Elements.{Side, is_side}
use Rattle.rules.specs.Pairing.{sizes_fit}
use Rattle.rules.specs.Tables.{columns}
use Rattle.rules.specs.Refusals.{Answer, gives, refused, Buffers, length_checks}
use Rattle.rules.specs.Queries.{Mesh, seen, told, columns_answer, query_lengths, asked, found, is_half_edge, is_border_code, opposite, opposite_answer, read_border_side}
use Rattle.theory.specs.Answers.{past_lengths}
use Rattle.theory.specs.Columns.{three_or_four}
use Rattle.theory.specs.Built.{by_side_lem}
use Rattle.theory.specs.Reads.{none_past}
use Rattle.runs.specs.Runs.{BuildRun, LeftBy}
use Rattle.runs.proofs.OnBuilt.{passed}

-- what is seen: told 0 the list's columns, told anything else that
pub seen_zero : (L : List ℕ) → seen 0 L ≡ columns L
unfolding seen
seen_zero L = refl

pub seen_told : (c : ℕ) (L : List ℕ) → (c ≡ 0 → ⊥) → seen c L ≡ c
unfolding seen
seen_told c L d = rw (false_of (eqb c 0) ((means_not (means_eq c 0)).shows d), seen)

-- a run of `columns` that answers says the list's columns
pub columns_said : (n : ℕ) (L : List ℕ) (a : Answer) (c d : ℕ) → a ≡ columns_answer n L → a ≡ gives c d → c ≡ columns L
unfolding columns_answer
columns_said n L a c d run g =
    let (s, l, h) = past_lengths (sizes_fit n L) true (gives (columns L) 0) c d (sym run ∙ g) in cc

module _ (n : ℕ) (L V2e E2e B2e : List ℕ) where
  told_own : told n (columns L) L V2e E2e B2e ≡ told n 0 L V2e E2e B2e
  told_own =
      let some : columns L ≡ 0 → ⊥ = λ z. elim (three_or_four L) [ inl e ↦ omega arith | inr e ↦ omega arith ] in
      ap (λ (i : ℕ). record { n = n; columns = i; list = L; vertices = V2e; opposites = E2e; border = B2e }) (seen_told (columns L) L some ∙ sym (seen_zero L))

  -- a run of `columns` that answers c, and then a query: whatever is a run of it told c is a run of it told 0, and the other way
  module _ (a : Answer) (c d : ℕ) (run : a ≡ columns_answer n L) (answers : a ≡ gives c d) where
    told_same : told n c L V2e E2e B2e ≡ told n 0 L V2e E2e B2e
    told_same = ap (λ (i : ℕ). told n i L V2e E2e B2e) (columns_said n L a c d run answers) ∙ told_own

    pub as_looked : (Run : Mesh → Type 0) → Run (told n c L V2e E2e B2e) ↔ Run (told n 0 L V2e E2e B2e)
    as_looked Run = (subst Run told_same, subst Run (sym told_same))

    -- so what it answers is the same, and what it leaves
    pub answers_alike : {A : Type 0} (rule : Mesh → A) (x y : A) → x ≡ rule (told n c L V2e E2e B2e) → y ≡ rule (told n 0 L V2e E2e B2e) → x ≡ y
    answers_alike rule x y e f = e ∙ ap rule told_same ∙ sym f

  -- any other number gives 2, after check 1
  pub other_columns : (c : ℕ) (a : Answer) → T (sizes_fit n L) → (c ≡ 0 → ⊥) → (c ≡ 3 → ⊥) → (c ≡ 4 → ⊥) → asked (told n c L V2e E2e B2e) a ≡ refused 2 0 0
  unfolding asked query_lengths length_checks
  other_columns c a s zero three four =
      let e = seen_told c L zero in
      let outside : T (within 3 4 (seen c L)) → ⊥ = λ t. let (h, k) = (means_within 3 4 (seen c L)).says t in no c e h k three four in
      rw (true_of (sizes_fit n L) s, false_of (within 3 4 (seen c L)) (not_T (within 3 4 (seen c L)) outside), length_checks)
    where
      no : (c : ℕ) {i : ℕ} → i ≡ c → 3 ≤ i → i ≤ 4 → (c ≡ 3 → ⊥) → (c ≡ 4 → ⊥) → ⊥
      no c e h k three four = three (le_three c (omega arith) (omega arith) four)
        where
          le_three : (c : ℕ) → 3 ≤ c → c ≤ 4 → (c ≡ 4 → ⊥) → c ≡ 3
          le_three c h k d = elim (le_or_lt c 3) [ inl l ↦ omega arith | inr l ↦ absurd (d (omega arith)) ]

-- what a run of build left, with a query told its columns or told 0: theorem 6 (OnBuilt) holds of both
pub left_told : (n : ℕ) (L : List ℕ) (lent left : Buffers) (k e c : ℕ) → BuildRun n L lent (gives k e) left → (c ≡ 0) ⊎ (c ≡ columns L)
    → LeftBy n L (told n c L left.vertices left.opposites (take k left.border))
left_told n L lent left k e c run x =
    record {
      lent = lent;
      left = left;
      k = k;
      edges = e;
      run = run;
      mesh = go x ∙ ap (λ (i : ℕ). record { n = n; columns = i; list = L; vertices = left.vertices; opposites = left.opposites; border = take k left.border }) (seen_zero L);
    }
  where
    go : (c ≡ 0) ⊎ (c ≡ columns L) → told n c L left.vertices left.opposites (take k left.border) ≡ told n 0 L left.vertices left.opposites (take k left.border)
    go (inl z) = ap (λ (i : ℕ). told n i L left.vertices left.opposites (take k left.border)) z
    go (inr z) =
        ap (λ (i : ℕ). told n i L left.vertices left.opposites (take k left.border)) z
        ∙ told_own n L left.vertices left.opposites (take k left.border)

-- where checks 1 and 2 pass, opposite of a fourth side in three columns is 12, whatever the tables hold
module _ (M : Mesh) (checks : (a : Answer) → asked M a ≡ a) where
  pub fourth_unread : (s : ℕ) (a : Answer) → Side M.list s → M.columns < s % 8 → a ≡ opposite_answer M s → a ≡ refused 12 0 0
  unfolding opposite_answer opposite found is_half_edge
  fourth_unread s a d h e =
      let there = (means_either (means_itself (is_side M.list s)) (means_itself (is_border_code M s))).shows (inl d) in
      e ∙ passed M checks (is_half_edge M s) _ there ∙ ap found (by_side_lem M.list s _ (read_border_side M s) d ∙ none_past M s h)
