-- How a call goes on by what the checks before it found.
-- Assumes nothing.
use Rattle.std.specs.Prelude.{Bool, true, false, ◌≡◌, refl, ◌*◌, ◌≤◌, T, length, ℕ, Option, None, Result, Ok, Err}
use Rattle.std.specs.Option.{ok_or}
use Rattle.std.proofs.Common.{◌∙◌, arith}
use Rattle.answer.specs.Numbers.{placed}
use Rattle.answer.specs.declared.Reason.TheVariants.{Sizes, Lengths, Absent}
use Rattle.answer.specs.declared.Refusal.{Refusal}
use Rattle.lists.specs.TestLaws.{means_both, means_eq, means_le, means_within}
use Rattle.rules.specs.Elements.{elements, max_element}
use Rattle.rules.specs.Pairing.{sizes_fit}
use Rattle.rules.specs.Refusals.{Answer, length_checks}
use Rattle.rules.specs.Queries.{Mesh, query_lengths, asked, defined}
use Rattle.theory.specs.FitRows.{means_sizes}
use Rattle.reads.specs.Meshes.{Fit}
use Rattle.admission.specs.Admitting.{settle, Admits}

holds : {b : Bool} → b ≡ true → T b
holds e = rw e tt

module _ (M : Mesh) where
  pub few_elements : sizes_fit M.n M.list ≡ true → elements M.list ≤ max_element
  few_elements s = ((means_sizes M.n M.list).says (holds s)).1.0

  pub fit_of : sizes_fit M.n M.list ≡ true → query_lengths M ≡ true → Fit M
  unfolding query_lengths
  fit_of s l =
      let m = elements M.list in
      let (a, (b, d)) = (means_sizes M.n M.list).says (holds s) in
      let tables = means_both (means_eq (length M.opposites) (M.columns * m)) (means_le (length M.border) (4 * m)) in
      let (c, (f, (g, h))) = (means_both (means_within 3 4 M.columns) (means_both (means_eq (length M.vertices) M.n) tables)).says (holds l) in
      record { vertices = f; columns_from = c.0; columns_to = c.1; opposites = g; border = h; elements = b }

  -- checks 1 and 2
  pub sizes_found : sizes_fit M.n M.list ≡ false → Admits M true (Err (placed Sizes 0 0))
  unfolding asked length_checks
  sizes_found s = record { passed = tt; settled = λ a. rw s refl }

  pub lengths_found : sizes_fit M.n M.list ≡ true → query_lengths M ≡ false → Admits M true (Err (placed Lengths 0 0))
  unfolding asked length_checks
  lengths_found s l = record { passed = tt; settled = λ a. rw (s, l) refl }

  pub none_found : sizes_fit M.n M.list ≡ true → query_lengths M ≡ true → Admits M true (Ok M)
  unfolding asked length_checks defined
  none_found s l = record { passed = (refl, tt); settled = λ a. rw (s, l) refl }

-- check 11 after them
module _ {M : Mesh} (there : Bool) where
  pub earlier : {e : Refusal} → Admits M true (Err e) → Admits M there (Err e)
  unfolding defined
  earlier x = record { passed = tt; settled = λ a. x.settled (defined there a) }

  module _ {F : Mesh} (x : Admits M true (Ok F)) where
    pub missing : there ≡ false → Admits M there (Err (placed Absent 0 0))
    unfolding defined
    missing e = record { passed = tt; settled = λ a. x.settled (defined there a) ∙ rw e refl }

    pub present : there ≡ true → Admits M there (Ok F)
    unfolding defined
    present e = record { passed = (x.passed.0, holds e); settled = λ a. x.settled (defined there a) ∙ rw e refl }

-- what a caller then answers
pub settled : {M : Mesh} {there : Bool} {r : Result Mesh Refusal} (x : Admits M there r) (a : Answer) → asked M (defined there a) ≡ settle r a
settled x a = x.settled a

-- a broken entry is refused
pub same_error : {o : Option ℕ} {e r : Refusal} → ◌≡◌ {A = Result ℕ Refusal} (Err r) (ok_or o e) → o ≡ None → r ≡ e
same_error h q = grind arith
