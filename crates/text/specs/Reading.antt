-- What `parse` answers, and what it leaves in the list.
-- Assumes nothing.
use Rattle.std.specs.Prelude.{true, false, Result, Ok, Err, List, ◌++◌, ◌≡◌, ℕ, ◌*◌, ◌≤◌, ◌<◌, leb, eqb, drop}
use Rattle.std.proofs.Common.{refl, sym, ◌∙◌, arith}
use borrow.Author.Tests.{eq-eqb, ne_eqb, le-leb, lt-leb}
use Rattle.text.specs.Form.{first_bad, the_n, the_m, the_list}
use Rattle.text.specs.FormLaws.{head_bounds, form_head}
use Rattle.text.specs.declared.Size.{Size}
use Rattle.text.specs.declared.ParseError.{ParseError}
use Rattle.text.specs.declared.ParseError.TheVariants.{Bad, Short}

abbrev pub size_in : List ℕ → Size
size_in t = record { n = the_n t; m = the_m t }

-- the first bad line; else the two numbers of line 1
unfoldable pub formed : List ℕ → Result Size ParseError
formed t = elim (eqb (first_bad t) 0) [ false ↦ Err (Bad (first_bad t)) | true ↦ Ok (size_in t) ]

-- and where a list of `room` entries holds the rows
unfoldable pub parsed : List ℕ → ℕ → Result Size ParseError
parsed t room =
    elim (eqb (first_bad t) 0) [
      | false ↦ Err (Bad (first_bad t))
      | true ↦ elim (leb (4 * the_m t) room) [ true ↦ Ok (size_in t) | false ↦ Err Short ]
    ]

-- the rows come first in the list, and the rest stays; without a mesh all stays
unfoldable pub list_after : Result Size ParseError → List ℕ → List ℕ → List ℕ
list_after (Ok size) t list = the_list t ++ drop (4 * size.m) list
list_after (Err e) t list = list

-- the answer by cases
module _ (t : List ℕ) where
  pub formed_bad : {line : ℕ} → line ≡ first_bad t → (line ≡ 0 → ⊥) → Err (Bad line) ≡ formed t
  unfolding formed
  formed_bad e d = rw e (let f : first_bad t ≡ 0 → ⊥ = λ z. d (e ∙ z) in rw (ne_eqb (first_bad t) 0 f, formed) refl)

  pub formed_good : {n m : ℕ} → 0 ≡ first_bad t → n ≡ the_n t → m ≡ the_m t → Ok (record { n = n; m = m }) ≡ formed t
  unfolding formed
  formed_good e f g = rw (f, g, eq-eqb (first_bad t) 0 (sym e), formed) refl

module _ (t : List ℕ) (room : ℕ) where
  pub parsed_bad : (first_bad t ≡ 0 → ⊥) → parsed t room ≡ Err (Bad (first_bad t))
  unfolding parsed
  parsed_bad d = rw (ne_eqb (first_bad t) 0 d, parsed)

  pub parsed_short : first_bad t ≡ 0 → room < 4 * the_m t → parsed t room ≡ Err Short
  unfolding parsed
  parsed_short e h = rw (eq-eqb (first_bad t) 0 e, lt-leb (4 * the_m t) room h, parsed)

  pub parsed_mesh : first_bad t ≡ 0 → 4 * the_m t ≤ room → parsed t room ≡ Ok (size_in t)
  unfolding parsed
  parsed_mesh e h = rw (eq-eqb (first_bad t) 0 e, le-leb (4 * the_m t) room h, parsed)

-- a list of 800 entries holds the rows of every text in form
pub parsed_form : (t : List ℕ) (room : ℕ) → 800 ≤ room → first_bad t ≡ 0 → parsed t room ≡ Ok (size_in t)
parsed_form t room h e = parsed_mesh t room e (omega (arith, head_bounds t (form_head t e)))
