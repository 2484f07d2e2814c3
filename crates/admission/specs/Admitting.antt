-- What the checks before a query's answer find.
-- Assumes nothing.
use Rattle.std.specs.Prelude.{Bool, ◌≡◌, T, Result, Ok, Err, IfOk}
use Rattle.answer.specs.Numbers.{number_in}
use Rattle.answer.specs.declared.Refusal.{Refusal}
use Rattle.rules.specs.Refusals.{Answer, refused}
use Rattle.rules.specs.Queries.{Mesh, asked, defined}

-- what is answered after checks that let a mesh pass, or refused
abbrev pub settle : Result Mesh Refusal → Answer → Answer
settle (Ok F) a = a
settle (Err e) a = refused (number_in e.reason) e.first e.second

-- r is what checks 1, 2 and 11 find of M, with the test `there` for 11
pub record Admits (M : Mesh) (there : Bool) (r : Result Mesh Refusal) : Type 0 where
  pub passed : IfOk r (λ F. (F ≡ M) × T there)
  pub settled : (a : Answer) → asked M (defined there a) ≡ settle r a
