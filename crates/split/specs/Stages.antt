-- A split on its way: what is known before 11, 15, 19 and 9 are tried, after them, and in the end.
-- Assumes nothing.
use Rattle.std.specs.Prelude.{◌≡◌, List, ℕ, ◌*◌, ◌≤◌, Float, Result, length, take}
use Rattle.rules.specs.Elements.{elements}
use Rattle.rules.specs.Pairing.{Accepted}
use Rattle.rules.specs.Tables.{borders, edges, columns}
use Rattle.rules.specs.Refusals.{Answer, gives, refused, list_answer, room_check}
use Rattle.edit_rules.specs.Edits.{becomes, Lent, held, new_answer, written}
use Rattle.edit_rules.specs.Split.{split, placed}
use Rattle.theory.specs.SplitTests.{Holds, vertex, new}
use Rattle.answer.specs.declared.Refusal.{Refusal}
use Rattle.answer.specs.Numbers.{told}
use Rattle.edits.specs.Pointed as pointed
use Rattle.edits.specs.Trying.{Tabled}
use Rattle.split.specs.NewRows.{Cuttable}
use Rattle.split.specs.declared.Allowed.{Allowed}

-- the old list was accepted, with k border half-edges and in c columns, and its tables stand in the work buffer
pub record Admissible (n m c k : ℕ) (list work : List ℕ) : Type 0 where
  pub accepted : Accepted n (take (4 * m) list)
  pub inside : 4 * m ≤ length list
  pub number : k ≡ borders (take (4 * m) list)
  pub tabled : Tabled n (take (4 * m) list) work
  pub columned : c ≡ columns (take (4 * m) list)

-- nothing refuses: t is the entry of s in E2e, and m' the new m
pub record ToWrite (w : Lent) (P : List Float) (s t m' : ℕ) : Type 0 where
  pub accepted : Accepted w.n (held w)
  pub inside : 4 * w.m ≤ length w.list
  pub cuttable : Cuttable (held w) s t
  pub counted : m' ≡ elements (new w s)
  pub holds : Holds w P (vertex w) (elements (new w s))
  pub room : borders (new w s) ≤ length w.border
  pub edit : split w P s ≡ becomes (vertex w) (new w s)

-- t and m' where they are given
abbrev pub allowed_numbers : Result Allowed Refusal → Answer
allowed_numbers = told (λ x. gives x.opposed x.elements)

-- what 11, 15, 19 and 9 say
pub data Admitted (w : Lent) (P : List Float) (s : ℕ) (a : Answer) : Type 0 where
  denied : {r p q : ℕ} → a ≡ refused r p q → a ≡ new_answer (length w.border) (split w P s) → Admitted w P s a
  allowed : {t m' : ℕ} → a ≡ gives t m' → ToWrite w P s t m' → Admitted w P s a

-- what is left where nothing refuses; the work apart
pub record Written (w : Lent) (P : List Float) (s : ℕ) (a : Answer) (w' : Lent) (P' : List Float) : Type 0 where
  pub stated : a ≡ room_check (length w.border) (list_answer (vertex w) (new w s))
  pub answer : a ≡ gives (borders (new w s)) (edges (new w s))
  pub leaves : w' ≡ written w (becomes (vertex w) (new w s))
  pub points : P' ≡ placed w P s

-- what follows checks 1 and 2 leaves; the work apart
abbrev pub Outcome : Lent → List Float → ℕ → Answer → Lent → List Float → Type 0
Outcome w P s = pointed.Outcome w P (split w P s) (placed w P s)
