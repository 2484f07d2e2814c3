-- What a list of calls is, each given the n, m and list that the one before left, and what it is to keep the number of a shape.
-- Assumes nothing.
use Rattle.std.specs.Prelude.{◌≡◌, List, [], ◌∷◌, ℕ, ℤ, Float}
use Rattle.rules.specs.Pairing.{Accepted}
use Rattle.rules.specs.Refusals.{Answer}
use Rattle.edit_rules.specs.Edits.{Lent, held}
use Rattle.edit_rules.specs.Shape.{shape}
use Rattle.runs.specs.Runs.{SwapRun, SplitRun, ContractRun}

-- n, m and the list: what one call hands on to the next
pub record Handed : Type 0 where
  pub n : ℕ
  pub m : ℕ
  pub list : List ℕ

abbrev pub handed : Lent → Handed
handed w = record { n = w.n; m = w.m; list = held w }

-- its elements are counted in the list
abbrev pub number : Handed → ℤ
number h = shape h.n h.list

-- one call, as it was made: with any code, any points and any buffers
pub data Call (w : Lent) (a : Answer) (w' : Lent) : Type 0 where
  swapping : (s : ℕ) → SwapRun w s a w' → Call w a w'
  splitting : (P P' : List Float) (s : ℕ) → SplitRun w P s a w' P' → Call w a w'
  contracting : (P P' : List Float) (s : ℕ) → ContractRun w P s a w' P' → Call w a w'

pub record Made : Type 0 where
  pub lent : Lent
  pub answer : Answer
  pub left : Lent
  pub call : Call lent answer left

-- "each given the n, m and list that the one before left", the first of them those of h
abbrev pub Follow : Handed → List Made → Type 0
Follow h [] = Unit {0}
Follow h (c ∷ cs) = (handed c.lent ≡ h) × Follow (handed c.left) cs

-- what the last of them left
abbrev pub after : Handed → List Made → Handed
after h [] = h
after h (c ∷ cs) = after (handed c.left) cs

-- what is left has the number of what was there, and is accepted where that was
pub record Keeps (h h' : Handed) : Type 0 where
  pub same : number h' ≡ number h
  pub accepted : Accepted h.n h.list → Accepted h'.n h'.list
