-- `digits::number_at` meets its contract: all places passed so far have digits, and the number is the one that they write.
-- Assumes nothing.
use Rattle.std.specs.Prelude.{not, ◌≡◌, ◌+◌}
use Rattle.lists.specs.Search.{at}
use Rattle.lists.specs.Steps.{None}
use Rattle.digits.specs.Digits.{digit, value}
use Rattle.digits.proofs.number_at.Given as goal

abbrev pub invariant-loop-i : goal.invariant-loop-i
invariant-loop-i l = (l.value ≡ value l.text l.p l.i) × None (λ j. not (digit (at l.text (l.p + j)))) l.i
