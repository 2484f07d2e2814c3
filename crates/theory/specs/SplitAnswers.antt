-- A list with a side split is accepted where the old one was, so build refuses it only by 9. What it counts is in `SplitCounts`.
-- Assumes nothing.
use Rattle.std.specs.Prelude.{◌≡◌, List, ℕ, ◌+◌, ◌≤◌}
use Rattle.rules.specs.Elements.{max_vertex, max_element, elements}
use Rattle.rules.specs.Pairing.{Accepted}
use Rattle.rules.specs.Tables.{borders, edges}
use Rattle.rules.specs.Refusals.{gives, list_answer}
use Rattle.edit_rules.specs.Split.{split_at}
use Rattle.theory.specs.Orders.{Good, good, accepted_of}
use Rattle.theory.specs.Answers.{accepted_answer}
use Rattle.theory.specs.Refining.{Refined}
use Rattle.theory.specs.RefinedTurns.{refined_good}
use Rattle.theory.specs.RefinedMeeting.{refined_meeting}
use Rattle.theory.specs.Splitting.{Splittable, split_refined}

module _ (n : ℕ) (L : List ℕ) (old : Accepted n L) (s : ℕ) (x : Splittable L s) where
  abbrev L' : List ℕ
  L' = split_at L s (n + 1)

  g : Good n L
  g = good n L old

  -- n and m keep within their maxima
  module _ (vertices : n + 1 ≤ max_vertex) (size : elements L' ≤ max_element) where
    refined : Refined n L L' s
    refined = split_refined n L g.fit s x vertices size

    g' : Good (n + 1) L'
    g' = refined_good g old.meeting refined

    pub split_accepted : Accepted (n + 1) L'
    split_accepted = accepted_of (n + 1) L' g' (refined_meeting g old.meeting refined g'.fit)

    pub split_answer_lem : list_answer (n + 1) L' ≡ gives (borders L') (edges L')
    split_answer_lem = accepted_answer (n + 1) L' split_accepted.rows split_accepted
