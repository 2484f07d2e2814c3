-- Document 02, points 6 and 8: a split, and then the contraction of the same code, on what the split left. The new vertex is merged into the origin
-- of the side, and all is as it was, on inner edges and on border edges.
-- Assumes nothing.
use Rattle.std.specs.Prelude.{◌≡◌, refl, List, ℕ, ◌+◌, ◌*◌, ◌-◌, ◌≤◌, T, Float, length, take}
use Rattle.std.proofs.Common.{ap, sym, subst, ◌∙◌, inl, inr, arith}
use Rattle.lists.specs.TestLaws.{zero_or}
use Rattle.rules.specs.Elements.{destination}
use Rattle.rules.specs.Pairing.{Accepted}
use Rattle.rules.specs.Tables.{partner, borders, edges}
use Rattle.rules.specs.Refusals.{Answer, gives}
use Rattle.rules.specs.Queries.{Mesh}
use Rattle.edit_rules.specs.Edits.{Edited, becomes, Lent, held}
use Rattle.edit_rules.specs.Split.{has_points, split_at}
use Rattle.edit_rules.specs.Contract.{contract}
use Rattle.theory.specs.Orders.{good}
use Rattle.theory.specs.Splitting.{split_refined}
use Rattle.theory.specs.RefinedSides.{cut_first}
use Rattle.theory.specs.SplitBack.{split_back}
use Rattle.runs.specs.Runs.{SplitRun, ContractRun, LeftBy}
use Rattle.runs.proofs.Edits as edits
use Rattle.runs.proofs.Edits.{mesh_in}
use Rattle.runs.proofs.Splits.{Answered, answered, accepted, list_left, one_more, inner_grows, border_grows, fit_still}
use Rattle.runs.proofs.ContractionPoints as points

module _ (w : Lent) (P : List Float) (s : ℕ) (a : Answer) (w' : Lent) (P' : List Float) (run : SplitRun w P s a w' P')
    {k e : ℕ} (gave : a ≡ gives k e) where
  abbrev n : ℕ
  n = w.n

  abbrev L : List ℕ
  L = held w

  -- all is as it was: n and m, the list, and the tables that build gives of it
  pub record Back (b : Answer) (w'' : Lent) : Type 0 where
    pub answer : b ≡ gives (borders L) (edges L)
    pub vertices : w''.n ≡ n
    pub elements : w''.m ≡ w.m
    pub list : held w'' ≡ L
    pub tables : LeftBy n L (mesh_in w'' (borders L))

  y : Answered w P s a w' P' run k e
  y = (answered w P s a w' P' run).0 gave

  left : held w' ≡ split_at L s (n + 1)
  left = list_left w P s a w' P' run gave

  more : w'.n ≡ n + 1
  more = one_more w P s a w' P' run gave

  -- the contraction of the same code, over any points that are enough
  module _ (Q : List Float) (enough : T (has_points w'.n Q)) (b : Answer) (w'' : Lent) (Q' : List Float) (again : ContractRun w' Q s b w'' Q') where
    abbrev x : Edited
    x = contract w'.n (held w') s

    made : x ≡ becomes n L
    made = (λ i. contract (more i) (left i) s) ∙ split_back n L y.old s y.splittable y.holds.vertices y.holds.size

    -- B2e had room for the split list, and the old one has no more border half-edges
    room : borders L ≤ length w.border
    room = elim (zero_or (partner L s)) [
      | inl z ↦ omega (arith, y.room, (border_grows w P s a w' P' run gave z).borders)
      | inr z ↦ omega (arith, y.room, (inner_grows w P s a w' P' run gave z).borders)
    ]

    answers : b ≡ gives (borders L) (edges L)
    answers =
        let (sizes, lengths, long) = fit_still w P s a w' P' run gave (has_points w'.n Q) enough in
        let old : Accepted w'.n (held w') =
        subst (Accepted w'.n) (sym left) (subst (λ (v : ℕ). Accepted v (split_at L s (n + 1))) (sym more) (accepted w P s a w' P' run gave)) in
        edits.answers x w' b w'' again.edit sizes lengths old made y.old (omega (arith, room, long))

    pub there_and_back : Back b w''
    there_and_back =
        record {
          answer = answers;
          vertices = edits.same_n x w' b w'' again.edit answers made y.old refl;
          elements = edits.same_m x w' b w'' again.edit answers made y.old refl ∙ (edits.held_rows w _ y.sizes y.lengths).1;
          list = ap (λ (M : Mesh). M.list) (edits.tables_left x w' b w'' again.edit answers made y.old refl);
          tables = edits.as_built x w' b w'' again.edit answers made y.old refl;
        }

    -- the new vertex, which is the last, is the one that goes
    goes : destination (held w') s ≡ n + 1
    goes =
        let r = split_refined n L (good n L y.old).fit s y.splittable y.holds.vertices y.holds.size in
        ap (λ (M : List ℕ). destination M s) left ∙ (r.halves s (cut_first r)).near.runs.to

    -- so the points of the others stay
    pub points_back : take (3 * n) Q' ≡ take (3 * n) Q
    points_back =
        let e : 3 * (destination (held w') s - 1) ≡ 3 * n = omega (arith, goes) in
        ap (λ (j : ℕ). take j Q') (sym e) ∙ points.points_before w' Q s b w'' Q' again answers ∙ ap (λ (j : ℕ). take j Q) e
