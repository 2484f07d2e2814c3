-- Document 02, point 1: swapping the new diagonal as well gives the old two triangles back, in each other's rows and turned.
-- Assumes nothing.
use Rattle.std.specs.Prelude.{◌≡◌, ◌⊎◌, List, ℕ, ◌+◌, ◌*◌, ◌/◌}
use Rattle.std.proofs.Common.{ap, sym, subst, ◌∙◌, inl, inr, arith}
use Rattle.rules.specs.Pairing.{Accepted}
use Rattle.rules.specs.Tables.{partner, borders, edges}
use Rattle.rules.specs.Refusals.{Answer, gives}
use Rattle.edit_rules.specs.Edits.{Lent, held}
use Rattle.edit_rules.specs.Swap.{swapped}
use Rattle.theory.specs.FitRows.{Fit}
use Rattle.theory.specs.Orders.{Good, good}
use Rattle.theory.specs.Swapping.{Diagonal}
use Rattle.theory.specs.SwapBack.{other_diagonal, swapped_alike, turned_back, new_partner, new_diagonal, swapped_again, back_accepted}
use Rattle.runs.specs.Runs.{SwapRun}
use Rattle.runs.proofs.Swaps.{Swaps, answered, list_left, sizes_stay, fit_still, borders_stay, edges_stay}

-- a swap that answered, and then another on what it left
module _ (w : Lent) (s : ℕ) (a : Answer) (w' : Lent) (run : SwapRun w s a w') {k e : ℕ} (gave : a ≡ gives k e) where
  abbrev n : ℕ
  n = w.n

  abbrev L : List ℕ
  L = held w

  abbrev L' : List ℕ
  L' = swapped L s

  y : Swaps w s a w' run k e
  y = (answered w s a w' run).0 gave

  -- of a diagonal r of the new list
  module _ (r : ℕ) (b : Answer) (w'' : Lent) (again : SwapRun w' r b w'') (d : Diagonal L' r) (accepted : Accepted n (swapped L' r)) where
    left : held w' ≡ L'
    left = list_left w s a w' run gave

    in_left : (P : ℕ → List ℕ → Type 0) → P n L' → P w'.n (held w')
    in_left P z = subst (P w'.n) (sym left) (subst (λ (v : ℕ). P v L') (sym (sizes_stay w s a w' run gave).0) z)

    swaps_too : Swaps w' r b w'' again k e
    swaps_too =
        let (sizes, lengths, room) = fit_still w s a w' run gave in
        record {
          sizes = sizes;
          lengths = lengths;
          old = in_left Accepted y.new;
          diagonal = in_left (λ v X. Diagonal X r) d;
          new = in_left (λ v X. Accepted v (swapped X r)) accepted;
          borders_are = in_left (λ v X. k ≡ borders (swapped X r)) (y.borders_are ∙ sym (borders_stay n L' r y.new d accepted));
          edges_are = in_left (λ v X. e ≡ edges (swapped X r)) (y.edges_are ∙ sym (edges_stay n L' r y.new d accepted));
          room = omega (arith, y.room, room);
        }

    swapped_too : (b ≡ gives k e) × (held w'' ≡ swapped L' r)
    swapped_too =
        let gave_too = (answered w' r b w'' again).1 swaps_too in
        (gave_too, list_left w' r b w'' again gave_too ∙ ap (λ (X : List ℕ). swapped X r) left)

  -- of the new diagonal, side 3 of either row: the old two triangles come back, in each other's rows and turned. With c before the side from a to
  -- b, and d before its partner, the side's row becomes (a,d,b), for (b,a,d), and the partner's (b,c,a), for (a,b,c)
  pub swapped_back : (r : ℕ) → (r ≡ 8 * (s / 8) + 3) ⊎ (r ≡ 8 * (partner L s / 8) + 3) → (b : Answer) (w'' : Lent) → SwapRun w' r b w''
      → (b ≡ gives k e) × (held w'' ≡ turned_back L s)
  swapped_back r side b w'' again =
      let (d, e) = diagonal_back r side in
      let (f, h) = swapped_too r b w'' again d (subst (Accepted n) (sym e) (back_accepted n L fit s y.diagonal y.old)) in
      (f, h ∙ e)
    where
      fit : Fit n L
      fit = (good n L y.old).fit

      new : Good n L'
      new = good n L' y.new

      s' : ℕ
      s' = 8 * (s / 8) + 3

      mine : Diagonal L' s' × (swapped L' s' ≡ turned_back L s)
      mine = (new_diagonal n L fit s y.diagonal new, swapped_again n L fit s y.diagonal new)

      diagonal_back : (r : ℕ) → (r ≡ s') ⊎ (r ≡ 8 * (partner L s / 8) + 3) → Diagonal L' r × (swapped L' r ≡ turned_back L s)
      diagonal_back r (inl e) = rw e mine
      diagonal_back r (inr e) =
          let p : partner L' s' ≡ r = new_partner n L fit s y.diagonal new ∙ sym e in
          rw (← p) (other_diagonal n L' new s' mine.0, swapped_alike n L' new s' mine.0 ∙ mine.1)
