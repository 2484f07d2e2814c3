-- What is said and left once all border half-edges are marked, or a loop was found that doesn't come back.
-- Assumes nothing.
use mathlib.Core.Path.{◌≡◌, ap, sym, ◌∙◌}
use mathlib.Core.Bool.{true, false}
use mathlib.Core.Option.{none}
use mathlib.Core.List.{List}
use Prim.Native.Nat.{ℕ, ◌+◌, ◌-◌, ◌<◌}
use native.Mathlib.Omega.{arith}
use lib.Dec.{eqb}
use lib.ListN.{length}
use Rattle.lists.specs.Search.{at, tab}
use Rattle.lists.specs.SearchLaws.{is_tab}
use Rattle.lists.specs.Parts.{part, at_part, length_part}
use Rattle.rules.specs.Elements.{count_numbers}
use Rattle.rules.specs.Refusals.{Answer, gives, refused, after, onto}
use Rattle.rules.specs.Queries.{Mesh, border_loop}
use Rattle.rules.specs.Holes.{hole_of, holes, hole_count, hole_lengths, holes_found}
use Rattle.theory.specs.Reaching.{In}
use Rattle.theory.specs.Holes.{AllBack, room, found_broken, found_back}
use Rattle.holes.specs.Marks.{Marked, Outcome}
use Rattle.holes.proofs.Marking.{mark_entry}
use Rattle.holes.proofs.Numbering.{holes_short}

module _ (M : Mesh) (hole lengths : List ℕ) where
  abbrev k : ℕ
  k = length M.border

  -- a refusal leaves both outputs
  refusing : {a : Answer} {r p q : ℕ} → a ≡ refused r p q → holes_found M hole lengths ≡ refused r p q → Outcome M a hole lengths hole lengths
  unfolding after
  refusing e f =
      record {
        answer = e ∙ sym f;
        holes_left = sym (ap (λ (x : Answer). after x (onto (holes M) hole) hole) e);
        lengths_left = sym (ap (λ (x : Answer). after x (onto (hole_lengths M) lengths) lengths) e);
      }

  pub refuses_12 : {a : Answer} (c : ℕ) → In M c → border_loop M c ≡ none → a ≡ refused 12 0 0 → Outcome M a hole lengths hole lengths
  refuses_12 c i e f = refusing f (found_broken M hole lengths c i e)

  module _ (h : ℕ) (W : List ℕ) (s : Marked M k h W) where
    all_back : AllBack M
    all_back b i = (s.known b i (s.all b i.0 i.1)).back

    pub refuses_13 : {a : Answer} → room M hole lengths ≡ false → a ≡ refused 13 k 0 → Outcome M a hole lengths hole lengths
    refuses_13 e f = refusing f (found_back M hole lengths all_back ∙ rw e)

    holes_are_lem : part 0 k W ≡ holes M
    unfolding holes
    holes_are_lem =
        is_tab k (λ i. hole_of M (i + 1)) (part 0 k W) (length_part 0 k W (omega (arith, s.room))) (λ i l. at_part 0 k W i l ∙ entry i l)
      where
        entry : (i : ℕ) → i < k → at W (0 + i) ≡ hole_of M (i + 1)
        entry i l =
            let place : 0 + i ≡ i + 1 - 1 = omega arith in
            let z : In M (i + 1) = (omega arith, omega arith) in
            let marked = s.all (i + 1) z.0 z.1 in
            ap (at W) place ∙ sym (mark_entry k (at W (i + 1 - 1)) marked).1 ∙ (s.known (i + 1) z marked).hole

    lengths_are : part k h W ≡ hole_lengths M
    unfolding hole_lengths hole_count
    lengths_are =
        is_tab h _ (part k h W) (length_part k h W (omega (arith, s.room, holes_short M k h W s)))
        (λ i l. at_part k h W i l ∙ s.measured i l)
        ∙ ap (λ (j : ℕ). tab j (λ i. count_numbers k (λ b. eqb (hole_of M b) (i + 1)))) s.many

    pub answers : {a : Answer} {hole' lengths' : List ℕ} → room M hole lengths ≡ true → a ≡ gives h 0
        → hole' ≡ onto (part 0 k W) hole → lengths' ≡ onto (part k h W) lengths → Outcome M a hole lengths hole' lengths'
    unfolding after hole_count
    answers e f p q =
        record {
          answer = f ∙ ap (λ (x : ℕ). gives x 0) s.many ∙ sym (found_back M hole lengths all_back ∙ rw e);
          holes_left = p ∙ ap (λ (x : List ℕ). onto x hole) holes_are_lem ∙ sym (ap (λ (x : Answer). after x (onto (holes M) hole) hole) f);
          lengths_left =
              q ∙ ap (λ (x : List ℕ). onto x lengths) lengths_are ∙ sym (ap (λ (x : Answer). after x (onto (hole_lengths M) lengths) lengths) f);
        }
