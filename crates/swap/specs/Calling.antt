-- The whole call, in buffers that may be longer than what they hold.
-- Assumes nothing.
use Rattle.std.specs.Prelude.{◌≡◌, ℕ, ◌*◌, ◌≤◌, length}
use Rattle.std.proofs.Math.Path.{refl, ap, sym}
use Rattle.std.proofs.Common.{◌∙◌, arith, take-append-drop, length-take-le}
use Rattle.std.proofs.Math.Bool.{true}
use mathlib.Core.List.{List, ◌++◌}
use Rattle.std.proofs.Math.ListN.{take, drop, replicate}
use Rattle.std.proofs.Math.Seq.{take_all}
use Rattle.rules.specs.Elements.{max_vertex, max_element, elements}
use Rattle.rules.specs.Tables.{columns, v2e, e2e, b2e}
use Rattle.rules.specs.Refusals.{Answer, gives, refused, list_answer, after, onto}
use Rattle.edit_rules.specs.Edits.{Edited, becomes, refuses, Lent, over_old, once_accepted, new_answer, edit_sizes, edit_lengths, edit_answer, written, edit_leaves}
use Rattle.edit_rules.specs.Swap.{swap}
use Rattle.theory.specs.FitRows.{Fit}
use Rattle.theory.specs.Entries.{length_v2e}
use Rattle.theory.specs.Columns.{length_e2e}
use Rattle.theory.specs.Calls as calls
use Rattle.theory.specs.Edits.{past_old, over_longer}
use Rattle.theory.specs.Replacing.{same_columns}
use Rattle.theory.specs.Swapping.{swapped_replaced}
use Rattle.build.specs.Building.{Checked}
use Rattle.edits.specs.Holding.{lent_edit, Held}
use Rattle.edits.specs.HeldRows.{held_length, held_elements}
use Rattle.edits.specs.Fronts.{Ready, fitting, checked_front}
use Rattle.edits.specs.Fronts as fronts
use Rattle.edits.specs.Leaving.{tight, Left, rest, leaves_by, Whole, accepted_fit}
use Rattle.swap.specs.Swaps.{over_full, becomes_swapped}

-- what is written to the front of a buffer is written to the buffer
front_over : (k k' : ℕ) (X buffer : List ℕ) → length X ≡ k → k' ≡ k → k ≤ length buffer → over_old k' X (take k buffer) ++ drop k buffer ≡ over_old k X buffer
unfolding onto
front_over k k' X buffer e f h =
    ap (λ (Y : List ℕ). Y ++ drop k buffer) (over_full k' X (take k buffer) (e ∙ sym f) (e ∙ sym (length-take-le k buffer h)))
    ∙ ap (λ (i : ℕ). X ++ drop i buffer) (sym e)
    ∙ sym (over_longer k X buffer (omega arith))

-- where the edit gives a list, n stays, and so do the lengths
pub record Stays (n : ℕ) (L : List ℕ) (n' : ℕ) (L' : List ℕ) : Type 0 where
  pub vertices : n' ≡ n
  pub long : length L' ≡ length L
  pub columned : columns L' ≡ columns L

stays : (n : ℕ) (L : List ℕ) (s : ℕ) → Fit n L → {n' : ℕ} {L' : List ℕ} → swap n L s ≡ becomes n' L' → Stays n L n' L'
stays n L s fit e =
    let (x, same_n, same) = becomes_swapped n L s e in
    let r = swapped_replaced n L fit s x in
    record { vertices = sym same_n; long = sym (ap length same) ∙ r.long; columned = sym (ap columns same) ∙ same_columns r }

module _ (n m : ℕ) (list V2e E2e B2e work : List ℕ) (s : ℕ) where
  abbrev w : Lent
  w = lent_edit n m list V2e E2e B2e work

  abbrev L : List ℕ
  L = take (4 * m) list

  -- checks 1 and 2 found nothing; the list has c columns
  module _ (sizes : (n ≤ max_vertex) × (m ≤ max_element)) {c : ℕ} (held : Held n m list (length V2e) (length E2e) (length work) c) where
    abbrev vs : List ℕ
    vs = take n V2e

    abbrev es : List ℕ
    es = take (c * m) E2e

    long : length L ≡ 4 * m
    long = held_length m list held.list

    size : elements L ≡ m
    size = held_elements m list held.list

    ready : Ready w c
    ready = record { sizes = sizes; long = held }

    -- what the fronts of the buffers become is what the buffers become
    abbrev front : Lent
    front = tight n L vs es B2e

    module _ (work' : List ℕ) where
      loose : Lent → Lent
      loose u = lent_edit u.n u.m (u.list ++ drop (4 * m) list) (u.vertices ++ drop n V2e) (u.opposites ++ drop (c * m) E2e) u.border work'

      rejoined : loose front ≡ lent_edit n m list V2e E2e B2e work'
      unfolding loose
      rejoined = λ k. lent_edit n (size k) (take-append-drop (4 * m) list k) (take-append-drop n V2e k) (take-append-drop (c * m) E2e k) B2e work'

      loosened : (z : Edited) (a : Answer) → ((i j n' : ℕ) (L' : List ℕ) → a ≡ gives i j → z ≡ becomes n' L' → Stays n L n' L')
          → loose (after a (written front z) front) ≡ leaves_by w true z a work'
      unfolding after written loose
      loosened z (refused r p q) f = rejoined
      loosened (refuses r) (gives i j) f = rejoined
      loosened (becomes n' L') (gives i j) f =
          let x = f i j n' L' refl refl in
          let l = front_over (4 * m) (4 * elements L) L' list (x.long ∙ long) (omega (arith, size)) held.list in
          let v = front_over n n (v2e n' L') V2e (length_v2e L' n' ∙ x.vertices) refl held.vertices in
          let same : elements L' ≡ m = omega (arith, x.long, long) in
          let wide = length_e2e L' ∙ (λ k. (x.columned ∙ sym held.columned) k * same k) in
          let all : take (4 * elements L) L ≡ L = take_all (4 * elements L) L (omega (arith, long, size)) in
          let old : columns (take (4 * elements L) L) * elements L ≡ c * m = λ k. (ap columns all ∙ sym held.columned) k * size k in
          let o = front_over (c * m) (columns (take (4 * elements L) L) * elements L) (e2e L') E2e wide old held.opposites in
          let o' = ap (λ (i : ℕ). over_old (i * m) (e2e L') E2e) held.columned in
          λ k. lent_edit n' (elements L') (l k) (v k) ((o ∙ o') k) (onto (b2e L') B2e) work'

    -- m is the same in all cases
    same_m : (z : Edited) (a : Answer) → ((i j n' : ℕ) (L' : List ℕ) → a ≡ gives i j → z ≡ becomes n' L' → Stays n L n' L') → (after a (written front z) front).m ≡ m
    unfolding after written
    same_m z (refused r p q) f = size
    same_m (refuses r) (gives i j) f = size
    same_m (becomes n' L') (gives i j) f = omega (arith, (f i j n' L' refl refl).long, long)

    -- the swap was made in the fronts, which end at p, q and r, and the work cleared
    module _ {p q r : ℕ} (rows : p ≡ 4 * m) (vertices : q ≡ n) (opposites : r ≡ c * m) where
      pub checked_at : Checked n (take p list) (take q V2e) (take r E2e) work × (c ≡ columns (take p list))
      checked_at = fronts.checked_at w (fitting w ready) rows vertices opposites

      pub whole : {a : Answer} {L₁ V₁ E₁ B₁ work' : List ℕ} {l : ℕ} → (edit_sizes w ≡ true) × (edit_lengths w true ≡ true)
          → Left (once_accepted (list_answer n (take p list)) (new_answer (length B2e) (swap n (take p list) s))) a (tight n (take p list) (take q V2e) (take r E2e) B2e)
          (swap n (take p list) s) (tight n L₁ V₁ E₁ B₁)
          → l ≡ length work → work' ≡ replicate l 0 → Whole w true (swap n L s) a (lent_edit n m (L₁ ++ drop p list) (V₁ ++ drop q V2e) (E₁ ++ drop r E2e) B₁ work')
      unfolding loose edit_answer edit_leaves
      whole {a} {L₁} {V₁} {E₁} {B₁} {work'} fit left same z =
          let x : Left (rest w true (swap n L s)) a front (swap n L s) (tight n L₁ V₁ E₁ B₁) = rw (rows, vertices, opposites) at left in
          let (e, f) = calls.cleared (leaves_by w true (swap n L s)) (edit_sizes w) (edit_lengths w true) (rest w true (swap n L s)) work fit x.answer (z ∙ ap (λ (k : ℕ). replicate k 0) same) in
          let accepted : (i j n' : ℕ) (L' : List ℕ) → a ≡ gives i j → swap n L s ≡ becomes n' L' → Stays n L n' L' =
          λ i j n' L' g d.
          (let (k, o, h, new) = past_old (list_answer n L) _ (sym x.answer ∙ g) in stays n L s (accepted_fit n L (checked_front w (fitting w ready)).sizes h) d) in
          let m_is = sym (ap (λ (u : Lent). u.m) x.leaves ∙ same_m (swap n L s) a accepted) in (
            e,
            (λ k. lent_edit n (m_is k) (L₁ ++ drop (rows k) list) (V₁ ++ drop (vertices k) V2e) (E₁ ++ drop (opposites k) E2e) B₁ work')
                ∙ ap (loose work') x.leaves
                ∙ loosened work' (swap n L s) a accepted
                ∙ f,
          )
