-- An edit of a mesh with points, which are under check 2 too: what it answers and leaves. x is what it makes of the list, and `new` of the points.
-- Assumes nothing.
use Rattle.std.specs.Prelude.{Err, ◌≡◌, Bool, true, false, List, [], ℕ, Float, length}
use Rattle.std.proofs.Math.Path.{refl, ap}
use Rattle.std.proofs.Common.{sym, ◌∙◌}
use Rattle.std.proofs.Math.ListN.{replicate}
use Rattle.lists.specs.Tests.{both}
use Rattle.rules.specs.Refusals.{Answer, gives, refused, list_answer, after}
use Rattle.edit_rules.specs.Edits.{Edited, Lent, with_work, held, has_room, once_accepted, new_answer, edit_sizes, edit_lengths, edit_answer, written, edit_leaves}
use Rattle.edit_rules.specs.Split.{has_points}
use Rattle.theory.specs.Calls as calls
use Rattle.answer.specs.Numbers.{numbers}
use Rattle.answer.specs.declared.Refusal.{Refusal}
use Rattle.edits.specs.Leaving as leaving
use Rattle.edits.specs.Leaving.{after_refusal, after_answer, Left, work_apart, rest, leaves_by, Seen}

module _ (w : Lent) (P : List Float) (x : Edited) (new : List Float) where
  abbrev others : Bool
  others = has_points w.n P

  abbrev w₀ : Lent
  w₀ = with_work w []

  -- what follows checks 1 and 2 leaves; the work apart
  pub record Outcome (a : Answer) (w' : Lent) (P' : List Float) : Type 0 where
    pub left : Left (rest w others x) a w₀ x w'
    pub points : P' ≡ after a new P

  -- t was said of the old list
  module _ {t : Answer} (said : t ≡ list_answer w.n (held w)) where
    -- it is refused
    pub old_refused : {r i j : ℕ} → t ≡ refused r i j → Outcome t w₀ P
    old_refused e =
        record {
          left = leaving.old_refused w.n (held w) x (length w.border) said e;
          points = sym (after_refusal new P e);
        }

    -- it is accepted, and a said of the edit
    module _ {k e : ℕ} (counts : t ≡ gives k e) {a : Answer} (of_edit : a ≡ new_answer (length w.border) x) where
      stated : a ≡ rest w others x
      unfolding once_accepted
      stated = of_edit ∙ ap (λ (y : Answer). once_accepted y (new_answer (length w.border) x)) (sym (sym said ∙ counts))

      pub edit_tried : {w' : Lent} {P' : List Float} → w' ≡ after a (written w₀ x) w₀ → P' ≡ after a new P → Outcome a w' P'
      edit_tried l p = record { left = record { answer = stated; leaves = l }; points = p }

      pub edit_refused : {r i j : ℕ} → a ≡ refused r i j → Outcome a w₀ P
      edit_refused e = edit_tried (sym (after_refusal (written w₀ x) w₀ e)) (sym (after_refusal new P e))

      pub edit_made : {i j : ℕ} {w' : Lent} {P' : List Float} → a ≡ gives i j → w' ≡ written w₀ x → P' ≡ new → Outcome a w' P'
      edit_made g l p = edit_tried (l ∙ sym (after_answer (written w₀ x) w₀ g)) (p ∙ sym (after_answer new P g))

  -- the whole call
  abbrev pub Whole : Answer → Lent → List Float → Type 0
  Whole a w' P' = (a ≡ edit_answer w others x) × ((w' ≡ edit_leaves w others x) × (P' ≡ after (edit_answer w others x) new P))

  -- by the answer
  points_by : {a : Answer} {P' : List Float} → a ≡ edit_answer w others x → P' ≡ after a new P → P' ≡ after (edit_answer w others x) new P
  points_by e h = h ∙ ap (λ (y : Answer). after y new P) e

  -- a refusal
  stays : {a : Answer} {r i j : ℕ} → a ≡ refused r i j → (a ≡ edit_answer w others x) × (w ≡ edit_leaves w others x) → Whole a w P
  stays f (e, l) = (e, (l, points_by e (sym (after_refusal new P f))))

  pub denied : {d : Refusal} → Seen w others x (Err d) → Whole (numbers (Err d)) w P
  denied y = stays refl (leaving.denied w others x y)

  -- it was cleared
  pub finished : {a : Answer} {w' : Lent} {P' : List Float} {work : List ℕ} {l : ℕ} → (edit_sizes w ≡ true) × (edit_lengths w others ≡ true)
      → Outcome a w' P' × (l ≡ length w.work) → work ≡ replicate l 0 → Whole a (with_work w' work) P'
  unfolding edit_answer edit_leaves
  finished {a} {w'} {P'} {work} {l} fit (y, same) z =
      let (e, f) =
      calls.cleared (leaves_by w others x) (edit_sizes w) (edit_lengths w others) (rest w others x) w.work fit y.left.answer
      (z ∙ ap (λ (k : ℕ). replicate k 0) same) in
      (e, (ap (λ (u : Lent). with_work u work) y.left.leaves ∙ work_apart w x a work ∙ f, points_by e y.points))
