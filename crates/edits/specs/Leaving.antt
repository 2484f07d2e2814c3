-- What any edit answers and leaves. x is what it makes of the list, from the trial of the old list to the whole call.
-- Assumes nothing.
use Rattle.std.specs.Prelude.{Result, Ok, Err, ◌≡◌, refl, Bool, true, false, List, [], ℕ, T, length}
use Rattle.std.proofs.Math.Path.{ap, sym}
use Rattle.std.proofs.Common.{◌∙◌}
use Rattle.lists.specs.Tests.{both}
use Rattle.rules.specs.Elements.{elements}
use Rattle.rules.specs.Pairing.{sizes_fit}
use Rattle.rules.specs.Refusals.{Answer, gives, refused, list_answer, room_check, after}
use Rattle.edit_rules.specs.Edits.{Edited, becomes, refuses, Lent, with_work, held, once_accepted, new_answer, has_room, edit_sizes, edit_lengths, edit_answer, written, edit_leaves}
use Rattle.theory.specs.FitRows.{Fit}
use Rattle.theory.specs.Answers.{fit_passed}
use Rattle.theory.specs.Calls as calls
use Rattle.answer.specs.Numbers.{numbers, placed}
use Rattle.answer.specs.declared.Reason.TheVariants.{Sizes, Lengths}
use Rattle.answer.specs.declared.Refusal.{Refusal}
use Rattle.edits.specs.Holding.{lent_edit, Looked, too_large, too_short, fits, passed}

-- buffers that are as long as what they hold, but for B2e; the work apart
abbrev pub tight : ℕ → List ℕ → List ℕ → List ℕ → List ℕ → Lent
tight n L V2e E2e B2e = lent_edit n (elements L) L V2e E2e B2e []

-- what is left, by the answer
module _ {A : Type 0} {a : Answer} (new old : A) where
  pub after_refusal : {r p q : ℕ} → a ≡ refused r p q → after a new old ≡ old
  unfolding after
  after_refusal e = ap (λ (y : Answer). after y new old) e

  pub after_answer : {k e : ℕ} → a ≡ gives k e → after a new old ≡ new
  unfolding after
  after_answer e = ap (λ (y : Answer). after y new old) e

-- the answer a by what was stated, and what it left of w
pub record Left (stated a : Answer) (w : Lent) (x : Edited) (w' : Lent) : Type 0 where
  pub answer : a ≡ stated
  pub leaves : w' ≡ after a (written w x) w

-- a refusal leaves all as it was
pub refused_left : {stated a : Answer} {r p q : ℕ} {w : Lent} {x : Edited} → a ≡ refused r p q → a ≡ stated → Left stated a w x w
refused_left {w = w} {x = x} e f = record { answer = f; leaves = sym (after_refusal (written w x) w e) }

-- an old list that was accepted has fit rows
pub accepted_fit : (n : ℕ) (L : List ℕ) {k e : ℕ} → T (sizes_fit n L) → list_answer n L ≡ gives k e → Fit n L
unfolding list_answer
accepted_fit n L sizes g = fit_passed n L _ sizes g

-- t was said of the old list
module _ (n : ℕ) (L : List ℕ) (x : Edited) (room : ℕ) {t : Answer} (said : t ≡ list_answer n L) where
  by_old : {a : Answer} → t ≡ a → once_accepted (list_answer n L) (new_answer room x) ≡ once_accepted a (new_answer room x)
  by_old e = ap (λ (a : Answer). once_accepted a (new_answer room x)) (sym said ∙ e)

  module _ {w : Lent} where
    -- it is refused
    pub old_refused : {r p q : ℕ} → t ≡ refused r p q → Left (once_accepted (list_answer n L) (new_answer room x)) t w x w
    unfolding once_accepted
    old_refused e = refused_left e (e ∙ sym (by_old e))

    -- it is accepted, and the edit refused
    pub new_refused : {k e r : ℕ} {a : Answer} → t ≡ gives k e → x ≡ refuses r → a ≡ refused r 0 0
        → Left (once_accepted (list_answer n L) (new_answer room x)) a w x w
    unfolding once_accepted new_answer
    new_refused g f d = refused_left d (d ∙ sym (by_old g ∙ ap (new_answer room) f))

    -- or the new list is tried
    pub new_tried : {k e n' : ℕ} {L' : List ℕ} {a : Answer} {w' : Lent} → t ≡ gives k e → x ≡ becomes n' L'
        → Left (room_check room (list_answer n' L')) a w (becomes n' L') w' → Left (once_accepted (list_answer n L) (new_answer room x)) a w x w'
    unfolding once_accepted new_answer
    new_tried {a = a} g f l =
        record {
          answer = l.answer ∙ sym (by_old g ∙ ap (new_answer room) f);
          leaves = l.leaves ∙ ap (λ (z : Edited). after a (written w z) w) (sym f);
        }

-- a work buffer that is left out on the way comes back in the end
pub work_apart : (w : Lent) (x : Edited) (a : Answer) (work : List ℕ)
    → with_work (after a (written (with_work w []) x) (with_work w [])) work ≡ with_work (after a (written w x) w) work
unfolding after written
work_apart w (becomes n L) (gives i j) work = refl
work_apart w (refuses r) (gives i j) work = refl
work_apart w x (refused r i j) work = refl

-- the whole call
module _ (w : Lent) (others : Bool) (x : Edited) where
  abbrev pub rest : Answer
  rest = once_accepted (list_answer w.n (held w)) (new_answer (length w.border) x)

  -- what is left, by the answer and by what the work holds
  abbrev pub leaves_by : Answer → List ℕ → Lent
  leaves_by a work = with_work (after a (written w x) w) work

  abbrev pub Whole : Answer → Lent → Type 0
  Whole a w' = (a ≡ edit_answer w others x) × (w' ≡ edit_leaves w others x)

  pub unsized : {a : Answer} → edit_sizes w ≡ false → a ≡ refused 1 0 0 → Whole a w
  unfolding after edit_answer edit_leaves
  unsized = calls.unsized leaves_by (edit_sizes w) (edit_lengths w others) rest w.work

  pub unlengthened : {a : Answer} → edit_sizes w ≡ true → edit_lengths w others ≡ false → a ≡ refused 2 0 0 → Whole a w
  unfolding after edit_answer edit_leaves
  unlengthened = calls.unlengthened leaves_by (edit_sizes w) (edit_lengths w others) rest w.work

  -- what checks 1 and 2 say
  abbrev pub Seen : Result ℕ Refusal → Type 0
  Seen = Looked w.n w.m others w.list (length w.vertices) (length w.opposites) (length w.work)

  pub denied : {d : Refusal} → Seen (Err d) → Whole (numbers (Err d)) w
  unfolding edit_sizes edit_lengths has_room
  denied {d = d} (too_large a q) =
      let e : d ≡ placed Sizes 0 0 = cc in unsized a (ap (λ (r : Refusal). numbers (Err r)) e)
  denied {d = d} (too_short a b q) =
      let e : d ≡ placed Lengths 0 0 = cc in unlengthened a b (ap (λ (r : Refusal). numbers (Err r)) e)
  denied (fits a b h q) = absurd (cc)

  pub admitted : {c : ℕ} → Seen (Ok c) → (edit_sizes w ≡ true) × (edit_lengths w others ≡ true)
  unfolding edit_sizes edit_lengths has_room
  admitted y = let x = passed y in (x.0, (λ i. both (x.1 i) (x.2.passed i)))
