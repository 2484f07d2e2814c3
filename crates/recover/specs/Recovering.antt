-- What recovery leaves on its way.
-- Assumes nothing.
use Rattle.std.specs.Prelude.{◌≡◌, Bool, true, false, ◌⊎◌, T, drop, replicate}
use Rattle.std.proofs.Math.Path.{ap, sym, subst}
use Rattle.std.proofs.Common.{◌∙◌, drop_at}
use mathlib.Core.List.{List, ◌++◌}
use Prim.Native.Nat.{ℕ, ◌+◌, ◌*◌, ◌-◌, ◌≤◌}
use native.Mathlib.Omega.{arith}
use Rattle.std.proofs.Math.ListN.{length, take, length-take, length-drop, length-append}
use Rattle.lists.specs.TestLaws.{means_both, means_either, means_eq}
use Rattle.std.proofs.Math.Seq.{take_at, take_all}
use Rattle.lists.specs.Parts.{part, part_take, put_take, put_drop, put_length}
use Rattle.rules.specs.Elements.{elements}
use Rattle.rules.specs.Pairing.{call_sizes}
use Rattle.rules.specs.Tables.{columns, v2e}
use Rattle.rules.specs.Recovery.{widened, walk_to, walk}
use Rattle.rules.specs.Refusals.{Answer, gives, refused}
use Rattle.rules.specs.Refusals.{recovers, recover_lengths, after, onto, recover_answer, recover_list, recover_work}
use Rattle.theory.specs.Calls.{lengths_known}
use Rattle.theory.specs.Calls as calls
use Rattle.theory.specs.FitRows.{means_call_sizes, means_sizes}
use Rattle.theory.specs.Columns.{three_or_four, length_widened, narrowed, narrow_wide}
use Rattle.theory.specs.Built.{borders_bound}
use Rattle.walk.specs.Layout.{Sizes, Walking}
use Rattle.links.specs.Links.{LinkedBy}
use Rattle.tabulate.specs.Results.{Sized, holds_front}
use Rattle.buffers.specs.Whole.{onto_full}
use Rattle.recover.specs.Faults.{agree, OwnTables, faulted, agreement}

-- E2e has three columns or four
abbrev pub EitherLong : ℕ → List ℕ → Type 0
EitherLong m E2e = (length E2e ≡ 3 * m) ⊎ (length E2e ≡ 4 * m)

-- the tables stand at the front, E2e in four columns
pub record Filled (n m : ℕ) (V2e E2e w w' : List ℕ) : Type 0 where
  pub vertices : take n w' ≡ V2e
  pub opposites : part n (4 * m) w' ≡ widened m E2e
  pub long : length w' ≡ length w

-- the two tables put in, one after the other
module _ (n m : ℕ) (V2e E2e w w₁ : List ℕ) (l : length V2e ≡ n) (h : n + 4 * m ≤ length w) (e : w₁ ≡ onto V2e w) where
  long_first : length w₁ ≡ length w
  unfolding onto
  long_first = ap length e ∙ simp (length-append, length-drop) (omega arith)

  pub to_spread : length (take (n + 4 * m - n) (drop n w₁)) ≡ 4 * m
  to_spread = simp (length-take, length-drop) (omega (arith, long_first))

  pub filled : {ys : List ℕ} → ys ≡ widened m E2e → Filled n m V2e E2e w (take n w₁ ++ (ys ++ drop (n + 4 * m - n) (drop n w₁)))
  unfolding onto
  filled {ys} f =
      let many : length ys ≡ 4 * m = ap length f ∙ length_widened m E2e in
      let room : n ≤ length w₁ = omega (arith, long_first) in
      let front : length (take n w₁) ≡ n = simp length-take (omega arith) in
      record {
        vertices = put_take n w₁ ys room (n + 4 * m - n) ∙ ap (take n) e ∙ take_at V2e (drop (length V2e) w) n l;
        opposites = ap (take (4 * m)) (drop_at (take n w₁) _ n front) ∙ take_at ys _ (4 * m) many ∙ f;
        long = simp (length-append, length-take, length-append, length-drop, length-drop) (omega (arith, long_first));
      }

-- the list that was proposed was tried; what is kept behind the scratch buffer is still there
pub record Tried (n m : ℕ) (V2e E2e : List ℕ) (r : Bool) (w w' : List ℕ) : Type 0 where
  pub answer : r ≡ recovers n m V2e E2e
  pub rest : drop (n + 12 * m) w' ≡ drop (n + 12 * m) w
  pub long : length w' ≡ length w

pub record ToTry (n : ℕ) (V2e E2e L w : List ℕ) : Type 0 where
  pub sized : Sized n L (take (n + 12 * elements L) w)
  pub inside : n + 12 * elements L ≤ length w
  pub given : walk V2e (widened (elements L) E2e) ≡ L

-- the scratch buffer s that the list's tables are tried in, and what is kept behind it; k is n as an index
module _ {n k : ℕ} {V2e E2e L w : List ℕ} (p : ToTry n V2e E2e L w) (index : k ≡ n) {b : Bool} {s : List ℕ}
    (x : OwnTables n L b (take (k + 12 * elements L - 0) w) s) where
  abbrev kept : List ℕ
  kept = drop (k + 12 * elements L - 0) w

  abbrev w' : List ℕ
  w' = s ++ kept

  scratch_long : length s ≡ n + 12 * elements L
  scratch_long = x.long ∙ simp length-take (omega (arith, p.inside))

  tried_long : length w' ≡ length w
  tried_long = simp (length-append, length-drop) (omega (arith, scratch_long, p.inside))

  by : {r : Bool} → r ≡ recovers n (elements L) V2e E2e → Tried n (elements L) V2e E2e r w w'
  by e =
      let z : k + 12 * elements L - 0 ≡ n + 12 * elements L = omega arith in
      record { answer = e; rest = drop_at s kept (n + 12 * elements L) scratch_long ∙ ap (λ (i : ℕ). drop i w) z; long = tried_long }

  pub not_tabled : b ≡ false → Tried n (elements L) V2e E2e false w w'
  not_tabled f = by (faulted n L V2e E2e p.given (λ s. subst T f (x.says.shows s)))

  -- c is the number of the list's columns
  module _ {j c : ℕ} (again : j ≡ n) (columned : c ≡ columns L) where
    pub to_compare : (j + 4 * elements L ≤ length w') × ((c ≡ 3) ⊎ (c ≡ 4))
    to_compare = (omega (arith, tried_long, p.inside), subst (λ (i : ℕ). (i ≡ 3) ⊎ (i ≡ 4)) (sym columned) (three_or_four L))

    pub tried : b ≡ true → {r : Bool} → r ≡ agree (take j w') (narrowed c (part j (4 * elements L) w')) V2e E2e → Tried n (elements L) V2e E2e r w w'
    tried t e =
        let (most, (few, fours)) = (means_sizes n L).says p.sized.sizes in
        let h = holds_front n L s kept scratch_long (omega (arith, borders_bound L)) (x.holds t) in
        by
        (rw (again, columned) at e
        ∙ ap (λ (X : List ℕ). agree X (narrowed (columns L) (part n (4 * elements L) w')) V2e E2e) h.vertices
        ∙ ap (λ (X : List ℕ). agree (v2e n L) X V2e E2e) (ap (narrowed (columns L)) h.opposites ∙ narrow_wide L)
        ∙ agreement n L V2e E2e p.given p.sized.sizes (x.says.says (rw t tt)))

-- the list that the walk over the tables gives stands at the end
pub record Walked (n m : ℕ) (V2e E2e w w' : List ℕ) : Type 0 where
  pub given : drop (n + 8 * m) w' ≡ walk V2e (widened m E2e)
  pub long : length w' ≡ length w

pub walk_filled : {n m : ℕ} {V2e E2e w w₁ w₂ w₃ : List ℕ} → Sizes n m w → length V2e ≡ n
    → Filled n m V2e E2e w w₁ → LinkedBy n m w₁ w₂ → Walking n m n w₂ w₃ → Walked n m V2e E2e w w₃
unfolding walk
walk_filled {n} {m} {V2e} {E2e} {w} {w₁} {w₂} {w₃} z l x y q =
    let o = n + 4 * m in
    let a : o ≤ length w₁ = omega (arith, x.long, z.long) in
    let b : o ≤ length w₂ = omega (arith, y.long, x.long, z.long) in
    let kept : (i j : ℕ) → i + j ≤ o → part i j w₂ ≡ part i j w₁ =
    λ i j h. sym (part_take i j o w₂ h b) ∙ ap (part i j) y.front ∙ part_take i j o w₁ h a in
    record {
      given =
          q.new
          ∙ ap (λ (X : List ℕ). walk_to X (part n (4 * m) w₂) n) (kept 0 n (omega arith) ∙ x.vertices)
          ∙ ap (λ (X : List ℕ). walk_to V2e X n) (kept n (4 * m) (omega arith) ∙ x.opposites)
          ∙ ap (walk_to V2e (widened m E2e)) (sym l);
      long = q.long ∙ y.long ∙ x.long;
    }

pub record Roomy (n m : ℕ) (V2e E2e list w : List ℕ) : Type 0 where
  pub vertices : n ≤ 1_000_000
  pub elements : m ≤ 1_000_000
  pub v2e_long : length V2e ≡ n
  pub e2e_long : EitherLong m E2e
  pub list_long : length list ≡ 4 * m
  pub room : n + 16 * m ≤ length w

-- the walk's list stands in the element list, and what was there behind the scratch buffer
pub record Proposed (n m : ℕ) (V2e E2e list w list' w' : List ℕ) : Type 0 where
  pub given : walk V2e (widened m E2e) ≡ list'
  pub kept : part (n + 12 * m) (4 * m) w' ≡ list
  pub long : length w' ≡ length w
  pub list_long : length list' ≡ 4 * m

-- the scratch buffer s that the walk was made in
module _ {n m : ℕ} {V2e E2e list w s : List ℕ} (r : Roomy n m V2e E2e list w) (walked : Walked n m V2e E2e (take (n + 12 * m - 0) w) s) where
  abbrev end : ℕ
  end = n + 12 * m

  -- the walk's list
  abbrev back : List ℕ
  back = walk V2e (widened m E2e)

  scratch : length s ≡ end
  scratch = walked.long ∙ simp length-take (omega (arith, r.room))

  -- the work buffer after the walk
  abbrev w₁ : List ℕ
  w₁ = s ++ drop (end - 0) w

  long₁ : length w₁ ≡ length w
  long₁ = simp (length-append, length-drop) (omega (arith, scratch, r.room))

  inside : end ≤ length w₁
  inside = omega (arith, long₁, r.room)

  walk_long : length back ≡ 4 * m
  walk_long = sym (ap length walked.given) ∙ simp length-drop (omega (arith, scratch))

  module _ {ys : List ℕ} (saved : ys ≡ onto list (part end (length w₁ - end) w₁)) where
    -- and after the list is kept
    abbrev w₂ : List ℕ
    w₂ = take end w₁ ++ (ys ++ drop (length w₁ - end) (drop end w₁))

    many : length ys ≡ length w₁ - end
    unfolding onto
    many = ap length saved ∙ simp (length-append, length-drop, length-take, length-drop) (omega (arith, scratch, r.list_long, r.room))

    pub proposed : {list' : List ℕ} → list' ≡ onto (part (n + 8 * m) (end - (n + 8 * m)) w₂) list → Proposed n m V2e E2e list w list' w₂
    unfolding onto
    proposed {list'} e =
        let o = n + 8 * m in
        let k : end - o ≡ 4 * m = omega arith in
        let long₂ : length w₂ ≡ length w = put_length end w₁ ys inside many ∙ long₁ in
        let front : take end w₂ ≡ s = put_take end w₁ ys inside (length w₁ - end) ∙ take_at s (drop (end - 0) w) end scratch in
        let read : part o (end - o) w₂ ≡ back =
        ap (λ (i : ℕ). part o i w₂) k
        ∙ sym (part_take o (4 * m) end w₂ (omega arith) (omega (arith, long₂, r.room)))
        ∙ ap (part o (4 * m)) front
        ∙ ap (take (4 * m)) walked.given
        ∙ take_all (4 * m) back (omega (arith, walk_long)) in
        let got : list' ≡ back = e ∙ ap (λ (X : List ℕ). onto X list) read ∙ onto_full back list (walk_long ∙ sym r.list_long) in
        record {
          given = sym got;
          kept = ap (take (4 * m)) (put_drop end w₁ ys inside ∙ saved) ∙ take_at list _ (4 * m) r.list_long;
          long = long₂;
          list_long = ap length got ∙ walk_long;
        }

-- the answer of check 10, and the element list after it
pub record Recovered (n m : ℕ) (V2e E2e : List ℕ) (a : Answer) (list list' : List ℕ) : Type 0 where
  pub answer : a ≡ elim (recovers n m V2e E2e) [ true ↦ gives 0 0 | false ↦ refused 10 0 0 ]
  pub left : list' ≡ after a (walk V2e (widened m E2e)) list

-- checks 1 and 2 found nothing
pub record Passed (n m : ℕ) (V2e E2e list work : List ℕ) : Type 0 where
  pub sizes : call_sizes n m list ≡ true
  pub lengths : recover_lengths n m V2e E2e list work ≡ true

module _ {n m : ℕ} {V2e E2e list work : List ℕ} (q : Passed n m V2e E2e list work) where
  pub roomy : Roomy n m V2e E2e list work
  unfolding recover_lengths
  roomy =
      let (most, (few, fours)) = (means_call_sizes n m list).says (rw q.sizes tt) in
      let (v, t, r) = lengths_known n m _ V2e work q.lengths in
      let either_long = means_either (means_eq (length E2e) (3 * m)) (means_eq (length E2e) (4 * m)) in
      let (l, e) = (means_both (means_eq (length list) (4 * m)) either_long).says t in
      record { vertices = most; elements = few; v2e_long = v; e2e_long = e; list_long = l; room = r }

  module _ {list₁ work₁ : List ℕ} (p : Proposed n m V2e E2e list work list₁ work₁) where
    pub as_many : elements list₁ ≡ m
    as_many = omega (arith, p.list_long)

    pub to_try : ToTry n V2e E2e list₁ work₁
    to_try =
        let inside : n + 12 * elements list₁ ≤ length work₁ = omega (arith, as_many, p.long, roomy.room) in
        let sizes = (means_sizes n list₁).shows (roomy.vertices, (omega (arith, as_many, roomy.elements), omega (arith, p.list_long))) in
        record {
          sized = record { sizes = sizes; long = simp length-take (omega arith) };
          inside = inside;
          given = ap (λ (i : ℕ). walk V2e (widened i E2e)) as_many ∙ p.given;
        }

    module _ {b : Bool} {work₂ : List ℕ} (t : Tried n m V2e E2e b work₁ work₂) where
      abbrev kept_at : ℕ
      kept_at = n + 12 * m

      still_long : length work₂ ≡ length work
      still_long = t.long ∙ p.long

      pub kept_inside : kept_at + 4 * m ≤ length work₂
      kept_inside = omega (arith, still_long, roomy.room)

      pub recovered_list : b ≡ true → {a : Answer} → a ≡ gives 0 0 → Recovered n m V2e E2e a list list₁ × (length work₂ ≡ length work)
      unfolding after
      recovered_list e g = (rw g (record { answer = rw (← t.answer, e); left = sym p.given }), still_long)

      -- the list that was there is put back
      pub recovered_none : b ≡ false → {a : Answer} → a ≡ refused 10 0 0
          → {list₂ : List ℕ} → list₂ ≡ onto (part kept_at (kept_at + 4 * m - kept_at) work₂) list₁
          → Recovered n m V2e E2e a list list₂ × (length work₂ ≡ length work)
      unfolding after
      recovered_none e g f =
          let k : kept_at + 4 * m - kept_at ≡ 4 * m = omega arith in
          let read : part kept_at (kept_at + 4 * m - kept_at) work₂ ≡ list =
          ap (take (kept_at + 4 * m - kept_at)) t.rest ∙ ap (λ (i : ℕ). part kept_at i work₁) k ∙ p.kept in
          let back = f ∙ ap (λ (X : List ℕ). onto X list₁) read ∙ onto_full list list₁ (roomy.list_long ∙ sym p.list_long) in
          (rw g (record { answer = rw (← t.answer, e); left = back }), still_long)

-- what the whole call answers and leaves
abbrev pub Whole : ℕ → ℕ → List ℕ → List ℕ → List ℕ → List ℕ → Answer → List ℕ → List ℕ → Type 0
Whole n m V2e E2e list work a list' work' =
    (a ≡ recover_answer n m V2e E2e list work) × ((list' ≡ recover_list n m V2e E2e list work) × (work' ≡ recover_work n m V2e E2e list work))

module _ (n m : ℕ) (V2e E2e list work : List ℕ) where
  -- by its answer, and by what the work holds
  leaves : Answer → List ℕ → List ℕ × List ℕ
  leaves a work' = (after a (walk V2e (widened m E2e)) list, work')

  abbrev sizes : Bool
  sizes = call_sizes n m list

  abbrev lengths : Bool
  lengths = recover_lengths n m V2e E2e list work

  abbrev ten : Answer
  ten = elim (recovers n m V2e E2e) [ true ↦ gives 0 0 | false ↦ refused 10 0 0 ]

  module _ {a : Answer} where
    -- the list and the work, each by itself
    apart : {list' work' : List ℕ} → calls.Whole leaves sizes lengths ten work a (list', work') → Whole n m V2e E2e list work a list' work'
    unfolding leaves recover_answer recover_list recover_work
    apart (e, f) = (e, (ap (λ (p : List ℕ × List ℕ). p.0) f, ap (λ (p : List ℕ × List ℕ). p.1) f))

    pub unsized : sizes ≡ false → a ≡ refused 1 0 0 → Whole n m V2e E2e list work a list work
    unfolding leaves after
    unsized s e = apart (calls.unsized leaves sizes lengths ten work s e)

    pub unlengthened : sizes ≡ true → lengths ≡ false → a ≡ refused 2 0 0 → Whole n m V2e E2e list work a list work
    unfolding leaves after
    unlengthened s l e = apart (calls.unlengthened leaves sizes lengths ten work s l e)

    -- m as an index is k
    pub whole : {k : ℕ} {list' work' : List ℕ} → k ≡ m → Passed n m V2e E2e list work → Recovered n k V2e E2e a list list'
        → work' ≡ replicate (length work) 0 → Whole n m V2e E2e list work a list' work'
    unfolding leaves
    whole {k} {list'} {work'} i q y z =
        let x = subst (λ (j : ℕ). Recovered n j V2e E2e a list list') i y in
        let (e, f) = calls.cleared leaves sizes lengths ten work (q.sizes, q.lengths) x.answer z in
        apart (e, (λ j. (x.left j, work')) ∙ f)
