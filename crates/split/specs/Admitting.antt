-- Refusals 11, 15, 19 and 9, before anything is written.
-- Assumes nothing.
use Rattle.std.specs.Prelude.{◌≡◌, Bool, true, false, List, ℕ, ◌+◌, ◌%◌, ◌≤◌, ◌<◌, Float, length}
use Rattle.std.proofs.Math.Path.{ap, sym}
use Rattle.std.proofs.Common.{◌∙◌, inl, inr, arith}
use Rattle.lists.specs.TestLaws.{zero_or}
use Rattle.lists.specs.Search.{at}
use Rattle.rules.specs.Elements.{elements, slot}
use Rattle.rules.specs.Tables.{borders, edges, wide}
use Rattle.rules.specs.Refusals.{Answer, gives, refused, room_check}
use Rattle.edit_rules.specs.Edits.{Edited, refuses, Lent, is_there, held, new_answer}
use Rattle.edit_rules.specs.Split.{is_splittable, can_hold, split}
use Rattle.theory.specs.FitRows.{means_fit}
use Rattle.theory.specs.Orders.{good}
use Rattle.theory.specs.Answers.{room_short}
use Rattle.theory.specs.Splitting.{means_splittable}
use Rattle.theory.specs.SplitCounts.{grown_inner, grown_border}
use Rattle.theory.specs.SplitAnswers.{split_answer_lem}
use Rattle.theory.specs.SplitTests.{Holds, means_hold, vertex, new, splits}
use Rattle.theory.specs.SplitTests as tests
use Rattle.edits.specs.Trying.{entry_border, entry_partner}
use Rattle.edits.specs.HeldRows.{held_elements}
use Rattle.split.specs.NewRows.{by_border, for_border, for_inner, Cuttable, elements_then}
use Rattle.split.specs.Testing.{holds_by, can_hold_by}
use Rattle.split.specs.Stages.{Admissible, Admitted, denied, allowed}

module _ (w : Lent) (P : List Float) (s : ℕ) where
  by_edit : {x : Edited} → split w P s ≡ x → new_answer (length w.border) (split w P s) ≡ new_answer (length w.border) x
  by_edit = ap (new_answer (length w.border))

  -- the edit refuses
  turned_away : {r : ℕ} {a : Answer} → split w P s ≡ refuses r → a ≡ refused r 0 0 → Admitted w P s a
  unfolding new_answer
  turned_away e f = denied f (f ∙ sym (by_edit e))

  pub gone : {a : Answer} → is_there (held w) s ≡ false → a ≡ refused 11 0 0 → Admitted w P s a
  gone e = turned_away (tests.gone w P s e)

  module _ (there : is_there (held w) s ≡ true) where
    pub unfit : {a : Answer} → is_splittable (held w) s ≡ false → a ≡ refused 15 0 0 → Admitted w P s a
    unfit e = turned_away (tests.unfit w P s there e)

    module _ (fit : is_splittable (held w) s ≡ true) where
      pub full : {a : Answer} → can_hold w P (vertex w) (new w s) ≡ false → a ≡ refused 19 0 0 → Admitted w P s a
      full e = turned_away (tests.full w P s there fit e)

      -- the list was accepted, and E2e has t for the side
      module _ {c k t : ℕ} (x : Admissible w.n w.m c k w.list w.work) (entry : t ≡ at (wide (held w)) (slot s)) where
        pub cuttable : Cuttable (held w) s t
        cuttable =
            record {
              n = w.n;
              fit = (means_fit w.n (held w)).says x.accepted.rows;
              splittable = (means_splittable (held w) s).says (rw fit tt);
              entry = entry;
            }

        -- the new m by the entry, and 19 as it is tried with it
        module _ {m' : ℕ} (grown : m' ≡ by_border t (w.m + 1) (w.m + 2)) where
          pub counted : m' ≡ elements (new w s)
          counted =
              let m = held_elements w.m w.list x.inside in
              grown ∙ (λ i. by_border t (sym m i + 1) (sym m i + 2)) ∙ sym (elements_then cuttable (w.n + 1))

          pub tried : {b : Bool} → b ≡ holds_by (w.n + 1) m' c (length w.list) (length w.vertices) (length w.opposites) (length P) (length w.work) → can_hold w P (vertex w) (new w s) ≡ b
          tried e = sym (can_hold_by w P (w.n + 1) (new w s) x.columned counted) ∙ sym e

        -- 19 finds nothing
        module _ (can : can_hold w P (vertex w) (new w s) ≡ true) where
          holds : Holds w P (vertex w) (elements (new w s))
          holds = (means_hold w P (vertex w) (new w s)).says (rw can tt)

          -- the new k
          borders_then : borders (new w s) ≡ by_border t (k + 1) k
          borders_then =
              let y = cuttable.splittable in
              let old = good w.n (held w) x.accepted in
              let meeting = x.accepted.meeting in
              elim (zero_or (t % 8)) [
                | inl z ↦
                    let border = entry_border (held w) s y.side entry z in
                    let more = grown_border w.n (held w) old meeting s y holds.vertices holds.size border in
                    omega (arith, more.borders_by, x.number, for_border t (k + 1) k z)
                | inr d ↦
                    let inner = (entry_partner (held w) s y.side entry d).1 in
                    let same = grown_inner w.n (held w) old meeting s y holds.vertices holds.size inner in
                    omega (arith, same.borders_by, x.number, for_inner t (k + 1) k d)
              ]

          -- it is b by the entry
          module _ {b : ℕ} (is : b ≡ by_border t (k + 1) k) where
            -- B2e is too short for it
            pub crowded : {a : Answer} → length w.border < b → a ≡ refused 9 b 0 → Admitted w P s a
            unfolding new_answer
            crowded h f =
                let same : b ≡ borders (new w s) = is ∙ sym borders_then in
                let accepted = split_answer_lem w.n (held w) x.accepted s cuttable.splittable holds.vertices holds.size in
                let short = room_short (length w.border) (borders (new w s)) (edges (new w s)) (omega arith) in
                denied f
                (f
                ∙ (λ i. refused 9 (same i) 0)
                ∙ sym (by_edit (splits w P s there fit can) ∙ ap (room_check (length w.border)) accepted ∙ short))

            -- or not
            pub admitted : {a : Answer} {m' : ℕ} → m' ≡ elements (new w s) → b ≤ length w.border → a ≡ gives t m' → Admitted w P s a
            admitted counted h f =
                allowed f
                (record {
                  accepted = x.accepted;
                  inside = x.inside;
                  cuttable = cuttable;
                  counted = counted;
                  holds = holds;
                  room = omega (arith, borders_then);
                  edit = splits w P s there fit can;
                })
