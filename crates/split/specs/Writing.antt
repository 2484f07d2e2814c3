-- Nothing refuses: the midpoint, the new rows and their tables are written.
-- Assumes nothing.
use Rattle.std.specs.Prelude.{◌≡◌, List, [], ℕ, ◌+◌, ◌*◌, ◌≤◌, Float, take}
use Rattle.std.proofs.Common.{ap, ◌∙◌, arith}
use Rattle.std.proofs.Math.Path.{sym}
use Rattle.std.proofs.Math.ListN.{length}
use Rattle.rules.specs.Elements.{Side, origin, next, destination}
use Rattle.rules.specs.Tables.{borders, edges, columns, e2e, v2e}
use Rattle.rules.specs.Refusals.{Answer, gives, room_check, onto}
use Rattle.edit_rules.specs.Edits.{Lent, with_work, held, written}
use Rattle.edit_rules.specs.Split.{midpoint, with_point, placed}
use Rattle.theory.specs.Steps.{next_side_lem}
use Rattle.theory.specs.FitRows.{Fit, means_fit}
use Rattle.theory.specs.Entries.{length_v2e}
use Rattle.theory.specs.Columns.{three_or_four, length_e2e}
use Rattle.theory.specs.Answers.{room_enough}
use Rattle.theory.specs.Edits.{onto_front, onto_length, over_longer}
use Rattle.theory.specs.Splitting.{split_fours, same_columns}
use Rattle.theory.specs.SplitAnswers.{split_answer_lem}
use Rattle.theory.specs.SplitTests.{vertex, new}
use Rattle.edits.specs.Holding.{lent_edit, more_entries}
use Rattle.edits.specs.Leaving.{after_answer}
use Rattle.edits.specs.HeldRows.{held_elements, held_side, held_origin, held_destination}
use Rattle.edits.specs.Fronts.{Fitting, Fronted}
use Rattle.split.specs.NewRows.{ToSplit, grown}
use Rattle.split.specs.Stages.{ToWrite, Written}

module _ (w : Lent) (P : List Float) {s t m' : ℕ} (x : ToWrite w P s t m') where
  abbrev L : List ℕ
  L = held w

  abbrev L' : List ℕ
  L' = new w s

  abbrev v : ℕ
  v = vertex w

  fit : Fit w.n L
  fit = (means_fit w.n L).says x.accepted.rows

  side : Side L s
  side = x.cuttable.splittable.side

  -- the ends of s, as they are read in the list
  pub side_there : Side w.list s
  side_there = held_side w.m w.list x.inside s side

  module _ {a b : ℕ} (from : a ≡ origin w.list s) (to : b ≡ destination w.list s) where
    ends : (a ≡ origin L s) × (b ≡ destination L s)
    ends = (
      from ∙ sym (held_origin w.m w.list x.inside s side),
      to ∙ sym (held_destination w.m w.list x.inside s side),
    )

    pub ends_there : (1 ≤ a) × (a ≤ w.n) × (1 ≤ b) × (b ≤ w.n) × (3 * w.n + 3 ≤ length P)
    ends_there =
        let (e, f) = ends in
        let c = next_side_lem L s side in
        omega (arith, fit.from s side, fit.to s side, fit.from (next L s) c, fit.to (next L s) c, x.holds.points)

    pub mid : {P' : List Float} → P' ≡ with_point w.n (midpoint P a b) P → P' ≡ placed w P s
    mid h = let (e, f) = ends in h ∙ (λ i. with_point w.n (midpoint P (e i) (f i)) P)

  pub to_split : ToSplit w.m w.list s t v
  to_split =
      record {
        cuttable = x.cuttable;
        inside = x.inside;
        size = x.holds.size;
        long = x.holds.list;
      }

  -- the list with the new rows
  long : length L' ≡ 4 * m'
  long = split_fours w.n L fit s x.cuttable.splittable v ∙ ap (λ (k : ℕ). 4 * k) (sym x.counted)

  columned : columns L' ≡ columns L
  columned = same_columns w.n L fit s x.cuttable.splittable v

  module _ {list : List ℕ} (is : list ≡ onto L' w.list) where
    front : take (4 * m') list ≡ L'
    front = ap (take (4 * m')) is ∙ onto_front L' w.list long

    pub fits_then : {c : ℕ} → c ≡ columns L → Fitting (lent_edit v m' list w.vertices w.opposites w.border w.work) c
    fits_then {c} e =
        let same : length list ≡ length w.list = ap length is ∙ onto_length L' w.list (omega (arith, long, x.counted, x.holds.list)) in
        let h = x.holds in
        record {
          sizes = (h.vertices, omega (arith, x.counted, h.size));
          columned = e ∙ sym columned ∙ ap columns (sym front);
          list = omega (arith, x.counted, h.list, same);
          vertices = h.v2e;
          opposites = rw (e, x.counted) h.e2e;
          room = omega (arith, x.counted, h.work);
        }

    -- and its tables
    module _ {a : Answer} {V2e E2e B2e : List ℕ} (built : Fronted v (take (4 * m') list) a w.vertices w.opposites w.border V2e E2e B2e) where
      tables : Fronted v L' a w.vertices w.opposites w.border V2e E2e B2e
      tables = rw front at built

      answered : a ≡ gives (borders L') (edges L')
      answered =
          let accepted = split_answer_lem w.n L x.accepted s x.cuttable.splittable x.holds.vertices x.holds.size in
          tables.answer
          ∙ ap (room_check (length w.border)) accepted
          ∙ room_enough (length w.border) (borders L') (edges L') x.room

      pub all_written : {P' : List Float} → P' ≡ placed w P s
          → Written (with_work w []) P s a (lent_edit v m' list V2e E2e B2e []) P'
      unfolding written
      all_written p =
          let more : w.m ≤ m' = omega (arith, grown to_split, held_elements w.m w.list x.inside, x.counted) in
          let wider : columns L * w.m ≤ length (e2e L') =
          rw (length_e2e L', columned, sym x.counted) (more_entries (columns L) (three_or_four L) more) in
          let l = is ∙ sym (over_longer (4 * w.m) L' w.list (omega (arith, long, more))) in
          let vs = tables.vertices ∙ after_answer _ _ answered ∙ sym (over_longer w.n (v2e v L') w.vertices (omega (arith, length_v2e L' v))) in
          let os = tables.opposites ∙ after_answer _ _ answered ∙ sym (over_longer (columns L * w.m) (e2e L') w.opposites wider) in
          let bs = tables.border ∙ after_answer _ _ answered in
          record {
            stated = tables.answer;
            answer = answered;
            leaves = λ i. lent_edit v (x.counted i) (l i) (vs i) (os i) (bs i) [];
            points = p;
          }
