-- Document 02, point 11, as theorems about runs of the call: "Lengths add up to exactly k, and two half-edges have one hole exactly when one's
-- loop lists the other. It gives 12 if any loop does; each output needs k entries." They hold of any tables. On built tables the call always
-- answers, given room, and never gives 12.
-- Assumes nothing.
use Rattle.std.specs.Prelude.{◌≡◌, Bool, ◌⊎◌, ◌↔◌, ℕ, ◌+◌, ◌*◌, ◌-◌, ◌≤◌, ◌<◌, T, length}
use Rattle.std.proofs.Math.Path.{refl, ap, sym}
use Rattle.std.proofs.Common.{◌∙◌, inl, inr}
use Rattle.std.proofs.Math.Bool.{true, false}
use Rattle.std.proofs.Math.Option.{none, some}
use mathlib.Core.List.{List, ◌++◌}
use native.Mathlib.Omega.{arith}
use Rattle.std.proofs.Math.Dec.{eqb}
use Rattle.std.proofs.Math.ListN.{take, drop, get_or-append}
use Rattle.std.proofs.Math.Seq.{take-append_seam}
use Rattle.lists.specs.Tests.{within}
use Rattle.lists.specs.TestLaws.{true_of, false_of, passes, both_pass, means_not, means_le, means_within}
use Rattle.lists.specs.Search.{at, total}
use Rattle.lists.specs.SearchLaws.{at_tab, length_tab, Met}
use Rattle.rules.specs.Elements.{elements, count_numbers}
use Rattle.rules.specs.Pairing.{sizes_fit}
use Rattle.rules.specs.Refusals.{Answer, gives, refused, length_checks, after, onto}
use Rattle.rules.specs.Queries.{Mesh, query_lengths, asked, border_loop, border_loop_answer, border_loop_leaves}
use Rattle.rules.specs.Holes.{HoleBuffers, least_of, hole_of, holes, hole_count, hole_lengths, holes_found, holes_fit, holes_answer, holes_leaves}
use Rattle.theory.specs.Answers.{past_lengths, never_gives, never_refused}
use Rattle.theory.specs.Calls.{admitted}
use Rattle.theory.specs.Sound.{Sound}
use Rattle.theory.specs.Served.{Served}
use Rattle.theory.specs.Reaching.{In, itself, LoopOf, loop_of}
use Rattle.theory.specs.Holes.{AllBack, room, means_room, found_broken, found_back, passed_found, least_of_lem, least_less}
use Rattle.theory.specs.Holes.{hole_in, one_hole, of_one_hole, lengths_total, loop_length}
use Rattle.runs.specs.Runs.{HolesRun, BorderLoopRun, LeftBy}
use Rattle.runs.proofs.OnBuilt.{Written, written, left_built, left_served}

module _ (M : Mesh) (w : HoleBuffers) (a : Answer) (w' : HoleBuffers) (run : HolesRun M w a w') where
  abbrev k : ℕ
  k = length M.border

  -- both outputs, by the answer
  left_by_lem : {y : Answer} → a ≡ y →
      (w'.hole ≡ after y (onto (holes M) w.hole) w.hole) × (w'.lengths ≡ after y (onto (hole_lengths M) w.lengths) w.lengths)
  unfolding holes_leaves
  left_by_lem e =
      let f = sym run.answer ∙ e in (
        ap (λ (b : HoleBuffers). b.hole) run.leaves ∙ ap (λ (x : Answer). after x (onto (holes M) w.hole) w.hole) f,
        ap (λ (b : HoleBuffers). b.lengths) run.leaves ∙ ap (λ (x : Answer). after x (onto (hole_lengths M) w.lengths) w.lengths) f,
      )

  -- a refusal leaves them as they were
  pub refusal_keeps : {r p q : ℕ} → a ≡ refused r p q → (w'.hole ≡ w.hole) × (w'.lengths ≡ w.lengths)
  unfolding after
  refusal_keeps e = left_by_lem e

  -- what an answer says: all loops come back, and there was room
  pub record Answered (h e : ℕ) : Type 0 where
    pub sizes : T (sizes_fit M.n M.list)
    pub lengths : T (query_lengths M)
    pub back : AllBack M
    pub hole_room_lem : k ≤ length w.hole
    pub lengths_room : k ≤ length w.lengths
    pub number : h ≡ hole_count M
    pub second : e ≡ 0

  pub answered : {h e : ℕ} → a ≡ gives h e → Answered h e
  unfolding holes_answer holes_fit
  answered {h} {e} g =
      let (s, l, f) = past_lengths (sizes_fit M.n M.list) (holes_fit M w) (holes_found M w.hole w.lengths) h e (sym run.answer ∙ g) in
      let (all, t, n, z) = passed_found M w.hole w.lengths f in
      let (i, j) = (means_room M w.hole w.lengths).says (rw t tt) in
      record {
        sizes = s;
        lengths = (passes (query_lengths M) _ l).0;
        back = all;
        hole_room_lem = i;
        lengths_room = j;
        number = n;
        second = z;
      }

  -- with fit lengths only 12 and 13 remain
  module _ (sizes : T (sizes_fit M.n M.list)) (lengths : T (holes_fit M w)) where
    fit : a ≡ holes_found M w.hole w.lengths
    unfolding holes_answer length_checks
    fit = run.answer ∙ rw (true_of (sizes_fit M.n M.list) sizes, true_of (holes_fit M w) lengths, length_checks) refl

    -- "It gives 12 if any loop does"
    pub gives_12 : (b : ℕ) → In M b → border_loop M b ≡ none → a ≡ refused 12 0 0
    gives_12 b i e = fit ∙ found_broken M w.hole w.lengths b i e

    module _ (all : AllBack M) where
      -- "each output needs k entries"
      pub gives_13 : (length w.hole < k) ⊎ (length w.lengths < k) → a ≡ refused 13 k 0
      gives_13 short = fit ∙ found_back M w.hole w.lengths all ∙ rw (no short)
        where
          no : (length w.hole < k) ⊎ (length w.lengths < k) → room M w.hole w.lengths ≡ false
          no short =
              false_of (room M w.hole w.lengths)
              ((means_not (means_room M w.hole w.lengths)).shows
              (λ (i, j). elim short [ inl l ↦ omega arith | inr l ↦ omega arith ]))

      pub answers : k ≤ length w.hole → k ≤ length w.lengths → a ≡ gives (hole_count M) 0
      answers i j =
          let enough = true_of (room M w.hole w.lengths) ((means_room M w.hole w.lengths).shows (i, j)) in
          fit ∙ found_back M w.hole w.lengths all ∙ rw enough

  module _ {h e : ℕ} (gave : a ≡ gives h e) where
    x : Answered h e
    x = answered gave

    left : (w'.hole ≡ onto (holes M) w.hole) × (w'.lengths ≡ onto (hole_lengths M) w.lengths)
    unfolding after
    left = left_by_lem gave

    -- the entry of a border half-edge is its hole
    pub hole_entry : (b : ℕ) → In M b → at w'.hole (b - 1) ≡ hole_of M b
    unfolding onto holes
    hole_entry b (from, to) =
        let back : b - 1 + 1 ≡ b = omega arith in
        ap (λ (y : List ℕ). at y (b - 1)) left.0
        ∙ get_or-append (holes M) _ 0 (b - 1) (omega (arith, length_tab k (λ i. hole_of M (i + 1))))
        ∙ at_tab k (λ i. hole_of M (i + 1)) (b - 1) (omega arith)
        ∙ ap (hole_of M) back

    -- as many lengths as holes stand in the output
    lengths_first : take h w'.lengths ≡ hole_lengths M
    unfolding onto hole_lengths
    lengths_first =
        ap (take h) left.1
        ∙ ap (λ (i : ℕ). take i (hole_lengths M ++ drop (length (hole_lengths M)) w.lengths)) (x.number ∙ sym (length_tab (hole_count M) _))
        ∙ take-append_seam (hole_lengths M) (drop (length (hole_lengths M)) w.lengths)

    -- "Lengths add up to exactly k"
    pub lengths_add_up : total (take h w'.lengths) ≡ k
    lengths_add_up = ap total lengths_first ∙ lengths_total M x.back

    -- "numbered from 1": no hole above their number
    pub hole_number : (b : ℕ) → In M b → (1 ≤ at w'.hole (b - 1)) × (at w'.hole (b - 1) ≤ h)
    hole_number b i = let (from, to) = hole_in M b i (x.back b i) in (omega (arith, hole_entry b i), omega (arith, hole_entry b i, x.number))

    length_entry : (i : ℕ) → i < h → at w'.lengths i ≡ at (hole_lengths M) i
    unfolding onto hole_lengths
    length_entry i l =
        ap (λ (y : List ℕ). at y i) left.1
        ∙ get_or-append (hole_lengths M) _ 0 i
        (omega (arith, x.number, length_tab (hole_count M) (λ i. count_numbers k (λ b. eqb (hole_of M b) (i + 1)))))

    checks : (y : Answer) → asked M y ≡ y
    unfolding asked length_checks
    checks y = rw (true_of (sizes_fit M.n M.list) x.sizes, true_of (query_lengths M) x.lengths, length_checks) refl

    -- "two half-edges have one hole exactly when one's loop lists the other", and the loop has the length of the hole
    pub record Rim (b : ℕ) (bs : List ℕ) : Type 0 where
      pub loop : LoopOf M b bs
      pub long : length bs ≡ at w'.lengths (at w'.hole (b - 1) - 1)
      pub lists : (c : ℕ) → In M c → Met bs c ↔ (at w'.hole (b - 1) ≡ at w'.hole (c - 1))

    long : (b : ℕ) → In M b → (bs : List ℕ) → border_loop M b ≡ some bs → length bs ≡ at w'.lengths (at w'.hole (b - 1) - 1)
    long b i bs q =
        let (from, to) = hole_number b i in
        loop_length M x.back b i bs q
        ∙ ap (λ (j : ℕ). at (hole_lengths M) (j - 1)) (sym (hole_entry b i))
        ∙ sym (length_entry (at w'.hole (b - 1) - 1) (omega arith))

    -- of two holes the one with the lesser number has the lesser least border half-edge
    pub in_order : (b c : ℕ) → In M b → In M c → at w'.hole (b - 1) < at w'.hole (c - 1)
        → (d : ℕ) × In M d × (at w'.hole (d - 1) ≡ at w'.hole (b - 1))
        × ((f : ℕ) → In M f → at w'.hole (f - 1) ≡ at w'.hole (c - 1) → d < f)
    in_order b c i j l =
        let p = least_of_lem M b i (x.back b i) in
        let d = least_of M b in (
          d,
          p.inside,
          hole_entry d p.inside ∙ sym (one_hole M b d i (x.back b i) p.reached) ∙ sym (hole_entry b i),
          (λ f m e.
              let q = least_of_lem M f m (x.back f m) in
              let n = q.least f m.0 (itself M f) in
              let o = least_less M b f (omega (arith, hole_entry b i, hole_entry f m)) in
              omega arith),
        )

    -- of a run of the border loop, on the same tables
    pub rim : (b : ℕ) (out : List ℕ) (r : Answer) (out' : List ℕ) → BorderLoopRun M b out r out' → In M b
        → (bs : List ℕ) × (border_loop M b ≡ some bs) × Rim b bs × Written bs out r out'
    unfolding border_loop_answer border_loop_leaves
    rim b out r out' loops i =
        let (bs, q) = x.back b i in (
          bs,
          q,
          record { loop = loop_of M b i bs q; long = long b i bs q; lists = lists bs q },
          written M checks (within 1 k b) (border_loop M b) bs out r out' ((means_within 1 k b).shows i) q loops.answer loops.leaves,
        )
      where
        lists : (bs : List ℕ) → border_loop M b ≡ some bs → (c : ℕ) → In M c → Met bs c ↔ (at w'.hole (b - 1) ≡ at w'.hole (c - 1))
        lists bs q c j = (
          (λ m. hole_entry b i ∙ one_hole M b c i (bs, q) (((loop_of M b i bs q).reachable c).0 m) ∙ sym (hole_entry c j)),
          (λ f. ((loop_of M b i bs q).reachable c).1 (of_one_hole M b c i (bs, q) j (x.back c j) (sym (hole_entry b i) ∙ f ∙ hole_entry c j))),
        )

-- on the tables that a run of build left
module _ (n : ℕ) (L : List ℕ) (M : Mesh) (y : LeftBy n L M) (w : HoleBuffers) (a : Answer) (w' : HoleBuffers) (run : HolesRun M w a w') where
  on : Served n L M
  on = left_served n L M y

  all_back : AllBack M
  all_back b (from, to) = let (bs, e, l) = on.loops b (from, omega (arith, on.number)) in (bs, e)

  -- it always answers, given room
  pub always_answers : n + 16 * elements L ≤ length w.work → length M.border ≤ length w.hole → length M.border ≤ length w.lengths
      → a ≡ gives (hole_count M) 0
  unfolding asked holes_fit
  always_answers enough i j =
      let (s, q) = admitted (sizes_fit M.n M.list) (query_lengths M) on.checks in
      let vertices : M.n ≡ n = ap (λ (N : Mesh). N.n) (left_built n L M y) in
      let rows : elements M.list ≡ elements L = ap elements on.list in
      let work = (means_le (M.n + 16 * elements M.list) (length w.work)).shows (omega arith) in
      answers M w a w' run (rw s tt) (both_pass (query_lengths M) _ (rw q tt) work) all_back i j

  -- "12 never comes", whatever the lengths
  pub twelve_never : Sound a
  unfolding holes_answer length_checks
  twelve_never p q z =
      checked (sizes_fit M.n M.list) (holes_fit M w) _
      (λ p q e. roomy (room M w.hole w.lengths) p q (sym (found_back M w.hole w.lengths all_back) ∙ e))
      p q (sym run.answer ∙ z)
    where
      roomy : (b : Bool) → Sound (elim b [ true ↦ gives (hole_count M) 0 | false ↦ refused 13 (length M.border) 0 ])
      roomy true = never_gives 12 (hole_count M) 0
      roomy false = never_refused 12 13 (length M.border) 0 (λ e. omega arith)

      checked : (sizes lengths : Bool) (rest : Answer) → Sound rest → Sound (length_checks sizes lengths rest)
      checked true true rest f = f
      checked true false rest f = never_refused 12 2 0 0 (λ e. omega arith)
      checked false lengths rest f = never_refused 12 1 0 0 (λ e. omega arith)
