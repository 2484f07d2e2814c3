-- The new list in place of the old one, and its tables.
-- Assumes nothing.
use Rattle.std.specs.Prelude.{◌≡◌, refl, Bool, true, false, take}
use Rattle.std.proofs.Math.Path.{ap, sym}
use Rattle.std.proofs.Common.{◌∙◌, arith, length-append, length-take, take_all, take_at}
use Rattle.std.proofs.Math.Bool.{not}
use Rattle.std.proofs.Math.Logic.{inl, inr}
use mathlib.Core.List.{List, ◌++◌}
use Prim.Native.Nat.{ℕ, ◌+◌, ◌*◌, ◌-◌, ◌/◌, ◌≤◌}
use Rattle.std.proofs.Math.ListN.{length, drop, replicate}
use Rattle.std.proofs.lemmas.List.{length-replicate}
use Rattle.std.proofs.Math.Seq.{drop_at}
use Rattle.lists.specs.TestLaws.{zero_or}
use Rattle.rules.specs.Elements.{elements, origin, previous, destination}
use Rattle.rules.specs.Tables.{partner, columns}
use Rattle.rules.specs.Refusals.{Answer, refused}
use Rattle.edit_rules.specs.Edits.{over_old, new_answer}
use Rattle.edit_rules.specs.Swap.{third}
use Rattle.edit_rules.specs.Contract.{without_edge, renamed, merged, contracted, strands}
use Rattle.theory.specs.Steps.{previous_side_lem}
use Rattle.theory.specs.FitRows.{Fit, means_fit}
use Rattle.theory.specs.Pairings.{partner_opposed}
use Rattle.theory.specs.Columns.{three_or_four}
use Rattle.theory.specs.Answers.{gives_refused}
use Rattle.theory.specs.Splitting.{Splittable, means_splittable}
use Rattle.theory.specs.Coarsening.{beyond, all_used}
use Rattle.theory.specs.ContractTests.{stranded, contracts}
use Rattle.theory.specs.Contracting.{merged_coarsened, merged_length, contracted_length, contracted_columns}
use Rattle.theory.specs.Using.{strands_by, beyond_border, beyond_inner}
use Rattle.buffers.specs.Whole.{onto_full}
use Rattle.edits.specs.Holding.{lent_edit, more_entries}
use Rattle.edits.specs.Leaving.{after_refusal}
use Rattle.edits.specs.Fronts.{Fitting, Fronted}
use Rattle.gaps.specs.Closing.{fewer_by, ToClose, fewer_is, fewer_below}
use Rattle.contract.specs.Edges.{Ends}
use Rattle.contract.specs.Stages.{Contractible, padded, Roomy, Tried, Replaced}

-- a buffer of the old length, with xs and 0 after them, holds nothing else
pub padded_long : (old : ℕ) (xs : List ℕ) → length xs ≤ old → length (padded old xs) ≡ old
padded_long old xs h = simp (length-append, length-replicate) (omega arith)

padded_over : (old : ℕ) (xs buffer : List ℕ) → length xs ≤ old → length buffer ≡ old → over_old old xs buffer ≡ padded old xs
unfolding over_old
padded_over old xs buffer h e = onto_full (padded old xs) buffer (padded_long old xs h ∙ sym e)

-- the list is as long as its m rows
module _ {m : ℕ} {L : List ℕ} {s t : ℕ} (x : ToClose m L s t) (long : length L ≡ 4 * m) where
  whole : take (4 * m) L ≡ L
  whole = take_all (4 * m) L (omega arith)

  -- the triangles went and every b became a, and what stands from p on was cleared
  pub merged_rows : (N : List ℕ) → (length N ≡ length L) × (take (4 * fewer_by m t) N ≡ merged (take (4 * m) L) s)
      → {p : ℕ} → p ≡ 4 * fewer_by m t → {N' : List ℕ} → N' ≡ over_old (length N) (take p N) N → N' ≡ padded (length L) (merged L s)
  merged_rows N (same, is) {p} rows e =
      let front : take p N ≡ merged L s = ap (λ (k : ℕ). take k N) rows ∙ is ∙ ap (λ (X : List ℕ). merged X s) whole in
      let below : length (take p N) ≤ length N = simp length-take (omega arith) in
      e ∙ padded_over (length N) (take p N) N below refl ∙ (λ i. padded (same i) (front i))

  pub rows_inside : (N : List ℕ) → length N ≡ length L → {p : ℕ} → p ≡ 4 * fewer_by m t → p ≤ length N
  rows_inside N same rows = omega (arith, fewer_below x)

-- 11, 15 and 20 find nothing; the list holds m rows
module _ {n m s t : ℕ} {L : List ℕ} (x : Contractible n L s t) (size : m ≡ elements L) where
  fit : Fit n L
  fit = (means_fit n L).says x.accepted.rows

  splittable : Splittable L s
  splittable = (means_splittable L s).says (rw x.fit tt)

  abbrev M : List ℕ
  M = merged L s

  abbrev L' : List ℕ
  L' = contracted n L s

  pub fours : length L ≡ 4 * m
  fours = omega (arith, fit.fours)

  all : take (4 * m) L ≡ L
  all = take_all (4 * m) L (omega (arith, fours))

  pub to_close : ToClose m L s t
  to_close =
      record {
        inside = omega (arith, fours);
        size = omega (arith, fit.size);
        n = n;
        fit = rw all fit;
        splittable = rw all splittable;
        entry = rw all x.entry;
      }

  -- as long as what stays
  left : fewer_by m t ≡ elements M
  left = fewer_is to_close ∙ ap (λ (X : List ℕ). length (without_edge X s) / 4) all ∙ ap (λ (k : ℕ). k / 4) (sym (merged_length n L fit s splittable))

  merged_long : length M ≡ 4 * fewer_by m t
  merged_long = (merged_coarsened n L fit s splittable).fours ∙ ap (λ (k : ℕ). 4 * k) (sym left)

  pub new_long : length L' ≡ 4 * fewer_by m t
  new_long = contracted_length n L fit s splittable ∙ sym (merged_length n L fit s splittable) ∙ merged_long

  pub new_size : elements L' ≡ fewer_by m t
  new_size = omega (arith, new_long)

  pub fewer : fewer_by m t ≤ m
  fewer = fewer_below to_close

  pub last_there : 1 ≤ n
  last_there = omega (arith, fit.from s splittable.side, fit.to s splittable.side)

  module _ {a b c d : ℕ} (e : Ends L s a b c d) where
    pub to_merge : ToClose m L s t × (a ≡ origin (take (4 * m) L) s) × (b ≡ destination (take (4 * m) L) s)
    to_merge = rw all (to_close, e.from, e.to)

    thirds_there : (1 ≤ third L s) × (1 ≤ beyond L s)
    unfolding third
    thirds_there = (near, elim (zero_or (partner L s)) [ inl z ↦ rw (beyond_border L s z) near | inr z ↦ rw (beyond_inner L s z) (far z) ])
      where
        near : 1 ≤ third L s
        near = fit.from (previous L s) (previous_side_lem L s splittable.side)

        far : (partner L s ≡ 0 → ⊥) → 1 ≤ third L (partner L s)
        far z = let t = partner L s in fit.from (previous L t) (previous_side_lem L t (partner_opposed L s z).0)

    -- the triangles have gone; what stays ends at p
    module _ {L₁ : List ℕ} (is : L₁ ≡ padded (length L) M) {p : ℕ} (rows : p ≡ 4 * fewer_by m t) where
      front : take p L₁ ≡ M
      front = ap (take p) is ∙ take_at M (replicate (length L - length M) 0) p (merged_long ∙ sym rows)

      long : length L₁ ≡ length L
      long = ap length is ∙ padded_long (length L) M (omega (arith, merged_long, fours, fewer))

      pub front_inside : p ≤ length L₁
      front_inside = omega (arith, long, fours, fewer)

      pub to_ask : (1 ≤ a) × (1 ≤ c) × (1 ≤ d) × (length (take p L₁) ≡ 4 * elements (take p L₁))
      to_ask =
          let (i, j) = thirds_there in (
            rw e.from (fit.from s splittable.side),
            rw e.near i,
            rw e.far j,
            rw front (merged_coarsened n L fit s splittable).fours,
          )

      asked : {u : Bool} → u ≡ all_used (take p L₁) a c d → strands n L s ≡ not u
      asked is =
          strands_by n L fit s splittable (merged_coarsened n L fit s splittable)
          ∙ sym (ap not (is ∙ (λ i. all_used (front i) (e.from i) (e.near i) (e.far i))))

      -- 21: the tables stay
      pub left_unused : {V2e E2e B2e : List ℕ} {u : Bool} → u ≡ all_used (take p L₁) a c d → u ≡ false → {r : Answer} → r ≡ refused 21 0 0
          → Tried n L s r V2e E2e B2e V2e E2e B2e × Replaced n L s r L₁
      unfolding new_answer
      left_unused {V2e} {E2e} {B2e} is false-one f =
          let edit = stranded n L s x.there x.fit x.free (asked is ∙ ap not false-one) in (
            record {
              answer = f ∙ ap (new_answer (length B2e)) (sym edit);
              vertices = sym (after_refusal _ V2e f);
              opposites = sym (after_refusal _ E2e f);
              border = sym (after_refusal _ B2e f);
            },
            record { long = long; list = λ g. absurd (gives_refused (sym g ∙ f)) },
          )

      -- n becomes b
      module _ {X : List ℕ} (renames : X ≡ renamed n b (take p L₁)) where
        abbrev L₂ : List ℕ
        L₂ = X ++ drop p L₁

        stands : L₂ ≡ padded (length L) L'
        unfolding contracted
        stands =
            let zeros : List ℕ = replicate (length L - length M) 0 in
            let rest : drop p L₁ ≡ zeros = ap (drop p) is ∙ drop_at M zeros p (merged_long ∙ sym rows) in
            let new : X ≡ L' = renames ∙ (λ i. renamed n (e.to i) (front i)) in
            (λ i. new i ++ rest i) ∙ ap (λ (k : ℕ). L' ++ replicate (length L - k) 0) (merged_long ∙ sym new_long)

        long_then : length L₂ ≡ length L
        long_then = ap length stands ∙ padded_long (length L) L' (omega (arith, new_long, fours, fewer))

        module _ {l : ℕ} (counted : l ≡ fewer_by m t) where
          new_front : take (4 * l) L₂ ≡ L'
          new_front =
              ap (take (4 * l)) stands
              ∙ take_at L' (replicate (length L - length L') 0) (4 * l) (new_long ∙ ap (λ (k : ℕ). 4 * k) (sym counted))

          pub fits : {V2e E2e B2e : List ℕ} {columned : ℕ} {work : List ℕ} → Roomy n columned L V2e E2e → n + 12 * m ≤ length work
              → Fitting (lent_edit (n - 1) l L₂ V2e E2e B2e work) columned
          fits {columned = columned} r room =
              let same = r.columned ∙ sym (contracted_columns n L fit s splittable) ∙ ap columns (sym new_front) in
              let few : columned * l ≤ columned * elements L =
              more_entries columned (rw r.columned (three_or_four L)) (omega (arith, counted, fewer, size)) in
              record {
                sizes = (omega (arith, fit.vertices), omega (arith, counted, fewer, size, fit.size));
                columned = same;
                list = omega (arith, counted, fewer, long_then, fours);
                vertices = omega (arith, r.vertices);
                opposites = omega (arith, few, r.opposites);
                room = omega (arith, counted, fewer);
              }

          pub made : {V2e E2e B2e : List ℕ} {u : Bool} → u ≡ all_used (take p L₁) a c d → u ≡ true
              → {r : Answer} {V2e' E2e' B2e' : List ℕ} → Fronted (n - 1) (take (4 * l) L₂) r V2e E2e B2e V2e' E2e' B2e'
              → Tried n L s r V2e E2e B2e V2e' E2e' B2e' × Replaced n L s r L₂
          unfolding new_answer
          made {V2e} {E2e} {B2e} is true-one {r} {V2e'} {E2e'} {B2e'} built =
              let y : Fronted (n - 1) L' r V2e E2e B2e V2e' E2e' B2e' = rw new_front at built in
              let edit = contracts n L s x.there x.fit x.free (asked is ∙ ap not true-one) in (
                record {
                  answer = y.answer ∙ ap (new_answer (length B2e)) (sym edit);
                  vertices = y.vertices;
                  opposites = y.opposites;
                  border = y.border;
                },
                record { long = long_then; list = λ g. stands },
              )
