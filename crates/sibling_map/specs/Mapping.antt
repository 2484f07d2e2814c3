-- What the call leaves in its buffers.
-- Assumes nothing.
use Rattle.std.specs.Prelude.{◌≡◌, true, false, List, ℕ, ◌+◌, ◌*◌, ◌-◌, ◌≤◌, ◌<◌, T, eqb, take, drop}
use Rattle.std.proofs.Math.Path.{ap, sym}
use Rattle.std.proofs.Common.{◌∙◌, T_not}
use native.Mathlib.Omega.{arith}
use Rattle.std.proofs.Math.ListN.{length, replicate}
use Rattle.lists.specs.TestLaws.{Test, pass, fail, test, means_eq}
use Rattle.lists.specs.Search.{at}
use Rattle.lists.specs.SearchLaws.{is_tab}
use Rattle.lists.specs.Parts.{part, at_part, length_part}
use Rattle.lists.specs.Stores.{Kept}
use Rattle.rules.specs.Elements.{elements, is_side, side_at}
use Rattle.rules.specs.Pairing.{sizes_fit}
use Rattle.rules.specs.Tables.{least_side}
use Rattle.rules.specs.Refusals.{Answer, gives, refused, row_checks, after, onto}
use Rattle.rules.specs.Siblings.{sibling_entry, sibhe, v2he, SiblingBuffers, sibling_lengths, siblings_answer, siblings_leaves}
use Rattle.theory.specs.Sides.{slot_side_at}
use Rattle.theory.specs.FitRows.{Fit}
use Rattle.theory.specs.Answers.{fit_passed}
use Rattle.theory.specs.Calls.{lengths_known}
use Rattle.theory.specs.Calls as calls
use Rattle.buffers.specs.Whole.{onto_full}
use Rattle.siblings.specs.Siblings.{Grouped}
use Rattle.checks.specs.Firsts.{Firsts}

-- the three buffers
abbrev pub lent_maps : List ℕ → List ℕ → List ℕ → SiblingBuffers
lent_maps V2e Sibhe work = record { vertices = V2e; siblings = Sibhe; work = work }

-- checks 1 and 2 found nothing
pub record Checked (n : ℕ) (L V2e Sibhe work : List ℕ) : Type 0 where
  pub sizes : T (sizes_fit n L)
  pub v2e_long : length V2e ≡ n
  pub map_long : length Sibhe ≡ 4 * elements L
  pub room : n + 16 * elements L ≤ length work

-- the answer of checks 3 and 4, and the two maps after it
pub record Mapped (n : ℕ) (L : List ℕ) (a : Answer) (V2e Sibhe V2e' Sibhe' : List ℕ) : Type 0 where
  pub answer : a ≡ row_checks n L (gives 0 0)
  pub vertices : V2e' ≡ after a (v2he n L) V2e
  pub siblings : Sibhe' ≡ after a (sibhe L) Sibhe

-- what is written of fit rows
module _ {n : ℕ} {L : List ℕ} (fit : Fit n L) where
  pub vertices_are : {V2e V2e' : List ℕ} → length V2e ≡ n → Kept n V2e V2e' × Firsts n L V2e' → V2e' ≡ v2he n L
  unfolding v2he
  vertices_are {V2e' = V2e'} long (kept, firsts) =
      is_tab n (λ i. least_side L (i + 1)) V2e' (kept.long ∙ long)
      (λ i h. let e : i ≡ i + 1 - 1 = omega arith in ap (at V2e') e ∙ firsts (i + 1) (omega arith) (omega arith))

  -- the entries of the map, in the work from n on
  module _ {U W : List ℕ} (done : Grouped n L U W) where
    entry : (p : ℕ) → p < length L → at W (n + p) ≡ sibling_entry L (side_at p)
    unfolding sibling_entry
    entry p h = go (test (is_side L (side_at p)))
      where
        go : Test (is_side L (side_at p)) → at W (n + p) ≡ sibling_entry L (side_at p)
        go (pass t e) = ap (λ (i : ℕ). at W (n + i)) (sym (slot_side_at p)) ∙ done.siblings (side_at p) t ∙ sym (rw (e, sibling_entry))
        go (fail t e) = done.empty p h (T_not (is_side L (side_at p)) t) ∙ sym (rw (e, sibling_entry))

    pub map_is : (S : List ℕ) {S' : List ℕ} {e : ℕ} → n + 16 * elements L ≤ length U → length S ≡ 4 * elements L → e ≡ n + length L →
        S' ≡ onto (take (e - n) (drop n W)) S → S' ≡ sibhe L
    unfolding sibhe
    map_is S {S'} {e} room long end copied =
        let four : e - n ≡ 4 * elements L = omega (arith, fit.fours) in
        let all : length (part n (4 * elements L) W) ≡ 4 * elements L = length_part n (4 * elements L) W (omega (arith, done.kept.long)) in
        copied
        ∙ ap (λ (k : ℕ). onto (part n k W) S) four
        ∙ onto_full (part n (4 * elements L) W) S (all ∙ sym long)
        ∙ is_tab (4 * elements L) (λ p. sibling_entry L (side_at p)) (part n (4 * elements L) W) all
        (λ p h. at_part n (4 * elements L) W p h ∙ entry p (omega (arith, fit.fours)))

-- checks 3 and 4 refused, or the rows are fit and the maps were written
module _ {n : ℕ} {L V2e Sibhe work : List ℕ} (x : Checked n L V2e Sibhe work) {rows : Answer} (checked : rows ≡ row_checks n L (gives 0 0)) where
  pub unmapped : {r p q : ℕ} → rows ≡ refused r p q → Mapped n L rows V2e Sibhe V2e Sibhe
  unfolding after
  unmapped e =
      record {
        answer = checked;
        vertices = sym (ap (λ (a : Answer). after a (v2he n L) V2e) e);
        siblings = sym (ap (λ (a : Answer). after a (sibhe L) Sibhe) e);
      }

  module _ {k e : ℕ} (passed : rows ≡ gives k e) where
    -- n as an index is a
    pub writes : {a : ℕ} → a ≡ n → Fit a L × (length V2e ≡ a) × (length Sibhe ≡ 4 * elements L) × (a + 16 * elements L ≤ length work)
    writes same = rw same (fit_passed n L (gives 0 0) x.sizes (sym checked ∙ passed), x.v2e_long, x.map_long, x.room)

    pub mapped : {a : ℕ} {V2e' Sibhe' : List ℕ} → a ≡ n → (V2e' ≡ v2he a L) × (Sibhe' ≡ sibhe L) → Mapped n L rows V2e Sibhe V2e' Sibhe'
    unfolding after
    mapped same (v, s) =
        record {
          answer = checked;
          vertices = v ∙ ap (λ (i : ℕ). v2he i L) same ∙ sym (ap (λ (a : Answer). after a (v2he n L) V2e) passed);
          siblings = s ∙ sym (ap (λ (a : Answer). after a (sibhe L) Sibhe) passed);
        }

-- the whole call
module _ (n : ℕ) (L V2e Sibhe work : List ℕ) where
  abbrev w : SiblingBuffers
  w = lent_maps V2e Sibhe work

  pub checked : sizes_fit n L ≡ true → sibling_lengths n L w ≡ true → Checked n L V2e Sibhe work
  unfolding sibling_lengths
  checked s l =
      let (v, e, r) = lengths_known n (elements L) (eqb (length Sibhe) (4 * elements L)) V2e work l in
      record { sizes = rw s tt; v2e_long = v; map_long = (means_eq _ _).says e; room = r }

  -- by its answer, and by what the work holds
  leaves : Answer → List ℕ → SiblingBuffers
  leaves a = lent_maps (after a (v2he n L) V2e) (after a (sibhe L) Sibhe)

  abbrev pub Whole : Answer → SiblingBuffers → Type 0
  Whole a w' = (a ≡ siblings_answer n L w) × (w' ≡ siblings_leaves n L w)

  pub unsized : {a : Answer} → sizes_fit n L ≡ false → a ≡ refused 1 0 0 → Whole a w
  unfolding leaves after siblings_answer siblings_leaves
  unsized = calls.unsized leaves (sizes_fit n L) (sibling_lengths n L w) _ work

  pub unlengthened : {a : Answer} → sizes_fit n L ≡ true → sibling_lengths n L w ≡ false → a ≡ refused 2 0 0 → Whole a w
  unfolding leaves after siblings_answer siblings_leaves
  unlengthened = calls.unlengthened leaves (sizes_fit n L) (sibling_lengths n L w) _ work

  pub done : {a : Answer} {V2e' Sibhe' work' : List ℕ} {l : ℕ} → (sizes_fit n L ≡ true) × (sibling_lengths n L w ≡ true) →
      Mapped n L a V2e Sibhe V2e' Sibhe' × (l ≡ length work) → work' ≡ replicate l 0 → Whole a (lent_maps V2e' Sibhe' work')
  unfolding leaves siblings_answer siblings_leaves
  done {work' = work'} fit (x, long) z =
      let (e, f) = calls.cleared leaves (sizes_fit n L) (sibling_lengths n L w) _ work fit x.answer (z ∙ ap (λ (k : ℕ). replicate k 0) long) in
      (e, (λ i. lent_maps (x.vertices i) (x.siblings i) work') ∙ f)
