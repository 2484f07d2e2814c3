-- What the scratch buffer holds after checks 3 to 7, and after 8 and 18.
-- Assumes nothing.
use Rattle.std.specs.Prelude.{◌≡◌, refl, Bool, true, false, not, ℕ, ◌+◌, ◌*◌, ◌-◌, ◌/◌, ◌≤◌, T, eqb, length, take, drop}
use Rattle.std.proofs.Math.Path.{ap, sym}
use Rattle.std.proofs.Common.{subst, ◌∙◌, arith, length-take, length-append, length-drop}
use Rattle.std.proofs.Math.Seq.{take-append_seam}
use Rattle.theory.specs.FitRows.{means_sizes}
use mathlib.Core.List.{List, ◌++◌}
use Rattle.lists.specs.TestLaws.{Means}
use Rattle.lists.specs.Search.{at}
use Rattle.lists.specs.SearchLaws.{count_bound}
use Rattle.lists.specs.Parts.{part, part_take}
use Rattle.lists.specs.Stores.{Kept}
use Rattle.rules.specs.Elements.{max_element, elements, side_at, slot, side_with, first_number, count_sides}
use Rattle.rules.specs.Pairing.{unfit_corner, repeated_corner, sizes_fit, Element}
use Rattle.rules.specs.Tables.{borders, edges, b2e, wide, v2e}
use Rattle.rules.specs.Recovery.{walk_to, walk}
use Rattle.rules.specs.Refusals.{Answer, gives, refused, crowded_side, alike_side, missed, unordered_vertex, clash_of, clashing, vertex_check, pair_check, row_checks, list_answer}
use Rattle.theory.specs.Sides.{side_at_slot}
use Rattle.theory.specs.Least.{FirstNumber, first_number_lem}
use Rattle.theory.specs.FitRows.{Fit, no_side_at}
use Rattle.theory.specs.Pairings.{the_pairing}
use Rattle.theory.specs.Entries.{length_v2e}
use Rattle.theory.specs.Built.{borders_bound}
use Rattle.theory.specs.Walking.{walk_walked}
use Rattle.theory.specs.Answers.{check_clear, check_refuses, gives_refused, rows_clear, rows_passed, rows_refused, fit_passed}
use Rattle.walk.specs.Layout.{Sizes, written, e2e_in, Linked, Walking}
use Rattle.unordered.specs.Missed.{Walked}
use Rattle.siblings.specs.Siblings.{Grouped, Room}
use Rattle.checks.specs.Maps.{Mapped}
use Rattle.checks.specs.Firsts.{Firsts}
use Rattle.checks.specs.Pairs.{pair_checks, pairs_clear, pairs_passed, pairs_refused}
use Rattle.borders.specs.Numbers.{Ready, Numbered}
use Rattle.ordered.specs.Standing.{Standing}

-- the sizes are fit, and the scratch buffer has its n + 12m entries
pub record Sized (n : ℕ) (L w : List ℕ) : Type 0 where
  pub sizes : T (sizes_fit n L)
  pub long : length w ≡ n + 12 * elements L

-- the sizes are fit, and a buffer has that room in its front
pub record Roomy (n : ℕ) (L work : List ℕ) : Type 0 where
  pub sizes : T (sizes_fit n L)
  pub room : n + 12 * elements L ≤ length work

-- checks 3 to 7, and then the element that 18 finds
abbrev pub fit_pairs : List ℕ → Answer
fit_pairs L = pair_checks L (gives (clashing L) 0)

abbrev pub list_pairs : ℕ → List ℕ → Answer
list_pairs n L = row_checks n L (fit_pairs L)

-- checks 8 and 18
abbrev pub paired_answer : ℕ → List ℕ → Answer
paired_answer n L =
    vertex_check 8 (unordered_vertex n L) (pair_check 18 (clashing L) (clash_of L (clashing L)) (gives (borders L) (edges L)))

-- V2e, E2e and B2e stand one after another
pub record Holds (n : ℕ) (L w : List ℕ) : Type 0 where
  pub vertices : take n w ≡ v2e n L
  pub opposites : part n (4 * elements L) w ≡ wide L
  pub border : part (n + 4 * elements L) (borders L) w ≡ b2e L

-- a is the answer, and where it gives something P holds of the buffer
pub record Leaves (P : List ℕ → Type 0) (stated a : Answer) (w w' : List ℕ) : Type 0 where
  pub answer : a ≡ stated
  pub holds : (k e : ℕ) → a ≡ gives k e → P w'
  pub long : length w' ≡ length w

-- the sides are paired; the tables stand
abbrev pub Paired : ℕ → List ℕ → Answer → Answer → List ℕ → List ℕ → Type 0
Paired n L = Leaves (Ready n L)

abbrev pub Tabulated : ℕ → List ℕ → Answer → Answer → List ℕ → List ℕ → Type 0
Tabulated n L = Leaves (Holds n L)

module _ {P : List ℕ → Type 0} where
  -- a refusal leaves nothing that holds
  refuses : {stated a : Answer} {r p q : ℕ} {w w' : List ℕ} → a ≡ refused r p q → stated ≡ refused r p q → length w' ≡ length w
      → Leaves P stated a w w'
  refuses e f l =
      record { answer = e ∙ sym f; holds = λ k c g. absurd (gives_refused (sym g ∙ e)); long = l }

  -- the same answer, stated with the checks before it, of the buffer at first
  restated : {stated stated' a : Answer} {w w₀ w' : List ℕ} → stated' ≡ stated → length w ≡ length w₀ → Leaves P stated a w w'
      → Leaves P stated' a w₀ w'
  restated e l x = record { answer = x.answer ∙ sym e; holds = x.holds; long = x.long ∙ l }

-- the front of a longer buffer, as it is lent and as it comes back, with the rest behind it; n as an index is a
module _ {n : ℕ} {L work : List ℕ} (x : Roomy n L work) {a : ℕ} (index : a ≡ n) where
  pub front_fits : a + 12 * elements L ≤ length work
  front_fits = omega (arith, x.room)

  pub front_long : length (take (a + 12 * elements L - 0) work) ≡ n + 12 * elements L
  front_long = simp length-take (omega (arith, x.room))

  pub front_sized : Sized n L (take (a + 12 * elements L - 0) work)
  front_sized = record { sizes = x.sizes; long = front_long }

  pub as_long : {stated t : Answer} {w : List ℕ} → Tabulated n L stated t (take (a + 12 * elements L - 0) work) w →
      length (w ++ drop (a + 12 * elements L - 0) work) ≡ length work
  as_long y = simp (length-append, length-drop) (omega (arith, y.long ∙ front_long, x.room))

-- the scratch buffer is the front of the work buffer
pub holds_front : (n : ℕ) (L w r : List ℕ) → length w ≡ n + 12 * elements L → borders L ≤ 4 * elements L → Holds n L w → Holds n L (w ++ r)
holds_front n L w r l b x =
    let front : (a k : ℕ) → a + k ≤ length w → part a k (w ++ r) ≡ part a k w =
    λ a k h. sym (part_take a k (length w) (w ++ r) h (simp length-append (omega arith))) ∙ ap (part a k) (take-append_seam w r) in
    record {
      vertices = front 0 n (omega arith) ∙ x.vertices;
      opposites = front n (4 * elements L) (omega arith) ∙ x.opposites;
      border = front (n + 4 * elements L) (borders L) (omega arith) ∙ x.border;
    }

-- checks 3 to 8 were made in the front of the work, which has become W, and t is their answer
pub record Scratched (n : ℕ) (L : List ℕ) (t : Answer) (work W : List ℕ) : Type 0 where
  pub stated : t ≡ list_answer n L
  pub holds : (k e : ℕ) → t ≡ gives k e → Holds n L W
  pub long : length W ≡ length work

-- n as an index is a
pub scratched : {n : ℕ} {L work : List ℕ} (x : Roomy n L work) {a : ℕ} (index : a ≡ n) {t : Answer} {w : List ℕ} →
    Tabulated n L (list_answer n L) t (take (a + 12 * elements L - 0) work) w → Scratched n L t work (w ++ drop (a + 12 * elements L - 0) work)
scratched {n} {L} x index {w = w} y =
    let few : borders L ≤ 4 * elements L = omega (arith, borders_bound L, ((means_sizes n L).says x.sizes).1.1) in
    record {
      stated = y.answer;
      holds = λ k e g. holds_front n L w _ (y.long ∙ front_long x index) few (y.holds k e g);
      long = as_long x index y;
    }

-- w₀ has become w, which holds the sibling map; n as an index is a
pub record Grouping (n a : ℕ) (L w₀ w : List ℕ) : Type 0 where
  pub index : a ≡ n
  pub mapped : Mapped a L w
  pub long : length w ≡ n + 12 * elements L
  pub same : length w ≡ length w₀

module _ {n a : ℕ} {L w : List ℕ} (here : Fit n L × (length w ≡ n + 12 * elements L)) (e : a ≡ n) where
  pub room : Room a L w
  room = rw e (record { fit = here.0; room = omega (arith, here.0.fours, here.1) })

  pub grouping : {w₁ : List ℕ} → Grouped a L w w₁ → Grouping n a L w w₁
  grouping x =
      record {
        index = e;
        mapped =
            record {
              fit = rw e here.0;
              room = omega (arith, x.kept.long, here.0.fours, here.1);
              siblings = x.siblings;
              empty = x.empty;
            };
        long = x.kept.long ∙ here.1;
        same = x.kept.long;
      }

-- checks 6 and 7 refused, or found nothing
module _ {n a : ℕ} {L w₀ w : List ℕ} (p : Grouping n a L w₀ w) {pairs : Answer} (checked : pairs ≡ pair_checks L (gives 0 0)) where
  pub pairs_refuse : {r s t : ℕ} → pairs ≡ refused r s t → Paired n L (fit_pairs L) pairs w₀ w
  pairs_refuse e =
      refuses e (pairs_refused L 0 0 _ (sym checked ∙ e)) p.same

  module _ {i j : ℕ} (g : pairs ≡ gives i j) where
    pub none_found : (crowded_side L ≡ 0) × (alike_side L ≡ 0)
    none_found = let (x, y, h) = pairs_passed L _ (sym checked ∙ g) in (x, y)

    pub still : Fit a L × (a ≤ length w)
    still = (p.mapped.fit, omega (arith, p.mapped.room))

    -- the least sides of the vertices are put into w, which becomes w₁
    pub gives_pairs : {w₁ : List ℕ} → Kept a w w₁ × Firsts a L w₁ → {f : ℕ} {r : Answer} → f ≡ clashing L → r ≡ gives f 0
        → Paired n L (fit_pairs L) r w₀ w₁
    gives_pairs (y, x) {f} q e =
        let (uncrowded, apart) = none_found in
        record {
          answer = e ∙ ap (λ (f : ℕ). gives f 0) q ∙ sym (pairs_clear L _ uncrowded apart);
          holds = λ k c z. record {
            mapped =
                rw (← p.index)
                (record {
                  fit = p.mapped.fit;
                  room = omega (arith, y.long, p.mapped.room);
                  siblings = λ s b. y.entries (a + slot s) (omega arith) ∙ p.mapped.siblings s b;
                  empty = λ q h d. y.entries (a + q) (omega arith) ∙ p.mapped.empty q h d;
                });
            firsts = rw p.index at x;
            uncrowded = uncrowded;
            apart = apart;
            long = y.long ∙ p.long;
          };
          long = y.long ∙ p.same;
        }

-- checks 3 and 4 refused, or the others follow
module _ {n : ℕ} {L w : List ℕ} {rows : Answer} (checked : rows ≡ row_checks n L (gives 0 0)) where
  pub rows_refuse : {r p q : ℕ} → rows ≡ refused r p q → Paired n L (list_pairs n L) rows w w
  rows_refuse e = refuses e (rows_refused n L _ _ (sym checked ∙ e) (λ g. absurd (gives_refused g))) refl

  pub rows_fit_lem : {k e : ℕ} → rows ≡ gives k e → Sized n L w → Fit n L × (length w ≡ n + 12 * elements L)
  rows_fit_lem g s = (fit_passed n L (gives 0 0) s.sizes (sym checked ∙ g), s.long)

  pub pairs_on : {k e : ℕ} {r : Answer} {w' : List ℕ} → rows ≡ gives k e → Paired n L (fit_pairs L) r w w' → Paired n L (list_pairs n L) r w w'
  pairs_on g x = let (y, z, i) = rows_passed n L _ (sym checked ∙ g) in restated (rows_clear n L _ y z) refl x

pub numbered_holds : {n a k c : ℕ} {L w w₁ : List ℕ} → a ≡ n → Numbered a L k c w w₁ → Holds n L w₁
numbered_holds e x =
    let y = rw e at x in record { vertices = y.vertices; opposites = y.opposites; border = y.border }

-- the tables stand in w₁, which w has become, and k and c are the numbers of border sides and of sides; n as an index is a
pub record Tabled (n a k c : ℕ) (L w w₁ : List ℕ) : Type 0 where
  pub ready : Ready n L w
  pub index : a ≡ n
  pub numbered : Numbered a L k c w w₁

module _ {n a k c : ℕ} {L w w₁ : List ℕ} (t : Tabled n a k c L w w₁) where
  abbrev r : Ready n L w
  r = t.ready

  abbrev e : a ≡ n
  e = t.index

  abbrev x : Numbered a L k c w w₁
  x = t.numbered

  pub standing : Standing n L w₁
  standing =
      let y = rw e at x in
      let fit = r.mapped.fit in
      record {
        fit = fit;
        pairing = the_pairing n L fit r.apart;
        sizes = record { vertices = fit.vertices; elements = fit.size; long = y.long ∙ r.long };
        vertices = y.vertices;
        opposites = y.opposites;
        linked = y.linked;
      }

  -- what is asked to decide check 8, and what its decision says
  pub to_decide : Standing a L w₁ × (c ≡ count_sides L (λ s. true))
  to_decide = (rw e standing, x.sides)

  pub not_ordered : {b : Bool} → Means b (unordered_vertex a L ≡ 0) → b ≡ false → unordered_vertex n L ≡ 0 → ⊥
  not_ordered m f z = subst T f (m.shows (rw e z))

  pub ordered : {b : Bool} → Means b (unordered_vertex a L ≡ 0) → b ≡ true → unordered_vertex n L ≡ 0
  ordered m b = rw e at (m.says (rw b tt))

  sides_bound : count_sides L (λ s. true) ≤ length L
  unfolding count_sides
  sides_bound = count_bound (side_with L (λ s. true)) (length L)

  pub few : c + k ≤ 8 * max_element
  few =
      let fit = r.mapped.fit in omega (arith, x.number, x.sides, borders_bound L, sides_bound, fit.fours, fit.size)

  pub refuses_8 : {v : ℕ} {w₂ : List ℕ} {b : Answer} → (unordered_vertex n L ≡ 0 → ⊥) → v ≡ unordered_vertex n L → length w₂ ≡ length w₁ → b ≡ refused 8 v 0
      → Tabulated n L (paired_answer n L) b w w₂
  refuses_8 d q l b = refuses b (rw q (check_refuses (unordered_vertex n L) _ _ d)) (l ∙ x.long)

  module _ (passed_8 : unordered_vertex n L ≡ 0) where
    -- check 18 by the element f, and by g for its other
    pub refuses_18 : {f g : ℕ} {b : Answer} → f ≡ clashing L → (f ≡ 0 → ⊥) → g ≡ clash_of L f → b ≡ refused 18 f g
        → Tabulated n L (paired_answer n L) b w w₁
    refuses_18 {f} p d q b =
        refuses b
        (check_clear (unordered_vertex n L) _ _ passed_8
        ∙ check_refuses (clashing L) _ _ (λ y. d (p ∙ y))
        ∙ sym (ap (refused 18 f) q ∙ ap (λ (f : ℕ). refused 18 f (clash_of L f)) p))
        x.long

    pub gives_tables : {f : ℕ} {b : Answer} → f ≡ clashing L → f ≡ 0 → b ≡ gives k ((c + k) / 2) → Tabulated n L (paired_answer n L) b w w₁
    unfolding edges
    gives_tables p y b =
        let counts =
        ap (λ (i : ℕ). gives i ((c + i) / 2)) x.number ∙ ap (λ (j : ℕ). gives (borders L) ((j + borders L) / 2)) x.sides in
        record {
          answer = b ∙ counts ∙ sym (check_clear (unordered_vertex n L) _ _ passed_8 ∙ check_clear (clashing L) _ _ (sym p ∙ y));
          holds = λ k c g. numbered_holds e x;
          long = x.long;
        }

-- what check 18 found is an element
pub clashes : (L : List ℕ) (f : ℕ) → f ≡ clashing L → (f ≡ 0 → ⊥) → Element L f
unfolding clashing
clashes L f e d = go (first_number_lem (elements L) (λ f. not (eqb (clash_of L f) 0)))
  where
    go : FirstNumber (elements L) (λ f. not (eqb (clash_of L f) 0)) (first_number (elements L) (λ f. not (eqb (clash_of L f) 0))) → Element L f
    go (FirstNumber.nobody z h) = absurd (d (e ∙ z))
    go (FirstNumber.somebody a b u h) = rw e (a, b)

pub walk_needs : {n a : ℕ} {L w : List ℕ} → Standing n L w → a ≡ n → Sizes a (elements L) w × Linked a (elements L) w
walk_needs s e = rw e (s.sizes, s.linked)

-- the walk over the tables in w leaves out the least vertex without a turn order
module _ {n a : ℕ} {L w w₂ : List ℕ} (s : Standing n L w) (e : a ≡ n) (y : Walking a (elements L) a w w₂) where
  -- the walk is over the list's own tables
  own : written n (elements L) w₂ ≡ walk (v2e n L) (wide L)
  unfolding walk
  own =
      (rw e at y).new
      ∙ ap (λ (X : List ℕ). walk_to X (e2e_in n (elements L) w) n) s.vertices
      ∙ ap (λ (X : List ℕ). walk_to (v2e n L) X n) s.opposites
      ∙ ap (walk_to (v2e n L) (wide L)) (sym (length_v2e L n))

  pub walked : Walked (a + 8 * elements L) L w₂
  walked =
      rw e
      (record {
        size = s.fit.size;
        fours = s.fit.fours;
        start = omega (arith, s.fit.vertices, s.fit.size);
        room = omega (arith, y.long, s.sizes.long, s.fit.fours);
        empty = λ p h d.
            ap (λ (X : List ℕ). at X p) own
            ∙ (walk_walked n L s.pairing).outside p (λ t b q. no_side_at n L s.fit p d (rw (ap side_at (sym q) ∙ side_at_slot L t b) b));
      })

  pub left_out : {v : ℕ} → v ≡ first_number n (missed L (drop (a + 8 * elements L) w₂)) → v ≡ unordered_vertex n L
  unfolding unordered_vertex
  left_out q = rw e at q ∙ ap (λ (X : List ℕ). first_number n (missed L X)) own

-- checks 3 to 7 refused, or the others follow
module _ {n : ℕ} {L w w₁ : List ℕ} {b : Answer} (x : Paired n L (list_pairs n L) b w w₁) where
  pub list_refuse : {r p q : ℕ} → b ≡ refused r p q → Tabulated n L (list_answer n L) b w w₁
  unfolding list_answer
  list_refuse e =
      refuses e (rows_refused n L _ _ (sym x.answer ∙ e) (pairs_refused L (clashing L) 0 _)) x.long

  module _ {f e : ℕ} (g : b ≡ gives f e) where
    pub passed : (unfit_corner n L ≡ 0) × (repeated_corner L ≡ 0) × (crowded_side L ≡ 0) × (alike_side L ≡ 0) × (gives (clashing L) 0 ≡ gives f e)
    passed =
        let (p, q, h) = rows_passed n L _ (sym x.answer ∙ g) in
        let (r, s, j) = pairs_passed L _ h in (p, q, r, s, j)

    pub pairs_found : Ready n L w₁ × (f ≡ clashing L)
    pairs_found = (x.holds f e g, (let h = passed.4 in cc))

    pub list_on : {c : Answer} {w₂ : List ℕ} → Tabulated n L (paired_answer n L) c w₁ w₂ → Tabulated n L (list_answer n L) c w w₂
    unfolding list_answer
    list_on y =
        let (p, q, r, s, j) = passed in restated (rows_clear n L _ p q ∙ pairs_clear L _ r s) x.long y
