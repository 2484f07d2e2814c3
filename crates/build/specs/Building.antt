-- What build leaves in the tables.
-- Assumes nothing.
use Rattle.std.specs.Prelude.{◌≡◌, refl, true, false, ◌⊎◌, ℕ, ◌+◌, ◌*◌, ◌-◌, ◌≤◌, ◌<◌, T, eqb, length, take, drop}
use Rattle.std.proofs.Math.Path.{ap, sym}
use Rattle.std.proofs.Common.{subst, ◌∙◌, arith, length-take, length-append, length-drop}
use mathlib.Core.List.{List, ◌++◌}
use Rattle.std.proofs.Math.ListN.{replicate}
use Rattle.std.proofs.Math.Seq.{take-append_seam}
use Rattle.lists.specs.TestLaws.{means_eq}
use Rattle.lists.specs.Parts.{part, part_take}
use Rattle.rules.specs.Elements.{max_vertex, max_element, elements}
use Rattle.rules.specs.Pairing.{sizes_fit, unfit_corner, repeated_corner}
use Rattle.rules.specs.Tables.{borders, edges, b2e, columns, e2e, v2e}
use Rattle.rules.specs.Refusals.{Answer, gives, refused, Buffers, build_lengths, build_answer, build_leaves}
use Rattle.rules.specs.Refusals.{room_check, list_answer, after, onto, crowded_side, alike_side, unordered_vertex, clashing}
use Rattle.theory.specs.FitRows.{means_sizes}
use Rattle.theory.specs.Columns.{three_or_four, narrowed, narrow_wide}
use Rattle.theory.specs.Built.{borders_bound}
use Rattle.theory.specs.Answers.{room_enough, room_short, past_check}
use Rattle.theory.specs.Calls.{lengths_known}
use Rattle.theory.specs.Calls as calls
use Rattle.buffers.specs.Whole.{onto_full}
use Rattle.tabulate.specs.Results.{Roomy, Scratched}

-- the four buffers
abbrev pub lent : List ℕ → List ℕ → List ℕ → List ℕ → Buffers
lent V2e E2e B2e work = record { vertices = V2e; opposites = E2e; border = B2e; work = work }

-- the answer of checks 3 to 9, and the tables after it
pub record Built (n : ℕ) (L : List ℕ) (a : Answer) (V2e E2e B2e V2e' E2e' B2e' : List ℕ) : Type 0 where
  pub answer : a ≡ room_check (length B2e) (list_answer n L)
  pub vertices : V2e' ≡ after a (v2e n L) V2e
  pub opposites : E2e' ≡ after a (e2e L) E2e
  pub border : B2e' ≡ after a (onto (b2e L) B2e) B2e

-- the parts of the work buffer in the three tables, E2e in c columns, the rest of B2e as it was
pub record Copied (n c m k : ℕ) (w B2e V2e' E2e' B2e' : List ℕ) : Type 0 where
  pub vertices : V2e' ≡ take n w
  pub opposites : E2e' ≡ narrowed c (part n (4 * m) w)
  pub border : B2e' ≡ onto (part (n + 4 * m) k w) B2e

-- copies from the work buffer: from its start, and from a to e
front_copied : (n : ℕ) (w out new : List ℕ) → n ≤ length w → length out ≡ n → new ≡ onto (take (n - 0) w) out → new ≡ take n w
front_copied n w out new h l e =
    let z : n - 0 ≡ n = omega arith in
    e ∙ onto_full (take (n - 0) w) out (simp length-take (omega arith)) ∙ ap (λ (k : ℕ). take k w) z

part_copied : (a e k : ℕ) (w out new : List ℕ) → e ≡ a + k → new ≡ onto (take (e - a) (drop a w)) out → new ≡ onto (part a k w) out
part_copied a e k w out new h q =
    let z : e - a ≡ k = omega arith in q ∙ ap (λ (i : ℕ). onto (take i (drop a w)) out) z

-- what is asked of the lengths before the tables are copied
abbrev pub Lengths : ℕ → ℕ → ℕ → ℕ → List ℕ → List ℕ → List ℕ → List ℕ → Type 0
Lengths n c m k w V2e E2e B2e =
    (n + 4 * m + k ≤ length w) × (length V2e ≡ n) × (length E2e ≡ c * m) × (k ≤ length B2e)

module _ (n c m k : ℕ) (w V2e E2e B2e : List ℕ) (long : Lengths n c m k w V2e E2e B2e) where
  pub copied : {V2e' E2e' B2e' : List ℕ} → V2e' ≡ onto (take (n - 0) w) V2e → E2e' ≡ narrowed c (take (n + 4 * m - n) (drop n w))
      → B2e' ≡ onto (take (n + 4 * m + k - (n + 4 * m)) (drop (n + 4 * m) w)) B2e → Copied n c m k w B2e V2e' E2e' B2e'
  copied {V2e'} {E2e'} {B2e'} x y z =
      let four : n + 4 * m - n ≡ 4 * m = omega arith in
      record {
        vertices = front_copied n w V2e V2e' (omega arith) long.1 x;
        opposites = y ∙ ap (λ (i : ℕ). narrowed c (take i (drop n w))) four;
        border = part_copied (n + 4 * m) (n + 4 * m + k) k w B2e B2e' refl z;
      }

pub counts_are : (n : ℕ) (L : List ℕ) (k e : ℕ) → list_answer n L ≡ gives k e → k ≡ borders L
unfolding list_answer
counts_are n L k e g =
    let h : gives (borders L) (edges L) ≡ gives k e =
    (past_check (clashing L) k e _ _ _ _
    (past_check (unordered_vertex n L) k e _ _ _ _
    (past_check (alike_side L) k e _ _ _ _
    (past_check (crowded_side L) k e _ _ _ _
    (past_check (repeated_corner L) k e _ _ _ _ (past_check (unfit_corner n L) k e _ _ _ _ g).1).1).1).1).1).1 in
    cc

-- checks 1 and 2 found nothing; of the work buffer, the checks and tables use this much
pub record Checked (n : ℕ) (L V2e E2e work : List ℕ) : Type 0 where
  pub sizes : T (sizes_fit n L)
  pub vertices : n ≤ max_vertex
  pub size : elements L ≤ max_element
  pub fours : length L ≡ 4 * elements L
  pub v2e_long : length V2e ≡ n
  pub e2e_long : length E2e ≡ columns L * elements L
  pub room : n + 12 * elements L ≤ length work

pub checked : (n : ℕ) (L V2e E2e B2e work : List ℕ) → sizes_fit n L ≡ true → build_lengths n L (lent V2e E2e B2e work) ≡ true → Checked n L V2e E2e work
unfolding build_lengths
checked n L V2e E2e B2e work s l =
    let sizes : T (sizes_fit n L) = rw s tt in
    let (a, (b, c)) = (means_sizes n L).says sizes in
    let (v, e, r) = lengths_known n (elements L) (eqb (length E2e) (columns L * elements L)) V2e work l in
    record { sizes = sizes; vertices = a; size = b; fours = c; v2e_long = v; e2e_long = (means_eq _ _).says e; room = omega (arith, r) }

-- the work has room for them
pub roomy : {n : ℕ} {L V2e E2e work : List ℕ} → Checked n L V2e E2e work → Roomy n L work
roomy x = record { sizes = x.sizes; room = x.room }

-- a refusal leaves the tables as they were
module _ {n : ℕ} {L : List ℕ} {t : Answer} {work W : List ℕ} (s : Scratched n L t work W) {V2e E2e B2e : List ℕ} where
  unchanged : {a : Answer} {r p q : ℕ} → a ≡ refused r p q → a ≡ room_check (length B2e) (list_answer n L) → Built n L a V2e E2e B2e V2e E2e B2e
  unfolding after
  unchanged e f =
      record {
        answer = f;
        vertices = sym (ap (λ (x : Answer). after x (v2e n L) V2e) e);
        opposites = sym (ap (λ (x : Answer). after x (e2e L) E2e) e);
        border = sym (ap (λ (x : Answer). after x (onto (b2e L) B2e) B2e) e);
      }

  -- checks 3 to 8 refused
  pub refused_on : {r p q : ℕ} → t ≡ refused r p q → Built n L t V2e E2e B2e V2e E2e B2e × (length W ≡ length work)
  unfolding room_check
  refused_on e = (unchanged e (e ∙ sym (ap (room_check (length B2e)) (sym s.stated ∙ e))), s.long)

  -- B2e is shorter than k, which as an index is i
  pub short_on : {k e i : ℕ} {a : Answer} → t ≡ gives k e → i ≡ k → length B2e < i → a ≡ refused 9 k 0 → Built n L a V2e E2e B2e V2e E2e B2e × (length W ≡ length work)
  short_on {k} {e} g q h f =
      let short = ap (room_check (length B2e)) (sym s.stated ∙ g) ∙ room_short (length B2e) k e (omega arith) in
      (unchanged f (f ∙ sym short), s.long)

-- the counts k and e: the tables are copied out; n and k as indices are a and i
module _ {n k e : ℕ} {L V2e E2e work W : List ℕ} {t : Answer} (x : Checked n L V2e E2e work) (s : Scratched n L t work W) (g : t ≡ gives k e)
    {a i : ℕ} (index : a ≡ n) (count : i ≡ k) (B2e : List ℕ) (enough : i ≤ length B2e) where
  number : k ≡ borders L
  number = counts_are n L k e (sym s.stated ∙ g)

  -- c is the number of the list's columns
  module _ {c : ℕ} (columned : c ≡ columns L) where
    pub commits : Lengths a c (elements L) i W V2e E2e B2e × ((a ≤ max_vertex) × (elements L ≤ max_element) × ((c ≡ 3) ⊎ (c ≡ 4)))
    commits = (
      (
        omega (arith, x.room, s.long, number, borders_bound L, x.fours),
        x.v2e_long ∙ sym index,
        x.e2e_long ∙ ap (λ (j : ℕ). j * elements L) (sym columned),
        enough,
      ),
      (omega (arith, x.vertices), x.size, subst (λ (j : ℕ). (j ≡ 3) ⊎ (j ≡ 4)) (sym columned) (three_or_four L)),
    )

    pub counts_on : {V2e' E2e' B2e' : List ℕ} → Copied a c (elements L) i W B2e V2e' E2e' B2e' → Built n L (gives k e) V2e E2e B2e V2e' E2e' B2e' × (length W ≡ length work)
    unfolding after
    counts_on {V2e'} {E2e'} {B2e'} z =
        let y : Copied n (columns L) (elements L) (borders L) W B2e V2e' E2e' B2e' = rw (index, count, number, columned) at z in
        let h = s.holds k e g in (
          record {
            answer = sym (room_enough (length B2e) k e (omega arith)) ∙ ap (room_check (length B2e)) (sym g ∙ s.stated);
            vertices = y.vertices ∙ h.vertices;
            opposites = y.opposites ∙ ap (narrowed (columns L)) h.opposites ∙ narrow_wide L;
            border = y.border ∙ ap (λ (b : List ℕ). onto b B2e) h.border;
          },
          s.long,
        )

-- the whole call
module _ (n : ℕ) (L V2e E2e B2e work : List ℕ) where
  abbrev w : Buffers
  w = lent V2e E2e B2e work

  -- by its answer, and by what the work holds
  leaves : Answer → List ℕ → Buffers
  leaves a = lent (after a (v2e n L) V2e) (after a (e2e L) E2e) (after a (onto (b2e L) B2e) B2e)

  abbrev pub Whole : Answer → Buffers → Type 0
  Whole a w' = (a ≡ build_answer n L w) × (w' ≡ build_leaves n L w)

  pub unsized : {a : Answer} → sizes_fit n L ≡ false → a ≡ refused 1 0 0 → Whole a w
  unfolding leaves after build_answer build_leaves
  unsized = calls.unsized leaves (sizes_fit n L) (build_lengths n L w) _ work

  pub unlengthened : {a : Answer} → sizes_fit n L ≡ true → build_lengths n L w ≡ false → a ≡ refused 2 0 0 → Whole a w
  unfolding leaves after build_answer build_leaves
  unlengthened = calls.unlengthened leaves (sizes_fit n L) (build_lengths n L w) _ work

  pub built : {a : Answer} {V2e' E2e' B2e' work' : List ℕ} {l : ℕ} → (sizes_fit n L ≡ true) × (build_lengths n L w ≡ true) →
      Built n L a V2e E2e B2e V2e' E2e' B2e' × (l ≡ length work) → work' ≡ replicate l 0 → Whole a (lent V2e' E2e' B2e' work')
  unfolding leaves build_answer build_leaves
  built {a} {work' = work'} fit (x, long) z =
      let (e, f) = calls.cleared leaves (sizes_fit n L) (build_lengths n L w) _ work fit x.answer (z ∙ ap (λ (k : ℕ). replicate k 0) long) in
      (e, (λ i. lent (x.vertices i) (x.opposites i) (x.border i) work') ∙ f)
