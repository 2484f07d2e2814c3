-- What a swap leaves on its way.
-- Assumes nothing.
use Rattle.std.specs.Prelude.{◌≡◌, refl, Bool, true, false, ◌⊎◌, ℕ, ◌+◌, ◌*◌, ◌/◌, ◌%◌, ◌≤◌, eqb}
use Rattle.std.proofs.Math.Path.{ap, sym}
use Rattle.std.proofs.Common.{◌∙◌, inl, inr, arith}
use mathlib.Core.List.{List, [], ◌∷◌}
use Rattle.std.proofs.Math.Dec.{not_T}
use Rattle.std.proofs.Math.ListN.{length, take}
use Rattle.std.proofs.Math.Seq.{take_all}
use Rattle.lists.specs.Tests.{both}
use Rattle.lists.specs.TestLaws.{zero_or, Test, pass, fail, test, true_of, false_of, means_not}
use Rattle.lists.specs.Search.{at}
use Rattle.rules.specs.Elements.{elements, row, sides, is_side, Side, slot, origin, previous_number, previous}
use Rattle.rules.specs.Tables.{partner, is_border, columns, wide, v2e, e2e}
use Rattle.rules.specs.Refusals.{Answer, gives, refused, list_answer, room_check}
use Rattle.edit_rules.specs.Edits.{becomes, refuses, over_old, with_row, written, is_there}
use Rattle.edit_rules.specs.Swap.{third, flipped, swapped, is_swappable, swap}
use Rattle.theory.specs.Sides.{side_facts}
use Rattle.theory.specs.Steps.{previous_numbered}
use Rattle.theory.specs.FitRows.{Fit, means_sizes}
use Rattle.theory.specs.Entries.{length_v2e, means_border, wide_paired}
use Rattle.theory.specs.Columns.{length_e2e}
use Rattle.theory.specs.Edits.{over_longer}
use Rattle.theory.specs.Rows.{row_itself, rows_alike}
use Rattle.theory.specs.Replacing.{Replaced, same_columns, same_size}
use Rattle.theory.specs.Swapping.{Diagonal, means_swappable, across, swapped_replaced}
use Rattle.halfedge.specs.Rows.{row_of, corner_of, previous_side, row_at, row_corner, row_turned}
use Rattle.buffers.specs.Whole.{onto_full}
use Rattle.tabulate.specs.Results.{Scratched}
use Rattle.build.specs.Building.{Built, Checked}
use Rattle.edits.specs.Holding.{lent_edit}
use Rattle.edits.specs.Leaving.{tight, after_refusal, after_answer, Left, accepted_fit}

-- what is read of side s in the row of its element: its origin, and the corner before
module _ (L : List ℕ) (s : ℕ) (a : Side L s) where
  abbrev r : List ℕ
  r = row_of (row L (s / 8))

  pub reads_origin : corner_of r (s % 8) ≡ origin L s
  unfolding origin slot
  reads_origin = let i = side_facts L s a in row_corner L (s / 8) (s % 8) i.number_from i.number_four

  pub reads_third : corner_of r (previous_side r (s % 8)) ≡ third L s
  unfolding third origin slot previous
  reads_third =
      let i = side_facts L s a in
      let b = previous_numbered L s a in
      let j = side_facts L (previous L s) b.side in
      let q = previous_number (sides L (s / 8)) (s % 8) in
      let e : (8 * (s / 8) + q) / 8 ≡ s / 8 = b.same in
      let d : (8 * (s / 8) + q) % 8 ≡ q = b.index in
      ap (corner_of r) (row_turned L (s / 8) previous_number (s % 8) i.number_from i.number_to)
      ∙ row_corner L (s / 8) q (omega (arith, j.number_from)) (omega (arith, j.number_four))
      ∙ ap (at L) (omega arith)

-- s is a diagonal of fit rows, and t its partner
pub record Flips (L : List ℕ) (s t : ℕ) : Type 0 where
  pub n : ℕ
  pub fit : Fit n L
  pub diagonal : Diagonal L s
  pub partnered : t ≡ partner L s

module _ {L : List ℕ} {s t : ℕ} (x : Flips L s t) where
  pub side_t : Side L t
  side_t = rw x.partnered (across x.n L x.fit s x.diagonal).0

  pub replaced : Replaced L (swapped L s) (s / 8) (t / 8)
  replaced = rw x.partnered (swapped_replaced x.n L x.fit s x.diagonal)

  -- both rows are there
  pub inside : (1 ≤ s / 8) × (4 * (s / 8) ≤ length L) × (1 ≤ t / 8) × (4 * (t / 8) ≤ length L)
  inside =
      let a = replaced.mine in
      let b = replaced.other in
      (a.0, omega (arith, a.1), b.0, omega (arith, b.1))

  -- the two rows, each by what was read: those of s with number i in element f, those of t with number j in element g
  module _ {f g i j : ℕ} (ef : f ≡ s / 8) (ei : i ≡ s % 8) (eg : g ≡ t / 8) (ej : j ≡ t % 8) {r o : List ℕ} (er : r ≡ row_of (row L f)) (eo : o ≡ row_of (row L g)) where
    reads : (corner_of r i ≡ origin L s) × (corner_of r (previous_side r i) ≡ third L s) × (corner_of o j ≡ origin L t) × (corner_of o (previous_side o j) ≡ third L t)
    reads =
        let a = x.diagonal.side in
        rw (er, eo, ef, ei, eg, ej) (reads_origin L s a, reads_third L s a, reads_origin L t side_t, reads_third L t side_t)

    pub flips : {c d : ℕ} {new new' M N : List ℕ} → c ≡ corner_of r (previous_side r i) → d ≡ corner_of o (previous_side o j)
        → new ≡ corner_of r (previous_side r i) ∷ corner_of r i ∷ d ∷ 0 ∷ [] → new' ≡ corner_of o (previous_side o j) ∷ corner_of o j ∷ c ∷ 0 ∷ []
        → M ≡ with_row f (row_of new) L → N ≡ with_row g (row_of new') M → N ≡ swapped L s
    unfolding swapped flipped
    flips {c} {d} {new} {new'} {M} {N} ec ed en en' em eN =
        let (p, q, u, v) = reads in
        let first : row_of new ≡ flipped L s t = ap row_of en ∙ (rw (ed, p, q, v) refl) in
        let second : row_of new' ≡ flipped L t s = ap row_of en' ∙ (rw (ec, u, v, q) refl) in
        eN
        ∙ ap (with_row g (row_of new')) em
        ∙ (λ k. with_row (eg k) (second k) (with_row (ef k) (first k) L))
        ∙ ap (λ (y : ℕ). with_row (y / 8) (flipped L y s) (with_row (s / 8) (flipped L s y) L)) x.partnered

  -- and put back
  pub puts_back : {f g : ℕ} {r o L₁ M N : List ℕ} → f ≡ s / 8 → g ≡ t / 8 → r ≡ row_of (row L f) → o ≡ row_of (row L g)
      → L₁ ≡ swapped L s → M ≡ with_row f (row_of r) L₁ → N ≡ with_row g (row_of o) M → N ≡ L
  puts_back {f} {g} {r} {o} ef eg er eo e em eN =
      let f_row = row_of (row L (s / 8)) in
      let g_row = row_of (row L (t / 8)) in
      let y = replaced in
      eN
      ∙ ap (with_row g (row_of o)) (em ∙ ap (with_row f (row_of r)) e)
      ∙ (rw (er, eo, ef, eg) refl)
      ∙ rows_alike (s / 8) (t / 8) f_row g_row L (swapped L s) refl refl y.mine y.other y.long y.rest
      ∙ ap (with_row (t / 8) g_row) (row_itself (s / 8) f_row L refl y.mine (row_at L (s / 8)))
      ∙ row_itself (t / 8) g_row L refl y.other (row_at L (t / 8))

-- a buffer that holds as many entries as before, to its end
pub over_full : (old : ℕ) (xs buffer : List ℕ) → length xs ≡ old → length xs ≡ length buffer → over_old old xs buffer ≡ xs
over_full old xs buffer e f = over_longer old xs buffer (omega arith) ∙ onto_full xs buffer f

-- the lists and lengths of a swap
pub record ToSwap (n : ℕ) (L V2e E2e work : List ℕ) (s t : ℕ) : Type 0 where
  pub checked : Checked n L V2e E2e work
  pub flips : Flips L s t

module _ {n : ℕ} {L V2e E2e work : List ℕ} {s t : ℕ} (x : ToSwap n L V2e E2e work s t) where
  abbrev L' : List ℕ
  L' = swapped L s

  same : Replaced L L' (s / 8) (t / 8)
  same = replaced x.flips

  pub checked_new : Checked n L' V2e E2e work
  checked_new =
      let c = x.checked in
      let m = same_size same in
      record {
        sizes = (means_sizes n L').shows (c.vertices, (omega (arith, c.size, m), omega (arith, c.fours, m, same.long)));
        vertices = c.vertices;
        size = omega (arith, c.size, m);
        fours = omega (arith, c.fours, m, same.long);
        v2e_long = c.v2e_long;
        e2e_long = c.e2e_long ∙ (λ k. sym (same_columns same) k * sym m k);
        room = omega (arith, c.room, m);
      }

  pub columned_new : {c : ℕ} → c ≡ columns L → c ≡ columns L'
  columned_new e = e ∙ sym (same_columns same)

  -- the new list, in the caller's list as L₁, was tried
  module _ {L₁ : List ℕ} (is : L₁ ≡ L') {a : Answer} {B2e V2e' E2e' B2e' : List ℕ} (made : Built n L₁ a V2e E2e B2e V2e' E2e' B2e') where
    b : Built n L' a V2e E2e B2e V2e' E2e' B2e'
    b = rw is at made

    abbrev LeftHere : List ℕ → Type 0
    LeftHere L₂ = Left (room_check (length B2e) (list_answer n L')) a (tight n L V2e E2e B2e) (becomes n L') (tight n L₂ V2e' E2e' B2e')

    pub late : {r p q : ℕ} {L₂ : List ℕ} → a ≡ refused r p q → L₂ ≡ L → LeftHere L₂
    late e f =
        let v = b.vertices ∙ after_refusal _ _ e in
        let o = b.opposites ∙ after_refusal _ _ e in
        let d = b.border ∙ after_refusal _ _ e in
        let w = tight n L V2e E2e B2e in
        record { answer = b.answer; leaves = (λ k. tight n (f k) (v k) (o k) (d k)) ∙ sym (after_refusal (written w (becomes n L')) w e) }

    pub done : {k e : ℕ} → a ≡ gives k e → LeftHere L₁
    unfolding written
    done g =
        let c = checked_new in
        let all : take (4 * elements L) L ≡ L = take_all (4 * elements L) L (omega (arith, x.checked.fours)) in
        let wide : length (e2e L') ≡ columns (take (4 * elements L) L) * elements L =
        length_e2e L' ∙ sym c.e2e_long ∙ x.checked.e2e_long ∙ ap (λ (X : List ℕ). columns X * elements L) (sym all) in
        let l = is ∙ sym (over_full (4 * elements L) L' L (omega (arith, same.long, x.checked.fours)) same.long) in
        let v = b.vertices ∙ after_answer _ _ g ∙ sym (over_full n (v2e n L') V2e (length_v2e L' n) (length_v2e L' n ∙ sym c.v2e_long)) in
        let o = b.opposites ∙ after_answer _ _ g ∙ sym (over_full (columns (take (4 * elements L) L) * elements L) (e2e L') E2e wide (length_e2e L' ∙ sym c.e2e_long)) in
        let d = b.border ∙ after_answer _ _ g in
        let m = ap elements is in
        let w = tight n L V2e E2e B2e in
        record {
          answer = b.answer;
          leaves = (λ k. lent_edit n (m k) (l k) (v k) (o k) (d k) []) ∙ sym (after_answer (written w (becomes n L')) w g);
        }

-- what the tests say of side s: no side, a border side, or by its two elements
pub not_side : (L : List ℕ) (s : ℕ) → is_side L s ≡ false → false ≡ is_swappable L s
unfolding is_swappable
not_side L s e = sym (rw e refl)

pub at_border : (L : List ℕ) (s : ℕ) → partner L s ≡ 0 → false ≡ is_swappable L s
at_border L s z = sym (false_of (is_swappable L s) (not_T (is_swappable L s) (λ t. ((means_swappable L s).says t).paired z)))

pub by_triangles : (L : List ℕ) (s : ℕ) → Side L s → (partner L s ≡ 0 → ⊥) → is_swappable L s ≡ both (eqb (sides L (s / 8)) 3) (eqb (sides L (partner L s / 8)) 3)
unfolding is_swappable
by_triangles L s a d = rw (true_of (is_side L s) a, false_of (is_border L s) ((means_not (means_border L s)).shows d)) refl

pub not_triangle : (L : List ℕ) (s : ℕ) → Side L s → eqb (sides L (s / 8)) 3 ≡ false → false ≡ is_swappable L s
not_triangle L s a e = go (zero_or (partner L s))
  where
    go : (partner L s ≡ 0) ⊎ (partner L s ≡ 0 → ⊥) → false ≡ is_swappable L s
    go (inl z) = at_border L s z
    go (inr d) =
        sym (by_triangles L s a d ∙ ap (λ (b : Bool). both b (eqb (sides L (partner L s / 8)) 3)) e)

-- the edit by its two tests
module _ (n : ℕ) (L : List ℕ) (s : ℕ) where
  pub gone : is_there L s ≡ false → swap n L s ≡ refuses 11
  unfolding swap
  gone e = rw (e, swap)

  pub unfit : is_there L s ≡ true → is_swappable L s ≡ false → swap n L s ≡ refuses 15
  unfolding swap
  unfit e d = rw (e, d, swap)

  pub swaps : is_there L s ≡ true → is_swappable L s ≡ true → swap n L s ≡ becomes n (swapped L s)
  unfolding swap
  swaps e d = rw (e, d, swap)

  -- it refuses by 11 or 15, and a list comes only of a diagonal
  pub refuses_by : {r : ℕ} → swap n L s ≡ refuses r → (r ≡ 11) ⊎ (r ≡ 15)
  refuses_by {r} e = go (test (is_there L s)) (test (is_swappable L s))
    where
      go : Test (is_there L s) → Test (is_swappable L s) → (r ≡ 11) ⊎ (r ≡ 15)
      go (fail t f) c = let d = sym (gone f) ∙ e in inl cc
      go (pass t f) (fail u g) = let d = sym (unfit f g) ∙ e in inr cc
      go (pass t f) (pass u g) = let d = sym (swaps f g) ∙ e in let z : ◌≡◌ {A = ℕ} 0 1 = cc in absurd (omega arith)

  pub becomes_swapped : {n' : ℕ} {L' : List ℕ} → swap n L s ≡ becomes n' L' → Diagonal L s × (n ≡ n') × (swapped L s ≡ L')
  becomes_swapped {n'} {L'} e = go (test (is_there L s)) (test (is_swappable L s))
    where
      go : Test (is_there L s) → Test (is_swappable L s) → Diagonal L s × (n ≡ n') × (swapped L s ≡ L')
      go (fail t f) c = let g = sym (gone f) ∙ e in let z : ◌≡◌ {A = ℕ} 0 1 = cc in absurd (omega arith)
      go (pass t f) (fail u h) = let g = sym (unfit f h) ∙ e in let z : ◌≡◌ {A = ℕ} 0 1 = cc in absurd (omega arith)
      go (pass t f) (pass u h) = let g = sym (swaps f h) ∙ e in ((means_swappable L s).says u, cc, cc)

-- the old list was tried in the front of the work, which has become W: it is accepted
module _ {n : ℕ} {L V2e E2e work : List ℕ} (x : Checked n L V2e E2e work) {t : Answer} {W : List ℕ} (y : Scratched n L t work W) {k e : ℕ} (g : t ≡ gives k e) where
  -- the code is a diagonal's, and p what E2e says of it
  pub to_swap : (s : ℕ) {p : ℕ} → is_swappable L s ≡ true → p ≡ at (wide L) (slot s) → ToSwap n L V2e E2e W s p
  to_swap s f h =
      let d = (means_swappable L s).says (rw f tt) in
      record {
        checked =
            record {
              sizes = x.sizes;
              vertices = x.vertices;
              size = x.size;
              fours = x.fours;
              v2e_long = x.v2e_long;
              e2e_long = x.e2e_long;
              room = omega (arith, x.room, y.long);
            };
        flips = record { n = n; fit = accepted_fit n L x.sizes (sym y.stated ∙ g); diagonal = d; partnered = h ∙ wide_paired L s d.side d.paired };
      }
