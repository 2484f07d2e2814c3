-- Two lists that differ by the diagonal of two triangles: every side but the diagonal has a counterpart that runs as it does, and is a border
-- exactly where that is one.
-- Assumes nothing.
use Rattle.std.specs.Prelude.{◌≡◌, refl, ◌⊎◌, List, ℕ, ◌+◌, ◌*◌, ◌/◌, T}
use Rattle.std.proofs.Math.Path.{ap, sym}
use Rattle.std.proofs.Common.{◌∙◌, inl, inr, arith}
use Rattle.lists.specs.TestLaws.{Means, decide, means_eq}
use Rattle.rules.specs.Elements.{sides_by, Side, origin, next, previous, destination}
use Rattle.rules.specs.Pairing.{Pairing, opposed}
use Rattle.rules.specs.Tables.{partner, is_border}
use Rattle.theory.specs.Least.{means_none}
use Rattle.theory.specs.Steps.{next_numbered, previous_numbered, next_previous, next_differs}
use Rattle.theory.specs.Pairings.{means_opposed, means_joins, opposed_sym}
use Rattle.theory.specs.Entries.{means_border}
use Rattle.theory.specs.Triangles.{Runs, TriangleSide, Around, itself, after, before, around, next_runs, previous_runs, third_side}
use Rattle.theory.specs.Replacing.{Replaced, same_size, side_still, side_before, same_origin, same_destination}

-- two triangles with a common side: s from a to b with the third corner c, t from b to a with the third corner d
pub record Diamond (L : List ℕ) (s t a b c d : ℕ) : Type 0 where
  pub one : TriangleSide L s a b c
  pub other : TriangleSide L t b a d
  pub apart : s / 8 ≡ t / 8 → ⊥

-- what runs in L' as side r does in L, and is neither s nor t; where the elements of s and t count as one, it is in the element of r
pub record Counterpart (L : List ℕ) (r : ℕ) (L' : List ℕ) (s t : ℕ) : Type 0 where
  pub code : ℕ
  pub runs : Runs L' code (origin L r) (destination L r)
  pub not_one : code ≡ s → ⊥
  pub not_other : code ≡ t → ⊥
  pub home : (h : ℕ → ℕ) → h (s / 8) ≡ h (t / 8) → h (r / 8) ≡ h (code / 8)

-- the sides of all elements but those of s and t have counterparts other than s' and t'
abbrev Elsewhere : List ℕ → ℕ → ℕ → List ℕ → ℕ → ℕ → Type 0
Elsewhere L s t L' s' t' = (r : ℕ) → Side L r → (r / 8 ≡ s / 8 → ⊥) → (r / 8 ≡ t / 8 → ⊥) → Counterpart L r L' s' t'

-- the elements of s and t are those of s' and t'
abbrev Kept : ℕ → ℕ → ℕ → ℕ → Type 0
Kept s t s' t' = (h : ℕ → ℕ) → h (s' / 8) ≡ h (t' / 8) → (h (s / 8) ≡ h (s' / 8)) × (h (t / 8) ≡ h (t' / 8))

-- two lists that differ by the diagonal of two triangles: in L it joins a and b, in L' d and c
pub record Swapped (L : List ℕ) (s t : ℕ) (L' : List ℕ) (s' t' a b c d : ℕ) : Type 0 where
  pub old : Diamond L s t a b c d
  pub new : Diamond L' s' t' d c a b
  pub kept : Kept s t s' t'
  kept_back : Kept s' t' t s
  there : Elsewhere L s t L' s' t'
  back : Elsewhere L' s' t' L t s

-- the two sides of a diagonal exchanged, and the two lists
pub exchanged : {L : List ℕ} {s t a b c d : ℕ} → Diamond L s t a b c d → Diamond L t s b a d c
exchanged x = record { one = x.other; other = x.one; apart = λ e. x.apart (sym e) }

abbrev other_way : {L L' : List ℕ} {r s t : ℕ} → Counterpart L r L' s t → Counterpart L r L' t s
other_way c =
    record { code = c.code; runs = c.runs; not_one = c.not_other; not_other = c.not_one; home = λ h e. c.home h (sym e) }

pub reversed : {L L' : List ℕ} {s t s' t' a b c d : ℕ} → Swapped L s t L' s' t' a b c d → Swapped L' s' t' L t s d c a b
reversed x =
    record {
      old = x.new;
      new = exchanged x.old;
      kept = x.kept_back;
      kept_back = λ h e. let (p, q) = x.kept h (sym e) in (q, p);
      there = x.back;
      back = λ r w e f. other_way (x.there r w f e);
    }

-- a side is a border where none is opposed to it
means_unopposed : (L : List ℕ) (r : ℕ) → Means (is_border L r) ((u : ℕ) → Side L u → T (opposed L r u) → ⊥)
unfolding is_border partner
means_unopposed L r = means_none L (opposed L r)

module _ {L : List ℕ} {s t a b c d : ℕ} (x : Diamond L s t a b c d) where
  pub across : T (opposed L s t)
  across =
      let y = x.one.runs in
      let z = x.other.runs in
      (means_opposed L s t).shows (y.from ∙ sym z.to, y.to ∙ sym z.from)

  module _ (p : Pairing L (partner L)) where
    opposed_paired : (r : ℕ) → Side L r → (s ≡ r → ⊥) → T (opposed L s r) → partner L s ≡ r
    opposed_paired r w d y = p.paired s r x.one.runs.side w d ((means_joins L s r).shows (inr y))

    -- s is paired with t
    pub paired_across : partner L s ≡ t
    paired_across = opposed_paired t x.other.runs.side (λ e. x.apart (ap (λ (v : ℕ). v / 8) e)) across

    -- nothing but t is opposed to s: s would be paired with both
    no_third : {L₀ : List ℕ} {r : ℕ} → (u : Counterpart L₀ r L s t) → T (opposed L u.code s) → ⊥
    no_third u o =
        let first = opposed_paired u.code u.runs.side (λ e. u.not_one (sym e)) (opposed_sym L u.code s o) in
        u.not_other (sym first ∙ paired_across)

same_run : {L L' : List ℕ} {r u a b : ℕ} → Runs L r a b → Runs L' u a b → Runs L' u (origin L r) (destination L r)
same_run x y = record { side = y.side; from = y.from ∙ sym x.from; to = y.to ∙ sym x.to }

-- of the triangle of s the side from b to c now comes before t', and the side from c to a after s'
near : {L L' : List ℕ} {s s' t' a b c d : ℕ} → TriangleSide L s a b c → Diamond L' s' t' d c a b
    → ((h : ℕ → ℕ) → h (s' / 8) ≡ h (t' / 8) → h (s / 8) ≡ h (s' / 8)) → (r : ℕ) → Side L r → r / 8 ≡ s / 8 → (r ≡ s → ⊥)
    → Counterpart L r L' s' t'
near {L} {L'} {s} {s'} {t'} x y mine r w e f = go (around L s x.runs.side x.triangle r w e)
  where
    one : Side L' s'
    one = y.one.runs.side

    other : Side L' t'
    other = y.other.runs.side

    go : Around L s r → Counterpart L r L' s' t'
    go (itself k) = absurd (f k)
    go (after k) =
        record {
          code = previous L' t';
          runs = rw k (same_run (next_runs x) (previous_runs y.other));
          not_one = λ z. y.apart (ap (λ (u : ℕ). u / 8) (sym z) ∙ (previous_numbered L' t' other).same);
          not_other = λ z. next_differs L' t' other (ap (next L') (sym z) ∙ next_previous L' t' other);
          home = λ h i. ap h e ∙ mine h i ∙ i ∙ sym (ap h (previous_numbered L' t' other).same);
        }
    go (before k) =
        record {
          code = next L' s';
          runs = rw k (same_run (previous_runs x) (next_runs y.one));
          not_one = next_differs L' s' one;
          not_other = λ z. y.apart (sym (next_numbered L' s' one).same ∙ ap (λ (u : ℕ). u / 8) z);
          home = λ h i. ap h e ∙ mine h i ∙ sym (ap h (next_numbered L' s' one).same);
        }

-- every side but the diagonal has a counterpart that isn't of the other diagonal
pub counterpart : {L L' : List ℕ} {s t s' t' a b c d : ℕ} → Swapped L s t L' s' t' a b c d → (r : ℕ) → Side L r → (r ≡ s → ⊥) → (r ≡ t → ⊥)
    → Counterpart L r L' s' t'
counterpart {L} {L'} {s} {t} {s'} {t'} x r w e f = go (decide (means_eq (r / 8) (s / 8))) (decide (means_eq (r / 8) (t / 8)))
  where
    go : (r / 8 ≡ s / 8) ⊎ (r / 8 ≡ s / 8 → ⊥) → (r / 8 ≡ t / 8) ⊎ (r / 8 ≡ t / 8 → ⊥) → Counterpart L r L' s' t'
    go (inl i) j = near x.old.one x.new (λ h k. (x.kept h k).0) r w i e
    go (inr i) (inl j) = other_way (near x.old.other (exchanged x.new) (λ h k. (x.kept h (sym k)).1) r w j f)
    go (inr i) (inr j) = x.there r w i j

module _ {L L' : List ℕ} {s t s' t' a b c d : ℕ} (x : Swapped L s t L' s' t' a b c d) where
  -- no border side is of the diagonal
  border_counterpart : (r : ℕ) → Side L r → T (is_border L r) → Counterpart L r L' s' t'
  border_counterpart r w z = counterpart x r w (alone x.old) (alone (exchanged x.old))
    where
      alone : {s t a b c d : ℕ} → Diamond L s t a b c d → r ≡ s → ⊥
      alone {s} {t} y e = (means_unopposed L r).says z t y.other.runs.side (rw e (across y))

  -- what is opposed to its counterpart would have a counterpart opposed to it
  still_border : Pairing L' (partner L') → (r : ℕ) → T (is_border L r) → (u : Counterpart L r L' s' t') → T (is_border L' u.code)
  still_border p r z u = (means_unopposed L' u.code).shows go
    where
      go : (w : ℕ) → Side L' w → T (opposed L' u.code w) → ⊥
      go w y o =
          let not_one : w ≡ s' → ⊥ = λ e. no_third x.new p u (rw e at o) in
          let not_other : w ≡ t' → ⊥ = λ e. no_third (exchanged x.new) p (other_way u) (rw e at o) in
          let v = counterpart (reversed x) w y not_one not_other in
          let (from, to) = (means_opposed L' u.code w).says o in
          (means_unopposed L r).says z v.code v.runs.side
          ((means_opposed L r v.code).shows (sym u.runs.from ∙ from ∙ sym v.runs.to, sym u.runs.to ∙ to ∙ sym v.runs.from))

  pub border_there : Pairing L' (partner L') → (r : ℕ) → Side L r → partner L r ≡ 0
      → (q : ℕ) × Runs L' q (origin L r) (destination L r) × (partner L' q ≡ 0)
  border_there p r w e =
      let z = (means_border L r).shows e in
      let u = border_counterpart r w z in (u.code, u.runs, (means_border L' u.code).says (still_border p r z u))

-- L' is L with the diagonal s, t swapped, document 02, point 1: "With side a to b, its third corner c, and the partner's third corner d, the
-- side's row becomes (c,a,d) and the partner's (d,b,c)"
pub record Crossed (L L' : List ℕ) (s t : ℕ) : Type 0 where
  pub replaced : Replaced L L' (s / 8) (t / 8)
  pub mine : Side L s
  pub other : Side L t
  pub apart : s / 8 ≡ t / 8 → ⊥
  pub across : T (opposed L s t)
  pub mine_first : origin L' (8 * (s / 8) + 1) ≡ origin L (previous L s)
  pub mine_second : origin L' (8 * (s / 8) + 2) ≡ origin L s
  pub mine_third : origin L' (8 * (s / 8) + 3) ≡ origin L (previous L t)
  pub other_first : origin L' (8 * (t / 8) + 1) ≡ origin L (previous L t)
  pub other_second : origin L' (8 * (t / 8) + 2) ≡ origin L t
  pub other_third : origin L' (8 * (t / 8) + 3) ≡ origin L (previous L s)

module _ {L L' : List ℕ} {s t : ℕ} (x : Crossed L L' s t) where
  before_swap : Diamond L s t (origin L s) (origin L t) (origin L (previous L s)) (origin L (previous L t))
  unfolding sides_by
  before_swap =
      let (e, f) = (means_opposed L s t).says x.across in
      record {
        one = record { runs = record { side = x.mine; from = refl; to = f }; third = refl; triangle = ap sides_by x.replaced.mine_three };
        other = record { runs = record { side = x.other; from = refl; to = sym e }; third = refl; triangle = ap sides_by x.replaced.other_three };
        apart = x.apart;
      }

  -- the new diagonal is the third side of each row
  abbrev s' : ℕ
  s' = 8 * (s / 8) + 3

  abbrev t' : ℕ
  t' = 8 * (t / 8) + 3

  after_swap : Diamond L' s' t' (origin L (previous L t)) (origin L (previous L s)) (origin L s) (origin L t)
  after_swap =
      let r = x.replaced in
      record {
        one = third_side L' (s / 8) (rw (same_size r) r.mine) r.mine_still x.mine_first x.mine_second x.mine_third;
        other = third_side L' (t / 8) (rw (same_size r) r.other) r.other_still x.other_first x.other_second x.other_third;
        apart = λ e. x.apart (omega arith);
      }

  -- the sides of all other elements are their own counterparts
  stay : Elsewhere L s t L' s' t'
  stay r a d e =
      let y = x.replaced in
      record {
        code = r;
        runs = record { side = side_still y r a; from = same_origin y r a d e; to = same_destination y r a d e };
        not_one = λ z. d (omega arith);
        not_other = λ z. e (omega arith);
        home = λ h i. refl;
      }

  stayed : Elsewhere L' s' t' L t s
  stayed r a d e =
      let y = x.replaced in
      let b = side_before y r a in
      let f : r / 8 ≡ s / 8 → ⊥ = λ z. d (omega arith) in
      let g : r / 8 ≡ t / 8 → ⊥ = λ z. e (omega arith) in
      record {
        code = r;
        runs = record { side = b; from = sym (same_origin y r b f g); to = sym (same_destination y r b f g) };
        not_one = λ z. g (ap (λ (u : ℕ). u / 8) z);
        not_other = λ z. f (ap (λ (u : ℕ). u / 8) z);
        home = λ h i. refl;
      }

  pub crossed_swapped : Swapped L s t L' s' t' (origin L s) (origin L t) (origin L (previous L s)) (origin L (previous L t))
  crossed_swapped =
      let (e, f) : (s / 8 ≡ s' / 8) × (t / 8 ≡ t' / 8) = omega arith in
      record {
        old = before_swap;
        new = after_swap;
        kept = λ h i. (ap h e, ap h f);
        kept_back = λ h i. (sym (ap h e) ∙ sym i, sym (ap h f) ∙ i);
        there = stay;
        back = stayed;
      }
