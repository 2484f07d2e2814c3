-- Border loops of any tables: the loop of b lists exactly the border half-edges reachable from b by next, none twice; b has a loop exactly
-- where some steps of next, at most k, lead back to it.
-- Assumes nothing.
use Rattle.std.specs.Prelude.{◌≡◌, ◌⊎◌, ◌↔◌, eqb, length}
use Rattle.std.proofs.Math.Path.{refl, ap, sym, subst}
use Rattle.std.proofs.Common.{◌∙◌, inl, inr}
use Rattle.std.proofs.Math.Option.{none, some}
use mathlib.Core.List.{List, [], ◌∷◌}
use Prim.Native.Nat.{ℕ, zero, suc, ◌+◌, ◌*◌, ◌-◌, ◌/◌, ◌%◌, ◌≤◌, ◌<◌}
use native.Mathlib.Omega.{arith}
use Rattle.std.proofs.Math.ListN.{get_or-eq_default}
use Rattle.lists.specs.TestLaws.{true_of, false_of, decide, means_both, means_eq, means_not, means_within}
use Rattle.lists.specs.Search.{at}
use Rattle.lists.specs.SearchLaws.{lt_or_eq, le_not_lt, Met}
use Rattle.rules.specs.Queries.{Mesh, is_border_code, read_border_side, read_origin, border_next, next_border, loop_next, border_loop, follow}
use Rattle.rules.specs.Holes.{next_times, Reachable}
use Rattle.theory.specs.Reads.{and_then_lem, and_some, was_valid}
use Rattle.theory.specs.Follows.{follow_none, follow_on, Course, course, course_once, never}

module _ (M : Mesh) where
  -- a border number
  abbrev pub In : ℕ → Type 0
  In b = (1 ≤ b) × (b ≤ length M.border)

  pub next_in : (x y : ℕ) → next_border M x ≡ some y → In y
  unfolding next_border border_next is_border_code
  next_in x y e =
      let (c, p, q) = and_some (border_next M (8 * x)) _ y e in
      let (s, f, g) = and_some (read_border_side M (8 * x)) _ c p in
      let (v, h, i) = and_some (read_origin M s) _ c g in
      let valid = was_valid (is_border_code M) (at M.vertices (v - 1)) c i in
      let (z, j) = (means_both (means_eq (c % 8) 0) (means_within 1 (length M.border) (c / 8))).says valid in
      let a : c / 8 ≡ y = cc in
      subst In a j

  -- the loop closes where next is b, and goes on where it isn't
  pub loop_back : (b x y : ℕ) → next_border M x ≡ some y → y ≡ b → loop_next M b x ≡ some 0
  unfolding loop_next
  loop_back b x y e f = and_then_lem _ e ∙ rw (true_of (eqb y b) ((means_eq y b).shows f)) refl

  pub loop_on : (b x y : ℕ) → next_border M x ≡ some y → (y ≡ b → ⊥) → loop_next M b x ≡ some y
  unfolding loop_next
  loop_on b x y e d = and_then_lem _ e ∙ rw (false_of (eqb y b) ((means_not (means_eq y b)).shows d)) refl

  data LoopStep (b x y : ℕ) : Type 0 where
    back : y ≡ 0 → next_border M x ≡ some b → LoopStep b x y
    on : In y → (y ≡ b → ⊥) → next_border M x ≡ some y → LoopStep b x y

  loop_step : (b x y : ℕ) → loop_next M b x ≡ some y → LoopStep b x y
  unfolding loop_next
  loop_step b x y e =
      let (z, p, q) = and_some (next_border M x) _ y e in go z p (decide (means_eq z b))
    where
      go : (z : ℕ) → next_border M x ≡ some z → (z ≡ b) ⊎ (z ≡ b → ⊥) → LoopStep b x y
      go z p (inl f) = let g = sym (loop_back b x z p f) ∙ e in let h : 0 ≡ y = cc in back (sym h) (p ∙ ap some f)
      go z p (inr d) =
          let g = sym (loop_on b x z p d) ∙ e in
          let h : z ≡ y = cc in
          subst (LoopStep b x) h (on (next_in x z p) d p)

  -- i times next, and then j times
  pub times_on : (i j x y : ℕ) → next_times M i x ≡ some y → next_times M (i + j) x ≡ next_times M j y
  unfolding next_times
  times_on zero j x y e = let q : x ≡ y = cc in let s : 0 + j ≡ j = omega arith in rw (s, q) refl
  times_on (suc i) j x y e =
      let (z, p, q) = and_some (next_border M x) (next_times M i) y e in
      let s : suc i + j ≡ suc (i + j) = omega arith in
      rw s (and_then_lem _ p ∙ times_on i j z y q)

  pub times_next : (i x y z : ℕ) → next_times M i x ≡ some y → next_border M y ≡ some z → next_times M (suc i) x ≡ some z
  unfolding next_times
  times_next i x y z e f =
      let s : suc i ≡ i + 1 = omega arith in
      ap (λ (j : ℕ). next_times M j x) s ∙ times_on i 1 x y e ∙ and_then_lem _ f

  -- what next doesn't leave, it never leaves
  pub kept : (P : ℕ → Type 0) → ((x y : ℕ) → P x → next_border M x ≡ some y → P y) → (i b c : ℕ) → P b → next_times M i b ≡ some c → P c
  unfolding next_times
  kept P f zero b c p e = let q : b ≡ c = cc in subst P q p
  kept P f (suc i) b c p e =
      let (x, q, r) = and_some (next_border M b) (next_times M i) c e in kept P f i x c (f b x p q) r

  pub reached_in : (b c : ℕ) → In b → Reachable M b c → In c
  reached_in b c h (i, e) = kept In (λ x y p. next_in x y) i b c h e

  pub itself : (b : ℕ) → Reachable M b b
  unfolding next_times
  itself b = (0, refl)

  pub further : (a b c : ℕ) → Reachable M a b → Reachable M b c → Reachable M a c
  further a b c (i, e) (j, f) = (i + j, times_on i j a b e ∙ f)

  -- the loop of b, where it comes back
  module _ (b : ℕ) (h : In b) (bs : List ℕ) (e : border_loop M b ≡ some bs) where
    listed : Course (loop_next M b) b bs × (length bs ≤ length M.border)
    unfolding border_loop
    listed = course (loop_next M b) (length M.border) b bs e

    -- the step from entry i
    step : (i : ℕ) → i < length bs → LoopStep b (at bs i) (at bs (suc i))
    step i l = loop_step b (at bs i) (at bs (suc i)) (listed.0.steps i l)

    goes : (i : ℕ) → suc i < length bs → next_border M (at bs i) ≡ some (at bs (suc i))
    goes i l =
        elim (step i (omega arith)) [ back z p ↦ absurd (listed.0.positive (suc i) l z) | on q d p ↦ p ]

    pub nonempty : 0 < length bs
    nonempty =
        le_not_lt 1 (length bs)
        (λ l. let z : at bs 0 ≡ 0 = get_or-eq_default bs 0 (omega arith) in omega (arith, listed.0.first, h.0))

    pub after : (i : ℕ) → i < length bs → next_times M i b ≡ some (at bs i)
    unfolding next_times
    after zero l = ap some (sym listed.0.first)
    after (suc i) l = times_next i b (at bs i) (at bs (suc i)) (after i (omega arith)) (goes i l)

    pub comes_back : next_times M (length bs) b ≡ some b
    comes_back =
        let l : suc (length bs - 1) ≡ length bs = omega (arith, nonempty) in
        let i : length bs - 1 < length bs = omega (arith, nonempty) in
        ap (λ (j : ℕ). next_times M j b) (sym l)
        ∙ times_next (length bs - 1) b (at bs (length bs - 1)) b (after (length bs - 1) i) (closes (step (length bs - 1) i))
      where
        closes : LoopStep b (at bs (length bs - 1)) (at bs (suc (length bs - 1))) → next_border M (at bs (length bs - 1)) ≡ some b
        closes (back z p) = p
        closes (on q d p) =
            let z : at bs (suc (length bs - 1)) ≡ 0 = get_or-eq_default bs 0 (omega arith) in absurd (omega (arith, q.0))

    pub short : length bs ≤ length M.border
    short = listed.1

    pub first : at bs 0 ≡ b
    first = listed.0.first

    -- document 02, point 11: "it lists exactly the border half-edges reachable from b by next"
    pub listed_reached : (c : ℕ) → Met bs c → Reachable M b c
    listed_reached c (i, l, q) = (i, after i l ∙ ap some q)

    pub reached_listed : (c : ℕ) → Reachable M b c → Met bs c
    reached_listed c (i, q) = kept (Met bs) onward i b c (0, nonempty, first) q
      where
        onward : (x y : ℕ) → Met bs x → next_border M x ≡ some y → Met bs y
        onward x y (j, l, q) p = go (step j l)
          where
            p' : next_border M (at bs j) ≡ some y
            p' = ap (next_border M) q ∙ p

            go : LoopStep b (at bs j) (at bs (suc j)) → Met bs y
            go (back z r) = let f = sym r ∙ p' in let g : b ≡ y = cc in (0, nonempty, first ∙ g)
            go (on r d s) =
                let f = sym s ∙ p' in
                let g : at bs (suc j) ≡ y = cc in
                (suc j, elim (lt_or_eq (suc j) (length bs) (omega arith)) [ inl m ↦ m | inr m ↦ absurd (past m r) ], g)
              where
                past : suc j ≡ length bs → In (at bs (suc j)) → ⊥
                past m r = let z : at bs (suc j) ≡ 0 = get_or-eq_default bs 0 (omega arith) in omega (arith, r.0)

    pub once : (i j : ℕ) → i < length bs → j < length bs → at bs i ≡ at bs j → i ≡ j
    once = course_once (loop_next M b) b bs listed.0

  -- bs lists b and then next, and next: at most k border half-edges, none twice, exactly those reachable
  pub record LoopOf (b : ℕ) (bs : List ℕ) : Type 0 where
    pub nonempty : 0 < length bs
    pub first : at bs 0 ≡ b
    pub short : length bs ≤ length M.border
    pub inside : (i : ℕ) → i < length bs → In (at bs i)
    pub once : (i j : ℕ) → i < length bs → j < length bs → at bs i ≡ at bs j → i ≡ j
    pub reachable : (c : ℕ) → Met bs c ↔ Reachable M b c

  pub loop_of : (b : ℕ) → In b → (bs : List ℕ) → border_loop M b ≡ some bs → LoopOf b bs
  loop_of b h bs e =
      record {
        nonempty = nonempty b h bs e;
        first = first b h bs e;
        short = short b h bs e;
        inside = λ i l. reached_in b (at bs i) h (i, after b h bs e i l);
        once = once b h bs e;
        reachable = λ c. (listed_reached b h bs e c, reached_listed b h bs e c);
      }

  -- b has a loop where some steps of next, at most k, lead back to it
  leads_back : (b i j x : ℕ) → (x ≡ 0 → ⊥) → i < j → next_times M (suc i) x ≡ some b → (o : List ℕ) × (follow (loop_next M b) j x ≡ some o)
  unfolding next_times
  leads_back b i zero x d h e = absurd (omega arith)
  leads_back b zero (suc j) x d h e =
      let (y, p, q) = and_some (next_border M x) (next_times M 0) b e in
      let f : y ≡ b = cc in
      (x ∷ [], follow_on (loop_next M b) j x 0 d (loop_back b x y p f) [] (follow_none (loop_next M b) j))
  leads_back b (suc i) (suc j) x d h e =
      let (y, p, q) = and_some (next_border M x) (next_times M (suc i)) b e in
      go y p (decide (means_eq y b)) (λ n. leads_back b i j y (λ z. omega (arith, next_in x y p)) (omega arith) q)
    where
      go : (y : ℕ) → next_border M x ≡ some y → (y ≡ b) ⊎ (y ≡ b → ⊥) → ((y ≡ b → ⊥) → (o : List ℕ) × (follow (loop_next M b) j y ≡ some o))
          → (o : List ℕ) × (follow (loop_next M b) (suc j) x ≡ some o)
      go y p (inl f) later = (x ∷ [], follow_on (loop_next M b) j x 0 d (loop_back b x y p f) [] (follow_none (loop_next M b) j))
      go y p (inr n) later = let (o, f) = later n in (x ∷ o, follow_on (loop_next M b) j x y d (loop_on b x y p n) o f)

  pub has_loop : (b i : ℕ) → In b → i < length M.border → next_times M (suc i) b ≡ some b → (bs : List ℕ) × (border_loop M b ≡ some bs)
  unfolding border_loop
  has_loop b i h l e = leads_back b i (length M.border) b (λ z. omega (arith, h.0)) l e

  -- and none where b is among border half-edges whose next ones are among them too, or can't be read, and aren't b
  pub no_loop : (P : ℕ → Type 0) (b : ℕ) → P b
      → ((x : ℕ) → P x → In x × ((y : ℕ) → next_border M x ≡ some y → P y × (y ≡ b → ⊥))) → border_loop M b ≡ none
  unfolding border_loop
  no_loop P b p f = never (loop_next M b) P (λ x q. (λ z. omega (arith, (f x q).0.0), λ y e. on x y q (loop_step b x y e))) (length M.border) b p
    where
      on : (x y : ℕ) → P x → LoopStep b x y → P y
      on x y q (back z e) = absurd (((f x q).1 b e).1 refl)
      on x y q (LoopStep.on i d e) = ((f x q).1 y e).0
