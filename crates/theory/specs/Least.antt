-- The least side and the least vertex with a test: a view of what is found, and what finding nothing means.
-- Assumes nothing.
use Rattle.std.specs.Prelude.{◌≡◌, Bool, not, ◌⊎◌, List, T, ltb, eqb, length}
use Rattle.std.proofs.Math.Path.{refl}
use Rattle.std.proofs.Common.{ap, sym, subst, ◌∙◌, inl, inr, arith, T_not}
use Prim.Native.Nat.{ℕ, ◌+◌, ◌-◌, ◌≤◌, ◌<◌}
use Rattle.std.proofs.Math.Dec.{not_T, nltb→le}
use Rattle.lists.specs.TestLaws.{Test, pass, fail, test, Means, passes, both_pass, means_not, means_eq, means_lt}
use Rattle.lists.specs.Search.{least}
use Rattle.lists.specs.SearchLaws.{Least, least_is, lt_or_eq, le_not_lt}
use Rattle.rules.specs.Elements.{is_side, Side, slot, side_at, side_with, first_side, first_number}
use Rattle.theory.specs.Sides.{slot_side_at, side_positive, side_at_slot, slot_below, slot_less}

-- r is the least side with the test t, or 0 where there is none
pub data First (L : List ℕ) (t : ℕ → Bool) (r : ℕ) : Type 0 where
  nobody : r ≡ 0 → ((s : ℕ) → Side L s → T (not (t s))) → First L t r
  somebody : Side L r → T (t r) → ((s : ℕ) → Side L s → s < r → T (not (t s))) → First L t r

module _ (L : List ℕ) (t : ℕ → Bool) where
  -- a side below which no place has a side with the test has no lesser side with it
  below_first : (p : ℕ) → ((j : ℕ) → j < p → T (not (side_with L t j))) → (s : ℕ) → Side L s → slot s < p → T (not (t s))
  below_first p f s a h =
      not_T (t s)
      (λ u.
      T_not (side_with L t (slot s)) (f (slot s) h)
      (both_pass (is_side L (side_at (slot s))) (t (side_at (slot s))) (rw (side_at_slot L s a) a) (rw (side_at_slot L s a) u)))

  pub first_side_lem : First L t (first_side L t)
  unfolding first_side
  first_side_lem = go (test (ltb (least (side_with L t) (length L)) (length L))) (least_is (side_with L t) (length L))
    where
      go : Test (ltb (least (side_with L t) (length L)) (length L)) → Least (side_with L t) (length L) (least (side_with L t) (length L)) → First L t (first_side L t)
      go (pass w e) l =
          let p = least (side_with L t) (length L) in
          let (a, u) = passes (is_side L (side_at p)) (t (side_at p)) (l.found ((means_lt p (length L)).says w)) in
          rw (e, first_side)
          (somebody a u
          (λ s b h.
          below_first p l.before s b
          (subst (λ (q : ℕ). slot s < q) (slot_side_at p) (slot_less L s (side_at p) b a h))))
      go (fail w e) l =
          let p = least (side_with L t) (length L) in
          rw (e, first_side)
          (nobody refl (λ s a. below_first p l.before s a (omega (arith, slot_below L s a, nltb→le p (length L) w))))

  -- the test that a side was found
  pub means_none : Means (eqb (first_side L t) 0) ((s : ℕ) → Side L s → T (t s) → ⊥)
  means_none = go first_side_lem
    where
      go : First L t (first_side L t) → Means (eqb (first_side L t) 0) ((s : ℕ) → Side L s → T (t s) → ⊥)
      go (nobody e f) = record { says = λ z s a u. T_not (t s) (f s a) u; shows = λ g. (means_eq _ _).shows e }
      go (somebody a u f) =
          record { says = λ z s b w. side_positive L (first_side L t) a ((means_eq _ _).says z); shows = λ g. absurd (g (first_side L t) a u) }

  pub means_some : Means (not (eqb (first_side L t) 0)) ((s : ℕ) × Side L s × T (t s))
  means_some = go first_side_lem
    where
      go : First L t (first_side L t) → Means (not (eqb (first_side L t) 0)) ((s : ℕ) × Side L s × T (t s))
      go (nobody e f) =
          record {
            says = λ z. absurd ((means_not (means_eq (first_side L t) 0)).says z e);
            shows = λ (s, a, u). absurd (T_not (t s) (f s a) u);
          }
      go (somebody a u f) =
          record {
            says = λ z. (first_side L t, a, u);
            shows = λ x. (means_not (means_eq (first_side L t) 0)).shows (side_positive L (first_side L t) a);
          }

  -- where some side has the test, the least one is a side and has it
  pub first_found : (s : ℕ) → Side L s → T (t s) → Side L (first_side L t) × T (t (first_side L t))
  first_found s a u = go first_side_lem
    where
      go : First L t (first_side L t) → Side L (first_side L t) × T (t (first_side L t))
      go (nobody e f) = absurd (T_not (t s) (f s a) u)
      go (somebody b w f) = (b, w)

-- r is the least vertex of 1 to n with the test t, or 0 where there is none
pub data FirstNumber (n : ℕ) (t : ℕ → Bool) (r : ℕ) : Type 0 where
  nobody : r ≡ 0 → ((v : ℕ) → 1 ≤ v → v ≤ n → T (not (t v))) → FirstNumber n t r
  somebody : 1 ≤ r → r ≤ n → T (t r) → ((v : ℕ) → 1 ≤ v → v < r → T (not (t v))) → FirstNumber n t r

module _ (n : ℕ) (t : ℕ → Bool) where
  pub first_number_lem : FirstNumber n t (first_number n t)
  unfolding first_number
  first_number_lem = go (test (ltb i n)) (least_is (λ j. t (j + 1)) n)
    where
      i : ℕ
      i = least (λ j. t (j + 1)) n

      earlier : Least (λ j. t (j + 1)) n i → (v : ℕ) → 1 ≤ v → v ≤ i → T (not (t v))
      earlier l v a b =
          let e : v - 1 + 1 ≡ v = omega arith in subst (λ (x : ℕ). T (not (t x))) e (l.before (v - 1) (omega arith))

      go : Test (ltb i n) → Least (λ j. t (j + 1)) n i → FirstNumber n t (first_number n t)
      go (pass w e) l =
          let h : i < n = (means_lt i n).says w in
          rw (e, first_number) (somebody (omega arith) (omega arith) (l.found h) (λ v a b. earlier l v a (omega arith)))
      go (fail w e) l =
          rw (e, first_number) (nobody refl (λ v a b. earlier l v a (omega (arith, nltb→le i n w))))

  pub means_no_number : Means (eqb (first_number n t) 0) ((v : ℕ) → 1 ≤ v → v ≤ n → T (t v) → ⊥)
  means_no_number = go first_number_lem
    where
      go : FirstNumber n t (first_number n t) → Means (eqb (first_number n t) 0) ((v : ℕ) → 1 ≤ v → v ≤ n → T (t v) → ⊥)
      go (nobody e f) = record { says = λ z v a b u. T_not (t v) (f v a b) u; shows = λ g. (means_eq _ _).shows e }
      go (somebody a b u f) =
          record {
            says = λ z v c d w. omega (arith, (means_eq (first_number n t) 0).says z);
            shows = λ g. absurd (g (first_number n t) a b u);
          }

  pub means_some_number : Means (not (eqb (first_number n t) 0)) ((v : ℕ) × (1 ≤ v) × (v ≤ n) × T (t v))
  means_some_number = go first_number_lem
    where
      go : FirstNumber n t (first_number n t) → Means (not (eqb (first_number n t) 0)) ((v : ℕ) × (1 ≤ v) × (v ≤ n) × T (t v))
      go (nobody e f) =
          record {
            says = λ z. absurd ((means_not (means_eq (first_number n t) 0)).says z e);
            shows = λ (v, a, b, u). absurd (T_not (t v) (f v a b) u);
          }
      go (somebody a b u f) =
          record {
            says = λ z. (first_number n t, a, b, u);
            shows = λ x. (means_not (means_eq (first_number n t) 0)).shows (λ e. omega arith);
          }

-- what the views say is all there is to say
pub first_is : (L : List ℕ) (t : ℕ → Bool) (r : ℕ) → First L t r → first_side L t ≡ r
first_is L t r x = go x (first_side_lem L t)
  where
    go : {q : ℕ} → First L t r → First L t q → q ≡ r
    go (nobody e f) (nobody g h) = g ∙ sym e
    go {q} (nobody e f) (somebody a u h) = absurd (T_not (t q) (f q a) u)
    go (somebody a u f) (nobody g h) = absurd (T_not (t r) (h r a) u)
    go {q} (somebody a u f) (somebody b w h) =
        let l : q ≤ r = le_not_lt q r (λ k. T_not (t r) (h r a k) u) in
        let m : r ≤ q = le_not_lt r q (λ k. T_not (t q) (f q b k) w) in
        omega arith

pub number_is : (n : ℕ) (t : ℕ → Bool) (r : ℕ) → FirstNumber n t r → first_number n t ≡ r
number_is n t r x = go x (first_number_lem n t)
  where
    go : {q : ℕ} → FirstNumber n t r → FirstNumber n t q → q ≡ r
    go (nobody e f) (nobody g h) = g ∙ sym e
    go {q} (nobody e f) (somebody a b u h) = absurd (T_not (t q) (f q a b) u)
    go (somebody a b u f) (nobody g h) = absurd (T_not (t r) (h r a b) u)
    go {q} (somebody a b u f) (somebody c d w h) =
        let l : q ≤ r = le_not_lt q r (λ k. T_not (t r) (h r a k) u) in
        let m : r ≤ q = le_not_lt r q (λ k. T_not (t q) (f q c k) w) in
        omega arith

-- the first side found from place to place
module _ (L : List ℕ) (t : ℕ → Bool) where
  pub found_at : (p : ℕ) → Side L (side_at p) → T (t (side_at p)) → ((s : ℕ) → Side L s → slot s < p → T (not (t s))) → first_side L t ≡ side_at p
  found_at p a u f =
      first_is L t (side_at p) (somebody a u (λ s b h. f s b (rw (slot_side_at p) at (slot_less L s (side_at p) b a h))))

  pub found_nowhere : (p : ℕ) → length L ≤ p → ((s : ℕ) → Side L s → slot s < p → T (not (t s))) → first_side L t ≡ 0
  found_nowhere p h f = first_is L t 0 (nobody refl (λ s b. f s b (omega (arith, slot_below L s b))))

  -- one place more, with a side that fails or with none
  pub found_later : (p : ℕ) → ((s : ℕ) → Side L s → slot s < p → T (not (t s))) → (Side L (side_at p) → T (not (t (side_at p)))) → (s : ℕ) → Side L s → slot s < p + 1 → T (not (t s))
  found_later p f g s b h = go (lt_or_eq (slot s) p (omega arith))
    where
      go : (slot s < p) ⊎ (slot s ≡ p) → T (not (t s))
      go (inl l) = f s b l
      go (inr e) = let q : side_at p ≡ s = ap side_at (sym e) ∙ side_at_slot L s b in subst (λ (x : ℕ). T (not (t x))) q (g (rw q b))
