-- The first place with a test: what it is, and how a loop comes to it.
-- Assumes nothing.
use Rattle.std.specs.Prelude.{◌≡◌, Bool, true, false, not, List, ℕ, ◌+◌, ◌-◌, ◌≤◌, ◌<◌, length}
use Rattle.std.proofs.Common.{sym, inl, inr, T_not}
use Rattle.std.proofs.Math.Path.{subst}
use native.Mathlib.Omega.{arith}
use Rattle.std.proofs.Math.Dec.{T}
use Rattle.std.proofs.Math.ListN.{get_or-eq_default}
use Rattle.lists.specs.Search.{at}
use Rattle.lists.specs.SearchLaws.{least_is, le_not_lt, le_or_lt, lt_or_eq}
use Rattle.off_rules.specs.Off.{first_from}

pub from_le : (test : ℕ → Bool) (w : List ℕ) (p : ℕ) → p ≤ first_from test w p
unfolding first_from
from_le test w p = omega arith

-- no place from p up to a has the test
pub record Passed (test : ℕ → Bool) (w : List ℕ) (p a : ℕ) : Type 0 where
  pub onward : p ≤ a
  pub inside : a ≤ length w
  pub none : (j : ℕ) → p ≤ j → j < a → T (not (test (at w j)))

-- and e, before the end, has it
pub record First (test : ℕ → Bool) (w : List ℕ) (p e : ℕ) : Type 0 where
  pub passed : Passed test w p e
  pub found : e < length w → T (test (at w e))

module _ (test : ℕ → Bool) (w : List ℕ) where
  module _ {p : ℕ} (h : p ≤ length w) where
    pub passed_none : Passed test w p p
    passed_none = record { onward = omega arith; inside = h; none = λ j k l. absurd (omega arith) }

    pub first_is : First test w p (first_from test w p)
    unfolding first_from
    first_is =
        let l = least_is (λ i. test (at w (p + i))) (length w - p) in
        record {
          passed = record {
            onward = omega arith;
            inside = omega (arith, l.bound);
            none = λ j k m. let e : p + (j - p) ≡ j = omega arith in subst (λ (i : ℕ). T (not (test (at w i)))) e (l.before (j - p) (omega arith));
          };
          found = λ k. l.found (omega arith);
        }

  less : {p a b : ℕ} → First test w p a → First test w p b → a ≤ b
  less {a} {b} x y =
      le_not_lt a b (λ l.
      T_not (test (at w b)) (x.passed.none b y.passed.onward l) (y.found (omega (arith, x.passed.inside))))

  pub first_one : {p a b : ℕ} → First test w p a → First test w p b → a ≡ b
  first_one x y = omega (arith, less x y, less y x)

  -- what a loop has passed: one place more, or the place where it ends
  module _ {p a : ℕ} (x : Passed test w p a) where
    pub passed_more : a < length w → test (at w a) ≡ false → Passed test w p (a + 1)
    passed_more h e =
        record {
          onward = omega (arith, x.onward);
          inside = omega arith;
          none = λ j k l. elim (lt_or_eq j a (omega arith))
              [ inl m ↦ x.none j k m | inr q ↦ subst (λ (i : ℕ). T (not (test (at w i)))) (sym q) (rw e tt) ];
        }

    ends : (a < length w → T (test (at w a))) → a ≡ first_from test w p
    ends f = first_one (record { passed = x; found = f }) (first_is (omega (arith, x.onward, x.inside)))

    pub found_at : test (at w a) ≡ true → a ≡ first_from test w p
    found_at e = ends (λ h. rw e tt)

    pub found_end : length w ≤ a → a ≡ first_from test w p
    found_end h = ends (λ l. absurd (omega arith))

-- past the end no byte stands
pub byte_inside : (w : List ℕ) (p : ℕ) → (at w p ≡ 0 → ⊥) → p < length w
byte_inside w p d = elim (le_or_lt (length w) p) [ inl h ↦ absurd (d (get_or-eq_default w 0 h)) | inr h ↦ h ]
