-- What `find`, `any` and `filter` with `count` answer over the numbers from a on and below e, by what their closure answers at each of them.
-- Assumes nothing.
use Rattle.std.specs.Prelude.{◌≡◌, refl, Bool, true, false, not, cond, Option, Some, None, List, [], ◌∷◌, ℕ, zero, suc, ◌+◌, ◌-◌, ◌≤◌, ◌<◌, T, length, slice_get}
use Rattle.std.specs.declared.ops.Range.{Range}
use Rattle.std.specs.declared.ops.RangeInclusive.{RangeInclusive}
use Rattle.std.specs.Range.{range_inclusive_start, range_inclusive_end, range_inclusive_exhausted}
use Rattle.std.specs.Option.{MatchOption, IfSome, IsSomeAnd, option_map, unwrap_or}
use Rattle.std.specs.Bool.{MatchBool}
use Rattle.std.specs.List.{fold}
use Rattle.std.specs.Fn.{Called, CalledAt}
use Rattle.std.specs.Iterator.Runs.{Run, ItemsCountUp, CallKeepsClosure, NoItemPasses, EndsAtFirstPassing, AllItemsGive, AnyItemGives}
use Rattle.std.proofs.iter.Yields.{nat_range_steps}
use Rattle.std.proofs.iter.runs.Made.{at-is}
use Rattle.std.proofs.iter.runs.Sources.{nat_range_inclusive_steps, inclusive_listed, range_runs}
use Rattle.std.proofs.Common.{ap, sym, subst, ◌∙◌, inl, inr, arith}
use denote.Param.Members.{Mut}
use denote.Ref.{Bor}
use Rattle.lists.specs.TestLaws.{Test, pass, fail, test, Means, means_true, means_false, means_one, means_itself}
use Rattle.lists.specs.Search.{count}
use Rattle.lists.specs.SearchLaws.{count_pass, count_fail, le_or_lt}
use Rattle.rules.specs.Elements.{first_number, some_number}
use Rattle.theory.specs.Least.{FirstNumber, number_is, means_some_number}

-- the numbers that a run over a range takes
pub up_to : {a n : ℕ} {s : RangeInclusive ℕ} → range_inclusive_start s ≡ a → range_inclusive_end s ≡ n → range_inclusive_exhausted s ≡ false
    → (p : Run nat_range_inclusive_steps) → p.from ≡ s → ItemsCountUp p a (n + 1)
up_to {a} {n} from to new p begins =
    let (b, e, low, high, f) = inclusive_listed p p.seen in
    let one : b ≡ a = low ∙ ap range_inclusive_start begins ∙ from in
    let end : e ≡ n + 1 = high ∙ ap (λ z. range_inclusive_end z + 1) begins ∙ ap (λ z. z + 1) to in
    subst (λ z. ItemsCountUp p a z) end (subst (λ z. ItemsCountUp p z e) one (f (ap range_inclusive_exhausted begins ∙ new)).0)

pub up_below : {a e : ℕ} (p : Run nat_range_steps) → p.from ≡ record { start = a; end = e } → ItemsCountUp p a e
up_below {a} {e} p begins =
    let up = range_runs p p.seen in
    subst (λ z. ItemsCountUp p a z) (ap (λ (z : Range ℕ). z.end) begins) (subst (λ z. ItemsCountUp p z p.from.end) (ap (λ (z : Range ℕ). z.start) begins) up)

plain : (o : Option ℕ) (x : ℕ) → option_map (λ y. y) o ≡ Some x → o ≡ Some x
plain None x e = e
plain (Some y) x e = e

failing : {b : Bool} → false ≡ b → T (not b)
failing e = subst (λ b. T (not b)) e tt

passing : {b : Bool} → true ≡ b → T b
passing e = subst T e tt

module _ {S : Type 0} {steps : S → Option ℕ → S → Type 0} (p : Run steps) (a e : ℕ) (up : ItemsCountUp p a e) where
  come : (k : ℕ) → k < p.len → p.at k ≡ Some (a + k)
  come k l = plain (p.at k) (a + k) (up.3 k l)

  -- what holds of each item holds of each number, where the run is whole
  everyone : (P : ℕ → Type 0) → p.whole ≡ true → ((k : ℕ) → IfSome (p.at k) P) → (x : ℕ) → a ≤ x → x < e → P x
  everyone P w f x i j =
      let z : a + (x - a) ≡ x = omega arith in
      subst P z (subst (λ o. IfSome o P) (come (x - a) (omega (arith, up.1 w))) (f (x - a)))

  module _ {F : Type 0} (g : Mut F (ℕ × Unit {0}) Bool) (c : F) (keeps : CallKeepsClosure g c) where
    -- `any`: whether P holds of some number
    pub any_asked : (P : ℕ → Type 0) → ((x : ℕ) (b : Bool) → a ≤ x → x < e → Called g c (x, tt) b c → Means b (P x))
        → (r : Bool) → MatchBool r (AnyItemGives p g c true) ((p.whole ≡ true) × AllItemsGive p g c false) → Means r ((x : ℕ) × (a ≤ x) × (x < e) × P x)
    any_asked P says true h =
        let (k, l, f) = h keeps in
        let x : ℕ = a + k in
        let called : Called g c (x, tt) true c = subst (λ o. IsSomeAnd o (λ v. Called g c (v, tt) true c)) (come k l) f in
        means_true (x, omega arith, omega (arith, up.0, l), (says x true (omega arith) (omega (arith, up.0, l)) called).says tt)
    any_asked P says false (w, f) =
        means_false (λ (x, i, j, y). (says x false i j (everyone (λ z. Called g c (z, tt) false c) w (f keeps) x i j)).shows y)

    -- whether some number has the test t
    pub some_asked : (t : ℕ → Bool) {n : ℕ} → a ≡ 1 → e ≡ n + 1 → ((x : ℕ) (b : Bool) → 1 ≤ x → x ≤ n → Called g c (x, tt) b c → b ≡ t x)
        → (r : Bool) → MatchBool r (AnyItemGives p g c true) ((p.whole ≡ true) × AllItemsGive p g c false) → r ≡ some_number n t
    some_asked t {n} one end says r h =
        means_one
        (any_asked (λ x. T (t x)) (λ x b i j k. subst (λ z. Means z (T (t x))) (sym (says x b (omega arith) (omega arith) k)) (means_itself (t x))) r h)
        (means_some_number n t)
        (λ (x, i, j, u). (x, omega arith, omega arith, u))
        (λ (x, i, j, u). (x, omega arith, omega arith, u))

  module _ {F : Type 0} (g : Mut F (Bor ℕ × Unit {0}) Bool) (c : F) (keeps : CallKeepsClosure g c) where
    -- `find`: the least number with the test t, of which none below a has it; 0 where there is none
    pub first_asked : (t : ℕ → Bool) {n : ℕ} → 1 ≤ a → e ≡ n + 1 → ((x : ℕ) → 1 ≤ x → x < a → T (not (t x)))
        → ((x : ℕ) (b : Bool) → a ≤ x → x ≤ n → CalledAt g c x b c → b ≡ t x)
        → (r : Option ℕ) → MatchOption r ((p.whole ≡ true) × NoItemPasses p g c) (EndsAtFirstPassing p g c) → unwrap_or r 0 ≡ first_number n t
    first_asked t {n} one end before says None (w, f) = sym (number_is n t 0 (FirstNumber.nobody refl none))
      where
        none : (x : ℕ) → 1 ≤ x → x ≤ n → T (not (t x))
        none x i j = elim (le_or_lt a x) [
          | inl l ↦ failing (says x false l j (everyone (λ y. CalledAt g c y false c) w (f keeps) x l (omega arith)))
          | inr l ↦ before x i l
        ]
    first_asked t {n} one end before says (Some x) (i, len, at, h) =
        sym (number_is n t x (FirstNumber.somebody (omega (arith, is)) (omega (arith, is, up.0, len)) (passing (says x true (omega (arith, is)) (omega (arith, is, up.0, len)) (h keeps).0)) least))
      where
        is : x ≡ a + i
        is = let q : Some x ≡ Some (a + i) = sym at ∙ come i (omega (arith, len)) in cc

        least : (y : ℕ) → 1 ≤ y → y < x → T (not (t y))
        least y j l = elim (le_or_lt a y) [
          | inl u ↦
              let z : a + (y - a) ≡ y = omega arith in
              let called : CalledAt g c (a + (y - a)) false c = subst (λ o. IsSomeAnd o (λ v. CalledAt g c v false c)) (come (y - a) (omega (arith, is, len))) ((h keeps).1 (y - a) (omega (arith, is))) in
              failing (says y false u (omega (arith, is, up.0, len)) (subst (λ v. CalledAt g c v false c) z called))
          | inr u ↦ before y j u
        ]

-- the number that a test adds to a count
abbrev pub one_if : (ℕ → Bool) → ℕ → ℕ → ℕ
one_if t m x = m + cond (t x) 1 0

none_below : (p : ℕ → Bool) → count p 0 ≡ 0
unfolding count
none_below p = refl

one_more : (p : ℕ → Bool) (n : ℕ) → count p (suc n) ≡ count p n + cond (p n) 1 0
one_more p n = go (test (p n))
  where
    go : Test (p n) → count p (suc n) ≡ count p n + cond (p n) 1 0
    go (pass t e) = rw e (omega (arith, count_pass p n t))
    go (fail t e) = rw e (omega (arith, count_fail p n t))

-- tests that agree below n count the same
pub count_alike : (p q : ℕ → Bool) (n : ℕ) → ((j : ℕ) → j < n → p j ≡ q j) → count p n ≡ count q n
count_alike p q zero f = omega (arith, none_below p, none_below q)
count_alike p q (suc n) f =
    let step : Bool → ℕ = λ b. cond b 1 0 in
    let last : step (p n) ≡ step (q n) = ap step (f n (omega arith)) in
    omega (arith, count_alike p q n (λ j h. f j (omega arith)), last, one_more p n, one_more q n)

-- how many of the numbers above a, up to a + length xs, have the test
folded : (t : ℕ → Bool) (xs : List ℕ) (a m : ℕ) → ((k : ℕ) → k < length xs → slice_get xs k ≡ Some (a + k + 1))
    → fold (one_if t) m xs + count (λ j. t (j + 1)) a ≡ m + count (λ j. t (j + 1)) (a + length xs)
folded t [] a m f = let e : a + 0 ≡ a = omega arith in omega (arith, ap (count (λ j. t (j + 1))) e)
folded t (x ∷ xs) a m f =
    let e : x ≡ a + 1 = let q : Some x ≡ Some (a + 0 + 1) = f 0 (omega arith) in let z : a + 0 + 1 ≡ a + 1 = omega arith in cc in
    let rest = folded t xs (suc a) (one_if t m x) (λ k l. let z : a + suc k + 1 ≡ suc a + k + 1 = omega arith in f (suc k) (omega arith) ∙ ap Some z) in
    let n : suc a + length xs ≡ a + suc (length xs) = omega arith in
    let same : count (λ j. t (j + 1)) (suc a + length xs) ≡ count (λ j. t (j + 1)) (a + suc (length xs)) = ap (count (λ j. t (j + 1))) n in
    let step : ℕ → ℕ = λ y. cond (t y) 1 0 in
    let here : step x ≡ step (a + 1) = ap step e in
    omega (arith, rest, same, here, one_more (λ j. t (j + 1)) a)

-- `filter` and `count`: how many of the numbers 1 to n have the test
pub count_asked : {S : Type 0} {steps : S → Option ℕ → S → Type 0} (p : Run steps) (n : ℕ) → ItemsCountUp p 1 (n + 1) → (t : ℕ → Bool) → p.whole ≡ true
    → fold (one_if t) 0 p.items ≡ count (λ j. t (j + 1)) n
count_asked p n up t w =
    let each : (k : ℕ) → k < length p.items → slice_get p.items k ≡ Some (0 + k + 1) =
    λ k l. let z : 1 + k ≡ 0 + k + 1 = omega arith in sym (at-is p k) ∙ come p 1 (n + 1) up k (omega (arith, p.long)) ∙ ap Some z in
    let e : 0 + length p.items ≡ n = omega (arith, up.1 w, p.long) in
    omega (arith, folded t p.items 0 0 each, none_below (λ j. t (j + 1)), ap (count (λ j. t (j + 1))) e)
