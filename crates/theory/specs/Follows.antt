-- Following a step that is one to one and never returns to its start: it stops in time, and meets nothing twice.
-- Assumes nothing.
use Rattle.std.specs.Prelude.{◌≡◌, ◌⊎◌, List, [], ◌∷◌, eqb, length}
use Rattle.std.proofs.Math.Path.{refl, ap}
use Rattle.std.proofs.Common.{sym, subst, ◌∙◌, inl, inr, arith}
use Rattle.std.proofs.Math.Option.{Option, none, some}
use Prim.Native.Nat.{ℕ, zero, suc, ◌+◌, ◌-◌, ◌≤◌, ◌<◌}
use Rattle.std.proofs.Math.ListN.{get_or-eq_default}
use Rattle.lists.specs.TestLaws.{false_of, means_eq, means_not, zero_or}
use Rattle.lists.specs.Search.{at}
use Rattle.lists.specs.SearchLaws.{le_not_lt}
use Rattle.lists.specs.Distinct.{crowded}
use Rattle.rules.specs.Queries.{and_then, prepend, follow}
use Rattle.theory.specs.Reads.{and_then_lem, and_none, and_some, either_read, nothing}

-- o begins at x, and each entry is what follows the one before it. Past the end of a list stands 0: an empty one begins at 0
pub record Trail (P : ℕ → Type 0) (step : ℕ → Option ℕ) (x : ℕ) (o : List ℕ) : Type 0 where
  pub first : at o 0 ≡ x
  pub inside : (i : ℕ) → i < length o → P (at o i)
  pub steps : (i : ℕ) → suc i < length o → step (at o i) ≡ some (at o (suc i))

-- what is asked of a step on the numbers with P: they have different keys from 1 to m
pub record Steady (P : ℕ → Type 0) (step : ℕ → Option ℕ) (m start : ℕ) (key : ℕ → ℕ) : Type 0 where
  pub begins : P start
  pub goes : (x : ℕ) → P x → (y : ℕ) × (step x ≡ some y) × ((y ≡ 0 → ⊥) → P y)
  pub positive : (x : ℕ) → P x → x ≡ 0 → ⊥
  pub injective : (x y z : ℕ) → P x → P y → P z → step x ≡ some z → step y ≡ some z → x ≡ y
  pub away : (x : ℕ) → P x → step x ≡ some start → ⊥
  pub keys : (x : ℕ) → P x → (1 ≤ key x) × (key x ≤ m)
  pub apart : (x y : ℕ) → P x → P y → key x ≡ key y → x ≡ y

-- what following gives
pub record Followed (P : ℕ → Type 0) (step : ℕ → Option ℕ) (m start : ℕ) (o : List ℕ) : Type 0 where
  pub trail : Trail P step start o
  pub stops : 0 < length o → step (at o (length o - 1)) ≡ some 0
  pub once : (i j : ℕ) → i < length o → j < length o → at o i ≡ at o j → i ≡ j
  pub short : length o ≤ m

-- following from 0 gives nothing, from elsewhere something
pub follow_none : (step : ℕ → Option ℕ) (j : ℕ) → follow step j 0 ≡ some []
unfolding follow
follow_none step zero = refl
follow_none step (suc j) = refl

module _ (P : ℕ → Type 0) (step : ℕ → Option ℕ) (m : ℕ) where
  pub followed_none : Followed P step m 0 []
  followed_none =
      record {
        trail = record { first = refl; inside = λ i h. absurd (omega arith); steps = λ i h. absurd (omega arith) };
        stops = λ h. absurd (omega arith);
        once = λ i j h k e. absurd (omega arith);
        short = omega arith;
      }

  pub nonempty : (start : ℕ) (o : List ℕ) → Followed P step m start o → (start ≡ 0 → ⊥) → 0 < length o
  nonempty start [] f d = absurd (d (sym f.trail.first))
  nonempty start (x ∷ o) f d = omega arith

module _ (step : ℕ → Option ℕ) (j x y : ℕ) (d : x ≡ 0 → ⊥) (e : step x ≡ some y) where
  pub follow_on : (o : List ℕ) → follow step j y ≡ some o → follow step (suc j) x ≡ some (x ∷ o)
  unfolding follow prepend
  follow_on o f =
      rw (false_of (eqb x 0) ((means_not (means_eq x 0)).shows d), follow) (and_then_lem _ e ∙ ap (prepend x) f)

module _ (P : ℕ → Type 0) (step : ℕ → Option ℕ) where
  trail_one : (x : ℕ) → P x → Trail P step x (x ∷ [])
  trail_one x p =
      record {
        first = refl;
        inside = λ i h. let e : i ≡ 0 = omega arith in rw e p;
        steps = λ i h. absurd (omega arith);
      }

  trail_more : (x y : ℕ) (o : List ℕ) → P x → step x ≡ some y → Trail P step y o → Trail P step x (x ∷ o)
  trail_more x y o p e t = record { first = refl; inside = inside; steps = steps }
    where
      inside : (i : ℕ) → i < suc (length o) → P (at (x ∷ o) i)
      inside zero h = p
      inside (suc i) h = t.inside i (omega arith)

      steps : (i : ℕ) → suc i < suc (length o) → step (at (x ∷ o) i) ≡ some (at o i)
      steps zero h = e ∙ ap some (sym t.first)
      steps (suc i) h = t.steps i (omega arith)

  -- with j steps allowed, either the end comes, or there are j + 1 entries without an end
  data Outcome (j x : ℕ) : Type 0 where
    ended : (o : List ℕ) → 0 < length o → follow step j x ≡ some o → Trail P step x o → step (at o (length o - 1)) ≡ some 0 → Outcome j x
    going : (o : List ℕ) → length o ≡ suc j → Trail P step x o → Outcome j x

  outcome : (m start : ℕ) (key : ℕ → ℕ) → Steady P step m start key → (j x : ℕ) → P x → Outcome j x
  outcome m start key s zero x p = going (x ∷ []) refl (trail_one x p)
  outcome m start key s (suc j) x p =
      let (y, e, q) = s.goes x p in go y e (zero_or y) (λ d. outcome m start key s j y (q d))
    where
      more : (y : ℕ) → step x ≡ some y → Outcome j y → Outcome (suc j) x
      more y e (ended o l f t z) =
          let q : suc (length o) - 1 ≡ suc (length o - 1) = omega arith in
          ended (x ∷ o) (omega arith) (follow_on step j x y (s.positive x p) e o f) (trail_more x y o p e t)
          (ap (λ i. step (at (x ∷ o) i)) q ∙ z)
      more y e (going o l t) = going (x ∷ o) (ap suc l) (trail_more x y o p e t)

      go : (y : ℕ) → step x ≡ some y → (y ≡ 0) ⊎ (y ≡ 0 → ⊥) → ((y ≡ 0 → ⊥) → Outcome j y) → Outcome (suc j) x
      go y e (inl z) r =
          ended (x ∷ []) (omega arith) (follow_on step j x y (s.positive x p) e [] (rw z (follow_none step j)))
          (trail_one x p) (e ∙ ap some z)
      go y e (inr d) r = more y e (r d)

module _ (P : ℕ → Type 0) (step : ℕ → Option ℕ) (m start : ℕ) (key : ℕ → ℕ) (s : Steady P step m start key) where
  -- going back from two equal entries leads to the start, to which nothing leads
  trail_apart : (o : List ℕ) → Trail P step start o → (i j : ℕ) → i < j → j < length o → at o i ≡ at o j → ⊥
  trail_apart o t i zero h k e = omega arith
  trail_apart o t zero (suc j) h k e =
      s.away (at o j) (t.inside j (omega arith)) (t.steps j k ∙ ap some (sym e ∙ t.first))
  trail_apart o t (suc i) (suc j) h k e =
      trail_apart o t i j (omega arith) (omega arith)
      (s.injective (at o i) (at o j) (at o (suc i))
      (t.inside i (omega arith)) (t.inside j (omega arith)) (t.inside (suc i) (omega arith))
      (t.steps i (omega arith)) (t.steps j k ∙ ap some (sym e)))

  trail_once : (o : List ℕ) → Trail P step start o → (i j : ℕ) → i < length o → j < length o → at o i ≡ at o j → i ≡ j
  trail_once o t i j h k e =
      let a : j ≤ i = le_not_lt j i (λ l. trail_apart o t i j l k e) in
      let b : i ≤ j = le_not_lt i j (λ l. trail_apart o t j i l h (sym e)) in
      omega arith

  trail_short : (o : List ℕ) → Trail P step start o → length o ≤ m
  trail_short o t =
      le_not_lt (length o) m
      (λ h.
      crowded m (λ i. key (at o i)) (λ i k. s.keys (at o i) (t.inside i (omega arith)))
      (λ i j k l e.
      trail_once o t i j (omega arith) (omega arith)
      (s.apart (at o i) (at o j) (t.inside i (omega arith)) (t.inside j (omega arith)) e)))

  pub followed : (o : List ℕ) × (follow step m start ≡ some o) × Followed P step m start o
  followed = go (outcome P step m start key s m start s.begins)
    where
      go : Outcome P step m start → (o : List ℕ) × (follow step m start ≡ some o) × Followed P step m start o
      go (ended o l f t z) = (o, f, record { trail = t; stops = λ h. z; once = trail_once o t; short = trail_short o t })
      go (going o l t) = absurd (omega (arith, trail_short o t))

-- what following gave, for any step: each entry is what follows the one before it, and 0, which stands past the end, follows the last
pub record Course (step : ℕ → Option ℕ) (x : ℕ) (o : List ℕ) : Type 0 where
  pub first : at o 0 ≡ x
  pub steps : (i : ℕ) → i < length o → step (at o i) ≡ some (at o (suc i))
  pub positive : (i : ℕ) → i < length o → at o i ≡ 0 → ⊥

module _ (step : ℕ → Option ℕ) (x : ℕ) (o : List ℕ) (c : Course step x o) where
  same : (i j : ℕ) → i < length o → j < length o → at o i ≡ at o j → at o (suc i) ≡ at o (suc j)
  same i j h k e = let f = sym (c.steps i h) ∙ ap step e ∙ c.steps j k in cc

  -- two equal entries are followed by equal ones, and so up to the end; but after the earlier one the end hasn't come yet
  apart : (d i j : ℕ) → i < j → j + suc d ≡ length o → at o i ≡ at o j → ⊥
  apart zero i j h l e =
      let end : at o (suc j) ≡ 0 = get_or-eq_default o 0 (omega arith) in
      c.positive (suc i) (omega arith) (same i j (omega arith) (omega arith) e ∙ end)
  apart (suc d) i j h l e = apart d (suc i) (suc j) (omega arith) (omega arith) (same i j (omega arith) (omega arith) e)

  pub course_once : (i j : ℕ) → i < length o → j < length o → at o i ≡ at o j → i ≡ j
  course_once i j h k e =
      let a : j ≤ i = le_not_lt j i (λ l. apart (length o - suc j) i j l (omega arith) e) in
      let b : i ≤ j = le_not_lt i j (λ l. apart (length o - suc i) j i l (omega arith) (sym e)) in
      omega arith

module _ (step : ℕ → Option ℕ) where
  -- from 0 nothing is listed
  none_listed : (j x : ℕ) (o : List ℕ) → x ≡ 0 → follow step j x ≡ some o → Course step x o × (length o ≤ j)
  none_listed j x o z e =
      let f : some [] ≡ some o = sym (follow_none step j) ∙ ap (follow step j) (sym z) ∙ e in
      let g : [] ≡ o = cc in
      subst (λ (r : List ℕ). Course step x r × (length r ≤ j)) g
      (record { first = sym z; steps = λ i h. absurd (omega arith); positive = λ i h. absurd (omega arith) }, omega arith)

  -- from another number: it comes first, and then what following from the next one lists
  first_listed : (j x y : ℕ) (o : List ℕ) → (x ≡ 0 → ⊥) → step x ≡ some y → Course step y o × (length o ≤ j)
      → Course step x (x ∷ o) × (length (x ∷ o) ≤ suc j)
  first_listed j x y o d p (c, h) = (record { first = refl; steps = steps; positive = positive }, omega arith)
    where
      steps : (i : ℕ) → i < suc (length o) → step (at (x ∷ o) i) ≡ some (at o i)
      steps zero l = p ∙ ap some (sym c.first)
      steps (suc i) l = c.steps i (omega arith)

      positive : (i : ℕ) → i < suc (length o) → at (x ∷ o) i ≡ 0 → ⊥
      positive zero l = d
      positive (suc i) l = c.positive i (omega arith)

  -- what following says of a number other than 0
  follow_on_none : (x : ℕ) → (x ≡ 0 → ⊥) → follow step zero x ≡ none
  unfolding follow
  follow_on_none x d = rw (false_of (eqb x 0) ((means_not (means_eq x 0)).shows d), follow) refl

  follow_rest : (j x : ℕ) → (x ≡ 0 → ⊥) → follow step (suc j) x ≡ and_then (step x) (λ y. prepend x (follow step j y))
  unfolding follow
  follow_rest j x d = rw (false_of (eqb x 0) ((means_not (means_eq x 0)).shows d), follow) refl

  prepended : (x : ℕ) (r : Option (List ℕ)) (o : List ℕ) → prepend x r ≡ some o → (q : List ℕ) × (r ≡ some q) × (x ∷ q ≡ o)
  unfolding prepend
  prepended x (some q) o e = (q, refl, cc)
  prepended x none o e = absurd (nothing e)

  pub course : (j x : ℕ) (o : List ℕ) → follow step j x ≡ some o → Course step x o × (length o ≤ j)
  course zero x o e = go (zero_or x)
    where
      go : (x ≡ 0) ⊎ (x ≡ 0 → ⊥) → Course step x o × (length o ≤ 0)
      go (inl z) = none_listed zero x o z e
      go (inr d) = absurd (nothing (sym (follow_on_none x d) ∙ e))
  course (suc j) x o e = go (zero_or x) (λ y r. course j y r)
    where
      go : (x ≡ 0) ⊎ (x ≡ 0 → ⊥) → ((y : ℕ) (r : List ℕ) → follow step j y ≡ some r → Course step y r × (length r ≤ j))
          → Course step x o × (length o ≤ suc j)
      go (inl z) later = none_listed (suc j) x o z e
      go (inr d) later =
          let (y, p, q) = and_some (step x) (λ y. prepend x (follow step j y)) o (sym (follow_rest j x d) ∙ e) in
          let (r, f, g) = prepended x (follow step j y) o q in
          subst (λ (u : List ℕ). Course step x u × (length u ≤ suc j)) g (first_listed j x y r d p (later y r f))

  -- among numbers other than 0 whose next ones are among them, or can't be read, nothing is ever listed
  pub never : (P : ℕ → Type 0) → ((x : ℕ) → P x → (x ≡ 0 → ⊥) × ((y : ℕ) → step x ≡ some y → P y)) → (j x : ℕ) → P x → follow step j x ≡ none
  unfolding prepend
  never P f zero x p = follow_on_none x (f x p).0
  never P f (suc j) x p = follow_rest j x (f x p).0 ∙ go (either_read (step x)) (λ y e. never P f j y ((f x p).1 y e))
    where
      go : ((y : ℕ) × (step x ≡ some y)) ⊎ (step x ≡ none) → ((y : ℕ) → step x ≡ some y → follow step j y ≡ none)
          → and_then (step x) (λ y. prepend x (follow step j y)) ≡ none
      go (inl (y, e)) later = and_then_lem _ e ∙ ap (prepend x) (later y e)
      go (inr e) later = and_none _ e
