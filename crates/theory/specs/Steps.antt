-- The next and the previous side of an element: numbers that go round, and each step undoes the other.
-- Assumes nothing.
use Rattle.std.specs.Prelude.{◌≡◌, List, ℕ, zero, suc, ◌+◌, ◌*◌, ◌-◌, ◌/◌, ◌%◌, ◌≤◌, ◌<◌, eqb}
use Rattle.std.proofs.Common.{ap, sym, ◌∙◌, arith}
use Rattle.lists.specs.TestLaws.{Test, pass, fail, test, means_not, means_eq}
use Rattle.rules.specs.Elements.{corner, sides, Side, next_number, previous_number, next, previous}
use Rattle.theory.specs.Sides.{three, four, SidesBy, sides_by_lem, side_facts, side_of_lem}

-- the number of the next side goes round, and that of the previous one back
pub data NextNumber (k i r : ℕ) : Type 0 where
  wraps : i ≡ k → r ≡ 1 → NextNumber k i r
  grows : (i ≡ k → ⊥) → r ≡ i + 1 → NextNumber k i r

pub next_number_lem : (k i : ℕ) → NextNumber k i (next_number k i)
unfolding next_number
next_number_lem k i = go (test (eqb i k))
  where
    go : Test (eqb i k) → NextNumber k i (next_number k i)
    go (pass t e) = wraps ((means_eq i k).says t) (rw (e, next_number))
    go (fail t e) = grows ((means_not (means_eq i k)).says t) (rw (e, next_number))

pub data PreviousNumber (k i r : ℕ) : Type 0 where
  wraps : i ≡ 1 → r ≡ k → PreviousNumber k i r
  falls : (i ≡ 1 → ⊥) → r ≡ i - 1 → PreviousNumber k i r

pub previous_number_lem : (k i : ℕ) → PreviousNumber k i (previous_number k i)
unfolding previous_number
previous_number_lem k i = go (test (eqb i 1))
  where
    go : Test (eqb i 1) → PreviousNumber k i (previous_number k i)
    go (pass t e) = wraps ((means_eq i 1).says t) (rw (e, previous_number))
    go (fail t e) = falls ((means_not (means_eq i 1)).says t) (rw (e, previous_number))

pub next_in : (k i : ℕ) → 1 ≤ i → i ≤ k → (1 ≤ next_number k i) × (next_number k i ≤ k)
next_in k i a b = go (next_number_lem k i)
  where
    go : {r : ℕ} → NextNumber k i r → (1 ≤ r) × (r ≤ k)
    go (wraps e f) = omega arith
    go (grows e f) = omega arith

pub previous_in : (k i : ℕ) → 1 ≤ i → i ≤ k → (1 ≤ previous_number k i) × (previous_number k i ≤ k)
previous_in k i a b = go (previous_number_lem k i)
  where
    go : {r : ℕ} → PreviousNumber k i r → (1 ≤ r) × (r ≤ k)
    go (wraps e f) = omega arith
    go (falls e f) = omega arith

pub previous_next_number : (k i : ℕ) → 1 ≤ i → i ≤ k → previous_number k (next_number k i) ≡ i
previous_next_number k i a b = go (next_number_lem k i) (previous_number_lem k (next_number k i))
  where
    go : {r q : ℕ} → NextNumber k i r → PreviousNumber k r q → q ≡ i
    go (wraps e f) (wraps g h) = omega arith
    go (wraps e f) (falls g h) = absurd (g f)
    go (grows e f) (wraps g h) = omega arith
    go (grows e f) (falls g h) = omega arith

pub next_previous_number : (k i : ℕ) → 1 ≤ i → i ≤ k → next_number k (previous_number k i) ≡ i
next_previous_number k i a b = go (previous_number_lem k i) (next_number_lem k (previous_number k i))
  where
    go : {r q : ℕ} → PreviousNumber k i r → NextNumber k r q → q ≡ i
    go (wraps e f) (wraps g h) = omega arith
    go (wraps e f) (grows g h) = absurd (g f)
    go (falls e f) (wraps g h) = omega arith
    go (falls e f) (grows g h) = omega arith

-- x comes back first after exactly k steps of a sequence
pub record FirstBack (x k : ℕ) (xs : ℕ → ℕ) : Type 0 where
  pub back : xs k ≡ x
  pub sooner : (j : ℕ) → 1 ≤ j → j < k → xs j ≡ x → ⊥

-- j steps of next from side i of k count on from i, and after k from 1 again
pub data Ahead (k i j r : ℕ) : Type 0 where
  on : i + j ≤ k → r ≡ i + j → Ahead k i j r
  round : k < i + j → r + k ≡ i + j → Ahead k i j r

module _ (k i : ℕ) (ns : ℕ → ℕ) (from : 1 ≤ i) (to : i ≤ k) (begins : ns 0 ≡ i)
    (steps : (j : ℕ) → 1 ≤ ns j → ns j ≤ k → ns (suc j) ≡ next_number k (ns j)) where
  pub ahead : (j : ℕ) → j ≤ k → Ahead k i j (ns j)
  ahead zero h = on (omega arith) (omega arith)
  ahead (suc j) h = go (ahead j (omega arith)) (next_number_lem k (ns j))
    where
      go : Ahead k i j (ns j) → NextNumber k (ns j) (next_number k (ns j)) → Ahead k i (suc j) (ns (suc j))
      go (on a e) (wraps f g) = let s = steps j (omega arith) (omega arith) in round (omega arith) (omega arith)
      go (on a e) (grows f g) = let s = steps j (omega arith) (omega arith) in on (omega arith) (omega arith)
      go (round a e) (wraps f g) = absurd (omega arith)
      go (round a e) (grows f g) = let s = steps j (omega arith) (omega arith) in round (omega arith) (omega arith)

  -- so next first comes back after exactly k steps
  pub next_first_back : FirstBack i k ns
  next_first_back = record { back = go (ahead k (omega arith)); sooner = λ j l h. went j l h (ahead j (omega arith)) }
    where
      go : {r : ℕ} → Ahead k i k r → r ≡ i
      go (on a e) = omega arith
      go (round a e) = omega arith

      went : (j : ℕ) → 1 ≤ j → j < k → {r : ℕ} → Ahead k i j r → r ≡ i → ⊥
      went j l h (on a e) f = omega arith
      went j l h (round a e) f = omega arith

-- r is side i of the element of s
pub record Numbered (L : List ℕ) (s i r : ℕ) : Type 0 where
  pub side : Side L r
  pub same : r / 8 ≡ s / 8
  pub index : r % 8 ≡ i

module _ (L : List ℕ) where
  numbered : (s i : ℕ) → Side L s → 1 ≤ i → i ≤ sides L (s / 8) → Numbered L s i (8 * (s / 8) + i)
  numbered s i a b c =
      let f = side_facts L s a in
      let four : i ≤ 4 = le_four (sides_by_lem (corner L (s / 8) 4)) c in
      let e : (8 * (s / 8) + i) / 8 ≡ s / 8 = omega arith in
      let g : (8 * (s / 8) + i) % 8 ≡ i = omega arith in
      record {
        side = side_of_lem L (8 * (s / 8) + i) (rw e f.element_from) (rw e f.element_to) (rw g b) (rw (e, g) c);
        same = e;
        index = g;
      }
    where
      le_four : {k : ℕ} → SidesBy (corner L (s / 8) 4) k → i ≤ k → i ≤ 4
      le_four (three z e) h = omega arith
      le_four (four z e) h = omega arith

  pub next_numbered : (s : ℕ) → Side L s → Numbered L s (next_number (sides L (s / 8)) (s % 8)) (next L s)
  unfolding next
  next_numbered s a =
      let f = side_facts L s a in
      let (b, c) = next_in (sides L (s / 8)) (s % 8) f.number_from f.number_to in
      numbered s (next_number (sides L (s / 8)) (s % 8)) a b c

  pub previous_numbered : (s : ℕ) → Side L s → Numbered L s (previous_number (sides L (s / 8)) (s % 8)) (previous L s)
  unfolding previous
  previous_numbered s a =
      let f = side_facts L s a in
      let (b, c) = previous_in (sides L (s / 8)) (s % 8) f.number_from f.number_to in
      numbered s (previous_number (sides L (s / 8)) (s % 8)) a b c

  pub next_side_lem : (s : ℕ) → Side L s → Side L (next L s)
  next_side_lem s a = (next_numbered s a).side

  pub previous_side_lem : (s : ℕ) → Side L s → Side L (previous L s)
  previous_side_lem s a = (previous_numbered s a).side

  -- next and previous undo each other
  pub previous_next : (s : ℕ) → Side L s → previous L (next L s) ≡ s
  unfolding previous
  previous_next s a =
      let f = side_facts L s a in
      let x = next_numbered s a in
      rw (x.same, x.index, previous_next_number (sides L (s / 8)) (s % 8) f.number_from f.number_to) (omega arith)

  pub next_previous : (s : ℕ) → Side L s → next L (previous L s) ≡ s
  unfolding next
  next_previous s a =
      let f = side_facts L s a in
      let x = previous_numbered s a in
      rw (x.same, x.index, next_previous_number (sides L (s / 8)) (s % 8) f.number_from f.number_to) (omega arith)

  pub next_inj : (s t : ℕ) → Side L s → Side L t → next L s ≡ next L t → s ≡ t
  next_inj s t a b e = sym (previous_next s a) ∙ ap (previous L) e ∙ previous_next t b

  -- the next side is another one
  pub next_differs : (s : ℕ) → Side L s → next L s ≡ s → ⊥
  next_differs s a e = go (next_number_lem (sides L (s / 8)) (s % 8)) (sides_by_lem (corner L (s / 8) 4)) (next_numbered s a).index
    where
      go : {k r : ℕ} → NextNumber k (s % 8) r → SidesBy (corner L (s / 8) 4) k → next L s % 8 ≡ r → ⊥
      go (wraps f g) (three z h) i = omega arith
      go (wraps f g) (four z h) i = omega arith
      go (grows f g) h i = omega arith

  -- next, taken again and again from side s, first comes back after as many steps as the element has sides
  pub next_back : (s : ℕ) (cs : ℕ → ℕ) → Side L s → cs 0 ≡ s → ((j : ℕ) → Side L (cs j) → cs (suc j) ≡ next L (cs j))
      → FirstBack s (sides L (s / 8)) cs
  next_back s cs d b steps =
      record {
        back = omega (arith, (stays (sides L (s / 8))).1, numbers.back);
        sooner = λ j l h e. numbers.sooner j l h (ap (λ (c : ℕ). c % 8) e);
      }
    where
      stays : (j : ℕ) → Side L (cs j) × (cs j / 8 ≡ s / 8)
      stays zero = (rw b d, ap (λ (c : ℕ). c / 8) b)
      stays (suc j) =
          let (t, e) = stays j in
          let n = next_numbered (cs j) t in
          (rw (steps j t) n.side, ap (λ (c : ℕ). c / 8) (steps j t) ∙ n.same ∙ e)

      numbers : FirstBack (s % 8) (sides L (s / 8)) (λ j. cs j % 8)
      numbers =
          let f = side_facts L s d in
          next_first_back (sides L (s / 8)) (s % 8) (λ j. cs j % 8) f.number_from f.number_to (ap (λ (c : ℕ). c % 8) b)
          (λ j l h. let (t, e) = stays j in
          ap (λ (c : ℕ). c % 8) (steps j t) ∙ (next_numbered (cs j) t).index ∙ ap (λ (f : ℕ). next_number (sides L f) (cs j % 8)) e)
