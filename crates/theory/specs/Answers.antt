-- What a call past checks 3 and 4 may take for granted. What build answers, with fit lengths and rows: one of the refusals 6 to 8 and 18
-- exactly when the list isn't accepted; where it is, only 9 remains, exactly when B2e is shorter than k.
-- Assumes nothing.
use Rattle.std.specs.Prelude.{◌≡◌, refl, Bool, true, false, ◌⊎◌, ◌↔◌, List, ℕ, ◌≤◌, ◌<◌, T, leb, eqb, length}
use Rattle.std.proofs.Math.Path.{ap, subst}
use Rattle.std.proofs.Common.{sym, ◌∙◌, inl, inr}
use native.Mathlib.Omega.{arith}
use Rattle.std.proofs.Math.Dec.{not_T}
use Rattle.lists.specs.TestLaws.{true_of, false_of, passes, both_pass, decide, means_not, means_eq, means_le, zero_or}
use Rattle.lists.specs.SearchLaws.{le_or_lt}
use Rattle.rules.specs.Pairing.{Accepted, unfit_corner, repeated_corner, rows_fit, sizes_fit}
use Rattle.rules.specs.Tables.{partner, borders, edges}
use Rattle.rules.specs.Refusals.{Answer, gives, refused, crowded_side, alike_side, unordered_vertex, clashing, check_found, row_checks, list_answer, Buffers}
use Rattle.rules.specs.Refusals.{build_lengths, length_checks, room_check, build_answer}
use Rattle.theory.specs.FitRows.{Fit, means_fit}
use Rattle.theory.specs.Pairings.{pairing_exists, the_pairing}
use Rattle.theory.specs.Orders.{good, accepted_of}
use Rattle.theory.specs.Deciding.{means_ordered, means_conformal, means_accepted}

-- a check that found nothing goes on to the later ones; else it refuses
module _ (x : ℕ) (refusal rest : Answer) where
  pub check_clear : x ≡ 0 → check_found x refusal rest ≡ rest
  unfolding check_found
  check_clear e = rw (true_of (eqb x 0) ((means_eq x 0).shows e), check_found)

  pub check_refuses : (x ≡ 0 → ⊥) → check_found x refusal rest ≡ refusal
  unfolding check_found
  check_refuses d = rw (false_of (eqb x 0) ((means_not (means_eq x 0)).shows d), check_found)

-- B2e holds k entries, or 9 comes
pub room_enough : (room k e : ℕ) → k ≤ room → room_check room (gives k e) ≡ gives k e
unfolding room_check
room_enough room k e h = rw (true_of (leb k room) ((means_le k room).shows h), room_check)

pub room_short : (room k e : ℕ) → room < k → room_check room (gives k e) ≡ refused 9 k 0
unfolding room_check
room_short room k e h = rw (false_of (leb k room) (not_T (leb k room) (λ t. omega (arith, (means_le k room).says t))), room_check)

-- an answer has passed the checks before it
pub past_lengths : (sizes lengths : Bool) (rest : Answer) (k e : ℕ) → length_checks sizes lengths rest ≡ gives k e → T sizes × T lengths × (rest ≡ gives k e)
unfolding length_checks
past_lengths true true rest k e g = (tt, tt, g)
past_lengths true false rest k e g = let z : ◌≡◌ {A = ℕ} 0 1 = cc in absurd (omega arith)
past_lengths false lengths rest k e g = let z : ◌≡◌ {A = ℕ} 0 1 = cc in absurd (omega arith)

pub past_room : (room k e : ℕ) (a : Answer) → room_check room a ≡ gives k e → (a ≡ gives k e) × (k ≤ room)
unfolding room_check
past_room room k e (refused r p q) g = let z : ◌≡◌ {A = ℕ} 0 1 = cc in absurd (omega arith)
past_room room k e (gives i j) g = go (le_or_lt i room)
  where
    go : (i ≤ room) ⊎ (room < i) → (gives i j ≡ gives k e) × (k ≤ room)
    go (inl h) = let f = sym (room_enough room i j h) ∙ g in let c : i ≡ k = cc in (f, omega arith)
    go (inr h) = let f = sym (room_short room i j h) ∙ g in let z : ◌≡◌ {A = ℕ} 0 1 = cc in absurd (omega arith)

pub past_check : (x k e r p q : ℕ) (rest : Answer) → check_found x (refused r p q) rest ≡ gives k e → (x ≡ 0) × (rest ≡ gives k e)
past_check x k e r p q rest g = go (zero_or x)
  where
    go : (x ≡ 0) ⊎ (x ≡ 0 → ⊥) → (x ≡ 0) × (rest ≡ gives k e)
    go (inl z) = (z, sym (check_clear x (refused r p q) rest z) ∙ g)
    go (inr d) = let h = check_refuses x (refused r p q) rest d in let z : ◌≡◌ {A = ℕ} 0 1 = cc in absurd (omega arith)

-- a refusal is this check's, or comes after it
pub refused_here : (x i j k r p q : ℕ) (rest : Answer) → check_found x (refused i j k) rest ≡ refused r p q
    → (r ≡ i) ⊎ ((x ≡ 0) × (rest ≡ refused r p q))
refused_here x i j k r p q rest g = elim (zero_or x) [
  | inl z ↦ inr (z, sym (check_clear x (refused i j k) rest z) ∙ g)
  | inr d ↦ let h = check_refuses x (refused i j k) rest d in let e : r ≡ i = cc in inl e
]

pub gives_refused : {k e r p q : ℕ} → gives k e ≡ refused r p q → ⊥
gives_refused f = let z : ◌≡◌ {A = ℕ} 0 1 = cc in omega arith

-- what a check refuses before one rest it refuses before another
pub still_refused : (x : ℕ) (refusal a b : Answer) {r p q : ℕ} → check_found x refusal a ≡ refused r p q → (a ≡ refused r p q → b ≡ refused r p q)
    → check_found x refusal b ≡ refused r p q
still_refused x refusal a b g f = elim (zero_or x) [
  | inl z ↦ check_clear x refusal b z ∙ f (sym (check_clear x refusal a z) ∙ g)
  | inr d ↦ check_refuses x refusal b d ∙ sym (check_refuses x refusal a d) ∙ g
]

-- checks 3 and 4: what they say by themselves they say before any later check
module _ (n : ℕ) (L : List ℕ) where
  pub rows_clear : (rest : Answer) → unfit_corner n L ≡ 0 → repeated_corner L ≡ 0 → row_checks n L rest ≡ rest
  rows_clear rest e f = check_clear _ _ _ e ∙ check_clear _ _ _ f

  pub rows_passed : {k e : ℕ} (rest : Answer) → row_checks n L rest ≡ gives k e → (unfit_corner n L ≡ 0) × (repeated_corner L ≡ 0) × (rest ≡ gives k e)
  rows_passed rest g =
      let (x, h) = past_check (unfit_corner n L) _ _ _ _ _ _ g in
      let (y, i) = past_check (repeated_corner L) _ _ _ _ _ _ h in (x, y, i)

  -- past them, with fit sizes, the rows are fit
  pub fit_passed : {k e : ℕ} (rest : Answer) → T (sizes_fit n L) → row_checks n L rest ≡ gives k e → Fit n L
  unfolding rows_fit
  fit_passed rest sizes g =
      let (x, y, i) = rows_passed rest g in
      (means_fit n L).says
      (both_pass (sizes_fit n L) _ sizes
      (both_pass (eqb (unfit_corner n L) 0) (eqb (repeated_corner L) 0) ((means_eq _ 0).shows x) ((means_eq _ 0).shows y)))

  -- what they refuse before one rest they refuse before another, where the one doesn't refuse, or the other does alike
  pub rows_refused : {r p q : ℕ} (a b : Answer) → row_checks n L a ≡ refused r p q → (a ≡ refused r p q → b ≡ refused r p q) → row_checks n L b ≡ refused r p q
  rows_refused a b g f = still_refused _ _ _ _ g (λ h. still_refused _ _ _ _ h f)

-- one of the refusals 6 to 8 and 18
abbrev pub LateNumber : ℕ → Type 0
LateNumber r = ((6 ≤ r) × (r ≤ 8)) ⊎ (r ≡ 18)

abbrev pub Late : Answer → Type 0
Late x = (r : ℕ) × (a : ℕ) × (b : ℕ) × LateNumber r × (x ≡ refused r a b)

late_check : (x r p q : ℕ) (rest : Answer) → LateNumber r → (x ≡ 0 → Late rest) → Late (check_found x (refused r p q) rest)
late_check x r p q rest late f = go (zero_or x)
  where
    go : (x ≡ 0) ⊎ (x ≡ 0 → ⊥) → Late (check_found x (refused r p q) rest)
    go (inl e) = rw (check_clear x (refused r p q) rest e) (f e)
    go (inr d) = (r, p, q, late, check_refuses x (refused r p q) rest d)

module _ (n : ℕ) (L : List ℕ) (rows : T (rows_fit n L)) where
  -- with fit rows checks 3 and 4 find nothing
  pub fit_rows_clear : (rest : Answer) → row_checks n L rest ≡ rest
  unfolding rows_fit
  fit_rows_clear rest =
      let (a, t) = passes (sizes_fit n L) _ rows in
      let (b, c) = passes (eqb (unfit_corner n L) 0) (eqb (repeated_corner L) 0) t in
      rows_clear n L rest ((means_eq (unfit_corner n L) 0).says b) ((means_eq (repeated_corner L) 0).says c)

  -- of an accepted list checks 3 to 8 and 18 find nothing
  pub accepted_answer : Accepted n L → list_answer n L ≡ gives (borders L) (edges L)
  unfolding list_answer
  accepted_answer x =
      let g = good n L x in
      let (c, d) = (pairing_exists n L g.fit).0 (partner L, g.pairing) in
      fit_rows_clear _
      ∙ check_clear (crowded_side L) _ _ c
      ∙ check_clear (alike_side L) _ _ d
      ∙ check_clear (unordered_vertex n L) _ _ ((means_eq (unordered_vertex n L) 0).says ((means_ordered n L g.pairing).shows g.orders))
      ∙ check_clear (clashing L) _ _ ((means_eq (clashing L) 0).says ((means_conformal n L g.fit).shows x.meeting))

  -- of another one of the checks 6 to 8 and 18 finds something
  pub unaccepted_answer : (Accepted n L → ⊥) → Late (list_answer n L)
  unfolding list_answer
  unaccepted_answer none =
      let fit = (means_fit n L).says rows in
      subst Late (sym (fit_rows_clear _))
      (late_check (crowded_side L) 6 _ _ _ (inl (omega arith, omega arith))
      (λ c.
      late_check (alike_side L) 7 _ _ _ (inl (omega arith, omega arith))
      (λ a.
      late_check (unordered_vertex n L) 8 _ _ _ (inl (omega arith, omega arith))
      (λ o.
      late_check (clashing L) 18 _ _ _ (inr refl)
      (λ m.
      let p = the_pairing n L fit a in
      let orders = (means_ordered n L p).says ((means_eq (unordered_vertex n L) 0).shows o) in
      let meeting = (means_conformal n L fit).says ((means_eq (clashing L) 0).shows m) in
      absurd (none (accepted_of n L (record { fit = fit; pairing = p; orders = orders }) meeting)))))))

  module _ (w : Buffers) (sizes : T (sizes_fit n L)) (lengths : T (build_lengths n L w)) where
    -- with fit lengths the answer is that of checks 3 to 9
    fit_answer : build_answer n L w ≡ room_check (length w.border) (list_answer n L)
    unfolding build_answer length_checks
    fit_answer =
        rw (true_of (sizes_fit n L) sizes, true_of (build_lengths n L w) lengths, length_checks)

    -- theorem 2: of an accepted list only 9 remains, exactly when B2e is shorter than k
    pub build_accepted : Accepted n L → build_answer n L w ≡ room_check (length w.border) (gives (borders L) (edges L))
    build_accepted x = fit_answer ∙ ap (room_check (length w.border)) (accepted_answer x)

    -- theorem 2: one of the refusals 6 to 8 and 18 exactly when the list isn't accepted
    pub build_late : Late (build_answer n L w) ↔ (Accepted n L → ⊥)
    unfolding room_check
    build_late = (
      (λ (r, a, b, late, e) x. not_late r a b late (le_or_lt (borders L) (length w.border)) (sym (build_accepted x) ∙ e)),
      (λ none.
          let (r, a, b, late, e) = unaccepted_answer none in
          (r, a, b, late, fit_answer ∙ ap (room_check (length w.border)) e)),
    )
      where
        other : (r : ℕ) → LateNumber r → r ≡ 9 → ⊥
        other r (inl (from, to)) e = omega arith
        other r (inr z) e = omega arith

        not_late : (r a b : ℕ) → LateNumber r → (borders L ≤ length w.border) ⊎ (length w.border < borders L) → room_check (length w.border) (gives (borders L) (edges L)) ≡ refused r a b → ⊥
        not_late r a b late (inl h) e =
            let g = room_enough (length w.border) (borders L) (edges L) h in
            let z : ◌≡◌ {A = ℕ} 0 1 = cc in omega arith
        not_late r a b late (inr h) e =
            let g = room_short (length w.border) (borders L) (edges L) h in
            let z : r ≡ 9 = cc in other r late z

-- counts come only for an accepted list
pub given_accepted : (n : ℕ) (L : List ℕ) → T (sizes_fit n L) → {k e : ℕ} → list_answer n L ≡ gives k e → Accepted n L
unfolding list_answer
given_accepted n L s g = elim (decide (means_accepted n L)) [
  | inl a ↦ a
  | inr d ↦ let (r, a, b, late, f) = unaccepted_answer n L ((means_fit n L).shows (fit_passed n L _ s g)) d in absurd (gives_refused (sym g ∙ f))
]

-- the answer x isn't refusal q
abbrev pub Never : ℕ → Answer → Type 0
Never q x = (a b : ℕ) → x ≡ refused q a b → ⊥

pub never_gives : (q k e : ℕ) → Never q (gives k e)
never_gives q k e a b p = let z : ◌≡◌ {A = ℕ} 0 1 = cc in omega arith

pub never_refused : (q r c d : ℕ) → (r ≡ q → ⊥) → Never q (refused r c d)
never_refused q r c d f a b p = let z : r ≡ q = cc in f z

never_check : (q x r c d : ℕ) (rest : Answer) → (r ≡ q → ⊥) → Never q rest → Never q (check_found x (refused r c d) rest)
never_check q x r c d rest other f a b p = go (zero_or x)
  where
    go : (x ≡ 0) ⊎ (x ≡ 0 → ⊥) → ⊥
    go (inl e) = f a b (sym (check_clear x (refused r c d) rest e) ∙ p)
    go (inr n) = never_refused q r c d other a b (sym (check_refuses x (refused r c d) rest n) ∙ p)

-- checks 3 to 8 and 18 give their own numbers and no other, so neither 5 nor 9
pub list_never : (n : ℕ) (L : List ℕ) (q : ℕ) → ((r : ℕ) → 3 ≤ r → r ≤ 18 → (r ≡ 5 → ⊥) → (r ≡ 9 → ⊥) → r ≡ q → ⊥) → Never q (list_answer n L)
unfolding list_answer
list_never n L q other =
    never_check q (unfit_corner n L) 3 _ _ _ (other 3 (omega arith) (omega arith) (λ z. omega arith) (λ z. omega arith))
    (never_check q (repeated_corner L) 4 _ _ _ (other 4 (omega arith) (omega arith) (λ z. omega arith) (λ z. omega arith))
    (never_check q (crowded_side L) 6 _ _ _ (other 6 (omega arith) (omega arith) (λ z. omega arith) (λ z. omega arith))
    (never_check q (alike_side L) 7 _ _ _ (other 7 (omega arith) (omega arith) (λ z. omega arith) (λ z. omega arith))
    (never_check q (unordered_vertex n L) 8 _ _ _ (other 8 (omega arith) (omega arith) (λ z. omega arith) (λ z. omega arith))
    (never_check q (clashing L) 18 _ _ _ (other 18 (omega arith) (omega arith) (λ z. omega arith) (λ z. omega arith))
    (never_gives q (borders L) (edges L)))))))

never_room : (q room : ℕ) (x : Answer) → (9 ≡ q → ⊥) → Never q x → Never q (room_check room x)
unfolding room_check
never_room q room (refused r c d) other f a b p = f a b p
never_room q room (gives k e) other f a b p = go (le_or_lt k room)
  where
    go : (k ≤ room) ⊎ (room < k) → ⊥
    go (inl h) = f a b (sym (room_enough room k e h) ∙ p)
    go (inr h) = never_refused q 9 k 0 other a b (sym (room_short room k e h) ∙ p)

never_lengths : (q : ℕ) (sizes lengths : Bool) (x : Answer) → 2 < q → Never q x → Never q (length_checks sizes lengths x)
unfolding length_checks
never_lengths q true true x h f = f
never_lengths q true false x h f = never_refused q 2 0 0 (λ z. omega arith)
never_lengths q false lengths x h f = never_refused q 1 0 0 (λ z. omega arith)

-- document 02, point 2: "Refusal 5 no longer occurs", whatever build is given
pub build_never_five : (n : ℕ) (L : List ℕ) (w : Buffers) → Never 5 (build_answer n L w)
unfolding build_answer
build_never_five n L w =
    never_lengths 5 (sizes_fit n L) (build_lengths n L w) _ (omega arith)
    (never_room 5 (length w.border) _ (λ z. omega arith) (list_never n L 5 (λ r from to d e. d)))
