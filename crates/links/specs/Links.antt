-- For each border number the least side with that border, found from the last place of E2e to the first.
-- Assumes nothing.
use Rattle.std.specs.Prelude.{◌≡◌, refl, true, ◌⊎◌, List, ◌++◌, ℕ, ◌+◌, ◌*◌, ◌-◌, ◌/◌, ◌%◌, ◌≤◌, ◌<◌, eqb, length, take, drop, set, replicate}
use Rattle.std.proofs.Math.Path.{ap}
use Rattle.std.proofs.Common.{sym, ◌∙◌, length-set, length-append, length-take, length-drop, get_or-drop, drop_at, length-take-le}
use Rattle.std.proofs.Math.Logic.{inl, inr}
use native.Mathlib.Omega.{arith}
use Rattle.std.proofs.Math.Dec.{not_T}
use Rattle.std.proofs.lemmas.List.{length-replicate, take-set-le}
use Rattle.std.proofs.Math.ListN.{get_or-append}
use Rattle.lists.specs.Tests.{within}
use Rattle.lists.specs.TestLaws.{true_of, decide, means_eq, means_within}
use Rattle.lists.specs.Search.{at}
use Rattle.lists.specs.SearchLaws.{lt_or_eq, at_blank}
use Rattle.lists.specs.Stores.{at_same, at_other}
use Rattle.lists.specs.Parts.{part, length_part, part_take, put_take}
use Rattle.rules.specs.Elements.{corner, Side, slot, side_at, first_side}
use Rattle.rules.specs.Recovery.{side_of_border}
use Rattle.theory.specs.Sides.{SidesBy, three, four, sides_by_lem, side_of_lem, slot_side_at, slot_below, slot_less}
use Rattle.theory.specs.Least.{First, first_is}
use Rattle.walk.specs.Layout.{Sizes, e2e_in, Linked}
use Rattle.walk.specs.Sides.{e_length, e_elements, e_at}

-- V2e and E2e are kept, and each border number has its least side
pub record LinkedBy (n m : ℕ) (w w' : List ℕ) : Type 0 where
  pub front : take (n + 4 * m) w' ≡ take (n + 4 * m) w
  pub linked : Linked n m w'
  pub long : length w' ≡ length w

-- c is the least side with entry x that stands at p or later; 0 where there is none
pub data LeastFrom (E : List ℕ) (p x c : ℕ) : Type 0 where
  none : c ≡ 0 → ((s : ℕ) → Side E s → at E (slot s) ≡ x → p ≤ slot s → ⊥) → LeastFrom E p x c
  some : Side E c → at E (slot c) ≡ x → p ≤ slot c → ((s : ℕ) → Side E s → at E (slot s) ≡ x → p ≤ slot s → slot c ≤ slot s) → LeastFrom E p x c

-- the places from p on are done: each border number has the least side that stands there
pub record Linkable (n m p : ℕ) (w : List ℕ) : Type 0 where
  pub sizes : Sizes n m w
  pub links : (b : ℕ) → 1 ≤ b → b ≤ 4 * m → LeastFrom (e2e_in n m w) p (8 * b) (at w (n + 4 * m + b - 1))

pub record Linking (n m p : ℕ) (w w' : List ℕ) : Type 0 where
  pub front : take (n + 4 * m) w' ≡ take (n + 4 * m) w
  pub long : length w' ≡ length w
  pub done : Linkable n m p w'

-- one more step
pub linking_on : {n m p q : ℕ} {w w' v : List ℕ} → Linking n m p w w' → Linking n m q w' v → Linking n m q w v
linking_on k l = record { front = l.front ∙ k.front; long = l.long ∙ k.long; done = l.done }

module _ {n m p : ℕ} {w : List ℕ} (l : Linkable n m (p + 1) w) (inside : p < 4 * m) where
  abbrev E : List ℕ
  E = e2e_in n m w

  -- a side whose entry isn't the one at p stands elsewhere
  later : (x : ℕ) → (at w (n + p) ≡ x → ⊥) → (s : ℕ) → Side E s → at E (slot s) ≡ x → p ≤ slot s → p + 1 ≤ slot s
  later x d s a e h =
      elim (lt_or_eq p (slot s) (omega arith)) [
        | inl l ↦ omega arith
        | inr q ↦ absurd (d (sym (e_at n m w l.sizes p inside) ∙ ap (at E) q ∙ e))
      ]

  keep : (x c : ℕ) → (at w (n + p) ≡ x → ⊥) → LeastFrom E (p + 1) x c → LeastFrom E p x c
  keep x c d (none e f) = none e (λ s a q h. f s a q (later x d s a q h))
  keep x c d (some a q h f) = some a q (omega arith) (λ s b r l. f s b r (later x d s b r l))

  -- the entry at p is no border's code
  pub link_skip : ((b : ℕ) → 1 ≤ b → b ≤ 4 * m → at w (n + p) ≡ 8 * b → ⊥) → Linking n m p w w
  link_skip f =
      record {
        front = refl;
        long = refl;
        done = record { sizes = l.sizes; links = λ b x y. keep (8 * b) (at w (n + 4 * m + b - 1)) (f b x y) (l.links b x y) };
      }

  -- an entry that isn't 0 stands at a side
  here : (at w (n + p) ≡ 0 → ⊥) → Side E (side_at p)
  unfolding side_at
  here d =
      let f : (8 * (p / 4 + 1) + (p % 4 + 1)) / 8 ≡ p / 4 + 1 = omega arith in
      let g : (8 * (p / 4 + 1) + (p % 4 + 1)) % 8 ≡ p % 4 + 1 = omega arith in
      side_of_lem E (8 * (p / 4 + 1) + (p % 4 + 1)) (rw f (omega arith)) (rw (f, e_elements n m w l.sizes) (omega arith)) (rw g (omega arith))
      (rw (f, g) (go (sides_by_lem (corner E (p / 4 + 1) 4))))
    where
      go : {j : ℕ} → SidesBy (corner E (p / 4 + 1) 4) j → p % 4 + 1 ≤ j
      go (four q e) = omega arith
      go (three q e) = elim (lt_or_eq (p % 4) 3 (omega arith)) [
        | inl l ↦ omega arith
        | inr r ↦ let i : p ≡ 4 * (p / 4 + 1 - 1) + 3 = omega arith in absurd (d (sym (e_at n m w l.sizes p inside) ∙ ap (at E) i ∙ q))
      ]

  -- the entry at p is the code of border a, and the side there is the least with it
  pub link_put : (a i : ℕ) {x : ℕ} → 1 ≤ a → a ≤ 4 * m → at w (n + p) ≡ 8 * a → i ≡ n + 4 * m + a - 1 → x ≡ side_at p → Linking n m p w (set w i x)
  link_put a i from to e j code =
      rw code
      (record {
        front = front;
        long = length-set w i (side_at p);
        done = record { sizes = z; links = λ b u v. rw same_e (go b u v (decide (means_eq b a))) };
      })
    where
      front : take (n + 4 * m) (set w i (side_at p)) ≡ take (n + 4 * m) w
      front = take-set-le (n + 4 * m) w i (side_at p) (omega arith)

      z : Sizes n m (set w i (side_at p))
      z = record { vertices = l.sizes.vertices; elements = l.sizes.elements; long = length-set w i (side_at p) ∙ l.sizes.long }

      -- what stands before the border numbers kept, E2e is kept
      same_e : e2e_in n m (set w i (side_at p)) ≡ E
      same_e =
          sym (part_take n (4 * m) (n + 4 * m) (set w i (side_at p)) (omega arith) (omega (arith, z.long)))
          ∙ ap (part n (4 * m)) front
          ∙ part_take n (4 * m) (n + 4 * m) w (omega arith) (omega (arith, l.sizes.long))

      side : Side E (side_at p)
      side = here (λ q. omega arith)

      entry : at E (slot (side_at p)) ≡ 8 * a
      entry = ap (at E) (slot_side_at p) ∙ e_at n m w l.sizes p inside ∙ e

      go : (b : ℕ) → 1 ≤ b → b ≤ 4 * m → (b ≡ a) ⊎ (b ≡ a → ⊥) → LeastFrom E p (8 * b) (at (set w i (side_at p)) (n + 4 * m + b - 1))
      go b u v (inl q) =
          let o : n + 4 * m + b - 1 ≡ i = omega arith in
          let same : at (set w i (side_at p)) (n + 4 * m + b - 1) ≡ side_at p = ap (at (set w i (side_at p))) o ∙ at_same w i (side_at p) (omega (arith, l.sizes.long)) in
          rw same (some side (entry ∙ ap (λ (t : ℕ). 8 * t) (sym q)) (rw (slot_side_at p) (omega arith)) (λ s c r h. rw (slot_side_at p) h))
      go b u v (inr q) =
          let differ : n + 4 * m + b - 1 ≡ i → ⊥ = λ o. q (omega arith) in
          rw (at_other w i (side_at p) (n + 4 * m + b - 1) differ)
          (keep (8 * b) (at w (n + 4 * m + b - 1)) (λ r. q (omega arith)) (l.links b u v))

-- from the first place on that is the least side of all
least_all : (E : List ℕ) (x c : ℕ) → LeastFrom E 0 x c → First E (λ t. eqb (at E (slot t)) x) c
least_all E x c (none e f) =
    First.nobody e (λ s a. not_T (eqb (at E (slot s)) x) (λ t. f s a ((means_eq (at E (slot s)) x).says t) (omega arith)))
least_all E x c (some a q h f) =
    First.somebody a ((means_eq (at E (slot c)) x).shows q)
    (λ s b l. not_T (eqb (at E (slot s)) x) (λ t. omega (arith, f s b ((means_eq (at E (slot s)) x).says t) (omega arith), slot_less E s c b a l)))

least_border : (E : List ℕ) (b c : ℕ) → 1 ≤ b → b ≤ length E → LeastFrom E 0 (8 * b) c → c ≡ side_of_border E (8 * b)
unfolding side_of_border
least_border E b c x y k =
    let i : 8 * b / 8 ≡ b = omega arith in
    let inside : within 1 (length E) (8 * b / 8) ≡ true = true_of _ ((means_within 1 (length E) (8 * b / 8)).shows (rw i (x, y))) in
    let one : side_of_border E (8 * b) ≡ first_side E (λ t. eqb (at E (slot t)) (8 * b)) = rw (inside, side_of_border) in
    sym (one ∙ first_is E (λ t. eqb (at E (slot t)) (8 * b)) c (least_all E (8 * b) c k))

pub linking_all : {n m : ℕ} {w w' : List ℕ} → Linking n m 0 w w' → LinkedBy n m w w'
linking_all {n} {m} {w} {w'} k =
    let d = k.done in
    record {
      front = k.front;
      linked = λ b x y. least_border (e2e_in n m w') b (at w' (n + 4 * m + b - 1)) x (rw (e_length n m w' d.sizes) y) (d.links b x y);
      long = k.long;
    }

-- the places of the border numbers cleared: no side stands past the last place
module _ {n m : ℕ} {w : List ℕ} (z : Sizes n m w) {ys : List ℕ} (e : ys ≡ replicate (length (part (n + 4 * m) (n + 8 * m - (n + 4 * m)) w)) 0) where
  abbrev rest : List ℕ
  rest = drop (n + 8 * m - (n + 4 * m)) (drop (n + 4 * m) w)

  abbrev wiped : List ℕ
  wiped = take (n + 4 * m) w ++ (ys ++ rest)

  zeroed : ys ≡ replicate (4 * m) 0
  zeroed =
      let many : n + 8 * m - (n + 4 * m) ≡ 4 * m = omega arith in
      e ∙ ap (λ (k : ℕ). replicate k 0) (length_part (n + 4 * m) (n + 8 * m - (n + 4 * m)) w (omega (arith, z.long)) ∙ many)

  size : length ys ≡ 4 * m
  size = ap length zeroed ∙ length-replicate (4 * m) 0

  long : length wiped ≡ length w
  long = simp (length-append, length-take, length-drop) (omega (arith, size, z.long))

  sizes : Sizes n m wiped
  sizes = record { vertices = z.vertices; elements = z.elements; long = long ∙ z.long }

  blank : (i : ℕ) → i < 4 * m → at wiped (n + 4 * m + i) ≡ 0
  blank i h =
      sym (get_or-drop (n + 4 * m) wiped i 0)
      ∙ ap (λ (l : List ℕ). at l i) (drop_at (take (n + 4 * m) w) (ys ++ rest) (n + 4 * m) (length-take-le (n + 4 * m) w (omega (arith, z.long))))
      ∙ get_or-append ys rest 0 i (omega (arith, size))
      ∙ ap (λ (l : List ℕ). at l i) zeroed
      ∙ at_blank (4 * m) i

  none_yet : (b : ℕ) → 1 ≤ b → b ≤ 4 * m → LeastFrom (e2e_in n m wiped) (4 * m) (8 * b) (at wiped (n + 4 * m + b - 1))
  none_yet b x y =
      let i : n + 4 * m + b - 1 ≡ n + 4 * m + (b - 1) = omega arith in
      none (ap (at wiped) i ∙ blank (b - 1) (omega arith))
      (λ s a q h. omega (arith, slot_below (e2e_in n m wiped) s a, e_length n m wiped sizes))

  pub linking_start : Linking n m (4 * m) w wiped
  linking_start =
      record {
        front = put_take (n + 4 * m) w ys (omega (arith, z.long)) (n + 8 * m - (n + 4 * m));
        long = long;
        done = record { sizes = sizes; links = none_yet };
      }
