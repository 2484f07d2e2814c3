-- Vertices that are marked in a buffer, vertex v by 1 at entry v − 1, and the sides that join a vertex to others, in the order of their codes.
-- Assumes nothing.
use Rattle.std.specs.Prelude.{◌≡◌, refl, ◌⊎◌, List, ℕ, ◌+◌, ◌*◌, ◌-◌, ◌/◌, ◌%◌, ◌≤◌, ◌<◌, length, set}
use Rattle.std.proofs.Common.{ap, sym, ◌∙◌, inl, inr, arith, length-set}
use Rattle.lists.specs.TestLaws.{decide, means_eq}
use Rattle.lists.specs.Search.{at}
use Rattle.lists.specs.SearchLaws.{le_or_lt}
use Rattle.lists.specs.Stores.{at_same, at_other}
use Rattle.rules.specs.Elements.{elements, sides}
use Rattle.theory.specs.Sides.{SideFacts, side_facts}
use Rattle.theory.specs.FitRows.{Fit}
use Rattle.theory.specs.Triangles.{Runs}
use Rattle.theory.specs.ContractTests.{Neighbours}

-- M has an entry for each vertex of the fit rows L
pub record Markable (L M : List ℕ) : Type 0 where
  pub n : ℕ
  pub fit : Fit n L
  pub room : n ≤ length M

-- N marks what M marks and the vertices with P, and no others
pub record Marked (P : ℕ → Type 0) (M N : List ℕ) : Type 0 where
  pub long : length N ≡ length M
  pub kept : (v : ℕ) → at M (v - 1) ≡ 1 → at N (v - 1) ≡ 1
  pub added : (v : ℕ) → P v → at N (v - 1) ≡ 1
  pub only : (v : ℕ) → 1 ≤ v → at N (v - 1) ≡ 1 → (at M (v - 1) ≡ 1) ⊎ P v

-- v itself, where it is a vertex
abbrev pub Itself : ℕ → ℕ → Type 0
Itself v u = (1 ≤ u) × (u ≡ v)

pub marked_none : (P : ℕ → Type 0) (M : List ℕ) → ((v : ℕ) → P v → ⊥) → Marked P M M
marked_none P M f = record { long = refl; kept = λ v e. e; added = λ v x. absurd (f v x); only = λ v a e. inl e }

pub marked_one : (v : ℕ) (M : List ℕ) → 1 ≤ v → v ≤ length M → Marked (Itself v) M (set M (v - 1) 1)
marked_one v M a b =
    record {
      long = length-set M (v - 1) 1;
      kept = λ u e. kept u e (decide (means_eq (u - 1) (v - 1)));
      added = λ u (c, e). ap (λ (w : ℕ). at (set M (v - 1) 1) (w - 1)) e ∙ here;
      only = λ u c e. only u c e (decide (means_eq u v));
    }
  where
    here : at (set M (v - 1) 1) (v - 1) ≡ 1
    here = at_same M (v - 1) 1 (omega arith)

    kept : (u : ℕ) → at M (u - 1) ≡ 1 → (u - 1 ≡ v - 1) ⊎ (u - 1 ≡ v - 1 → ⊥) → at (set M (v - 1) 1) (u - 1) ≡ 1
    kept u e (inl q) = ap (at (set M (v - 1) 1)) q ∙ here
    kept u e (inr d) = at_other M (v - 1) 1 (u - 1) d ∙ e

    only : (u : ℕ) → 1 ≤ u → at (set M (v - 1) 1) (u - 1) ≡ 1 → (u ≡ v) ⊎ (u ≡ v → ⊥) → (at M (u - 1) ≡ 1) ⊎ Itself v u
    only u c e (inl q) = inr (c, q)
    only u c e (inr d) = inl (sym (at_other M (v - 1) 1 (u - 1) (λ q. d (omega arith))) ∙ e)

-- first the vertices with P, then those with Q: those with R
marked_both : {P Q R : ℕ → Type 0} {M N O : List ℕ} → Marked P M N → Marked Q N O → ((v : ℕ) → R v → P v ⊎ Q v)
    → ((v : ℕ) → P v → R v) → ((v : ℕ) → Q v → R v) → Marked R M O
marked_both {P} {Q} {R} {M} {N} {O} x y f g h =
    record {
      long = y.long ∙ x.long;
      kept = λ v e. y.kept v (x.kept v e);
      added = λ v r. elim (f v r) [ inl p ↦ y.kept v (x.added v p) | inr q ↦ y.added v q ];
      only = λ v a e. only v a (y.only v a e);
    }
  where
    only : (v : ℕ) → 1 ≤ v → (at N (v - 1) ≡ 1) ⊎ Q v → (at M (v - 1) ≡ 1) ⊎ R v
    only v a (inr q) = inr (h v q)
    only v a (inl e) = elim (x.only v a e) [ inl d ↦ inl d | inr p ↦ inr (g v p) ]

pub marked_by : {P Q : ℕ → Type 0} {M N : List ℕ} → Marked P M N → ((v : ℕ) → P v → Q v) → ((v : ℕ) → Q v → P v) → Marked Q M N
marked_by {P} {Q} {M} {N} x f g =
    record {
      long = x.long;
      kept = x.kept;
      added = λ v q. x.added v (g v q);
      only = λ v a e. elim (x.only v a e) [ inl d ↦ inl d | inr p ↦ inr (f v p) ];
    }

-- a side with a code from lo on and below hi joins u and v
pub record Joined (L : List ℕ) (lo hi u v : ℕ) : Type 0 where
  pub side : ℕ
  pub from : lo ≤ side
  pub below : side < hi
  pub runs : Runs L side u v ⊎ Runs L side v u

module _ {L : List ℕ} {u v : ℕ} where
  pub joined_facts : {lo hi : ℕ} (x : Joined L lo hi u v) → SideFacts L x.side
  joined_facts x = elim x.runs [ inl r ↦ side_facts L x.side r.side | inr r ↦ side_facts L x.side r.side ]

  pub joined_to : {lo hi k l : ℕ} → Joined L lo hi u v → k ≤ lo → hi ≤ l → Joined L k l u v
  joined_to x a b = record { side = x.side; from = omega (arith, x.from); below = omega (arith, x.below); runs = x.runs }

  -- up to p, or from there on
  pub joined_parts : {lo hi : ℕ} (p q k : ℕ) → q ≤ p → hi ≤ k → Joined L lo hi u v → Joined L lo p u v ⊎ Joined L q k u v
  joined_parts {lo} {hi} p q k a b x = go (le_or_lt p x.side)
    where
      go : (p ≤ x.side) ⊎ (x.side < p) → Joined L lo p u v ⊎ Joined L q k u v
      go (inl h) = inr (record { side = x.side; from = omega arith; below = omega (arith, x.below); runs = x.runs })
      go (inr h) = inl (record { side = x.side; from = x.from; below = h; runs = x.runs })

  -- no side has number 0, or is of element 0
  pub before_first : (f : ℕ) → Joined L (8 * f) (8 * f + 1) u v → ⊥
  before_first f x = omega (arith, x.from, x.below, (joined_facts x).number_from)

  pub before_all : Joined L 0 8 u v → ⊥
  before_all x = omega (arith, x.below, (joined_facts x).element_from)

  -- the sides of an element are up to its last, and all sides are up to those of the last element
  pub in_element : (f k : ℕ) → k ≡ sides L f → Joined L (8 * f) (8 * f + 8) u v → Joined L (8 * f) (8 * f + k + 1) u v
  in_element f k e x =
      let q : x.side / 8 ≡ f = omega (arith, x.from, x.below) in
      let h : x.side % 8 ≤ sides L f = rw q at (joined_facts x).number_to in
      record { side = x.side; from = x.from; below = omega (arith, x.from, x.below); runs = x.runs }

  pub neighbours_of : {hi : ℕ} → Joined L 0 hi u v → Neighbours L u v
  neighbours_of x = (x.side, x.runs)

  pub all_joined : (m : ℕ) → elements L ≤ m → Neighbours L u v → Joined L 0 (8 * m + 8) u v
  all_joined m h (r, x) =
      let f : SideFacts L r = elim x [ inl y ↦ side_facts L r y.side | inr y ↦ side_facts L r y.side ] in
      record { side = r; from = omega arith; below = omega (arith, f.element_to); runs = x }

-- the sides up to p, then those from there on
pub marked_range : {L : List ℕ} {a lo p q hi : ℕ} {M N O : List ℕ} → Marked (Joined L lo p a) M N → Marked (Joined L q hi a) N O
    → lo ≤ q → q ≤ p → p ≤ hi → Marked (Joined L lo hi a) M O
marked_range {L} {a} {lo} {p} {q} {hi} x y h k l =
    marked_both {R = Joined L lo hi a} x y
    (λ v j. joined_parts p q hi k (omega arith) j)
    (λ v j. joined_to j (omega arith) l)
    (λ v j. joined_to j h (omega arith))
