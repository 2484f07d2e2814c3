-- Laws of siblings: sides join the same two vertices where their lesser and greater vertices agree, and the sibling follows a side in the
-- ring of all sides between its vertices.
-- Assumes nothing.
use Rattle.std.specs.Prelude.{◌≡◌, Bool, List, ℕ, ◌≤◌, ◌<◌, T, ltb, eqb}
use Rattle.std.proofs.Common.{sym, ◌∙◌, arith}
use Rattle.std.proofs.Math.Dec.{T_not}
use Rattle.lists.specs.Tests.{both}
use Rattle.lists.specs.TestLaws.{Test, pass, fail, test, Means, means_itself, means_both, means_not, means_eq, means_lt}
use Rattle.lists.specs.SearchLaws.{le_not_lt}
use Rattle.rules.specs.Elements.{Side, first_side}
use Rattle.rules.specs.Pairing.{joins}
use Rattle.rules.specs.Siblings.{sibling}
use Rattle.theory.specs.Sides.{side_positive}
use Rattle.theory.specs.Least.{First, nobody, somebody, first_side_lem}
use Rattle.theory.specs.Links.{lesser, greater, side, Spans, low_side, high_side}
use Rattle.theory.specs.Meeting.{means_joined}

-- s is a side between u and v, and u is the lesser
pub record Between (L : List ℕ) (u v s : ℕ) : Type 0 where
  pub side : Side L s
  pub low : lesser L s ≡ u
  pub high : greater L s ≡ v

-- x follows t in the ring of the numbers that have P: these ascend, and the last is followed by the first
pub data Follows (P : ℕ → Type 0) (t x : ℕ) : Type 0 where
  rises : P x → t < x → ((y : ℕ) → P y → t < y → y < x → ⊥) → Follows P t x
  returns : P x → x ≤ t → ((y : ℕ) → P y → t < y → ⊥) → ((y : ℕ) → P y → y < x → ⊥) → Follows P t x

-- in the ring of the sides between u and v
abbrev pub Next : List ℕ → ℕ → ℕ → ℕ → ℕ → Type 0
Next L u v = Follows (Between L u v)

module _ {P : ℕ → Type 0} where
  pub follows_in : {t x : ℕ} → Follows P t x → P x
  follows_in (rises b h f) = b
  follows_in (returns b h f g) = b

  -- only one follows another
  follows_one : {t x y : ℕ} → Follows P t x → Follows P t y → x ≡ y
  follows_one {x} {y} (rises a h f) (rises b j g) =
      let p : x ≤ y = le_not_lt x y (λ l. f y b j l) in
      let q : y ≤ x = le_not_lt y x (λ l. g x a h l) in
      omega arith
  follows_one {x} (rises a h f) (returns b j g k) = absurd (g x a h)
  follows_one {y} (returns a h f i) (rises b j g) = absurd (f y b j)
  follows_one {x} {y} (returns a h f i) (returns b j g k) =
      let p : x ≤ y = le_not_lt x y (λ l. i y b l) in
      let q : y ≤ x = le_not_lt y x (λ l. k x a l) in
      omega arith

-- a side between two vertices is a link between them
pub between_spans : {L : List ℕ} {u v s : ℕ} → Between L u v s → Spans L u v s
between_spans {L} {s} b =
    record { link = side b.side; from = low_side L s b.side ∙ b.low; to = high_side L s b.side ∙ b.high }

pub spans_between : {L : List ℕ} {u v s : ℕ} → Side L s → Spans L u v s → Between L u v s
spans_between {L} {s} a b =
    record { side = a; low = sym (low_side L s a) ∙ b.from; high = sym (high_side L s a) ∙ b.to }

module _ (L : List ℕ) where
  higher : ℕ → ℕ → Bool
  higher s t = both (ltb s t) (joins L s t)

  means_higher : (s t : ℕ) → Means (higher s t) ((s < t) × T (joins L s t))
  unfolding higher
  means_higher s t = means_both (means_lt s t) (means_itself (joins L s t))

  module _ {u v : ℕ} where
    -- what joins the vertices of a side between u and v is between u and v
    pub joins_between : (s t : ℕ) → Between L u v s → Side L t → T (joins L s t) → Between L u v t
    joins_between s t b a x =
        let (p, q) = (means_joined L s t).says x in record { side = a; low = sym p ∙ b.low; high = sym q ∙ b.high }

    pub between_joins : (s t : ℕ) → Between L u v s → Between L u v t → T (joins L s t)
    between_joins s t b c = (means_joined L s t).shows (b.low ∙ sym c.low, b.high ∙ sym c.high)

    pub sibling_follows : (s : ℕ) → Between L u v s → Next L u v s (sibling L s)
    unfolding sibling higher
    sibling_follows s b =
        go (test (eqb (first_side L (higher s)) 0)) (first_side_lem L (higher s)) (first_side_lem L (joins L s))
      where
        go :
            Test (eqb (first_side L (higher s)) 0) →
            First L (higher s) (first_side L (higher s)) →
            First L (joins L s) (first_side L (joins L s)) →
            Next L u v s (sibling L s)
        go (pass w e) (somebody a x f) r = absurd (side_positive L _ a ((means_eq (first_side L (higher s)) 0).says w))
        go (pass w e) (nobody z f) (nobody y g) = absurd (T_not (joins L s s) (g s b.side) (between_joins s s b b))
        go (pass w e) (nobody z f) (somebody a x g) =
            let under : (y : ℕ) → Between L u v y → y < first_side L (joins L s) → ⊥ =
            λ y k h. T_not (joins L s y) (g y k.side h) (between_joins s y b k) in
            rw (e, sibling)
            (returns (joins_between s (first_side L (joins L s)) b a x) (le_not_lt (first_side L (joins L s)) s (λ h. under s b h))
            (λ y k h. T_not (higher s y) (f y k.side) ((means_higher s y).shows (h, between_joins s y b k)))
            under)
        go (fail w e) (nobody z f) r = absurd ((means_not (means_eq (first_side L (higher s)) 0)).says w z)
        go (fail w e) (somebody a x f) r =
            let (h, j) = (means_higher s (first_side L (higher s))).says x in
            rw (e, sibling)
            (rises (joins_between s (first_side L (higher s)) b a j) h
            (λ y k l m. T_not (higher s y) (f y k.side m) ((means_higher s y).shows (l, between_joins s y b k))))

    -- what follows a side among all sides between its vertices is its sibling
    pub is_sibling : (s x : ℕ) → Between L u v s → Next L u v s x → x ≡ sibling L s
    is_sibling s x b k = follows_one k (sibling_follows s b)
