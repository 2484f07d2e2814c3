-- A list from which elements go, document 02, point 8: "each time the last row takes the freed number".
-- Assumes nothing.
use Rattle.std.specs.Prelude.{◌≡◌, ◌⊎◌, List, ℕ, ◌+◌, ◌*◌, ◌-◌, ◌/◌, ◌%◌, ◌≤◌, ◌<◌, ltb, length}
use Rattle.std.proofs.Math.Path.{ap}
use Rattle.std.proofs.Common.{sym, ◌∙◌, inl, inr}
use native.Mathlib.Omega.{arith}
use Rattle.std.proofs.Math.Seq.{get_or-take, length-take-le}
use Rattle.lists.specs.TestLaws.{Test, pass, fail, test, decide, means_not, means_eq, means_lt}
use Rattle.lists.specs.Search.{at}
use Rattle.lists.specs.SearchLaws.{le_not_lt}
use Rattle.lists.specs.Parts.{at_part, length_part}
use Rattle.rules.specs.Elements.{elements, row}
use Rattle.rules.specs.Pairing.{Element}
use Rattle.edit_rules.specs.Edits.{with_row}
use Rattle.edit_rules.specs.Contract.{without_row, without_both, instead, renamed}
use Rattle.theory.specs.Rows.{row_length, row_entry_lem, row_other}
use Rattle.theory.specs.Renaming.{Instead, becomes, stays, instead_is, instead_old, instead_other, renamed_length, renamed_at}

-- N has the rows of L that stay, in some order, each corner x as ρ x
pub record Remains (L N : List ℕ) (Stay : ℕ → Type 0) (ρ : ℕ → ℕ) : Type 0 where
  pub fours : length N ≡ 4 * elements N
  pub fewer : elements N ≤ elements L
  -- the element of L that element g of N was
  pub was : ℕ → ℕ
  pub there : (g : ℕ) → Element N g → Element L (was g)
  pub stayed : (g : ℕ) → Element N g → Stay (was g)
  pub entry : (g j : ℕ) → Element N g → j < 4 → at N (4 * (g - 1) + j) ≡ ρ (at L (4 * (was g - 1) + j))
  pub one : (g h : ℕ) → Element N g → Element N h → was g ≡ was h → g ≡ h
  pub all : (f : ℕ) → Element L f → Stay f → (g : ℕ) × Element N g × (was g ≡ f)

-- the same, with what stays said in other words
pub remains_as : {L N : List ℕ} {P Q : ℕ → Type 0} {ρ : ℕ → ℕ} → Remains L N P ρ → ((f : ℕ) → P f → Q f) → ((f : ℕ) → Q f → P f)
    → Remains L N Q ρ
remains_as x says shows =
    record {
      fours = x.fours;
      fewer = x.fewer;
      was = x.was;
      there = x.there;
      stayed = λ g a. says (x.was g) (x.stayed g a);
      entry = x.entry;
      one = x.one;
      all = λ f a s. x.all f a (shows f s);
    }

-- some go, and then some more
module _ {L M N : List ℕ} {P Q : ℕ → Type 0} {ρ σ : ℕ → ℕ} (x : Remains L M P ρ) (y : Remains M N Q σ) where
  pub remains_on : {R : ℕ → Type 0} → ((f : ℕ) → R f → P f) → ((g : ℕ) → Element M g → R (x.was g) → Q g)
      → ((g : ℕ) → Element M g → P (x.was g) → Q g → R (x.was g)) → Remains L N R (λ c. σ (ρ c))
  remains_on first second stay =
      record {
        fours = y.fours;
        fewer = omega (arith, x.fewer, y.fewer);
        was = λ g. x.was (y.was g);
        there = λ g a. x.there (y.was g) (y.there g a);
        stayed = λ g a. let b = y.there g a in stay (y.was g) b (x.stayed (y.was g) b) (y.stayed g a);
        entry = λ g j a h. y.entry g j a h ∙ ap σ (x.entry (y.was g) j (y.there g a) h);
        one = λ g h a b e. y.one g h a b (x.one (y.was g) (y.was h) (y.there g a) (y.there h b) e);
        all = λ f a s.
            let (g, b, e) = x.all f a (first f s) in
            let (h, c, d) = y.all g b (second g b (rw e s)) in
            (h, c, ap x.was d ∙ e);
      }

-- every entry renamed
pub remains_renamed : {L N : List ℕ} {P : ℕ → Type 0} {ρ : ℕ → ℕ} (old new : ℕ) → Remains L N P ρ
    → Remains L (renamed old new N) P (λ c. instead old new (ρ c))
remains_renamed {N = N} old new x =
    record {
      fours = omega (arith, x.fours, long);
      fewer = omega (arith, x.fewer, long);
      was = x.was;
      there = λ g a. x.there g (before g a);
      stayed = λ g a. x.stayed g (before g a);
      entry = λ g j a h.
          renamed_at old new N (4 * (g - 1) + j) (omega (arith, before g a, x.fours)) ∙ ap (instead old new) (x.entry g j (before g a) h);
      one = λ g h a b. x.one g h (before g a) (before h b);
      all = λ f a s. let (g, b, e) = x.all f a s in (g, omega (arith, b, long), e);
    }
  where
    long : length (renamed old new N) ≡ length N
    long = renamed_length old new N

    before : (g : ℕ) → Element (renamed old new N) g → Element N g
    before g a = omega (arith, a, long)

-- one element goes
module _ (f : ℕ) (L : List ℕ) (fours : length L ≡ 4 * elements L) (el : Element L f) where
  abbrev m : ℕ
  m = elements L

  abbrev last : List ℕ
  last = row L m

  abbrev N : List ℕ
  N = without_row f L

  four : length last ≡ 4
  four = length_part (4 * (m - 1)) 4 L (omega (arith, el, fours))

  pub without_length : length N + 4 ≡ length L
  unfolding without_row
  without_length =
      omega (arith, el, fours, length-take-le (4 * (m - 1)) (with_row f last L) (omega (arith, fours, row_length f last L four el)))

  pub without_size : elements N + 1 ≡ m
  without_size = omega (arith, without_length, fours, el)

  -- in the freed row stands the last one, and all others stay
  pub without_there : (p : ℕ) → p < 4 * (m - 1) → p / 4 + 1 ≡ f → at N p ≡ at L (4 * (m - 1) + p % 4)
  unfolding without_row
  without_there p h e =
      let q : p ≡ 4 * (f - 1) + p % 4 = omega arith in
      get_or-take (4 * (m - 1)) (with_row f last L) p 0 h
      ∙ ap (at (with_row f last L)) q
      ∙ row_entry_lem f last L four el (p % 4) (omega arith)
      ∙ at_part (4 * (m - 1)) 4 L (p % 4) (omega arith)

  pub without_other : (p : ℕ) → p < 4 * (m - 1) → (p / 4 + 1 ≡ f → ⊥) → at N p ≡ at L p
  unfolding without_row
  without_other p h d = get_or-take (4 * (m - 1)) (with_row f last L) p 0 h ∙ row_other f last L four el p d

  without_entry : (g j : ℕ) → Element N g → j < 4 → at N (4 * (g - 1) + j) ≡ at L (4 * (instead f m g - 1) + j)
  without_entry g j a h = go (instead_is f m g)
    where
      go : {e : ℕ} → Instead f m g e → at N (4 * (g - 1) + j) ≡ at L (4 * (e - 1) + j)
      go (becomes e i) =
          let k : (4 * (g - 1) + j) % 4 ≡ j = omega arith in
          rw i (without_there (4 * (g - 1) + j) (omega (arith, a, without_size)) (omega (arith, a)) ∙ ap (λ (x : ℕ). at L (4 * (m - 1) + x)) k)
      go (stays d i) = rw i (without_other (4 * (g - 1) + j) (omega (arith, a, without_size)) (λ z. d (omega (arith, a))))

  pub without_row_lem : Remains L N (λ g. g ≡ f → ⊥) (λ c. c)
  without_row_lem =
      record {
        fours = omega (arith, without_length, fours);
        fewer = omega (arith, without_size);
        was = instead f m;
        there = λ g a. there g a (instead_is f m g);
        stayed = λ g a. stayed g a (instead_is f m g);
        entry = without_entry;
        one = λ g h a b. one g h a b (instead_is f m g) (instead_is f m h);
        all = λ g a d. all g a d (decide (means_eq g m));
      }
    where
      there : (g : ℕ) → Element N g → {e : ℕ} → Instead f m g e → Element L e
      there g a (becomes e i) = omega (arith, el)
      there g a (stays d i) = omega (arith, a, without_size)

      stayed : (g : ℕ) → Element N g → {e : ℕ} → Instead f m g e → e ≡ f → ⊥
      stayed g a (becomes e i) z = omega (arith, a, without_size)
      stayed g a (stays d i) z = d (sym i ∙ z)

      one : (g h : ℕ) → Element N g → Element N h → {e k : ℕ} → Instead f m g e → Instead f m h k → e ≡ k → g ≡ h
      one g h a b (becomes e i) (becomes d j) z = e ∙ sym d
      one g h a b (stays e i) (stays d j) z = sym i ∙ z ∙ j
      one g h a b (becomes e i) (stays d j) z = omega (arith, b, without_size)
      one g h a b (stays e i) (becomes d j) z = omega (arith, a, without_size)

      all : (g : ℕ) → Element L g → (g ≡ f → ⊥) → (g ≡ m) ⊎ (g ≡ m → ⊥) → (h : ℕ) × Element N h × (instead f m h ≡ g)
      all g a d (inl e) = (f, omega (arith, el, a, without_size, d), instead_old f m ∙ sym e)
      all g a d (inr e) = (g, omega (arith, a, without_size, e), instead_other f m g d)

-- two go, "the higher-numbered first": the lower one keeps its number until it is its turn
module _ (L : List ℕ) (fours : length L ≡ 4 * elements L) (l h : ℕ) (low : Element L l) (high : Element L h) (less : l < h) where
  abbrev M : List ℕ
  M = without_row h L

  first : Remains L M (λ g. g ≡ h → ⊥) (λ c. c)
  first = without_row_lem h L fours high

  still : Element M l
  still = omega (arith, low, high, less, without_size h L fours high)

  keeps : first.was l ≡ l
  unfolding first without_row_lem
  keeps = instead_other h (elements L) l (λ e. omega arith)

  two_size : elements (without_row l M) + 2 ≡ elements L
  two_size = omega (arith, without_size h L fours high, without_size l M first.fours still)

  without_two : Remains L (without_row l M) (λ g. (g ≡ l → ⊥) × (g ≡ h → ⊥)) (λ c. c)
  without_two =
      remains_on first (without_row_lem l M first.fours still) (λ g r. r.1) (λ g a r e. r.0 (ap first.was e ∙ keeps))
      (λ g a p q. ((λ e. q (first.one g l a still (e ∙ sym keeps))), p))

module _ (L : List ℕ) (fours : length L ≡ 4 * elements L) (f g : ℕ) (a : Element L f) (b : Element L g) (differ : f ≡ g → ⊥) where
  -- what holds whichever is the lower one holds of the rule's list
  in_order : (P : List ℕ → Type 0) → (f < g → P (without_row f (without_row g L))) → (g < f → P (without_row g (without_row f L)))
      → P (without_both f g L)
  unfolding without_both
  in_order P up down = go (test (ltb f g))
    where
      go : Test (ltb f g) → P (without_both f g L)
      go (pass t e) = rw (e, without_both) (up ((means_lt f g).says t))
      go (fail t e) =
          let k : g ≤ f = le_not_lt g f ((means_not (means_lt f g)).says t) in rw (e, without_both) (down (omega (arith, differ)))

  pub both_size : elements (without_both f g L) + 2 ≡ elements L
  both_size =
      in_order (λ X. elements X + 2 ≡ elements L) (λ h. two_size L fours f g a b h) (λ h. two_size L fours g f b a h)

  pub without_both_lem : Remains L (without_both f g L) (λ e. (e ≡ f → ⊥) × (e ≡ g → ⊥)) (λ c. c)
  without_both_lem =
      in_order (λ X. Remains L X (λ e. (e ≡ f → ⊥) × (e ≡ g → ⊥)) (λ c. c)) (λ h. without_two L fours f g a b h)
      (λ h. remains_as (without_two L fours g f b a h) (λ e r. (r.1, r.0)) (λ e r. (r.1, r.0)))
