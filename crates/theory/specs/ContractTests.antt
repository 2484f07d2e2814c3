-- What a contraction makes of the list that is held, by its four tests: whether the half-edge is there (11), has only triangles on it (15), whether
-- its ends have another common neighbour (20), and whether a vertex would be left unused (21). And what the tests of 20 mean.
-- Assumes nothing.
use Rattle.std.specs.Prelude.{◌≡◌, Bool, true, false, not, ◌⊎◌, List, ℕ, ◌-◌, ◌≤◌, T, eqb}
use Rattle.std.proofs.Common.{sym, ◌∙◌, inl, inr, arith}
use Rattle.lists.specs.Tests.{both, either}
use Rattle.lists.specs.TestLaws.{Test, pass, fail, test, Means, means_both, means_either, means_not, means_eq}
use Rattle.rules.specs.Elements.{Side, origin, destination}
use Rattle.rules.specs.Tables.{partner}
use Rattle.edit_rules.specs.Edits.{becomes, refuses, is_there}
use Rattle.edit_rules.specs.Swap.{third}
use Rattle.edit_rules.specs.Split.{is_splittable}
use Rattle.edit_rules.specs.Contract.{contracted, is_neighbour, is_third, pinches, strands, contract}
use Rattle.theory.specs.Least.{means_some, means_some_number}
use Rattle.theory.specs.Steps.{next_side_lem}
use Rattle.theory.specs.FitRows.{Fit}
use Rattle.theory.specs.Entries.{means_border}
use Rattle.theory.specs.Triangles.{Runs}
use Rattle.theory.specs.Splitting.{Splittable, means_splittable}

-- a side joins u and v
abbrev pub Neighbours : List ℕ → ℕ → ℕ → Type 0
Neighbours L u v = (r : ℕ) × (Runs L r u v ⊎ Runs L r v u)

-- and it is a vertex
pub neighbour_in : {n : ℕ} {L : List ℕ} → Fit n L → {u v : ℕ} → Neighbours L u v → (1 ≤ v) × (v ≤ n)
neighbour_in {L = L} fit (r, inl x) =
    let q = next_side_lem L r x.side in
    (omega (arith, fit.from _ q, x.to), omega (arith, fit.to _ q, x.to))
neighbour_in fit (r, inr x) = (omega (arith, fit.from r x.side, x.from), omega (arith, fit.to r x.side, x.from))

pub means_neighbour : (L : List ℕ) (u v : ℕ) → Means (is_neighbour L u v) (Neighbours L u v)
unfolding is_neighbour
means_neighbour L u v =
    record {
      says = λ t. let (r, a, w) = some.says t in (
        r,
        elim ((each r).says w) [
          | inl (e, f) ↦ inl (record { side = a; from = e; to = f })
          | inr (e, f) ↦ inr (record { side = a; from = e; to = f })
        ],
      );
      shows = λ (r, x). elim x [
        | inl y ↦ some.shows (r, y.side, (each r).shows (inl (y.from, y.to)))
        | inr y ↦ some.shows (r, y.side, (each r).shows (inr (y.from, y.to)))
      ];
    }
  where
    joining : ℕ → Bool
    joining s =
        either (both (eqb (origin L s) u) (eqb (destination L s) v)) (both (eqb (origin L s) v) (eqb (destination L s) u))

    some : Means (is_neighbour L u v) ((r : ℕ) × Side L r × T (joining r))
    some = means_some L joining

    each : (r : ℕ) → Means (joining r) (((origin L r ≡ u) × (destination L r ≡ v)) ⊎ ((origin L r ≡ v) × (destination L r ≡ u)))
    each r =
        means_either (means_both (means_eq (origin L r) u) (means_eq (destination L r) v))
        (means_both (means_eq (origin L r) v) (means_eq (destination L r) u))

-- v is a third corner of a triangle on the edge of s
abbrev pub Third : List ℕ → ℕ → ℕ → Type 0
Third L s v = (v ≡ third L s) ⊎ ((partner L s ≡ 0 → ⊥) × (v ≡ third L (partner L s)))

pub means_third : (L : List ℕ) (s v : ℕ) → Means (is_third L s v) (Third L s v)
unfolding is_third
means_third L s v =
    means_either (means_eq v (third L s)) (means_both (means_not (means_border L s)) (means_eq v (third L (partner L s))))

-- v is a common neighbour of the ends of s, and no third corner
pub record Pinched (n : ℕ) (L : List ℕ) (s v : ℕ) : Type 0 where
  pub from : 1 ≤ v
  pub to : v ≤ n
  pub of_origin : Neighbours L (origin L s) v
  pub of_destination : Neighbours L (destination L s) v
  pub no_third : Third L s v → ⊥

pub means_pinches : (n : ℕ) (L : List ℕ) (s : ℕ) → Means (pinches n L s) ((v : ℕ) × Pinched n L s v)
unfolding pinches
means_pinches n L s =
    record {
      says = λ t.
          let (v, a, b, w) = some.says t in
          let (x, (y, z)) = (each v).says w in
          (v, record { from = a; to = b; of_origin = x; of_destination = y; no_third = z });
      shows = λ (v, x). some.shows (v, x.from, x.to, (each v).shows (x.of_origin, (x.of_destination, x.no_third)));
    }
  where
    pinching : ℕ → Bool
    pinching v = both (is_neighbour L (origin L s) v) (both (is_neighbour L (destination L s) v) (not (is_third L s v)))

    some : Means (pinches n L s) ((v : ℕ) × (1 ≤ v) × (v ≤ n) × T (pinching v))
    some = means_some_number n pinching

    each : (v : ℕ) → Means (pinching v) (Neighbours L (origin L s) v × (Neighbours L (destination L s) v × (Third L s v → ⊥)))
    each v =
        means_both (means_neighbour L (origin L s) v)
        (means_both (means_neighbour L (destination L s) v) (means_not (means_third L s v)))

module _ (n : ℕ) (L : List ℕ) (s : ℕ) where
  pub gone : is_there L s ≡ false → contract n L s ≡ refuses 11
  unfolding contract
  gone e = rw (e, contract)

  module _ (there : is_there L s ≡ true) where
    pub unfit : is_splittable L s ≡ false → contract n L s ≡ refuses 15
    unfolding contract
    unfit e = rw (there, e, contract)

    module _ (fit : is_splittable L s ≡ true) where
      pub pinched : pinches n L s ≡ true → contract n L s ≡ refuses 20
      unfolding contract
      pinched e = rw (there, fit, e, contract)

      module _ (free : pinches n L s ≡ false) where
        pub stranded : strands n L s ≡ true → contract n L s ≡ refuses 21
        unfolding contract
        stranded e = rw (there, fit, free, e, contract)

        pub contracts : strands n L s ≡ false → contract n L s ≡ becomes (n - 1) (contracted n L s)
        unfolding contract
        contracts e = rw (there, fit, free, e, contract)

  -- how the four tests come out
  pub data Tried : Type 0 where
    by_11 : contract n L s ≡ refuses 11 → Tried
    by_15 : contract n L s ≡ refuses 15 → Tried
    by_20 : contract n L s ≡ refuses 20 → Tried
    by_21 : contract n L s ≡ refuses 21 → Tried
    passed : Splittable L s → pinches n L s ≡ false → strands n L s ≡ false → contract n L s ≡ becomes (n - 1) (contracted n L s) → Tried

  pub tried : Tried
  tried = go (test (is_there L s)) (test (is_splittable L s)) (test (pinches n L s)) (test (strands n L s))
    where
      go : Test (is_there L s) → Test (is_splittable L s) → Test (pinches n L s) → Test (strands n L s) → Tried
      go (fail t e) b c d = by_11 (gone e)
      go (pass t e) (fail u f) c d = by_15 (unfit e f)
      go (pass t e) (pass u f) (pass v g) d = by_20 (pinched e f g)
      go (pass t e) (pass u f) (fail v g) (pass w h) = by_21 (stranded e f g h)
      go (pass t e) (pass u f) (fail v g) (fail w h) = passed ((means_splittable L s).says u) g h (contracts e f g h)

  -- it refuses by 11, 15, 20 or 21, and a list comes only of a side that may be contracted
  pub refuses_by : {r : ℕ} → contract n L s ≡ refuses r → (r ≡ 11) ⊎ ((r ≡ 15) ⊎ ((r ≡ 20) ⊎ (r ≡ 21)))
  refuses_by {r} e = elim tried [
    | by_11 f ↦ let d = sym f ∙ e in inl cc
    | by_15 f ↦ let d = sym f ∙ e in inr (inl cc)
    | by_20 f ↦ let d = sym f ∙ e in inr (inr (inl cc))
    | by_21 f ↦ let d = sym f ∙ e in inr (inr (inr cc))
    | passed x p q f ↦ let d = sym f ∙ e in let z : ◌≡◌ {A = ℕ} 0 1 = cc in absurd (omega arith)
  ]

  pub record Contracts (n' : ℕ) (L' : List ℕ) : Type 0 where
    pub splittable : Splittable L s
    pub free : pinches n L s ≡ false
    pub kept : strands n L s ≡ false
    pub same_n : n - 1 ≡ n'
    pub same_list : contracted n L s ≡ L'

  pub becomes_contracted : {n' : ℕ} {L' : List ℕ} → contract n L s ≡ becomes n' L' → Contracts n' L'
  becomes_contracted {n'} {L'} e = elim tried [
    | by_11 f ↦ none f
    | by_15 f ↦ none f
    | by_20 f ↦ none f
    | by_21 f ↦ none f
    | passed x p q f ↦ let d = sym f ∙ e in record { splittable = x; free = p; kept = q; same_n = cc; same_list = cc }
  ]
    where
      none : {r : ℕ} → contract n L s ≡ refuses r → Contracts n' L'
      none f = let g = sym f ∙ e in let z : ◌≡◌ {A = ℕ} 0 1 = cc in absurd (omega arith)
