-- The sides of a list with a new vertex on a side: how each of them runs, and where each side of the old list is found.
-- Assumes nothing.
use Rattle.std.specs.Prelude.{◌≡◌, refl, true, false, ◌⊎◌, List, leb, eqb}
use Rattle.std.proofs.Common.{ap, sym, ◌∙◌, inl, inr, arith}
use Prim.Native.Nat.{ℕ, ◌+◌, ◌/◌}
use Rattle.lists.specs.TestLaws.{true_of, false_of, decide, means_either, means_not, means_eq, means_le, zero_or}
use Rattle.rules.specs.Elements.{elements, Side, origin, next, previous, destination}
use Rattle.rules.specs.Tables.{partner}
use Rattle.theory.specs.Sides.{side_facts, side_positive}
use Rattle.theory.specs.Steps.{next_numbered, previous_numbered, next_previous, next_differs}
use Rattle.theory.specs.Pairings.{partner_opposed}
use Rattle.theory.specs.Triangles.{Runs, itself, after, before, around, next_runs, previous_runs}
use Rattle.theory.specs.Refining.{Cut, Half, Place, stayed, near, far, Refined}

-- a side that begins, or ends, at the new vertex, and x its other end: half of a side r that is cut, or the side that halves its triangle
pub data Spoke (L : List ℕ) (s : ℕ) (end half new : ℕ → ℕ) (q x : ℕ) : Type 0 where
  along : (r : ℕ) → Cut L s r → q ≡ half r → x ≡ end r → Spoke L s end half new q x
  across : (r : ℕ) → Cut L s r → q ≡ new r → x ≡ origin L (previous L r) → Spoke L s end half new q x

-- r is in an element of which a side is cut, or in one that stays
abbrev Beside : List ℕ → ℕ → ℕ → Type 0
Beside L s r = (q : ℕ) × Cut L s q × (r / 8 ≡ q / 8)

abbrev pub Away : List ℕ → ℕ → ℕ → Type 0
Away L s r = (q : ℕ) → Cut L s q → r / 8 ≡ q / 8 → ⊥

module _ {n : ℕ} {L L' : List ℕ} {s : ℕ} (x : Refined n L L' s) where
  -- s itself is cut, and so is its partner
  pub cut_first : Cut L s s
  cut_first = record { side = x.side; is = inl refl }

  cut_second : (partner L s ≡ 0 → ⊥) → Cut L s (partner L s)
  cut_second z = record { side = (partner_opposed L s z).0; is = inr refl }

  -- whether r is cut, and whether a side of its element is
  pub cut_or : (r : ℕ) → Side L r → Cut L s r ⊎ (Cut L s r → ⊥)
  cut_or r a = elim (decide (means_either (means_eq r s) (means_eq r (partner L s)))) [
    | inl e ↦ inl (record { side = a; is = e })
    | inr d ↦ inr (λ c. d c.is)
  ]

  cut_beside : (r : ℕ) → Beside L s r ⊎ Away L s r
  cut_beside r = go (with_one s (inl cut_first)) (with_one (partner L s) second)
    where
      second : Cut L s (partner L s) ⊎ (Cut L s (partner L s) → ⊥)
      second = elim (zero_or (partner L s)) [ inl z ↦ inr (λ c. side_positive L (partner L s) c.side z) | inr z ↦ inl (cut_second z) ]

      with_one : (t : ℕ) → Cut L s t ⊎ (Cut L s t → ⊥) → Beside L s r ⊎ (Cut L s t → r / 8 ≡ t / 8 → ⊥)
      with_one t (inl c) = elim (decide (means_eq (r / 8) (t / 8))) [ inl e ↦ inl (t, c, e) | inr d ↦ inr (λ k. d) ]
      with_one t (inr d) = inr (λ c e. d c)

      go : Beside L s r ⊎ (Cut L s s → r / 8 ≡ s / 8 → ⊥) → Beside L s r ⊎ (Cut L s (partner L s) → r / 8 ≡ partner L s / 8 → ⊥)
          → Beside L s r ⊎ Away L s r
      go (inl k) f = inl k
      go (inr d) (inl k) = inl k
      go (inr d) (inr f) = inr (λ q c e. elim c.is [ inl i ↦ d (rw i at c) (rw i at e) | inr i ↦ f (rw i at c) (rw i at e) ])

  -- the element of L that element e of L' is, or is a half of
  unfoldable pub home : ℕ → ℕ
  home e =
      elim (leb e (elements L)) [
        | true ↦ e
        | false ↦ elim (eqb e (x.twin s / 8)) [ true ↦ s / 8 | false ↦ partner L s / 8 ]
      ]

  pub home_old : (r : ℕ) → Side L r → home (r / 8) ≡ r / 8
  unfolding home
  home_old r a =
      let e = true_of (leb (r / 8) (elements L)) ((means_le (r / 8) (elements L)).shows (side_facts L r a).element_to) in rw (e, home)

  pub home_twin : (r : ℕ) → Cut L s r → home (x.twin r / 8) ≡ r / 8
  unfolding home
  home_twin r c = go (decide (means_eq r s)) c.is
    where
      e : ℕ
      e = x.twin r / 8

      new : leb e (elements L) ≡ false
      new = false_of (leb e (elements L)) ((means_not (means_le e (elements L))).shows (λ h. omega (arith, (x.halves r c).appended)))

      go : (r ≡ s) ⊎ (r ≡ s → ⊥) → (r ≡ s) ⊎ (r ≡ partner L s) → home e ≡ r / 8
      go (inl i) k =
          let same = true_of (eqb e (x.twin s / 8)) ((means_eq e (x.twin s / 8)).shows (ap (λ (q : ℕ). x.twin q / 8) i)) in
          rw (new, same, home) (ap (λ (q : ℕ). q / 8) (sym i))
      go (inr d) (inl i) = absurd (d i)
      go (inr d) (inr i) =
          let other = false_of (eqb e (x.twin s / 8)) ((means_not (means_eq e (x.twin s / 8))).shows (λ k. d (x.twins_apart r s c cut_first k))) in
          rw (new, other, home) (ap (λ (q : ℕ). q / 8) (sym i))

  -- q of L' runs as r of L does, which isn't cut, and stands in its element or in a half of it
  pub record Same (r q : ℕ) : Type 0 where
    pub side : Side L r
    pub uncut : Cut L s r → ⊥
    pub runs : Runs L' q (origin L r) (destination L r)
    pub stands : home (q / 8) ≡ r / 8

  -- what stays runs as it did
  module _ (r : ℕ) (a : Side L r) (d : Away L s r) where
    stayed_same : Same r r
    stayed_same =
        let k = x.kept r a d in
        let m = next_numbered L r a in
        let on = x.kept (next L r) m.side (λ q c e. d q c (sym m.same ∙ e)) in
        record {
          side = a;
          uncut = λ c. d r c refl;
          runs = record { side = k.side; from = k.from; to = ap (origin L') k.follows ∙ on.from };
          stands = home_old r a;
        }

  module _ (r : ℕ) (c : Cut L s r) where
    abbrev r⁺ : ℕ
    r⁺ = x.twin r

    h : Half L L' (n + 1) r r⁺
    h = x.halves r c

    -- of a triangle that is halved the side after r is the one after r⁺, and the side before r stays there
    next_same : Same (next L r) (next L' r⁺)
    next_same =
        let a = next_runs h.old in
        let b = next_runs h.far in
        let m = next_numbered L r c.side in
        record {
          side = a.side;
          uncut = λ k. next_differs L r c.side (x.apart (next L r) r k c m.same);
          runs = record { side = b.side; from = b.from; to = b.to ∙ sym a.to };
          stands = ap home (next_numbered L' r⁺ h.far.runs.side).same ∙ home_twin r c ∙ sym m.same;
        }

    previous_same : Same (previous L r) (previous L' r)
    previous_same =
        let a = previous_runs h.old in
        let b = previous_runs h.near in
        let m = previous_numbered L r c.side in
        let e = next_previous L r c.side in
        record {
          side = a.side;
          uncut = λ k. next_differs L r c.side (ap (next L) (sym (x.apart (previous L r) r k c m.same)) ∙ e);
          runs = record { side = b.side; from = b.from; to = b.to ∙ sym a.to };
          stands = ap home (previous_numbered L' r h.near.runs.side).same ∙ home_old r c.side ∙ sym m.same;
        }

  -- a side that isn't cut is found in L'
  pub lift : (r : ℕ) → Side L r → (Cut L s r → ⊥) → (q : ℕ) × Same r q
  lift r a d = elim (cut_beside r) [
    | inr f ↦ (r, stayed_same r a f)
    | inl (q, c, e) ↦ elim (around L q c.side (h q c).old.triangle r a e) [
      | itself i ↦ absurd (d (rw i c))
      | after i ↦ (next L' (x.twin q), rw i (next_same q c))
      | before i ↦ (previous L' q, rw i (previous_same q c))
    ]
  ]

  -- sides from the new vertex to y, and from y to it
  abbrev pub Out : ℕ → ℕ → Type 0
  Out = Spoke L s (λ r. destination L r) x.twin (next L')

  abbrev pub Into : ℕ → ℕ → Type 0
  Into = Spoke L s (origin L) (λ r. r) (λ r. previous L' (x.twin r))

  -- a side of L' begins at the new vertex, or ends there, or runs as one of L
  pub data Kind (q : ℕ) : Type 0 where
    out : origin L' q ≡ n + 1 → Out q (destination L' q) → Kind q
    into : destination L' q ≡ n + 1 → Into q (origin L' q) → Kind q
    same : (r : ℕ) → Same r q → Kind q

  pub kind : (q : ℕ) → Side L' q → Kind q
  kind q a = go (x.place q a)
    where
      ends : {y z : ℕ} (r : ℕ) → q ≡ r → Runs L' r y z → Runs L' q y z
      ends r e k = rw e k

      go : Place L s x.twin q → Kind q
      go (stayed b d) = same q (stayed_same q b d)
      go (near r c e) = elim (around L' r (h r c).near.runs.side (h r c).near.triangle q a e) [
        | itself i ↦ let k = ends r i (h r c).near.runs in into k.to (along r c i k.from)
        | after i ↦ let k = ends (next L' r) i (next_runs (h r c).near) in out k.from (across r c i k.to)
        | before i ↦ same (previous L r) (rw i (previous_same r c))
      ]
      go (far r c e) = elim (around L' (x.twin r) (h r c).far.runs.side (h r c).far.triangle q a e) [
        | itself i ↦ let k = ends (x.twin r) i (h r c).far.runs in out k.from (along r c i k.to)
        | after i ↦ same (next L r) (rw i (next_same r c))
        | before i ↦ let k = ends (previous L' (x.twin r)) i (previous_runs (h r c).far) in into k.to (across r c i k.from)
      ]
