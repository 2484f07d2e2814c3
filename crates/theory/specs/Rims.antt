-- Border sides about a vertex: with one that begins there one ends there, and there is only one that begins there. So there are no more of
-- them than vertices.
-- Assumes nothing.
use Rattle.std.specs.Prelude.{◌≡◌, ◌⊎◌, List, ℕ, suc, ◌+◌, ◌-◌, ◌≤◌, ◌<◌, length}
use Rattle.std.proofs.Common.{ap, sym, ◌∙◌, inl, inr, arith}
use Rattle.lists.specs.TestLaws.{decide, means_lt}
use Rattle.lists.specs.Search.{at}
use Rattle.lists.specs.SearchLaws.{le_not_lt}
use Rattle.lists.specs.Distinct.{crowded}
use Rattle.rules.specs.Elements.{Side, destination}
use Rattle.rules.specs.Pairing.{Pairing, Turn, SideAt, TurnOrder}
use Rattle.rules.specs.Tables.{partner, border_number, borders, b2e}
use Rattle.theory.specs.Steps.{next_side_lem}
use Rattle.theory.specs.Entries.{b2e_border, numbered_border}
use Rattle.theory.specs.Orders.{Good, begins, one_border_into}

-- r is a border side that ends at v
abbrev pub BorderInto : List ℕ → ℕ → ℕ → Type 0
BorderInto L v r = Side L r × (partner L r ≡ 0) × (destination L r ≡ v)

-- how a turn order ends: "Either the first is the turn of the last, or the last is a border side and the first is nobody's turn"
abbrev pub Ends : List ℕ → List ℕ → Type 0
Ends L o =
    Turn L (partner L) (at o (length o - 1)) (at o 0)
    ⊎ ((partner L (at o (length o - 1)) ≡ 0) × ((s : ℕ) → Side L s → Turn L (partner L) s (at o 0) → ⊥))

module _ (L : List ℕ) (p : Pairing L (partner L)) (v : ℕ) (o : List ℕ) (x : TurnOrder L (partner L) v o) where
  -- a border side, having no turn, is the last of its turn order
  pub border_last : (i : ℕ) → i < length o → partner L (at o i) ≡ 0 → i ≡ length o - 1
  border_last i h z = go (decide (means_lt (suc i) (length o)))
    where
      go : (suc i < length o) ⊎ (suc i < length o → ⊥) → i ≡ length o - 1
      go (inl k) = absurd ((x.turns i k).0 z)
      go (inr k) = omega arith

  pub one_border_from : (r s : ℕ) → SideAt L v r → partner L r ≡ 0 → SideAt L v s → partner L s ≡ 0 → r ≡ s
  one_border_from r s a y b z =
      let (i, h, e) = x.all r a in
      let (j, k, f) = x.all s b in
      let q = border_last i h (ap (partner L) e ∙ y) ∙ sym (border_last j k (ap (partner L) f ∙ z)) in
      sym e ∙ ap (at o) q ∙ f

  pub border_leads : (s : ℕ) → SideAt L v s → partner L s ≡ 0 → (r : ℕ) × BorderInto L v r
  border_leads s a z =
      let (i, h, e) = x.all s a in
      let w = ap (partner L) e ∙ z in
      go (omega arith) (ap (λ (j : ℕ). partner L (at o j)) (sym (border_last i h w)) ∙ w) (x.ends (omega arith))
    where
      go : 0 < length o → partner L (at o (length o - 1)) ≡ 0 → Ends L o → (r : ℕ) × BorderInto L v r
      go h w (inl t) = absurd (t.0 w)
      go h w (inr (y, f)) = let (r, a, z, d, e) = begins L p v o x h f in (r, (a, z, d))

-- k is at most n: the border sides end at different vertices
pub borders_few : (n : ℕ) (L : List ℕ) → Good n L → borders L ≤ n
borders_few n L g = le_not_lt (borders L) n (λ h. crowded n end (inside h) (apart h))
  where
    -- where border side i + 1 ends
    end : ℕ → ℕ
    end i = destination L (at (b2e L) i)

    -- it is a side that ends there
    side_of_lem : (i : ℕ) → i < borders L → (s : ℕ) × BorderInto L (end i) s × (border_number L s ≡ i + 1)
    side_of_lem i l =
        let (s, a, z, e) = numbered_border L (i + 1) (omega arith) (omega arith) in
        let q : border_number L s - 1 ≡ i = omega arith in
        (s, (a, z, ap (λ (r : ℕ). destination L r) (sym (b2e_border L s a z)) ∙ ap end q), e)

    inside : n < borders L → (i : ℕ) → i ≤ n → (1 ≤ end i) × (end i ≤ n)
    inside h i l =
        let (s, (a, z, d), e) = side_of_lem i (omega arith) in
        let b = next_side_lem L s a in
        (omega (arith, d, g.fit.from _ b), omega (arith, d, g.fit.to _ b))

    apart : n < borders L → (i j : ℕ) → i ≤ n → j ≤ n → end i ≡ end j → i ≡ j
    apart h i j l m q =
        let (s, (a, z, d), e) = side_of_lem i (omega arith) in
        let (t, (b, w, c), f) = side_of_lem j (omega arith) in
        let (from, to) = inside h i l in
        let (o, x) = g.orders (end i) from to in
        let r = one_border_into L g.pairing (end i) o x s t a z d b w (c ∙ sym q) in
        omega (arith, ap (border_number L) r)
