-- The least element that doesn't meet another well is the lesser of two: the least with a link that crosses another, and the least that is
-- folded.
-- Assumes nothing.
use Rattle.std.specs.Prelude.{◌≡◌, refl, not, ◌⊎◌, List, T, ltb, eqb}
use Rattle.std.proofs.Math.Path.{ap, sym}
use Rattle.std.proofs.Common.{◌∙◌, inl, inr, arith, T_not}
use Rattle.std.proofs.Math.Bool.{Bool}
use Prim.Native.Nat.{ℕ, ◌+◌, ◌*◌, ◌/◌, ◌%◌, ◌≤◌, ◌<◌}
use Rattle.std.proofs.Math.Dec.{not_T}
use Rattle.lists.specs.Tests.{both}
use Rattle.lists.specs.TestLaws.{Means, decide, means_itself, passes, both_pass, means_both, means_not, means_eq, means_lt}
use Rattle.lists.specs.SearchLaws.{le_not_lt}
use Rattle.rules.specs.Elements.{elements, element, sides, Side, origin, destination, next, first_number}
use Rattle.rules.specs.Pairing.{is_corner, meet_well, Element}
use Rattle.rules.specs.Refusals.{crowded_side, clash_of, clashing}
use Rattle.rules.specs.Siblings.{sibling}
use Rattle.theory.specs.Sides.{side_facts}
use Rattle.theory.specs.Least.{FirstNumber, first_number_lem, number_is, means_some_number}
use Rattle.theory.specs.FitRows.{Fit}
use Rattle.theory.specs.Steps.{wraps, grows, next_number_lem}
use Rattle.theory.specs.Links.{link_facts, AtCorner, at_corner}
use Rattle.theory.specs.Meeting.{Crossing, Doubled, one_link, clash_crosses, crossing_clashes, three_clash, doubled_joins, meet_either_way, few, joined_corners}
use Rattle.theory.specs.SiblingUses.{sibling_side, sibling_joins, sibling_other}
use Rattle.siblings.specs.Crossings.{Cross, FirstCrossed}
use Rattle.checks.specs.Maps.{two_by_two}
use Rattle.meeting.specs.Folds.{is_folded, folded_element, LesserOf}

-- f doesn't meet some other element well
pub record Clash (L : List ℕ) (f : ℕ) : Type 0 where
  pub mine : Element L f
  pub with : ℕ
  pub other : Element L with
  pub differ : with ≡ f → ⊥
  pub clash : T (meet_well L f with) → ⊥

-- the side after side 2
after_second : (L : List ℕ) (f : ℕ) → next L (8 * f + 2) ≡ 8 * f + 3
unfolding next
after_second L f =
    let e : (8 * f + 2) / 8 ≡ f = omega arith in
    let i : (8 * f + 2) % 8 ≡ 2 = omega arith in
    rw (e, i) (elim (next_number_lem (sides L f) 2) [ wraps z d ↦ absurd (omega (arith, few L f)) | grows z d ↦ omega arith ])

module _ (n : ℕ) (L : List ℕ) (fit : Fit n L) where
  -- the least element with a clash is the lower of its pair
  least_clashing : (r : ℕ) → ((r ≡ 0 → ⊥) → Clash L r) → ((f : ℕ) → Clash L f → (1 ≤ r) × (r ≤ f)) → r ≡ clashing L
  unfolding clashing clash_of
  least_clashing r found least = sym (number_is (elements L) clashed r (go (decide (means_eq r 0))))
    where
      above : ℕ → ℕ → Bool
      above f g = both (ltb f g) (not (meet_well L f g))

      clashed : ℕ → Bool
      clashed f = not (eqb (first_number (elements L) (above f)) 0)

      means_above : (f g : ℕ) → Means (above f g) ((f < g) × (T (meet_well L f g) → ⊥))
      means_above f g = means_both (means_lt f g) (means_not (means_itself (meet_well L f g)))

      clash_by : (f : ℕ) → Element L f → T (clashed f) → Clash L f
      clash_by f a t =
          let (g, c, d, u) = (means_some_number (elements L) (above f)).says t in
          let (h, k) = (means_above f g).says u in
          record { mine = a; with = g; other = (c, d); differ = λ e. omega arith; clash = k }

      -- the other of the least is above it, since it has a clash itself
      upper : (x : Clash L r) → r < x.with
      upper x =
          let back : Clash L x.with =
          record { mine = x.other; with = r; other = x.mine; differ = λ e. x.differ (sym e); clash = λ t. x.clash (meet_either_way n L fit x.with r x.other x.mine t) } in
          let h = least x.with back in
          let d = x.differ in omega arith

      go : (r ≡ 0) ⊎ (r ≡ 0 → ⊥) → FirstNumber (elements L) clashed r
      go (inl z) = FirstNumber.nobody z (λ f a b. not_T (clashed f) (λ t. omega (arith, least f (clash_by f (a, b) t))))
      go (inr d) =
          let x = found d in
          FirstNumber.somebody x.mine.0 x.mine.1
          ((means_some_number (elements L) (above r)).shows (x.with, x.other.0, x.other.1, (means_above r x.with).shows (upper x, x.clash)))
          (λ f a h. not_T (clashed f) (λ t. let k = x.mine in omega (arith, least f (clash_by f (a, omega arith) t))))

  -- links that cross are of different elements, which clash
  pub crossed_clash : {u v a b : ℕ} → Cross L u v a b → Clash L (a / 8)
  crossed_clash {a = a} {b} x =
      let f = link_facts L a x.one.link in
      let g = link_facts L b x.other.link in
      let lows = x.one.from ∙ sym x.other.from in
      let highs = x.one.to ∙ sym x.other.to in
      let mine : Element L (a / 8) = (f.element_from, f.element_to) in
      let other : Element L (b / 8) = (g.element_from, g.element_to) in
      record {
        mine = mine;
        with = b / 8;
        other = other;
        differ = λ e. x.differ (one_link n L fit a b x.one.link x.other.link (sym e) lows highs);
        clash =
            crossing_clashes n L fit (a / 8) (b / 8) mine other
            (record {
              mine = a;
              other = b;
              mine_link = x.one.link;
              other_link = x.other.link;
              mine_of = refl;
              other_of = refl;
              lows = lows;
              highs = highs;
              a_diagonal = x.diagonal;
            });
      }

  -- the first three corners of a folded element are corners of the element that has the siblings
  pub folded_clash : (f : ℕ) → Element L f → T (is_folded L f) → Clash L f
  unfolding is_folded
  folded_clash f a t =
      let (p, q) = passes (eqb (element (sibling L (8 * f + 1))) (element (sibling L (8 * f + 2)))) _ t in
      let g = element (sibling L (8 * f + 1)) in
      let same : g ≡ element (sibling L (8 * f + 2)) = (means_eq _ _).says p in
      let x = side_facts L (sibling L (8 * f + 1)) (sibling_side L (8 * f + 1) one.is_side_lem) in
      let b : Element L g = (x.element_from, x.element_to) in
      let (c, d) = met (8 * f + 1) one.is_side_lem in
      let (e, h) = met (8 * f + 2) two.is_side_lem in
      record {
        mine = a;
        with = g;
        other = b;
        differ = (means_not (means_eq g f)).says q;
        clash =
            three_clash n L fit f g a b 1 2 3 (omega arith) (omega arith) (omega arith) (few L f).0
            (rw (sym one.its_origin) c)
            (rw (same, sym two.its_origin) e)
            (rw (same, sym three.its_origin, sym third) h);
      }
    where
      one : AtCorner L f 1
      one = at_corner L f 1 a.0 a.1 (omega arith) (omega arith) (omega (arith, few L f))

      two : AtCorner L f 2
      two = at_corner L f 2 a.0 a.1 (omega arith) (omega arith) (omega (arith, few L f))

      three : AtCorner L f 3
      three = at_corner L f 3 a.0 a.1 (omega arith) (omega arith) (few L f).0

      met : (s : ℕ) → Side L s → T (is_corner L (element (sibling L s)) (origin L s)) × T (is_corner L (element (sibling L s)) (destination L s))
      met s b = joined_corners L s (sibling L s) (sibling_side L s b) (sibling_joins L s b)

      -- side 2 runs to corner 3
      third : destination L (8 * f + 2) ≡ origin L (8 * f + 3)
      third = ap (origin L) (after_second L f)

  -- triangles with the same corners are folded
  module _ (uncrowded : crowded_side L ≡ 0) where
    doubled_folded : (f g : ℕ) → Element L f → Element L g → (g ≡ f → ⊥) → Doubled L f g → T (is_folded L f)
    unfolding is_folded
    doubled_folded f g a b d x =
        let p = in_g 1 (omega arith) (omega arith) in
        let q = in_g 2 (omega arith) (omega arith) in
        both_pass (eqb (element (sibling L (8 * f + 1))) (element (sibling L (8 * f + 2)))) _ ((means_eq _ _).shows (p ∙ sym q))
        ((means_not (means_eq (element (sibling L (8 * f + 1))) f)).shows (λ e. d (sym p ∙ e)))
      where
        in_g : (i : ℕ) → 1 ≤ i → i ≤ 3 → element (sibling L (8 * f + i)) ≡ g
        in_g i from to =
            let c = at_corner L f i a.0 a.1 from (omega arith) (omega (arith, x.mine_three)) in
            let (t, s, e, j) = doubled_joins n L fit f g a b x i from to in
            let other : t ≡ 8 * f + i → ⊥ = λ z. d (sym e ∙ ap element z ∙ c.its_element) in
            ap element (sym (sibling_other L (8 * f + i) c.is_side_lem (two_by_two n L fit uncrowded (8 * f + i) c.is_side_lem) t s j other)) ∙ e

    -- check 18 by the least element that crosses and the least that is folded
    pub clashing_is : {c r : ℕ} → FirstCrossed L c → LesserOf c (folded_element L) r → r ≡ clashing L
    unfolding folded_element
    clashing_is {c} {r} x m = least_clashing r (λ d. found (m.either d) d) least
      where
        folds : FirstNumber (elements L) (is_folded L) (folded_element L)
        folds = first_number_lem (elements L) (is_folded L)

        folded : FirstNumber (elements L) (is_folded L) (folded_element L) → (folded_element L ≡ 0 → ⊥) → Clash L (folded_element L)
        folded (FirstNumber.nobody z f) d = absurd (d z)
        folded (FirstNumber.somebody a b t f) d = folded_clash (folded_element L) (a, b) t

        found : (r ≡ c) ⊎ (r ≡ folded_element L) → (r ≡ 0 → ⊥) → Clash L r
        found (inl e) d = let (u, v, a, b, y, q) = x.met (λ z. d (e ∙ z)) in rw (e, sym q) (crossed_clash y)
        found (inr e) d = rw e (folded folds (λ z. d (e ∙ z)))

        -- no folded element is below the least
        under : FirstNumber (elements L) (is_folded L) (folded_element L) → (f : ℕ) → Element L f → T (is_folded L f) → (folded_element L ≡ 0 → ⊥) × (folded_element L ≤ f)
        under (FirstNumber.nobody z h) f (a, b) t = absurd (T_not (is_folded L f) (h f a b) t)
        under (FirstNumber.somebody i j u h) f (a, b) t =
            ((λ z. omega arith), le_not_lt (folded_element L) f (λ l. T_not (is_folded L f) (h f a l) t))

        least : (f : ℕ) → Clash L f → (1 ≤ r) × (r ≤ f)
        least f k = go (clash_crosses n L fit f k.with k.mine k.other k.clash)
          where
            go : Crossing L f k.with ⊎ Doubled L f k.with → (1 ≤ r) × (r ≤ f)
            go (inl y) =
                let o = x.least _ _ y.mine y.other (record {
                  one = record { link = y.mine_link; from = refl; to = refl };
                  other = record { link = y.other_link; from = sym y.lows; to = sym y.highs };
                  differ = λ z. k.differ (sym y.other_of ∙ ap element (sym z) ∙ y.mine_of);
                  diagonal = y.a_diagonal;
                }) in
                let h = m.first (λ z. omega arith) in
                let e = y.mine_of in omega arith
            go (inr y) =
                let (d, l) = under folds f k.mine (doubled_folded f k.with k.mine k.other k.differ y) in
                let h = m.second d in omega arith
