-- A list whose sides are those of an accepted list under other codes is accepted too. So is a list in which two triangles of an accepted one
-- stand in each other's rows, and turned.
-- Assumes nothing.
use Rattle.std.specs.Prelude.{◌≡◌, refl, true, false, ◌⊎◌, List, ℕ, suc, ◌+◌, ◌*◌, ◌-◌, ◌/◌, ◌%◌, ◌≤◌, ◌<◌, T, eqb, length}
use Rattle.std.proofs.Math.Path.{ap}
use Rattle.std.proofs.Common.{sym, ◌∙◌, inl, inr, arith}
use Rattle.lists.specs.TestLaws.{true_of, false_of, decide, means_eq, means_not}
use Rattle.lists.specs.Search.{at, tab}
use Rattle.lists.specs.SearchLaws.{length_tab, at_tab}
use Rattle.rules.specs.Elements.{sides_by, sides, Side, next_number, origin, next, previous, destination}
use Rattle.rules.specs.Pairing.{alike, opposed, joins, is_corner, share_side, meet_well, Element, Conformal, Pairing, Turn, TurnOrder, Accepted}
use Rattle.theory.specs.Sides.{side_facts, side_positive}
use Rattle.theory.specs.Steps.{NextNumber, wraps, grows, next_number_lem, next_numbered, next_side_lem}
use Rattle.theory.specs.Triangles.{next_of_three, previous_of_three}
use Rattle.theory.specs.FitRows.{Fit, means_fit}
use Rattle.theory.specs.Links.{at_corner}
use Rattle.theory.specs.Meeting.{few, element_of, means_begins, means_share, meet_carried}
use Rattle.theory.specs.Replacing.{Replaced, side_still, side_before, same_next, same_origin}

-- the sides of L' are those of L under other codes: a side r of L' is the side `to r` of L, and a side r of L is the side `back r` of L'
pub record Renumbered (L L' : List ℕ) (to back : ℕ → ℕ) : Type 0 where
  pub long : length L' ≡ length L
  pub nothing : back 0 ≡ 0
  pub there : (r : ℕ) → Side L' r → Side L (to r)
  pub here : (r : ℕ) → Side L r → Side L' (back r)
  pub to_back : (r : ℕ) → Side L r → to (back r) ≡ r
  pub back_to : (r : ℕ) → Side L' r → back (to r) ≡ r
  pub origins : (r : ℕ) → Side L' r → origin L' r ≡ origin L (to r)
  pub follows : (r : ℕ) → Side L' r → to (next L' r) ≡ next L (to r)
  -- sides of one element are sides of one element
  pub together : (r q : ℕ) → Side L' r → Side L' q → r / 8 ≡ q / 8 → to r / 8 ≡ to q / 8
  pub together_back : (r q : ℕ) → Side L r → Side L q → r / 8 ≡ q / 8 → back r / 8 ≡ back q / 8

-- the pairing π of L, for the codes of L'
abbrev recoded : (ℕ → ℕ) → (ℕ → ℕ) → (ℕ → ℕ) → ℕ → ℕ
recoded to back π r = back (π (to r))

module _ {L L' : List ℕ} {to back : ℕ → ℕ} (x : Renumbered L L' to back) where
  -- different sides have different codes in L
  one : (r q : ℕ) → Side L' r → Side L' q → to r ≡ to q → r ≡ q
  one r q a b e = sym (x.back_to r a) ∙ ap back e ∙ x.back_to q b

  -- sides run as they did
  ends : (r : ℕ) → Side L' r → destination L' r ≡ destination L (to r)
  ends r a = x.origins (next L' r) (next_side_lem L' r a) ∙ ap (origin L) (x.follows r a)

  same_opposed : (r q : ℕ) → Side L' r → Side L' q → opposed L' r q ≡ opposed L (to r) (to q)
  unfolding opposed
  same_opposed r q a b = rw (x.origins r a, x.origins q b, ends r a, ends q b)

  same_joins : (r q : ℕ) → Side L' r → Side L' q → joins L' r q ≡ joins L (to r) (to q)
  unfolding joins alike opposed
  same_joins r q a b = rw (x.origins r a, x.origins q b, ends r a, ends q b)

  renumbered_fit : (n : ℕ) → Fit n L → Fit n L'
  renumbered_fit n fit =
      record {
        vertices = fit.vertices;
        size = omega (arith, fit.size, x.long);
        fours = omega (arith, fit.fours, x.long);
        from = λ r a. rw (x.origins r a) (fit.from (to r) (x.there r a));
        to = λ r a. rw (x.origins r a) (fit.to (to r) (x.there r a));
        differ = λ r q a b e o.
            one r q a b
            (fit.differ (to r) (to q) (x.there r a) (x.there q b) (x.together r q a b e) (sym (x.origins r a) ∙ o ∙ x.origins q b));
      }

  module _ (π : ℕ → ℕ) (p : Pairing L π) where
    -- a side with a partner has one in L
    partner_there : (r : ℕ) → (recoded to back π r ≡ 0 → ⊥) → π (to r) ≡ 0 → ⊥
    partner_there r d z = d (ap back z ∙ x.nothing)

    renumbered_pairing : Pairing L' (recoded to back π)
    renumbered_pairing =
        record {
          mutually = λ r a d.
              let (b, e) = p.mutually (to r) (x.there r a) (partner_there r d) in
              (x.here (π (to r)) b, ap (λ (q : ℕ). back (π q)) (x.to_back (π (to r)) b) ∙ ap back e ∙ x.back_to r a);
          opposite = λ r a d.
              let z = partner_there r d in
              let b = (p.mutually (to r) (x.there r a) z).0 in
              let (u, o) = p.opposite (to r) (x.there r a) z in
              let t = x.to_back (π (to r)) b in
              ((λ e. u (sym t ∙ ap to e)), rw (same_opposed r (back (π (to r))) a (x.here (π (to r)) b), t) o);
          paired = λ r q a b d j.
              ap back (p.paired (to r) (to q) (x.there r a) (x.there q b) (λ e. d (one r q a b e)) (rw (same_joins r q a b) at j))
              ∙ x.back_to q b;
        }

    -- a turn is a turn under the other codes, both ways
    turn_there : (r q : ℕ) → Side L' r → Turn L' (recoded to back π) r q → Turn L π (to r) (to q)
    turn_there r q a (d, e) =
        let z = partner_there r d in
        let b = (p.mutually (to r) (x.there r a) z).0 in
        (z, ap (next L) (sym (x.to_back (π (to r)) b)) ∙ sym (x.follows (back (π (to r))) (x.here (π (to r)) b)) ∙ ap to e)

    turn_here : (r q : ℕ) → Side L r → Turn L π r q → Turn L' (recoded to back π) (back r) (back q)
    turn_here r q a (d, e) =
        let b = (p.mutually r a d).0 in
        let c = x.here (π r) b in
        let t = ap (λ (u : ℕ). back (π u)) (x.to_back r a) in
        let n = x.follows (back (π r)) c ∙ ap (next L) (x.to_back (π r) b) ∙ e in (
          (λ z. side_positive L' (back (π r)) c (sym t ∙ z)),
          ap (next L') t ∙ sym (x.back_to (next L' (back (π r))) (next_side_lem L' (back (π r)) c)) ∙ ap back n,
        )

    -- and a turn order of L, listed with the codes of L', is one of L'
    module _ (v : ℕ) (o : List ℕ) (y : TurnOrder L π v o) (q : List ℕ) (long : length q ≡ length o)
        (entries : (i : ℕ) → i < length o → at q i ≡ back (at o i)) where
      entry_there : (i : ℕ) → i < length o → to (at q i) ≡ at o i
      entry_there i h = ap to (entries i h) ∙ x.to_back (at o i) (y.sides i h).0

      entry : (i : ℕ) → i < length o → Side L' (at q i) × (origin L' (at q i) ≡ v)
      entry i h =
          let (a, e) = y.sides i h in
          let b : Side L' (at q i) = rw (entries i h) (x.here (at o i) a) in
          (b, x.origins (at q i) b ∙ ap (origin L) (entry_there i h) ∙ e)

      renumbered_order : TurnOrder L' (recoded to back π) v q
      renumbered_order =
          record {
            sides = λ i h. entry i (rw long at h);
            all = λ r (a, e).
                let (i, h, g) = y.all (to r) (x.there r a, sym (x.origins r a) ∙ e) in
                (i, rw long h, entries i h ∙ ap back g ∙ x.back_to r a);
            once = λ i j h k e.
                let (c, d) : (i < length o) × (j < length o) = omega arith in
                y.once i j c d (sym (entry_there i c) ∙ ap to e ∙ entry_there j d);
            turns = λ i h.
                let (c, d) : (i < length o) × (suc i < length o) = omega arith in
                rw (entries i c, entries (suc i) d) (turn_here (at o i) (at o (suc i)) (y.sides i c).0 (y.turns i d));
            ends = λ h.
                let (c, d) : (0 < length o) × (length o - 1 < length o) = omega arith in
                let a = (y.sides (length o - 1) d).0 in
                rw (long, entries (length o - 1) d) (elim (y.ends c) [
                  | inl t ↦ inl (rw (entries 0 c) (turn_here (at o (length o - 1)) (at o 0) a t))
                  | inr (z, f) ↦
                      inr (
                        ap (λ (u : ℕ). back (π u)) (x.to_back (at o (length o - 1)) a) ∙ ap back z ∙ x.nothing,
                        λ r b t. f (to r) (x.there r b) (rw (entry_there 0 c) at (turn_there r (at q 0) b t)),
                      )
                ]);
          }

  -- what is a corner is one in L, and what two elements share in L is a side of both in L'; so they meet well
  corner_there : (r v : ℕ) → Side L' r → T (is_corner L' (r / 8) v) → T (is_corner L (to r / 8) v)
  corner_there r v a t =
      let (u, (b, o), e) = (means_begins L' (r / 8) v (element_of L' r a)).says t in
      (means_begins L (to r / 8) v (element_of L (to r) (x.there r a))).shows
      (to u, (x.there u b, sym (x.origins u b) ∙ o), x.together u r b a e)

  within : (r c : ℕ) → Side L' r → Side L c → c / 8 ≡ to r / 8 → back c / 8 ≡ r / 8
  within r c a b e = x.together_back c (to r) b (x.there r a) e ∙ ap (λ (k : ℕ). k / 8) (x.back_to r a)

  module _ (r q : ℕ) (a : Side L' r) (b : Side L' q) where
    share_here : T (share_side L (to r / 8) (to q / 8)) → T (share_side L' (r / 8) (q / 8))
    share_here z =
        let (i, j) : Element L (to r / 8) × Element L (to q / 8) = (element_of L (to r) (x.there r a), element_of L (to q) (x.there q b)) in
        let (c, d, s, t, e, h, w) = (means_share L (to r / 8) (to q / 8) i j).says z in
        let (k, l) : Side L' (back c) × Side L' (back d) = (x.here c s, x.here d t) in
        (means_share L' (r / 8) (q / 8) (element_of L' r a) (element_of L' q b)).shows
        (back c, back d, k, l, within r c a s e, within q d b t h, rw (same_joins (back c) (back d) k l, x.to_back c s, x.to_back d t) w)

    renumbered_meet : (n : ℕ) → Fit n L' → Conformal L → (r / 8 ≡ q / 8 → ⊥) → T (meet_well L' (r / 8) (q / 8))
    renumbered_meet n fit m d =
        let (c, e) : Side L (to r) × Side L (to q) = (x.there r a, x.there q b) in
        let other : to r / 8 ≡ to q / 8 → ⊥ = λ z. d (sym (within r (to q) a e (sym z)) ∙ ap (λ (k : ℕ). k / 8) (x.back_to q b)) in
        meet_carried n L' L fit (r / 8) (q / 8) (to r / 8) (to q / 8) (element_of L' r a)
        (λ v. corner_there r v a) (λ v. corner_there q v b) share_here
        (m (to r / 8) (to q / 8) (element_of L (to r) c) (element_of L (to q) e) other)

  renumbered_conformal : (n : ℕ) → Fit n L' → Conformal L → Conformal L'
  renumbered_conformal n fit m f g (a, b) (c, d) z =
      let i = at_corner L' f 1 a b (omega arith) (omega arith) (omega (arith, few L' f)) in
      let j = at_corner L' g 1 c d (omega arith) (omega arith) (omega (arith, few L' g)) in
      rw (i.its_element, j.its_element) at
      (renumbered_meet (8 * f + 1) (8 * g + 1) i.is_side_lem j.is_side_lem n fit m (λ e. z (sym i.its_element ∙ e ∙ j.its_element)))

  pub renumbered_accepted : {n : ℕ} → Accepted n L → Accepted n L'
  renumbered_accepted {n} y =
      let fit = renumbered_fit n ((means_fit n L).says y.rows) in
      let π = y.pairing in
      let p = y.ordered.pairing in
      record {
        rows = (means_fit n L').shows fit;
        pairing = recoded to back π;
        ordered =
            record {
              pairing = renumbered_pairing π p;
              orders = λ v a b.
                  let (o, z) = y.ordered.orders v a b in
                  let q = tab (length o) (λ i. back (at o i)) in
                  (q, renumbered_order π p v o z q (length_tab (length o) _) (at_tab (length o) (λ i. back (at o i))));
            };
        meeting = renumbered_conformal n fit y.meeting;
      }

-- side i of a triangle, counted k sides on
abbrev turn : ℕ → ℕ → ℕ
turn k i = (k + i + 2) % 3 + 1

-- turned the rest of the way round it is side i again
turn_back : (k i : ℕ) → k ≤ 3 → 1 ≤ i → i ≤ 3 → turn (3 - k) (turn k i) ≡ i
turn_back k i a b c = omega arith

-- such a side's element and number
turned_code : (g k i : ℕ) → ((8 * g + turn k i) / 8 ≡ g) × ((8 * g + turn k i) % 8 ≡ turn k i)
turned_code g k i = omega arith

-- turning keeps the order of the sides
turn_next : (k i : ℕ) → 1 ≤ i → i ≤ 3 → turn k (next_number 3 i) ≡ next_number 3 (turn k i)
turn_next k i a b = go (next_number_lem 3 i) (next_number_lem 3 (turn k i))
  where
    go : {m n : ℕ} → NextNumber 3 i m → NextNumber 3 (turn k i) n → turn k m ≡ n
    go (wraps c d) (wraps e f) = omega arith
    go (wraps c d) (grows e f) = omega arith
    go (grows c d) (wraps e f) = omega arith
    go (grows c d) (grows e f) = omega arith

turned_next : (L : List ℕ) (g k i : ℕ) → sides L g ≡ 3 → next L (8 * g + turn k i) ≡ 8 * g + next_number 3 (turn k i)
unfolding next
turned_next L g k i e = rw ((turned_code g k i).0, (turned_code g k i).1, e) refl

-- the sides of triangles f and g go to the other one, turned by k and by l; any other side stays
unfoldable moved : ℕ → ℕ → ℕ → ℕ → ℕ → ℕ
moved f g k l r =
    elim (eqb (r / 8) f) [
      | true ↦ 8 * g + turn k (r % 8)
      | false ↦ elim (eqb (r / 8) g) [ true ↦ 8 * f + turn l (r % 8) | false ↦ r ]
    ]

-- q is where r goes
data Moved (f g k l r q : ℕ) : Type 0 where
  over : r / 8 ≡ f → q ≡ 8 * g + turn k (r % 8) → Moved f g k l r q
  across : r / 8 ≡ g → q ≡ 8 * f + turn l (r % 8) → Moved f g k l r q
  stays : (r / 8 ≡ f → ⊥) → (r / 8 ≡ g → ⊥) → q ≡ r → Moved f g k l r q

-- f and g are two triangles of L
record Triangles (L : List ℕ) (f g : ℕ) : Type 0 where
  apart : f ≡ g → ⊥
  mine : Element L f
  other : Element L g
  mine_three : sides L f ≡ 3
  other_three : sides L g ≡ 3

module _ {L : List ℕ} {f g : ℕ} (p : Triangles L f g) where
  moved_as : {k l r q : ℕ} → Moved f g k l r q → moved f g k l r ≡ q
  unfolding moved
  moved_as {r = r} (over e h) = rw (true_of (eqb (r / 8) f) ((means_eq (r / 8) f).shows e), h, moved)
  moved_as {r = r} (across e h) =
      let d : r / 8 ≡ f → ⊥ = λ z. p.apart (sym z ∙ e) in
      rw (false_of (eqb (r / 8) f) ((means_not (means_eq (r / 8) f)).shows d), true_of (eqb (r / 8) g) ((means_eq (r / 8) g).shows e), h, moved)
  moved_as {r = r} (stays d e h) =
      let u = false_of (eqb (r / 8) f) ((means_not (means_eq (r / 8) f)).shows d) in
      rw (u, false_of (eqb (r / 8) g) ((means_not (means_eq (r / 8) g)).shows e), h, moved)

  -- a side of either has a number up to 3
  number_three : (r : ℕ) → Side L r → (r / 8 ≡ f) ⊎ (r / 8 ≡ g) → r % 8 ≤ 3
  number_three r a (inl e) = omega (arith, (side_facts L r a).number_to, ap (sides L) e)
  number_three r a (inr e) = omega (arith, (side_facts L r a).number_to, ap (sides L) e)

  module _ (k l r : ℕ) where
    moved_is : Moved f g k l r (moved f g k l r)
    moved_is = elim (decide (means_eq (r / 8) f)) [
      | inl e ↦ over e (moved_as (over e refl))
      | inr d ↦ elim (decide (means_eq (r / 8) g)) [ inl e ↦ across e (moved_as (across e refl)) | inr e ↦ stays d e (moved_as (stays d e refl)) ]
    ]

    -- sides of one element go to one element
    moved_together : (q : ℕ) → r / 8 ≡ q / 8 → moved f g k l r / 8 ≡ moved f g k l q / 8
    moved_together q z = elim moved_is [
      | over e h ↦ omega (arith, moved_as {k = k} {l = l} {r = q} (over (sym z ∙ e) refl))
      | across e h ↦ omega (arith, moved_as {k = k} {l = l} {r = q} (across (sym z ∙ e) refl))
      | stays d e h ↦ omega (arith, moved_as {k = k} {l = l} {r = q} (stays (λ y. d (z ∙ y)) (λ y. e (z ∙ y)) refl))
    ]

    module _ (a : Side L r) where
      moved_side : Side L (moved f g k l r)
      moved_side = elim moved_is [
        | over e y ↦ rw y (at_corner L g (turn k (r % 8)) p.other.0 p.other.1 (omega arith) (omega arith) (omega arith)).is_side_lem
        | across e y ↦ rw y (at_corner L f (turn l (r % 8)) p.mine.0 p.mine.1 (omega arith) (omega arith) (omega arith)).is_side_lem
        | stays d e y ↦ rw y a
      ]

      -- moved once more, and turned the rest of the way round, a side is where it was
      moved_back : k ≤ 3 → l ≤ 3 → moved f g (3 - l) (3 - k) (moved f g k l r) ≡ r
      moved_back h i =
          let from = (side_facts L r a).number_from in
          elim moved_is [
            | over e y ↦
                let (c, d) = turned_code g k (r % 8) in
                rw y (moved_as (across c (rw (d, turn_back k (r % 8) h from (number_three r a (inl e))) (omega arith))))
            | across e y ↦
                let (c, d) = turned_code f l (r % 8) in
                rw y (moved_as (over c (rw (d, turn_back l (r % 8) i from (number_three r a (inr e))) (omega arith))))
            | stays d e y ↦ rw y (moved_as (stays d e refl))
          ]

      moved_next : moved f g k l (next L r) ≡ next L (moved f g k l r)
      moved_next =
          let from = (side_facts L r a).number_from in
          let n = next_numbered L r a in
          elim moved_is [
            | over e y ↦
                rw (y, turned_next L g k (r % 8) p.other_three, sym (turn_next k (r % 8) from (number_three r a (inl e))))
                (moved_as (over (n.same ∙ e) (rw (n.index, e, p.mine_three) refl)))
            | across e y ↦
                rw (y, turned_next L f l (r % 8) p.mine_three, sym (turn_next l (r % 8) from (number_three r a (inr e))))
                (moved_as (across (n.same ∙ e) (rw (n.index, e, p.other_three) refl)))
            | stays d e y ↦ rw y (moved_as (stays (λ z. d (sym n.same ∙ z)) (λ z. e (sym n.same ∙ z)) refl))
          ]

-- a row that begins with the side after t, and then has the one before it and t, has the sides of t's triangle turned by t's number
module _ (L L' : List ℕ) (e t : ℕ) (b : Side L t) (three : sides L (t / 8) ≡ 3) where
  after : next L t ≡ 8 * (t / 8) + turn (t % 8) 1
  after = omega (arith, side_facts L t b, next_of_three L t b three)

  before : previous L t ≡ 8 * (t / 8) + turn (t % 8) 2
  before = omega (arith, side_facts L t b, previous_of_three L t b three)

  itself : t ≡ 8 * (t / 8) + turn (t % 8) 3
  itself = let x = side_facts L t b in omega arith

  row_origin : origin L' (8 * e + 1) ≡ origin L (next L t) → origin L' (8 * e + 2) ≡ origin L (previous L t) → origin L' (8 * e + 3) ≡ origin L t
      → (r : ℕ) → r / 8 ≡ e → 1 ≤ r % 8 → r % 8 ≤ 3 → origin L' r ≡ origin L (8 * (t / 8) + turn (t % 8) (r % 8))
  row_origin c d f r g h i = elim (decide (means_eq (r % 8) 1)) [
    | inl z ↦ rw z (ap (origin L') (omega arith) ∙ c ∙ ap (origin L) after)
    | inr y ↦ elim (decide (means_eq (r % 8) 2)) [
      | inl z ↦ rw z (ap (origin L') (omega arith) ∙ d ∙ ap (origin L) before)
      | inr z ↦ let w : r % 8 ≡ 3 = omega arith in rw w (ap (origin L') (omega arith) ∙ f ∙ ap (origin L) itself)
    ]
  ]

-- L' is L with the triangles of s and t in each other's rows, turned so that t's and s's own sides come third
pub record Turned (L L' : List ℕ) (s t : ℕ) : Type 0 where
  pub replaced : Replaced L L' (s / 8) (t / 8)
  pub mine : Side L s
  pub other : Side L t
  pub apart : s / 8 ≡ t / 8 → ⊥
  pub mine_first : origin L' (8 * (s / 8) + 1) ≡ origin L (next L t)
  pub mine_second : origin L' (8 * (s / 8) + 2) ≡ origin L (previous L t)
  pub mine_third : origin L' (8 * (s / 8) + 3) ≡ origin L t
  pub other_first : origin L' (8 * (t / 8) + 1) ≡ origin L (next L s)
  pub other_second : origin L' (8 * (t / 8) + 2) ≡ origin L (previous L s)
  pub other_third : origin L' (8 * (t / 8) + 3) ≡ origin L s

module _ {L L' : List ℕ} {s t : ℕ} (x : Turned L L' s t) where
  triangles : Triangles L (s / 8) (t / 8)
  unfolding sides_by
  triangles =
      let y = x.replaced in
      let (c, d) : (sides L (s / 8) ≡ 3) × (sides L (t / 8) ≡ 3) = (ap sides_by y.mine_three, ap sides_by y.other_three) in
      record { apart = x.apart; mine = y.mine; other = y.other; mine_three = c; other_three = d }

  few_numbers : (s % 8 ≤ 3) × (t % 8 ≤ 3)
  few_numbers = (number_three triangles s x.mine (inl refl), number_three triangles t x.other (inr refl))

  -- each side of L' begins where its side of L does
  moved_origin : (r : ℕ) → Side L' r → origin L' r ≡ origin L (moved (s / 8) (t / 8) (t % 8) (s % 8) r)
  moved_origin r a =
      let p = triangles in
      let b = side_before x.replaced r a in
      let from = (side_facts L r b).number_from in
      elim (moved_is p (t % 8) (s % 8) r) [
        | over e y ↦
            let row = row_origin L L' (s / 8) t x.other p.other_three x.mine_first x.mine_second x.mine_third in
            rw y (row r e from (number_three p r b (inl e)))
        | across e y ↦
            let row = row_origin L L' (t / 8) s x.mine p.mine_three x.other_first x.other_second x.other_third in
            rw y (row r e from (number_three p r b (inr e)))
        | stays d e y ↦ rw y (same_origin x.replaced r b d e)
      ]

  turned_renumbered : Renumbered L L' (moved (s / 8) (t / 8) (t % 8) (s % 8)) (moved (s / 8) (t / 8) (3 - s % 8) (3 - t % 8))
  turned_renumbered =
      let p = triangles in
      let y = x.replaced in
      let (i, j) = few_numbers in
      let (k, l) : (3 - (3 - s % 8) ≡ s % 8) × (3 - (3 - t % 8) ≡ t % 8) = omega arith in
      record {
        long = y.long;
        nothing = moved_as p (stays (λ e. omega (arith, y.mine)) (λ e. omega (arith, y.other)) refl);
        there = λ r a. moved_side p (t % 8) (s % 8) r (side_before y r a);
        here = λ r a. side_still y _ (moved_side p (3 - s % 8) (3 - t % 8) r a);
        to_back = λ r a. rw (k, l) at (moved_back p (3 - s % 8) (3 - t % 8) r a (omega arith) (omega arith));
        back_to = λ r a. moved_back p (t % 8) (s % 8) r (side_before y r a) j i;
        origins = moved_origin;
        follows = λ r a. ap (moved (s / 8) (t / 8) (t % 8) (s % 8)) (same_next y r) ∙ moved_next p (t % 8) (s % 8) r (side_before y r a);
        together = λ r q a b. moved_together p (t % 8) (s % 8) r q;
        together_back = λ r q a b. moved_together p (3 - s % 8) (3 - t % 8) r q;
      }

  pub turned_accepted : {n : ℕ} → Accepted n L → Accepted n L'
  turned_accepted = renumbered_accepted turned_renumbered
