-- Going over the border half-edges: b of them are marked, in h holes; the next one is marked already, or its loop makes a hole more.
-- Assumes nothing.
use mathlib.Core.Path.{◌≡◌, refl, ap, sym, subst, ◌∙◌}
use mathlib.Core.Logic.{◌⊎◌, inl, inr}
use mathlib.Core.Option.{none, some}
use mathlib.Core.List.{List}
use Prim.Native.Nat.{ℕ, suc, ◌+◌, ◌-◌, ◌≤◌, ◌<◌}
use native.Mathlib.Omega.{arith}
use lib.Dec.{eqb}
use lib.ListN.{length, set, length-set}
use Rattle.lists.specs.TestLaws.{means_eq, means_one}
use Rattle.lists.specs.Search.{at, count}
use Rattle.lists.specs.SearchLaws.{lt_or_eq, count_bound, count_same}
use Rattle.lists.specs.Stores.{at_same, at_other}
use Rattle.rules.specs.Elements.{count_numbers}
use Rattle.rules.specs.Queries.{Mesh, next_border, border_loop}
use Rattle.rules.specs.Holes.{Reachable, least_of, holes_up_to, hole_of}
use Rattle.theory.specs.Reads.{nothing}
use Rattle.theory.specs.Reaching.{In, next_in, kept, itself, no_loop}
use Rattle.theory.specs.Holes.{Back, hole_back, returns, least_of_lem, same_least, least_leads, hole_more, hole_stays, leads_one}
use Rattle.holes.specs.Marks.{mark_of, mark, Pending, Open, Looped, Followed, Known, Marked, Numbered}
use Rattle.holes.proofs.Marking.{mark_next, mark_number, mark_entry}

module _ (M : Mesh) where
  abbrev k : ℕ
  k = length M.border

  -- no more holes than border half-edges
  pub holes_short : (b h : ℕ) (W : List ℕ) → Marked M b h W → h ≤ b
  unfolding holes_up_to
  holes_short b h W s = omega (arith, s.many, count_bound (λ j. eqb (least_of M (j + 1)) (j + 1)) b)

  -- nothing is marked at first
  pub none_marked : (W : List ℕ) → k + k ≤ length W → ((z : ℕ) → In M z → Pending M W z) → Marked M 0 0 W
  unfolding holes_up_to count
  none_marked W room pending =
      record {
        room = room;
        closed =
            record {
              up_to = λ z i. omega (arith, blank z i);
              alike = λ z y i d e. absurd (d (blank z i));
              pending = λ z i e. pending z i;
            };
        known = λ z i d. absurd (d (blank z i));
        all = λ z from to. absurd (omega arith);
        many = refl;
        measured = λ i l. absurd (omega arith);
      }
    where
      blank : (z : ℕ) → In M z → mark M W z ≡ 0
      blank z i = mark_next k (at W (z - 1)) (pending z i).above

  pub numbered : (b h : ℕ) (W : List ℕ) → Marked M b h W → Numbered M b W (some h)
  numbered b h W s =
      record { counted = λ g e. let f : h ≡ g = cc in subst (λ (j : ℕ). Marked M b j W) f s; broken = λ e. absurd (nothing (sym e)) }

  -- where next of z can't be read, its loop doesn't come back
  pub lost_at : (z : ℕ) → In M z → next_border M z ≡ none → border_loop M z ≡ none
  lost_at z i e =
      no_loop M (λ x. x ≡ z) z refl (λ x q. (subst (In M) (sym q) i, λ y f. absurd (nothing (sym e ∙ ap (next_border M) (sym q) ∙ f))))

  pub unnumbered : (b c : ℕ) (W : List ℕ) → In M c → border_loop M c ≡ none → Numbered M b W none
  unnumbered b c W i e = record { counted = λ h f. absurd (nothing f); broken = λ f. (c, i, e) }

  module _ (b h : ℕ) (U : List ℕ) (s : Marked M b h U) (i : In M (b + 1)) where
    -- the next one is marked: its hole has begun earlier
    pub marked_already : at U b ≤ k → Marked M (b + 1) h U
    marked_already l =
        record {
          room = s.room;
          closed = s.closed;
          known = λ z j e. let x = s.known z j e in record { back = x.back; earlier = omega (arith, x.earlier); hole = x.hole };
          all = λ z from to.
              elim (lt_or_eq z (b + 1) (omega arith))
              [ inl m ↦ s.all z from (omega arith) | inr e ↦ λ f. here (ap (mark M U) (sym e) ∙ f) ];
          many = s.many ∙ sym (ap (holes_up_to M) one ∙ hole_stays M b not_least);
          measured = s.measured;
        }
      where
        one : b + 1 ≡ suc b
        one = omega arith

        back : b + 1 - 1 ≡ b
        back = omega arith

        here : mark M U (b + 1) ≡ 0 → ⊥
        here f = omega (arith, (s.closed.pending (b + 1) i f).above, ap (at U) back)

        not_least : least_of M (suc b) ≡ suc b → ⊥
        not_least e = omega (arith, rw one at (s.known (b + 1) i here).earlier)

    module _ (free : k < at U b) where
      unmarked : mark M U (b + 1) ≡ 0
      unmarked = let back : b + 1 - 1 ≡ b = omega arith in mark_next k (at U (b + 1 - 1)) (rw back free)

      pub opens : Open M (b + 1) (h + 1) U
      opens =
          let back : h + 1 - 1 ≡ h = omega arith in
          record {
            inside = i;
            unmarked = unmarked;
            positive = omega arith;
            most = omega (arith, i, holes_short b h U s);
            closed = rw back s.closed;
            room = omega (arith, s.room);
          }

      -- its loop doesn't come back
      pub never_back : (W : List ℕ) → Followed M (b + 1) (h + 1) none U W → Numbered M (b + 1) W none
      never_back W f = unnumbered (b + 1) (b + 1) W i (f.lost refl)

      module _ (r : ℕ) (W : List ℕ) (f : Followed M (b + 1) (h + 1) (some r) U W) where
        pub as_long : length (set W (k + h) r) ≡ length U
        as_long = length-set W (k + h) r ∙ f.kept.long

        -- its loop is a hole more
        x : Looped M (b + 1) (h + 1) r U W
        x = f.found r refl

        -- it is the least of its loop: the lesser ones are marked, and what they lead to
        leads : least_of M (b + 1) ≡ b + 1
        leads =
            let l = least_of_lem M (b + 1) i x.back in
            elim (lt_or_eq (least_of M (b + 1)) (b + 1) (omega (arith, l.least (b + 1) i.0 (itself M (b + 1))))) [
              | inl less ↦
                  let (j, e) = (returns M (b + 1) i x.back (least_of M (b + 1)) l.reached).0 in
                  absurd
                  ((kept M (λ z. In M z × (mark M U z ≡ 0 → ⊥))
                  (λ z y (a, d) g. (next_in M z y g, λ q. d (sym (s.closed.alike z y a d g) ∙ q)))
                  j (least_of M (b + 1)) (b + 1) (l.inside, s.all (least_of M (b + 1)) l.inside.0 (omega arith)) e).1 unmarked)
              | inr e ↦ e
            ]

        one_more : holes_up_to M (b + 1) ≡ h + 1
        one_more =
            let one : b + 1 ≡ suc b = omega arith in
            ap (holes_up_to M) one ∙ hole_more M b (rw one at leads) ∙ omega (arith, s.many)

        -- what has the new mark has the new hole, and the other way round
        of_loop : (z : ℕ) → In M z → mark M W z ≡ h + 1 → Back M z × (least_of M z ≡ b + 1) × (hole_of M z ≡ h + 1)
        unfolding hole_of
        of_loop z j e =
            let r = x.reached z j e in
            let l = sym (same_least M (b + 1) z i x.back r) ∙ leads in
            ((returns M (b + 1) i x.back z r).1, l, ap (holes_up_to M) l ∙ one_more)

        in_loop : (z : ℕ) → In M z → hole_of M z ≡ h + 1 → mark M W z ≡ h + 1
        unfolding hole_of
        in_loop z j e =
            let back = hole_back M z (λ q. omega arith) in
            let l = least_of_lem M z j back in
            let same = leads_one M (least_of M z) (b + 1) l.inside.0 i.0 (least_leads M z j back) leads (e ∙ sym one_more) in
            x.marked z (returns M z j back (b + 1) (subst (Reachable M z) same l.reached)).0

        W' : List ℕ
        W' = set W (k + h) r

        same_entry : (z : ℕ) → In M z → at W' (z - 1) ≡ at W (z - 1)
        unfolding W'
        same_entry z (from, to) = at_other W (k + h) r (z - 1) (λ e. omega arith)

        same_mark : (z : ℕ) → In M z → mark M W' z ≡ mark M W z
        same_mark z i = ap (mark_of k) (same_entry z i)

        pub one_hole_more : Marked M (b + 1) (h + 1) (set W (k + h) r)
        unfolding W'
        one_hole_more =
            record {
              room = omega (arith, s.room, as_long);
              closed =
                  record {
                    up_to = λ z j. rw (same_mark z j) (x.closed.up_to z j);
                    alike = λ z y j d e.
                        same_mark y (next_in M z y e) ∙ x.closed.alike z y j (λ q. d (same_mark z j ∙ q)) e ∙ sym (same_mark z j);
                    pending = λ z j e.
                        let p = x.closed.pending z j (sym (same_mark z j) ∙ e) in
                        record { above = rw (same_entry z j) p.above; next = rw (same_entry z j) p.next };
                  };
              known = λ z j d. known z j (λ q. d (same_mark z j ∙ q)) (x.over z j);
              all = all;
              many = sym one_more;
              measured = measured;
            }
          where
            known : (z : ℕ) → In M z → (mark M W z ≡ 0 → ⊥)
                → (mark M W z ≡ mark M U z) ⊎ ((mark M U z ≡ 0) × (mark M W z ≡ h + 1)) → Known M (b + 1) W' z
            known z j d (inl e) =
                let y = s.known z j (λ q. d (e ∙ q)) in
                record { back = y.back; earlier = omega (arith, y.earlier); hole = same_mark z j ∙ e ∙ y.hole }
            known z j d (inr (e, g)) =
                let (back, least, hole) = of_loop z j g in
                record { back = back; earlier = omega (arith, least); hole = same_mark z j ∙ g ∙ sym hole }

            all : (z : ℕ) → 1 ≤ z → z ≤ b + 1 → mark M W' z ≡ 0 → ⊥
            all z from to q = go (lt_or_eq z (b + 1) (omega arith)) (x.over z j)
              where
                j : In M z
                j = (from, omega (arith, i.1))

                go : (z < b + 1) ⊎ (z ≡ b + 1) → (mark M W z ≡ mark M U z) ⊎ ((mark M U z ≡ 0) × (mark M W z ≡ h + 1)) → ⊥
                go l (inr (e, g)) = omega (arith, sym (same_mark z j) ∙ q)
                go (inl l) (inl e) = s.all z from (omega arith) (sym e ∙ sym (same_mark z j) ∙ q)
                go (inr l) (inl e) = omega (arith, ap (mark M W) l ∙ x.marked (b + 1) (itself M (b + 1)), sym (same_mark z j) ∙ q)

            measured : (j : ℕ) → j < h + 1 → at W' (k + j) ≡ count_numbers k (λ c. eqb (hole_of M c) (j + 1))
            measured j l = go (lt_or_eq j h (omega arith))
              where
                go : (j < h) ⊎ (j ≡ h) → at W' (k + j) ≡ count_numbers k (λ c. eqb (hole_of M c) (j + 1))
                go (inl m) = at_other W (k + h) r (k + j) (λ e. omega arith) ∙ f.kept.entries (k + j) (omega arith) ∙ s.measured j m
                go (inr e) =
                    ap (λ (a : ℕ). at W' (k + a)) e
                    ∙ at_same W (k + h) r (omega (arith, s.room, f.kept.long, holes_short b h U s, i))
                    ∙ x.counted
                    ∙ count_same (λ a. eqb (at W a) (h + 1)) (λ a. eqb (hole_of M (a + 1)) (h + 1)) k both
                    ∙ ap (λ (a : ℕ). count_numbers k (λ c. eqb (hole_of M c) (a + 1))) (sym e)
                  where
                    entry_of_lem : (z : ℕ) → mark M W z ≡ h + 1 → at W (z - 1) ≡ h + 1
                    entry_of_lem z e = sym (mark_entry k (at W (z - 1)) (λ q. omega arith)).1 ∙ e

                    both : (a : ℕ) → a < k → eqb (at W a) (h + 1) ≡ eqb (hole_of M (a + 1)) (h + 1)
                    both a m =
                        let back : a + 1 - 1 ≡ a = omega arith in
                        let z : In M (a + 1) = (omega arith, omega arith) in
                        means_one (means_eq (at W a) (h + 1)) (means_eq (hole_of M (a + 1)) (h + 1))
                        (λ q. (of_loop (a + 1) z (ap (mark_of k) (ap (at W) back ∙ q) ∙ mark_number k (h + 1) opens.most)).2)
                        (λ q. ap (at W) (sym back) ∙ entry_of_lem (a + 1) (in_loop (a + 1) z q))
