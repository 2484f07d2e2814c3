-- A list with a diagonal swapped is refused only by check 6, exactly where a side joined the ends of the new diagonal already, or by check 18,
-- two elements that clash: its rows are fit, and where check 6 finds nothing its sides are paired and every vertex has a turn order.
-- Assumes nothing.
use Rattle.std.proofs.Math.Path.{◌≡◌}
use Rattle.std.specs.Prelude.{refl, ◌⊎◌, ◌↔◌, List, ℕ, ◌/◌, ◌%◌, ◌≤◌, T}
use Rattle.std.proofs.Common.{ap, sym, ◌∙◌, arith}
use Rattle.std.proofs.Math.Logic.{inl, inr}
use Rattle.lists.specs.TestLaws.{decide, means_either, means_eq}
use Rattle.rules.specs.Elements.{Side, origin, next, previous, destination}
use Rattle.rules.specs.Pairing.{alike, SideAt, Turn, TurnOrder, Pairing, Conformal, Accepted}
use Rattle.rules.specs.Tables.{partner}
use Rattle.rules.specs.Refusals.{Answer, refused, crowded_side, alike_side, unordered_vertex, clashing, row_checks, list_answer}
use Rattle.edit_rules.specs.Swap.{third, swapped}
use Rattle.theory.specs.Sides.{side_positive}
use Rattle.theory.specs.Steps.{next_numbered, previous_numbered}
use Rattle.theory.specs.FitRows.{Fit, means_fit, ends_differ}
use Rattle.theory.specs.Pairings.{means_alike, means_opposed, means_joins, means_no_alike, pairing_exists, the_pairing}
use Rattle.theory.specs.SiblingUses.{two_join}
use Rattle.theory.specs.Triangles.{Runs, next_runs, previous_runs}
use Rattle.theory.specs.Replacing.{same_size, side_before, same_origin}
use Rattle.theory.specs.Orders.{Good, good, lone}
use Rattle.theory.specs.Rims.{border_leads}
use Rattle.theory.specs.Spreading.{order_reached, Leads, Stepped, Carried, carried}
use Rattle.theory.specs.Covering.{reached_covered, covered_order}
use Rattle.theory.specs.Swapping.{Diagonal}
use Rattle.theory.specs.Counterparts.{Counterpart, Swapped, Crossed, exchanged, reversed, across, paired_across, counterpart, border_there, crossed_swapped}
use Rattle.theory.specs.Diamonds.{whole, one_whole, one_corner, Across, one, other, runs_differ, thirds_differ, beside}
use Rattle.theory.specs.SwapBack.{crossed}
use Rattle.theory.specs.Deciding.{means_ordered}
use Rattle.theory.specs.Answers.{check_clear, check_refuses, refused_here, fit_rows_clear}

-- no side joins c and d
abbrev pub Unjoined : List ℕ → ℕ → ℕ → Type 0
Unjoined L c d = (r : ℕ) → Runs L r c d ⊎ Runs L r d c → ⊥

module _ {L L' : List ℕ} {s t s' t' a b c d : ℕ} (x : Swapped L s t L' s' t' a b c d) where
  -- where the two elements of the diagonal count as one
  module _ (h : ℕ → ℕ) (one_home : h (s' / 8) ≡ h (t' / 8)) where
    old_home : h (t / 8) ≡ h (s / 8)
    old_home = let (e, f) = x.kept h one_home in f ∙ sym one_home ∙ sym e

    -- a side of the new list begins where one of the old list did, in its element
    there : (q : ℕ) → Side L' q → (r : ℕ) × SideAt L (origin L' q) r × (h (r / 8) ≡ h (q / 8))
    there q y = elim (decide (means_eq q s')) [
      | inl e ↦
          let z = previous_runs x.old.other in
          let same = (previous_numbered L t x.old.other.runs.side).same in
          (previous L t, (z.side, z.from ∙ sym (ap (origin L') e ∙ x.new.one.runs.from)), rw (same, e, (x.kept h one_home).1) (sym one_home))
      | inr i ↦ elim (decide (means_eq q t')) [
        | inl e ↦
            let z = previous_runs x.old.one in
            let same = (previous_numbered L s x.old.one.runs.side).same in
            (previous L s, (z.side, z.from ∙ sym (ap (origin L') e ∙ x.new.other.runs.from)), rw (same, e, (x.kept h one_home).0) one_home)
        | inr j ↦
            let u = counterpart (reversed x) q y i j in
            (u.code, (u.runs.side, u.runs.from), sym (u.home h old_home))
      ]
    ]

  -- a side from d to c is, with the new diagonal, a third one that joins them
  third_joins : {n : ℕ} → Fit n L → crowded_side L' ≡ 0 → (r : ℕ) → Runs L r d c → ⊥
  third_joins fit free r k =
      let y = x.old.other in
      let z = x.new in
      let not_one : r ≡ s → ⊥ = λ e. runs_differ fit (next_runs y) (sym (ap (origin L) e ∙ x.old.one.runs.from) ∙ k.from) in
      let not_other : r ≡ t → ⊥ = λ e. runs_differ fit (previous_runs y) (sym k.from ∙ ap (origin L) e ∙ y.runs.from) in
      let u = counterpart x r k.side not_one not_other in
      let v = z.one.runs in
      let like = (means_alike L' s' u.code).shows (v.from ∙ sym (u.runs.from ∙ k.from), v.to ∙ sym (u.runs.to ∙ k.to)) in
      u.not_other
      (two_join L' free s' u.code t' v.side u.runs.side z.other.runs.side ((means_joins L' s' u.code).shows (inl like))
      ((means_joins L' s' t').shows (inr (across z))) u.not_one (λ e. z.apart (sym (ap (λ (q : ℕ). q / 8) e))))

-- the new rows are fit
module _ {n : ℕ} {L L' : List ℕ} {s t : ℕ} (fit : Fit n L) (m : Conformal L) (x : Crossed L L' s t) where
  crossed_fit : Fit n L'
  crossed_fit =
      let r = x.replaced in
      record {
        vertices = fit.vertices;
        size = rw (same_size r) fit.size;
        fours = omega (arith, fit.fours, r.long);
        from = λ q w. let (u, (y, o), e) = there (crossed_swapped x) (λ e. 0) refl q w in rw o at (fit.from u y);
        to = λ q w. let (u, (y, o), e) = there (crossed_swapped x) (λ e. 0) refl q w in rw o at (fit.to u y);
        differ = λ q w y z e o. go q w y z e o (decide (means_eq (q / 8) (s / 8))) (decide (means_eq (q / 8) (t / 8)));
      }
    where
      go : (q w : ℕ) → Side L' q → Side L' w → q / 8 ≡ w / 8 → origin L' q ≡ origin L' w → (q / 8 ≡ s / 8) ⊎ (q / 8 ≡ s / 8 → ⊥)
          → (q / 8 ≡ t / 8) ⊎ (q / 8 ≡ t / 8 → ⊥) → q ≡ w
      go q w y z e o (inl i) j =
          let k = crossed_swapped x in
          one_corner k.new.one (λ u. thirds_differ fit k.old m (sym u)) (runs_differ fit (previous_runs k.old.one))
          (runs_differ fit (next_runs k.old.other)) q w y z (omega arith) (omega arith) o
      go q w y z e o (inr i) (inl j) =
          let k = crossed_swapped x in
          one_corner k.new.other (thirds_differ fit k.old m) (runs_differ fit (previous_runs k.old.other))
          (runs_differ fit (next_runs k.old.one)) q w y z (omega arith) (omega arith) o
      go q w y z e o (inr i) (inr j) =
          let r = x.replaced in
          let (b, c) : Side L q × Side L w = (side_before r q y, side_before r w z) in
          fit.differ q w b c e (sym (same_origin r q b i j) ∙ o ∙ same_origin r w c (λ u. i (e ∙ u)) (λ u. j (e ∙ u)))

module _ {n : ℕ} {L L' : List ℕ} {s t s' t' a b c d : ℕ} (old : Good n L) (fit : Fit n L') (x : Swapped L s t L' s' t' a b c d) where
  -- the element of side r, where the two of the diagonal count as one
  abbrev merged : ℕ → ℕ
  merged = whole (s' / 8) (t' / 8)

  abbrev home : ℕ → ℕ
  home r = merged (r / 8)

  new_home : home s' ≡ home t'
  new_home = one_whole (s' / 8) (t' / 8)

  -- two sides of one home with one origin; the third corners of the new triangles differ, for they were the ends of the old diagonal
  meet : (r q : ℕ) → Side L' r → Side L' q → origin L' r ≡ origin L' q → home r ≡ home q → (r ≡ q) ⊎ (Across L' s' t' r q ⊎ Across L' s' t' q r)
  meet = beside fit x.new (runs_differ old.fit x.old.one.runs)

  -- no two sides run alike
  module _ (free : Unjoined L c d) where
    -- r is of the new diagonal
    abbrev Of : ℕ → Type 0
    Of r = (r ≡ s') ⊎ (r ≡ t')

    of : {r q : ℕ} → Across L' s' t' r q → Of r
    of (one e f) = inl e
    of (other e f) = inr e

    -- a side alike with one of the diagonal has a counterpart that joins c and d
    none_alike : (r q : ℕ) → Side L' q → T (alike L' r q) → Of r → (Of q → ⊥) → ⊥
    none_alike r q w z i j =
        elim i [ inl k ↦ free u.code (inr (like (rw k x.new.one.runs))) | inr k ↦ free u.code (inl (like (rw k x.new.other.runs))) ]
      where
        u : Counterpart L' q L t s
        u = counterpart (reversed x) q w (λ k. j (inl k)) (λ k. j (inr k))

        like : {a b : ℕ} → Runs L' r a b → Runs L u.code a b
        like k =
            let (o, e) = (means_alike L' r q).says z in
            record { side = u.runs.side; from = u.runs.from ∙ sym o ∙ k.from; to = u.runs.to ∙ sym e ∙ k.to }

    no_alike : (r q : ℕ) → Side L' r → Side L' q → T (alike L' r q) → r ≡ q
    no_alike r q y w z = go (decide (means_either (means_eq r s') (means_eq r t'))) (decide (means_either (means_eq q s') (means_eq q t')))
      where
        ends : (origin L' r ≡ origin L' q) × (destination L' r ≡ destination L' q)
        ends = (means_alike L' r q).says z

        -- the two of the diagonal begin at different ends
        apart : (r q : ℕ) → origin L' r ≡ origin L' q → r ≡ s' → q ≡ t' → ⊥
        apart r q o e f =
            let y = x.new in
            runs_differ fit y.one.runs (sym (ap (origin L') e ∙ y.one.runs.from) ∙ o ∙ ap (origin L') f ∙ y.other.runs.from)

        go : Of r ⊎ (Of r → ⊥) → Of q ⊎ (Of q → ⊥) → r ≡ q
        go (inl (inl e)) (inl (inl f)) = e ∙ sym f
        go (inl (inl e)) (inl (inr f)) = absurd (apart r q ends.0 e f)
        go (inl (inr e)) (inl (inl f)) = absurd (apart q r (sym ends.0) f e)
        go (inl (inr e)) (inl (inr f)) = e ∙ sym f
        go (inl i) (inr j) = absurd (none_alike r q w z i j)
        go (inr i) (inl j) = absurd (none_alike q r y ((means_alike L' q r).shows (sym ends.0, sym ends.1)) j i)
        go (inr i) (inr j) =
            let u = counterpart (reversed x) r y (λ k. i (inl k)) (λ k. i (inr k)) in
            let v = counterpart (reversed x) q w (λ k. j (inl k)) (λ k. j (inr k)) in
            let k = u.runs in
            let l = v.runs in
            let same = lone n L old u.code v.code k.side l.side (k.from ∙ ends.0 ∙ sym l.from) (k.to ∙ ends.1 ∙ sym l.to) in
            let f = old_home x merged new_home in
            elim (meet r q y w ends.0 (u.home merged f ∙ ap home same ∙ sym (v.home merged f)))
            [ inl e ↦ e | inr e ↦ absurd (elim e [ inl g ↦ i (of g) | inr g ↦ j (of g) ]) ]

    new_pairing : Pairing L' (partner L')
    new_pairing = the_pairing n L' fit ((means_eq (alike_side L') 0).says ((means_no_alike L').shows no_alike))

  -- every vertex has a turn order
  module _ (p : Pairing L' (partner L')) where
    turn_by_lem : (r t : ℕ) → Side L' t → partner L' r ≡ t → Turn L' (partner L') r (next L' t)
    turn_by_lem r t w e = ((λ z. side_positive L' t w (sym e ∙ z)), ap (next L') e)

    -- beyond a side of the diagonal is its turn
    turn_across : {r q : ℕ} → Across L' s' t' r q → Turn L' (partner L') r q
    turn_across {r} (one e f) = rw f (turn_by_lem r t' x.new.other.runs.side (ap (partner L') e ∙ paired_across x.new p))
    turn_across {r} (other e f) = rw f (turn_by_lem r s' x.new.one.runs.side (ap (partner L') e ∙ paired_across (exchanged x.new) p))

    module _ (v : ℕ) where
      -- a turn over the old diagonal stays in one home; over any other side, it is as the turn over its counterpart
      step : (r u : ℕ) → SideAt L v r → Turn L (partner L) r u → Stepped L' v home home r u
      step r u (y, o) (z, e) = go (decide (means_eq r s)) (decide (means_eq r t))
        where
          r' : ℕ
          r' = partner L r

          back : Side L r' × (partner L r' ≡ r)
          back = old.pairing.mutually r y z

          on : home r' ≡ home u
          on = ap merged (sym (next_numbered L r' back.0).same) ∙ ap home e

          mine : partner L s ≡ t
          mine = paired_across x.old old.pairing

          others : partner L t ≡ s
          others = paired_across (exchanged x.old) old.pairing

          go : (r ≡ s) ⊎ (r ≡ s → ⊥) → (r ≡ t) ⊎ (r ≡ t → ⊥) → Stepped L' v home home r u
          go (inl i) j = inl (ap home i ∙ sym (old_home x merged new_home) ∙ ap home (sym (ap (partner L) i ∙ mine)) ∙ on)
          go (inr i) (inl j) = inl (ap home j ∙ old_home x merged new_home ∙ ap home (sym (ap (partner L) j ∙ others)) ∙ on)
          go (inr i) (inr j) =
              let k = counterpart x r y i j in
              let l = counterpart x r' back.0 (λ g. j (sym back.1 ∙ ap (partner L) g ∙ mine)) (λ g. i (sym back.1 ∙ ap (partner L) g ∙ others)) in
              let (f, g) = (means_opposed L r r').says (old.pairing.opposite r y z).1 in
              let a = k.runs in
              let b = l.runs in
              let opposite = (means_opposed L' k.code l.code).shows (a.from ∙ f ∙ sym b.to, a.to ∙ g ∙ sym b.from) in
              let differ : k.code ≡ l.code → ⊥ = λ c. ends_differ n L old.fit r y (sym a.from ∙ ap (origin L') c ∙ b.from ∙ sym g) in
              let paired = p.paired k.code l.code a.side b.side differ ((means_joins L' k.code l.code).shows (inr opposite)) in
              let m = next_numbered L' l.code b.side in
              let (q, w) : SideAt L' v k.code × SideAt L' v (next L' l.code) = ((a.side, a.from ∙ o), (m.side, b.to ∙ sym f ∙ o)) in
              let same = sym on ∙ l.home merged new_home ∙ sym (ap merged m.same) in
              inr (k.code, next L' l.code, q, w, turn_by_lem k.code l.code b.side paired, k.home merged new_home, same)

      places : Carried L L' v home home
      places =
          record {
            each = λ q (y, o). let (r, (z, e), k) = there x merged new_home q y in (r, (z, e ∙ o), k);
            together = λ q w (y, o) (z, e) k. elim (meet q w y z (o ∙ sym e) k) [
              | inl i ↦ inl i
              | inr i ↦ inr (elim i [ inl l ↦ inl (turn_across l) | inr l ↦ inr (turn_across l) ])
            ];
            steps = step;
          }

      -- a border side that begins at v did in the old list, where one ended there, and still does
      leads : (o : List ℕ) → TurnOrder L (partner L) v o → Leads L' v
      leads o y q (w, e) z =
          let (u, k, i) = border_there (reversed x) old.pairing q w z in
          let (r, (f, g, h)) = border_leads L old.pairing v o y u (k.side, k.from ∙ e) i in
          let (m, l, j) = border_there x p r f g in (m, (l.side, j, rw h at l.to))

    new_orders : (v : ℕ) → 1 ≤ v → v ≤ n → (o : List ℕ) × TurnOrder L' (partner L') v o
    new_orders v from to =
        let (o, y) = old.orders v from to in
        covered_order n L' p v from to (reached_covered n L' p v from to (leads v o y) (carried (places v) (order_reached y)))

  -- where no side joins c and d, all is well but for elements that clash; and only there
  swapped_good : Unjoined L c d → Good n L'
  swapped_good free = let p = new_pairing free in record { fit = fit; pairing = p; orders = new_orders p }

  uncrowded : (crowded_side L' ≡ 0) ↔ Unjoined L c d
  uncrowded = (
    (λ none r k. elim k [ inl y ↦ third_joins (reversed (reversed x)) old.fit none r y | inr y ↦ third_joins x old.fit none r y ]),
    (λ free. ((pairing_exists n L' fit).0 (partner L', new_pairing free)).0),
  )

-- swapping the diagonal s of an accepted list
module _ (n : ℕ) (L : List ℕ) (y : Accepted n L) (s : ℕ) (x : Diagonal L s) where
  abbrev L' : List ℕ
  L' = swapped L s

  old : Good n L
  old = good n L y

  rows : Crossed L L' s (partner L s)
  rows = crossed n L old.fit s x

  fit : Fit n L'
  fit = crossed_fit old.fit y.meeting rows

  abbrev c : ℕ
  c = third L s

  abbrev d : ℕ
  d = third L (partner L s)

  -- check 6 finds nothing exactly where no side joins c and d
  pub swapped_uncrowded : (crowded_side L' ≡ 0) ↔ Unjoined L c d
  unfolding third
  swapped_uncrowded = uncrowded old fit (crossed_swapped rows)

  past_rows : (rest : Answer) → row_checks n L' rest ≡ rest
  past_rows = fit_rows_clear n L' ((means_fit n L').shows fit)

  -- where one does, the list is refused by 6
  pub swapped_crowded : (Unjoined L c d → ⊥) → list_answer n L' ≡ refused 6 (crowded_side L' / 8) (crowded_side L' % 8)
  unfolding list_answer
  swapped_crowded f = past_rows _ ∙ check_refuses (crowded_side L') _ _ (λ e. f (swapped_uncrowded.0 e))

  -- else only by 18
  pub swapped_clashes : Unjoined L c d → {r p q : ℕ} → list_answer n L' ≡ refused r p q → r ≡ 18
  unfolding list_answer third
  swapped_clashes free {r} {p} {q} g =
      let z = swapped_good old fit (crossed_swapped rows) free in
      let alike = ((pairing_exists n L' fit).0 (partner L', z.pairing)).1 in
      let ordered = (means_eq (unordered_vertex n L') 0).says ((means_ordered n L' z.pairing).shows z.orders) in
      let past = past_rows _ ∙ check_clear _ _ _ (swapped_uncrowded.1 free) ∙ check_clear _ _ _ alike ∙ check_clear _ _ _ ordered in
      elim (refused_here (clashing L') 18 _ _ r p q _ (sym past ∙ g))
      [ inl e ↦ e | inr (c, k) ↦ let z : ◌≡◌ {A = ℕ} 0 1 = cc in absurd (omega arith) ]
