-- Following a loop and marking it: b is its start, h its mark, U what the work held before, W what it holds, x the border half-edge that
-- comes next and c how many were marked.
-- Assumes nothing.
use mathlib.Core.Path.{◌≡◌, refl, ap, sym, subst, ◌∙◌}
use mathlib.Core.Logic.{◌⊎◌, inl, inr}
use mathlib.Core.Option.{none, some}
use Rattle.theory.specs.Reads.{nothing}
use mathlib.Core.List.{List}
use Prim.Native.Nat.{ℕ, suc, ◌+◌, ◌-◌, ◌≤◌, ◌<◌}
use native.Mathlib.Omega.{arith}
use lib.Dec.{ltb, eqb}
use lib.ListN.{length, set}
use Rattle.lists.specs.TestLaws.{true_of, false_of, decide, means_eq, means_lt, means_not}
use Rattle.lists.specs.Search.{at, count}
use Rattle.lists.specs.SearchLaws.{le_not_lt, count_lt, count_bound, count_gap, count_drop}
use Rattle.lists.specs.Stores.{at_same, at_other, Kept, kept_itself, kept_set}
use Rattle.rules.specs.Queries.{Mesh, next_border}
use Rattle.rules.specs.Holes.{next_times, Reachable}
use Rattle.theory.specs.Reaching.{In, next_in, times_next, kept, has_loop, no_loop}
use Rattle.holes.specs.Marks.{mark_of, mark, Pending, Open, Over, Looped, Followed}

-- the mark in an entry
pub mark_next : (k e : ℕ) → k < e → mark_of k e ≡ 0
unfolding mark_of
mark_next k e h = rw (true_of (ltb k e) ((means_lt k e).shows h), mark_of)

pub mark_number : (k e : ℕ) → e ≤ k → mark_of k e ≡ e
unfolding mark_of
mark_number k e h = rw (false_of (ltb k e) ((means_not (means_lt k e)).shows (λ l. omega arith)), mark_of)

-- one that isn't 0 is the entry
pub mark_entry : (k e : ℕ) → (mark_of k e ≡ 0 → ⊥) → (e ≤ k) × (mark_of k e ≡ e)
mark_entry k e d =
    let h = le_not_lt e k (λ l. d (mark_next k e l)) in (h, mark_number k e h)

module _ (M : Mesh) where
  abbrev k : ℕ
  k = length M.border

  -- how many marks are h
  abbrev marks : ℕ → List ℕ → ℕ
  marks h W = count (λ j. eqb (at W j) h) k

  -- what next of the marked ones is: x after the last one, and else a marked one, never b
  pub record Walk (b h : ℕ) (U W : List ℕ) (x c : ℕ) : Type 0 where
    pub inside : In M x
    pub kept : Kept k U W
    pub over : Over M h U W
    pub up_to : (z : ℕ) → In M z → mark M W z ≤ h
    pub pending : (z : ℕ) → In M z → mark M W z ≡ 0 → Pending M W z
    pub onward : (z y : ℕ) → In M z → (mark M W z ≡ 0 → ⊥) → next_border M z ≡ some y
        → ((mark M W z ≡ h) × (y ≡ x)) ⊎ ((mark M W y ≡ mark M W z) × (y ≡ b → ⊥))
    pub reached : (z : ℕ) → In M z → mark M W z ≡ h → Reachable M b z
    pub begun : ((x ≡ b) × ((z : ℕ) → In M z → mark M W z ≡ h → ⊥)) ⊎ (mark M W b ≡ h)
    pub steps : next_times M c b ≡ some x
    pub counted : c ≡ marks h W

  -- no more are marked than there are
  pub walk_short : (b h : ℕ) (U W : List ℕ) (x c : ℕ) → Walk b h U W x c → c ≤ k
  walk_short b h U W x c w = omega (arith, w.counted, count_bound (λ j. eqb (at W j) h) k)

  module _ (b h : ℕ) (U : List ℕ) (o : Open M b h U) where
    pub walk_begins : Walk b h U U b 0
    unfolding next_times count
    walk_begins =
        record {
          inside = o.inside;
          kept = kept_itself k U;
          over = λ z i. inl refl;
          up_to = λ z i. omega (arith, o.closed.up_to z i);
          pending = o.closed.pending;
          onward = λ z y i d e.
              let a = o.closed.alike z y i d e in
              inr (a, λ f. d (sym a ∙ ap (mark M U) f ∙ o.unmarked));
          reached = λ z i e. absurd (none_yet z i e);
          begun = inl (refl, none_yet);
          steps = refl;
          counted = sym (count_gap (λ j. eqb (at U j) h) 0 k (omega arith) (λ j a l t. no_mark j l ((means_eq (at U j) h).says t)));
        }
      where
        none_yet : (z : ℕ) → In M z → mark M U z ≡ h → ⊥
        none_yet z i e = omega (arith, o.closed.up_to z i, o.positive)

        no_mark : (j : ℕ) → j < k → at U j ≡ h → ⊥
        no_mark j l e =
            let s : j + 1 - 1 ≡ j = omega arith in
            none_yet (j + 1) (omega arith, omega arith) (ap (mark_of k) (ap (at U) s ∙ e) ∙ mark_number k h o.most)

    -- x has no mark yet, and gets it
    module _ (W : List ℕ) (x c : ℕ) (w : Walk b h U W x c) (free : mark M W x ≡ 0) where
      abbrev W' : List ℕ
      W' = set W (x - 1) h

      put : at W' (x - 1) ≡ h
      put = at_same W (x - 1) h (omega (arith, w.inside, o.room, w.kept.long))

      here : mark M W' x ≡ h
      here = ap (mark_of k) put ∙ mark_number k h o.most

      other : (z : ℕ) → 1 ≤ z → (z ≡ x → ⊥) → at W' (z - 1) ≡ at W (z - 1)
      other z from d = at_other W (x - 1) h (z - 1) (λ e. d (omega (arith, w.inside)))

      there : (z : ℕ) → 1 ≤ z → (z ≡ x → ⊥) → mark M W' z ≡ mark M W z
      there z from d = ap (mark_of k) (other z from d)

      start_marked : mark M W' b ≡ h
      start_marked = go (decide (means_eq b x)) w.begun
        where
          go : (b ≡ x) ⊎ (b ≡ x → ⊥) → ((x ≡ b) × ((z : ℕ) → In M z → mark M W z ≡ h → ⊥)) ⊎ (mark M W b ≡ h) → mark M W' b ≡ h
          go (inl e) s = ap (mark M W') e ∙ here
          go (inr d) (inl (e, f)) = absurd (d (sym e))
          go (inr d) (inr e) = there b o.inside.0 d ∙ e

      -- where a mark leads on to x, b was marked before, so x isn't b
      not_start : (z : ℕ) → In M z → mark M W z ≡ h → x ≡ b → ⊥
      not_start z i e f = go w.begun
        where
          go : ((x ≡ b) × ((z : ℕ) → In M z → mark M W z ≡ h → ⊥)) ⊎ (mark M W b ≡ h) → ⊥
          go (inl (g, none_yet)) = none_yet z i e
          go (inr g) = omega (arith, o.positive, sym free ∙ ap (mark M W) f ∙ g)

      -- next of what is marked now, but for that of x
      marked_on : (z y : ℕ) → In M z → (mark M W' z ≡ 0 → ⊥) → next_border M z ≡ some y → (z ≡ x) ⊎ ((mark M W' y ≡ mark M W' z) × (y ≡ b → ⊥))
      marked_on z y i d e = go (decide (means_eq z x))
        where
          on : (z ≡ x → ⊥) → ((mark M W z ≡ h) × (y ≡ x)) ⊎ ((mark M W y ≡ mark M W z) × (y ≡ b → ⊥)) → (mark M W' y ≡ mark M W' z) × (y ≡ b → ⊥)
          on n (inl (f, g)) = (ap (mark M W') g ∙ here ∙ sym f ∙ sym (there z i.0 n), λ q. not_start z i f (sym g ∙ q))
          on n (inr (f, g)) =
              let other : y ≡ x → ⊥ = λ q. d (there z i.0 n ∙ sym f ∙ ap (mark M W) q ∙ free) in
              (there y (next_in M z y e).0 other ∙ f ∙ sym (there z i.0 n), g)

          go : (z ≡ x) ⊎ (z ≡ x → ⊥) → (z ≡ x) ⊎ ((mark M W' y ≡ mark M W' z) × (y ≡ b → ⊥))
          go (inl q) = inl q
          go (inr n) = inr (on n (w.onward z y i (λ f. d (there z i.0 n ∙ f)) e))

      more : suc c ≡ marks h W'
      more =
          let before : at W (x - 1) ≡ h → ⊥ = λ e. omega (arith, o.most, (w.pending x w.inside free).above) in
          ap suc w.counted
          ∙ count_drop (λ j. eqb (at W' j) h) (λ j. eqb (at W j) h) k (x - 1) (omega (arith, w.inside))
          ((means_eq (at W' (x - 1)) h).shows put)
          ((means_not (means_eq (at W (x - 1)) h)).shows before)
          (λ j d. ap (λ (a : ℕ). eqb a h) (at_other W (x - 1) h j d))

      walk_on : (y : ℕ) → next_border M x ≡ some y → Walk b h U W' y (c + 1)
      walk_on y e =
          record {
            inside = next_in M x y e;
            kept = kept_set (x - 1) h w.kept (omega (arith, w.inside));
            over = over;
            up_to = up_to;
            pending = pending;
            onward = λ z v i d f. onward z v i f (marked_on z v i d f);
            reached = reached;
            begun = inr start_marked;
            steps = let s : c + 1 ≡ suc c = omega arith in rw s (times_next M c b x y w.steps e);
            counted = let s : c + 1 ≡ suc c = omega arith in s ∙ more;
          }
        where
          by : (P : ℕ → Type 0) (z : ℕ) → In M z → P h → P (mark M W z) → P (mark M W' z)
          by P z i p q =
              elim (decide (means_eq z x))
              [ inl e ↦ subst P (sym (ap (mark M W') e ∙ here)) p | inr d ↦ subst P (sym (there z i.0 d)) q ]

          over : Over M h U W'
          over z i = go (decide (means_eq z x)) (w.over z i)
            where
              go : (z ≡ x) ⊎ (z ≡ x → ⊥) → (mark M W z ≡ mark M U z) ⊎ ((mark M U z ≡ 0) × (mark M W z ≡ h))
                  → (mark M W' z ≡ mark M U z) ⊎ ((mark M U z ≡ 0) × (mark M W' z ≡ h))
              go (inl q) (inl f) = inr (sym f ∙ ap (mark M W) q ∙ free, ap (mark M W') q ∙ here)
              go (inl q) (inr (f, g)) = inr (f, ap (mark M W') q ∙ here)
              go (inr d) (inl f) = inl (there z i.0 d ∙ f)
              go (inr d) (inr (f, g)) = inr (f, there z i.0 d ∙ g)

          up_to : (z : ℕ) → In M z → mark M W' z ≤ h
          up_to z i = by (λ a. a ≤ h) z i (omega arith) (w.up_to z i)

          pending : (z : ℕ) → In M z → mark M W' z ≡ 0 → Pending M W' z
          pending z i e =
              elim (decide (means_eq z x)) [
                | inl q ↦ absurd (omega (arith, o.positive, sym (ap (mark M W') q ∙ here) ∙ e))
                | inr d ↦
                    let p = w.pending z i (sym (there z i.0 d) ∙ e) in
                    let same = other z i.0 d in
                    record { above = rw same p.above; next = rw same p.next }
              ]

          onward : (z v : ℕ) → In M z → next_border M z ≡ some v → (z ≡ x) ⊎ ((mark M W' v ≡ mark M W' z) × (v ≡ b → ⊥))
              → ((mark M W' z ≡ h) × (v ≡ y)) ⊎ ((mark M W' v ≡ mark M W' z) × (v ≡ b → ⊥))
          onward z v i f (inl q) =
              let g = sym f ∙ ap (next_border M) q ∙ e in let r : v ≡ y = cc in inl (ap (mark M W') q ∙ here, r)
          onward z v i f (inr q) = inr q

          reached : (z : ℕ) → In M z → mark M W' z ≡ h → Reachable M b z
          reached z i f =
              elim (decide (means_eq z x)) [
                | inl q ↦ (c, w.steps ∙ ap some (sym q))
                | inr d ↦ w.reached z i (sym (there z i.0 d) ∙ f)
              ]

    -- by the entry of x, at place i of the work
    module _ (W : List ℕ) (x c : ℕ) (w : Walk b h U W x c) {j i : ℕ} (size : j ≡ k) (place : i ≡ x - 1) where
      pub walk_step : j < at W i → Walk b h U (set W i h) (at W i - j) (c + 1)
      walk_step l =
          let above : k < at W (x - 1) = rw (sym size, sym place) l in
          let free = mark_next k (at W (x - 1)) above in
          rw (size, place) (walk_on W x c w free (at W (x - 1) - k) (w.pending x w.inside free).next)

      pub is_marked : at W i ≤ j → mark M W x ≡ 0 → ⊥
      is_marked l e = let m : at W (x - 1) ≤ k = rw (sym size, sym place) l in omega (arith, (w.pending x w.inside e).above)

    -- x is marked: either it is b, and the loop is whole, or nothing comes back to b
    module _ (W : List ℕ) (x c : ℕ) (w : Walk b h U W x c) (closed : mark M W x ≡ 0 → ⊥) where
      pub lost_there : (x ≡ b → ⊥) → Followed M b h none U W
      lost_there n =
          record {
            kept = w.kept;
            found = λ d e. absurd (nothing e);
            lost = λ z.
                no_loop M (λ z. In M z × (mark M W z ≡ 0 → ⊥)) b (o.inside, start w.begun)
                (λ z (i, d). (i, λ y f. on z y i d f (w.onward z y i d f)));
          }
        where
          start : ((x ≡ b) × ((z : ℕ) → In M z → mark M W z ≡ h → ⊥)) ⊎ (mark M W b ≡ h) → mark M W b ≡ 0 → ⊥
          start (inl (e, f)) z = n e
          start (inr e) z = omega (arith, o.positive)

          on : (z y : ℕ) → In M z → (mark M W z ≡ 0 → ⊥) → next_border M z ≡ some y
              → ((mark M W z ≡ h) × (y ≡ x)) ⊎ ((mark M W y ≡ mark M W z) × (y ≡ b → ⊥)) → (In M y × (mark M W y ≡ 0 → ⊥)) × (y ≡ b → ⊥)
          on z y i d f (inl (p, q)) = ((next_in M z y f, λ g. closed (ap (mark M W) (sym q) ∙ g)), λ g. n (sym q ∙ g))
          on z y i d f (inr (p, q)) = ((next_in M z y f, λ g. d (sym p ∙ g)), q)

      pub loop_whole : x ≡ b → Followed M b h (some c) U W
      loop_whole same =
          record {
            kept = w.kept;
            found = λ d e. let q : c ≡ d = cc in subst (λ (i : ℕ). Looped M b h i U W) q looped;
            lost = λ z. absurd (nothing (sym z));
          }
        where
          start_marked : mark M W b ≡ h
          start_marked = go (w.over b o.inside)
            where
              go : (mark M W b ≡ mark M U b) ⊎ ((mark M U b ≡ 0) × (mark M W b ≡ h)) → mark M W b ≡ h
              go (inl e) = absurd (closed (ap (mark M W) same ∙ e ∙ o.unmarked))
              go (inr (e, f)) = f

          start_entry : at W (b - 1) ≡ h
          start_entry = sym (mark_entry k (at W (b - 1)) (λ e. omega (arith, o.positive, start_marked))).1 ∙ start_marked

          alike : (z y : ℕ) → In M z → (mark M W z ≡ 0 → ⊥) → next_border M z ≡ some y → mark M W y ≡ mark M W z
          alike z y i d e = go (w.onward z y i d e)
            where
              go : ((mark M W z ≡ h) × (y ≡ x)) ⊎ ((mark M W y ≡ mark M W z) × (y ≡ b → ⊥)) → mark M W y ≡ mark M W z
              go (inl (f, g)) = ap (mark M W) (g ∙ same) ∙ start_marked ∙ sym f
              go (inr (f, g)) = f

          once : 0 < c
          once =
              let here = (means_eq (at W (b - 1)) h).shows start_entry in
              omega (arith, w.counted, count_lt (λ j. eqb (at W j) h) (b - 1) k (omega (arith, o.inside)) here)

          looped : Looped M b h c U W
          looped =
              let s : suc (c - 1) ≡ c = omega (arith, once) in
              record {
                back = has_loop M b (c - 1) o.inside (omega (arith, once, walk_short b h U W x c w)) (rw s (w.steps ∙ ap some same));
                over = w.over;
                closed = record { up_to = w.up_to; alike = alike; pending = w.pending };
                reached = w.reached;
                marked = λ z (i, e).
                    (kept M (λ z. In M z × (mark M W z ≡ h))
                    (λ z y (j, f) g. (next_in M z y g, alike z y j (λ q. omega (arith, o.positive)) g ∙ f))
                    i b z (o.inside, start_marked) e).1;
                counted = w.counted;
              }
