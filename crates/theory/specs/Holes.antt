-- Holes of any tables, by their border loops. Where the loops come back, two border half-edges have one hole exactly when one is reachable
-- from the other, the holes are numbered from 1 on without a gap, and their lengths add up to k.
-- Assumes nothing.
use Rattle.std.specs.Prelude.{◌≡◌, Bool, true, false, leb, length}
use Rattle.std.proofs.Math.Path.{refl, ap, sym}
use Rattle.std.proofs.Common.{◌∙◌}
use Rattle.std.proofs.Math.Option.{Option, none, some}
use mathlib.Core.List.{List}
use Prim.Native.Nat.{ℕ, zero, suc, ◌+◌, ◌-◌, ◌≤◌, ◌<◌}
use native.Mathlib.Omega.{arith}
use Rattle.std.proofs.Math.Dec.{T, eqb, T_not}
use Rattle.lists.specs.Tests.{both, within}
use Rattle.lists.specs.TestLaws.{Means, means_both, means_eq, means_le, means_not, means_within}
use Rattle.lists.specs.Search.{at, count, total}
use Rattle.lists.specs.SearchLaws.{le_not_lt, count_pass, count_fail, count_le, count_inj, at_tab, Met, means_has, count_all}
use Rattle.lists.specs.Totals.{count_by, Names, names_count}
use Rattle.rules.specs.Elements.{first_number}
use Rattle.rules.specs.Refusals.{gives, refused}
use Rattle.rules.specs.Queries.{Mesh, border_loop}
use Rattle.rules.specs.Holes.{lists, broken, next_times, Reachable, least_of, holes_up_to, hole_of, hole_count, hole_lengths, holes_found}
use Rattle.theory.specs.Least.{FirstNumber, nobody, somebody, first_number_lem, means_no_number, means_some_number}
use Rattle.theory.specs.Answers.{check_clear, check_refuses, past_check}
use Rattle.theory.specs.Reaching.{In, times_on, reached_in, itself, further, nonempty, after, comes_back, short, once}
use Rattle.theory.specs.Reaching.{listed_reached, reached_listed, has_loop}

module _ (M : Mesh) where
  -- the loop of b comes back
  abbrev pub Back : ℕ → Type 0
  Back b = (bs : List ℕ) × (border_loop M b ≡ some bs)

  -- what its loop lists
  lists_some : (r : Option (List ℕ)) (c : ℕ) → T (lists r c) → (bs : List ℕ) × (r ≡ some bs) × Met bs c
  unfolding lists
  lists_some (some bs) c t = (bs, refl, (means_has bs c).says t)
  lists_some none c t = absurd t

  lists_back : (b c : ℕ) → T (lists (border_loop M b) c) → Back b
  lists_back b c t = let (bs, e, m) = lists_some (border_loop M b) c t in (bs, e)

  pub means_lists : (b c : ℕ) → In M b → Back b → Means (lists (border_loop M b) c) (Reachable M b c)
  unfolding lists
  means_lists b c h (bs, e) =
      record {
        says = λ t.
            let (o, f, m) = lists_some (border_loop M b) c t in listed_reached M b h o f c m;
        shows = λ r. rw e ((means_has bs c).shows (reached_listed M b h bs e c r));
      }

  -- what has a hole has a loop
  pub hole_back : (b : ℕ) → (hole_of M b ≡ 0 → ⊥) → Back b
  unfolding hole_of holes_up_to count least_of
  hole_back b d = go (first_number_lem (length M.border) (lists (border_loop M b)))
    where
      go : FirstNumber (length M.border) (lists (border_loop M b)) (least_of M b) → Back b
      go (nobody e f) = absurd (d (ap (holes_up_to M) e))
      go (somebody l k t f) = lists_back b (least_of M b) t

  -- with a number that is the least of its loop one hole more has been met
  pub hole_more : (j : ℕ) → least_of M (suc j) ≡ suc j → holes_up_to M (suc j) ≡ suc (holes_up_to M j)
  unfolding holes_up_to
  hole_more j e = let s : j + 1 ≡ suc j = omega arith in count_pass _ j (rw s ((means_eq _ _).shows e))

  pub hole_stays : (j : ℕ) → (least_of M (suc j) ≡ suc j → ⊥) → holes_up_to M (suc j) ≡ holes_up_to M j
  unfolding holes_up_to
  hole_stays j d = let s : j + 1 ≡ suc j = omega arith in count_fail _ j (rw s ((means_not (means_eq _ _)).shows d))

  -- they have numbers of their own
  leads_apart : (i j : ℕ) → least_of M (suc i) ≡ suc i → least_of M (suc j) ≡ suc j → holes_up_to M i ≡ holes_up_to M j → i ≡ j
  unfolding holes_up_to
  leads_apart i j e f =
      let s : i + 1 ≡ suc i = omega arith in
      let t : j + 1 ≡ suc j = omega arith in
      count_inj _ i j (rw s ((means_eq _ _).shows e)) (rw t ((means_eq _ _).shows f))

  pub leads_one : (b c : ℕ) → 1 ≤ b → 1 ≤ c → least_of M b ≡ b → least_of M c ≡ c → holes_up_to M b ≡ holes_up_to M c → b ≡ c
  leads_one (suc b) (suc c) h k e f q =
      ap suc (leads_apart b c e f (omega (arith, hole_more b e, hole_more c f)))
  leads_one zero c h k e f q = absurd (omega arith)
  leads_one (suc b) zero h k e f q = absurd (omega arith)

  -- l is the least number reachable from b
  pub record LeastIn (b l : ℕ) : Type 0 where
    pub inside : In M l
    pub reached : Reachable M b l
    pub least : (c : ℕ) → 1 ≤ c → Reachable M b c → l ≤ c

  module _ (b : ℕ) (h : In M b) (back : Back b) where
    -- from what is reachable from b next comes back to b, and to itself
    pub returns : (c : ℕ) → Reachable M b c → Reachable M c b × Back c
    returns c r =
        let (bs, e) = back in
        let (i, l, q) = reached_listed M b h bs e c r in
        let there = after M b h bs e i l ∙ ap some q in
        let some_steps = nonempty M b h bs e in
        let around : i + (length bs - i) ≡ length bs = omega arith in
        let again : length bs - i + i ≡ suc (length bs - 1) = omega arith in
        let home : next_times M (length bs - i) c ≡ some b =
        sym (times_on M i (length bs - i) b c there) ∙ ap (λ (j : ℕ). next_times M j b) around ∙ comes_back M b h bs e in
        let whole : next_times M (suc (length bs - 1)) c ≡ some c =
        ap (λ (j : ℕ). next_times M j c) (sym again) ∙ times_on M (length bs - i) i c b home ∙ there in
        ((length bs - i, home), has_loop M c (length bs - 1) (reached_in M b c h r) (omega (arith, short M b h bs e)) whole)

    pub least_of_lem : LeastIn b (least_of M b)
    unfolding least_of
    least_of_lem = go (first_number_lem (length M.border) (lists (border_loop M b)))
      where
        go : FirstNumber (length M.border) (lists (border_loop M b)) (least_of M b) → LeastIn b (least_of M b)
        go (nobody e f) = absurd (T_not (lists (border_loop M b) b) (f b h.0 h.1) ((means_lists b b h back).shows (itself M b)))
        go (somebody l k t f) =
            record {
              inside = (l, k);
              reached = (means_lists b (least_of M b) h back).says t;
              least = λ c from r.
                  le_not_lt (least_of M b) c (λ m. T_not (lists (border_loop M b) c) (f c from m) ((means_lists b c h back).shows r));
            }

  -- so what is reachable from b has the same least one
  pub same_least : (b c : ℕ) → In M b → Back b → Reachable M b c → least_of M b ≡ least_of M c
  same_least b c h back r =
      let (home, again) = returns b h back c r in
      let x = least_of_lem b h back in
      let y = least_of_lem c (reached_in M b c h r) again in
      let p = x.least (least_of M c) y.inside.0 (further M b c (least_of M c) r y.reached) in
      let q = y.least (least_of M b) x.inside.0 (further M c b (least_of M b) home x.reached) in
      omega arith

  pub least_leads : (b : ℕ) → In M b → Back b → least_of M (least_of M b) ≡ least_of M b
  least_leads b h back = sym (same_least b (least_of M b) h back (least_of_lem b h back).reached)

  -- "two half-edges have one hole exactly when one's loop lists the other"
  pub one_hole : (b c : ℕ) → In M b → Back b → Reachable M b c → hole_of M b ≡ hole_of M c
  unfolding hole_of
  one_hole b c h back r = ap (holes_up_to M) (same_least b c h back r)

  pub of_one_hole : (b c : ℕ) → In M b → Back b → In M c → Back c → hole_of M b ≡ hole_of M c → Reachable M b c
  unfolding hole_of
  of_one_hole b c h back k again e =
      let x = least_of_lem b h back in
      let y = least_of_lem c k again in
      let same = leads_one (least_of M b) (least_of M c) x.inside.0 y.inside.0 (least_leads b h back) (least_leads c k again) e in
      let (home, _) = returns c k again (least_of M c) y.reached in
      further M b (least_of M b) c x.reached (rw same home)

  -- a lesser number is that of a lesser least border half-edge
  pub least_less : (b c : ℕ) → hole_of M b < hole_of M c → least_of M b < least_of M c
  unfolding hole_of holes_up_to
  least_less b c l =
      le_not_lt (suc (least_of M b)) (least_of M c)
      (λ h. omega (arith, count_le (λ j. eqb (least_of M (j + 1)) (j + 1)) (least_of M c) (least_of M b) (omega arith)))

  -- numbers from 1 to the number of holes
  pub hole_in : (b : ℕ) → In M b → Back b → (1 ≤ hole_of M b) × (hole_of M b ≤ hole_count M)
  unfolding hole_of hole_count holes_up_to
  hole_in b h back =
      let x = least_of_lem b h back in
      (from (least_of M b) x.inside.0 (least_leads b h back), count_le _ (least_of M b) (length M.border) x.inside.1)
    where
      from : (l : ℕ) → 1 ≤ l → least_of M l ≡ l → 1 ≤ holes_up_to M l
      from zero k e = absurd (omega arith)
      from (suc l) k e = omega (arith, hole_more l e)

  -- all loops come back
  abbrev pub AllBack : Type 0
  AllBack = (b : ℕ) → In M b → Back b

  module _ (all : AllBack) where
    -- "Lengths add up to exactly k"
    pub lengths_total : total (hole_lengths M) ≡ length M.border
    unfolding hole_lengths
    lengths_total =
        count_by (λ j. hole_of M (j + 1)) (length M.border) (hole_count M)
        ∙ count_all (λ j. within 1 (hole_count M) (hole_of M (j + 1))) (length M.border)
        (λ j h. let b : In M (j + 1) = (omega arith, omega arith) in (means_within 1 (hole_count M) _).shows (hole_in (j + 1) b (all (j + 1) b)))

    -- the loop of b has the length of its hole
    pub loop_length : (b : ℕ) → In M b → (bs : List ℕ) → border_loop M b ≡ some bs → length bs ≡ at (hole_lengths M) (hole_of M b - 1)
    unfolding hole_lengths
    loop_length b h bs e =
        let (from, to) = hole_in b h (bs, e) in
        let s : hole_of M b - 1 + 1 ≡ hole_of M b = omega arith in
        names_count (length M.border) (λ c. eqb (hole_of M c) (hole_of M b)) bs named
        ∙ sym (at_tab (hole_count M) _ (hole_of M b - 1) (omega arith) ∙ ap (λ (i : ℕ). count (λ j. eqb (hole_of M (j + 1)) i) (length M.border)) s)
      where
        named : Names (length M.border) (λ c. eqb (hole_of M c) (hole_of M b)) bs
        named =
            record {
              once = once M b h bs e;
              passing = λ c m.
                  let r = listed_reached M b h bs e c m in
                  (reached_in M b c h r, (means_eq _ _).shows (sym (one_hole b c h (bs, e) r)));
              all = λ c n t. reached_listed M b h bs e c (of_one_hole b c h (bs, e) n (all c n) (sym ((means_eq _ _).says t)));
            }

-- checks 12 and 13: a loop that doesn't come back, or else the room for both outputs
module _ (M : Mesh) (hole lengths : List ℕ) where
  pub found_broken : (c : ℕ) → In M c → border_loop M c ≡ none → holes_found M hole lengths ≡ refused 12 0 0
  unfolding holes_found broken
  found_broken c (from, to) e =
      let some_loop = (means_some_number (length M.border) (λ b. broken (border_loop M b))).shows (c, from, to, rw e tt) in
      check_refuses _ _ _ ((means_not (means_eq _ 0)).says some_loop)

  abbrev pub room : Bool
  room = both (leb (length M.border) (length hole)) (leb (length M.border) (length lengths))

  pub means_room : Means room ((length M.border ≤ length hole) × (length M.border ≤ length lengths))
  means_room = means_both (means_le (length M.border) (length hole)) (means_le (length M.border) (length lengths))

  pub found_back : AllBack M → holes_found M hole lengths ≡ elim room [ true ↦ gives (hole_count M) 0 | false ↦ refused 13 (length M.border) 0 ]
  unfolding holes_found broken
  found_back all =
      check_clear _ _ _
      ((means_eq _ 0).says ((means_no_number (length M.border) (λ b. broken (border_loop M b))).shows (λ b from to. whole b (all b (from, to)))))
    where
      whole : (b : ℕ) → Back M b → T (broken (border_loop M b)) → ⊥
      whole b (bs, e) t = rw e at t

  -- and what passed them
  pub passed_found : {h e : ℕ} → holes_found M hole lengths ≡ gives h e → AllBack M × (room ≡ true) × (h ≡ hole_count M) × (e ≡ 0)
  unfolding holes_found broken
  passed_found {h} {e} g =
      let (z, q) = past_check (first_number (length M.border) (λ b. broken (border_loop M b))) h e 12 0 0 _ g in
      let none_broken = (means_no_number (length M.border) (λ b. broken (border_loop M b))).says ((means_eq _ 0).shows z) in
      let (t, p, r) = go room q in
      ((λ b i. not_broken (border_loop M b) (none_broken b i.0 i.1)), t, p, r)
    where
      not_broken : (r : Option (List ℕ)) → (T (broken r) → ⊥) → (bs : List ℕ) × (r ≡ some bs)
      not_broken (some bs) f = (bs, refl)
      not_broken none f = absurd (f tt)

      go : (b : Bool) → elim b [ true ↦ gives (hole_count M) 0 | false ↦ refused 13 (length M.border) 0 ] ≡ gives h e
          → (b ≡ true) × (h ≡ hole_count M) × (e ≡ 0)
      go true q = let n : hole_count M ≡ h = cc in let z : 0 ≡ e = cc in (refl, sym n, sym z)
      go false q = let z : ◌≡◌ {A = ℕ} 0 1 = cc in absurd (omega arith)
