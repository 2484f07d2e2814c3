-- `ordered::count_about` meets its contract: the count goes along the fan that the walk meets about v.
-- Assumes nothing.
use mathlib.Core.Path.{◌≡◌, ap, ◌∙◌}
use mathlib.Core.List.{List}
use Prim.Native.Nat.{ℕ, ◌+◌, ◌*◌, ◌-◌, ◌≤◌}
use native.Mathlib.Omega.{arith}
use borrow.Author.Rules.{rules}
use Rattle.rules.specs.Elements.{elements, Side}
use Rattle.rules.specs.Tables.{wide, v2e}
use Rattle.rules.specs.Recovery.{walk_start, turn_by}
use Rattle.lists.specs.Search.{at}
use Rattle.lists.specs.Parts.{part}
use Rattle.ordered.specs.Standing.{Standing, Known}
use Rattle.ordered.specs.Fans.{Along, known, lent_own, unused, start_side_lem, starts, over, back, fewer, side_there, further, start_own}
use Rattle.ordered.proofs.count_about.Statement.{statement}
use Rattle.ordered.proofs.count_about.Tie as tie

abbrev invariant_loop : tie.invariant-loop-t
invariant_loop n list work v met m s e count₀ t₀ count t = Along n list v s count t

abbrev decreases_loop : tie.decreases-loop-t
decreases_loop n list work v met m s e count₀ t₀ count t = 4 * elements list - count

started : (c : tie.After-start-s invariant_loop decreases_loop) → let a = c.args in
    c.start-s.result ≡ walk_start (wide a.list.now) (at (v2e a.n a.list.now) (a.v - 1))
started c = let p = c.requires in start_own p.0 p.1 p.2 c.start-s.ensures

-- t is known in E2e, as it is lent
in_own : {n : ℕ} {L w : List ℕ} {t : ℕ} → Standing n L w → Side L t → Known (part n (n + 4 * elements L - n) w) t
in_own {L = L} {t = t} k a = rw (lent_own k) (known L t a)

start_requires : tie.Need-start-s-requires invariant_loop decreases_loop
start_requires c κs = let x = c.requires in (x.0.sizes, x.0.linked, x.1, x.2)

returns : tie.Need-returns-then-s-eq0 invariant_loop decreases_loop
returns c =
    let p = c.requires in
    unused _ _ p.0.pairing p.1 p.2 (started c.before) p.3 c.if-s-eq0.true

mul_e : tie.Need-overflow_mul-e invariant_loop decreases_loop
mul_e c = search rules

add_e : tie.Need-overflow_add-e invariant_loop decreases_loop
add_e c = search rules

add_count : tie.Need-overflow_add-count invariant_loop decreases_loop
add_count c = let p = c.requires in omega (arith, p.3.all, p.0.sizes.elements)

mul_turn : tie.Need-offset_bounds-work-n invariant_loop decreases_loop
mul_turn c = search rules

sub_turn : tie.Need-slice_bounds-turn-count invariant_loop decreases_loop
sub_turn c = search rules

part_turn_start : tie.Need-slice_bounds-turn-start invariant_loop decreases_loop
part_turn_start c = search rules

part_turn_end : tie.Need-slice_bounds-turn-end invariant_loop decreases_loop
part_turn_end c = search rules

turn_requires : tie.Need-turn-t-requires invariant_loop decreases_loop
turn_requires c κs =
    let p = c.requires in
    in_own p.0 (start_side_lem _ _ p.0.pairing p.1 p.2 (started c.before.before) p.3 c.if-s-eq0.false)

loop_holds : tie.Need-loop-t-init invariant_loop decreases_loop
loop_holds c =
    let p = c.requires in
    starts _ _ p.0.pairing p.1 p.2 (started c.before.before.before) p.3 c.if-s-eq0.false
    (c.turn-t.ensures ∙ ap (λ (E : List ℕ). turn_by E c.start-s.result) (lent_own p.0))

returns_2 : tie.Need-returns-then-t-eq0 invariant_loop decreases_loop
returns_2 c =
    over _ _ c.requires.0.pairing c.loop-t.invariant c.if-t-eq0.true

-- past both tests the fan goes on
goes : (c : tie.Else-t-eq0 invariant_loop decreases_loop) →
    let a = c.args in (c.loop-t.count + 1 ≤ 4 * elements a.list.now) × Side a.list.now c.loop-t.t
goes c =
    let p = c.requires.0.pairing in
    (fewer _ _ p c.loop-t.invariant c.if-t-eq0.false c.loop-t-test.true, side_there _ _ p c.loop-t.invariant c.if-t-eq0.false c.loop-t-test.true)

add_count_2 : tie.Need-overflow_add-count-in-loop-t invariant_loop decreases_loop
add_count_2 c = omega (arith, (goes c).0, c.requires.0.sizes.elements)

mul_turn_2 : tie.Need-offset_bounds-work-n-in-loop-t invariant_loop decreases_loop
mul_turn_2 c = search rules

sub_turn_2 : tie.Need-slice_bounds-turn-count-in-loop-t invariant_loop decreases_loop
sub_turn_2 c = search rules

part_turn_start_2 : tie.Need-slice_bounds-turn-start-in-loop-t invariant_loop decreases_loop
part_turn_start_2 c = search rules

part_turn_end_2 : tie.Need-slice_bounds-turn-end-in-loop-t invariant_loop decreases_loop
part_turn_end_2 c = search rules

turn_requires_2 : tie.Need-turn-t-requires-in-loop-t invariant_loop decreases_loop
turn_requires_2 c κs =
    in_own c.requires.0 (goes c.before).1

loop_less : tie.Need-loop-t-smaller invariant_loop decreases_loop
loop_less c = omega (arith, (goes c.before.before).0)

loop_again : tie.Need-loop-t-preserved invariant_loop decreases_loop
loop_again c =
    let p = c.requires.0 in
    further _ _ p.pairing c.loop-t.invariant c.if-t-eq0.false c.loop-t-test.true
    (c.turn-t-in-loop-t.ensures ∙ ap (λ (E : List ℕ). turn_by E c.loop-t.t) (lent_own p))

returns_3 : tie.Need-returns invariant_loop decreases_loop
returns_3 c =
    back _ _ c.requires.0.pairing c.loop-t.invariant c.loop-t-test.false

pub count_about_spec : {M : Type 1} → statement M
count_about_spec =
    tie.close
    (tie.spec
    invariant_loop
    decreases_loop
    start_requires
    returns
    mul_e
    add_e
    add_count
    mul_turn
    sub_turn
    part_turn_start
    part_turn_end
    turn_requires
    loop_holds
    returns_2
    add_count_2
    mul_turn_2
    sub_turn_2
    part_turn_start_2
    part_turn_end_2
    turn_requires_2
    loop_less
    loop_again
    returns_3)
