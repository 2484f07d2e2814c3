-- `meeting::is_joined` meets its contract.
-- Assumes nothing.
use Rattle.std.proofs.Common.{◌≡◌, ◌∙◌, sym, refl, eqb}
use Rattle.rules.specs.Pairing.{alike, opposed, joins}
use Rattle.meeting.specs.Numbers.{both_and}
use Rattle.meeting.proofs.is_joined.Goals as goal

pub returns-then-eq : goal.returns-then-eq
unfolding joins alike
returns-then-eq c =
    let a = c.args in
    let straight : c.eq.result ≡ alike a.list.now a.s a.t =
    rw (sym c.origin_of-a.ensures, sym c.destination_of-b.ensures, sym c.origin_of-c.ensures, sym c.destination_of-d.ensures) (c.eq.ensures ∙ both_and (eqb c.origin_of-a.result c.origin_of-c.result) (eqb c.destination_of-b.result c.destination_of-d.result)) in
    rw (sym straight, c.if-eq.true) refl

pub returns-else-eq : goal.returns-else-eq
unfolding joins alike opposed
returns-else-eq c =
    let a = c.args in
    let straight : c.eq.result ≡ alike a.list.now a.s a.t =
    rw (sym c.origin_of-a.ensures, sym c.destination_of-b.ensures, sym c.origin_of-c.ensures, sym c.destination_of-d.ensures) (c.eq.ensures ∙ both_and (eqb c.origin_of-a.result c.origin_of-c.result) (eqb c.destination_of-b.result c.destination_of-d.result)) in
    let crossed : c.eq-else-eq.result ≡ opposed a.list.now a.s a.t =
    rw (sym c.origin_of-a.ensures, sym c.destination_of-b.ensures, sym c.origin_of-c.ensures, sym c.destination_of-d.ensures) (c.eq-else-eq.ensures ∙ both_and (eqb c.origin_of-a.result c.destination_of-d.result) (eqb c.destination_of-b.result c.origin_of-c.result)) in
    rw (sym straight, c.if-eq.false) crossed
