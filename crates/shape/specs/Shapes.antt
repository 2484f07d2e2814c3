-- What the call answers, and what it leaves in the work buffer.
-- Assumes nothing.
use Rattle.std.specs.Prelude.{◌≡◌, true, false, List, ℕ, suc, ◌+◌, ◌*◌, ◌-◌, ◌/◌, ◌%◌, ◌≤◌, ◌<◌, length}
use Rattle.std.proofs.Math.Path.{ap}
use Rattle.std.proofs.Common.{sym, ◌∙◌, arith}
use Rattle.std.proofs.Math.IntN.{sub_ℕ}
use Rattle.std.proofs.Math.ListN.{replicate}
use Rattle.lists.specs.TestLaws.{true_of, false_of, means_not, means_le, passed}
use Rattle.rules.specs.Elements.{elements}
use Rattle.rules.specs.Pairing.{Accepted, sizes_fit}
use Rattle.rules.specs.Tables.{edges}
use Rattle.rules.specs.Refusals.{Answer, gives, refused, list_answer}
use Rattle.edit_rules.specs.Edits.{once_accepted}
use Rattle.edit_rules.specs.Shape.{shape, complement, signed, shape_lengths, list_shape, shape_answer, shape_work}
use Rattle.theory.specs.FitRows.{means_sizes}
use Rattle.theory.specs.Answers.{accepted_answer, given_accepted}
use Rattle.theory.specs.Calls as calls
use Rattle.theory.specs.Built.{edges_bound}
use Rattle.theory.specs.Shaping.{sub_up, sub_down, shape_counted}
use Rattle.tabulate.specs.Results.{Roomy}

-- a difference of two numbers of 28 bits, in two's complement: its upper half is 0, or all ones
pub not_negative : (more less : ℕ) → more < 268_435_456 → less ≤ more → gives 0 (more - less) ≡ signed (sub_ℕ more less)
unfolding complement signed
not_negative more less h k =
    let high : (more - less) / 268_435_456 ≡ 0 = omega arith in
    let low : (more - less) % 268_435_456 ≡ more - less = omega arith in
    sym (ap signed (sub_up more less k) ∙ rw (high, low))

pub negative : (more less : ℕ) → less < 268_435_456 → more < less →
    gives 268_435_455 (268_435_456 - (less - more)) ≡ signed (sub_ℕ more less)
unfolding complement signed
negative more less h k =
    let x : ℕ = 72_057_594_037_927_935 - (less - suc more) in
    let high : x / 268_435_456 ≡ 268_435_455 = omega arith in
    let low : x % 268_435_456 ≡ 268_435_456 - (less - more) = omega arith in
    sym (ap signed (sub_down more less k) ∙ rw (high, low))

-- t is what checks 3 to 8 and 18 say
module _ {n : ℕ} {L work : List ℕ} (x : Roomy n L work) {t : Answer} (stated : t ≡ list_answer n L) where
  told : {b : Answer} → t ≡ b → once_accepted b (signed (shape n L)) ≡ list_shape n L
  unfolding list_shape
  told e = ap (λ (b : Answer). once_accepted b (signed (shape n L))) (sym e ∙ stated)

  pub refuses : {r p q : ℕ} → t ≡ refused r p q → t ≡ list_shape n L
  unfolding list_shape once_accepted
  refuses e = e ∙ told e

  -- e is the number of edges
  module _ {k e : ℕ} (g : t ≡ gives k e) where
    accepted : Accepted n L
    accepted = given_accepted n L x.sizes (sym stated ∙ g)

    counted : e ≡ edges L
    counted = let same = sym g ∙ stated ∙ accepted_answer n L accepted.rows accepted in cc

    pub small : (n + elements L < 268_435_456) × (e < 268_435_456)
    small =
        let (vertices, (size, fours)) = (means_sizes n L).says x.sizes in
        (omega arith, omega (arith, counted, edges_bound L))

    pub gives_number : {b : Answer} → b ≡ signed (sub_ℕ (n + elements L) e) → b ≡ list_shape n L
    unfolding list_shape once_accepted
    gives_number f =
        f ∙ ap (λ (i : ℕ). signed (sub_ℕ (n + elements L) i)) counted ∙ ap signed (sym (shape_counted n L accepted)) ∙ told g

-- the whole call
module _ (n : ℕ) (L work : List ℕ) where
  -- check 2; n as an index is a
  module _ {a : ℕ} (index : a ≡ n) where
    pub too_short : length work < a + 16 * elements L → shape_lengths n L work ≡ false
    unfolding shape_lengths
    too_short h = false_of _ ((means_not (means_le (n + 16 * elements L) (length work))).shows (λ l. omega arith))

    pub long_enough : a + 16 * elements L ≤ length work → shape_lengths n L work ≡ true
    unfolding shape_lengths
    long_enough h = true_of _ ((means_le (n + 16 * elements L) (length work)).shows (omega arith))

  pub checked : (sizes_fit n L ≡ true) × (shape_lengths n L work ≡ true) → Roomy n L work
  unfolding shape_lengths
  checked (s, l) = record { sizes = rw s tt; room = omega (arith, passed (means_le (n + 16 * elements L) (length work)) l) }

  -- what the work holds, by the answer
  leaves : Answer → List ℕ → List ℕ
  leaves a work' = work'

  abbrev pub Whole : Answer → List ℕ → Type 0
  Whole a work' = (a ≡ shape_answer n L work) × (work' ≡ shape_work n L work)

  pub unsized : {a : Answer} → sizes_fit n L ≡ false → a ≡ refused 1 0 0 → Whole a work
  unfolding leaves shape_answer shape_work
  unsized = calls.unsized leaves (sizes_fit n L) (shape_lengths n L work) _ work

  pub unlengthened : {a : Answer} → sizes_fit n L ≡ true → shape_lengths n L work ≡ false → a ≡ refused 2 0 0 → Whole a work
  unfolding leaves shape_answer shape_work
  unlengthened = calls.unlengthened leaves (sizes_fit n L) (shape_lengths n L work) _ work

  pub done : {a : Answer} {work' : List ℕ} {l : ℕ} → (sizes_fit n L ≡ true) × (shape_lengths n L work ≡ true) →
      (a ≡ list_shape n L) × (l ≡ length work) → work' ≡ replicate l 0 → Whole a work'
  unfolding leaves shape_answer shape_work
  done fit (e, long) z = calls.cleared leaves (sizes_fit n L) (shape_lengths n L work) _ work fit e (z ∙ ap (λ (k : ℕ). replicate k 0) long)
