-- The old list was tried: what its tables, which stand in the work buffer, say of a side.
-- Assumes nothing.
use Rattle.std.specs.Prelude.{◌≡◌, ◌⊎◌, List, ℕ, ◌+◌, ◌*◌, ◌/◌, ◌%◌, ◌≤◌, ◌<◌, length}
use Rattle.std.proofs.Common.{ap, sym, ◌∙◌, inl, inr, arith}
use Rattle.lists.specs.TestLaws.{zero_or}
use Rattle.lists.specs.Search.{at}
use Rattle.lists.specs.Parts.{part, at_part}
use Rattle.rules.specs.Elements.{max_vertex, max_element, elements, Side, slot}
use Rattle.rules.specs.Tables.{partner, borders, wide}
use Rattle.rules.specs.Refusals.{Answer, gives}
use Rattle.theory.specs.Sides.{side_facts, slot_below}
use Rattle.theory.specs.Pairings.{partner_opposed}
use Rattle.theory.specs.Entries.{wide_paired, wide_border}
use Rattle.tabulate.specs.Results.{Scratched}
use Rattle.build.specs.Building.{Checked, counts_are}

-- the E2e of the list, in four columns, stands from n on
pub record Tabled (n : ℕ) (L w : List ℕ) : Type 0 where
  pub vertices : n ≤ max_vertex
  pub size : elements L ≤ max_element
  pub fours : length L ≡ 4 * elements L
  pub room : n + 4 * elements L ≤ length w
  pub opposites : part n (4 * elements L) w ≡ wide L

-- n as an index, and the list as it was read
pub tabled_at : {n a : ℕ} {L X w : List ℕ} → a ≡ n → X ≡ L → Tabled n L w → Tabled a X w
tabled_at e f x = rw (e, f) x

-- where the entry of side s stands, and what is read there
module _ {n : ℕ} {L w : List ℕ} (x : Tabled n L w) (s : ℕ) (a : Side L s) where
  pub slot_inside : n + slot s < length w
  slot_inside = omega (arith, slot_below L s a, x.room, x.fours)

  pub entry_read : at w (n + slot s) ≡ at (wide L) (slot s)
  entry_read =
      let h : slot s < 4 * elements L = omega (arith, slot_below L s a, x.fours) in
      sym (at_part n (4 * elements L) w (slot s) h) ∙ ap (λ (X : List ℕ). at X (slot s)) x.opposites

-- the entry t of side s: a border, or the partner
module _ (L : List ℕ) (s : ℕ) {t : ℕ} (a : Side L s) (own : t ≡ at (wide L) (slot s)) where
  pub entry_border : t % 8 ≡ 0 → partner L s ≡ 0
  entry_border e = go (zero_or (partner L s))
    where
      go : (partner L s ≡ 0) ⊎ (partner L s ≡ 0 → ⊥) → partner L s ≡ 0
      go (inl z) = z
      go (inr d) =
          let p = own ∙ wide_paired L s a d in
          absurd (omega (arith, (side_facts L (partner L s) (partner_opposed L s d).0).number_from))

  pub entry_partner : (t % 8 ≡ 0 → ⊥) → (t ≡ partner L s) × (partner L s ≡ 0 → ⊥)
  entry_partner d = go (zero_or (partner L s))
    where
      go : (partner L s ≡ 0) ⊎ (partner L s ≡ 0 → ⊥) → (t ≡ partner L s) × (partner L s ≡ 0 → ⊥)
      go (inl z) = let p = own ∙ wide_border L s a z in absurd (d (omega arith))
      go (inr e) = (own ∙ wide_paired L s a e, e)

-- where the row of a side is
pub row_inside : (L : List ℕ) (s : ℕ) → Side L s → (1 ≤ s / 8) × (4 * (s / 8) ≤ length L)
row_inside L s a = let i = side_facts L s a in (i.element_from, omega (arith, i.element_to))

-- the old list was tried in the front of the work, which has become W: it is accepted
module _ {n : ℕ} {L V2e E2e work : List ℕ} (x : Checked n L V2e E2e work) {t : Answer} {W : List ℕ} (y : Scratched n L t work W) {k e : ℕ} (g : t ≡ gives k e) where
  pub number : k ≡ borders L
  number = counts_are n L k e (sym y.stated ∙ g)

  pub tabled : {a : ℕ} → a ≡ n → Tabled a L W
  tabled i =
      rw i
      (record {
        vertices = x.vertices;
        size = x.size;
        fours = x.fours;
        room = omega (arith, x.room, y.long);
        opposites = (y.holds k e g).opposites;
      })
