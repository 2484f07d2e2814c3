-- A list with a new vertex on a side: its rows are fit, no two of its sides run alike, and so they are paired.
-- Assumes nothing.
use Rattle.std.specs.Prelude.{◌≡◌, ◌⊎◌, List, ℕ, ◌+◌, ◌/◌, ◌≤◌, T}
use Rattle.std.proofs.Common.{ap, sym, ◌∙◌, inl, inr, arith}
use Rattle.lists.specs.TestLaws.{means_eq}
use Rattle.rules.specs.Elements.{Side, origin, next, previous, destination}
use Rattle.rules.specs.Pairing.{alike, Pairing, Conformal}
use Rattle.rules.specs.Tables.{partner}
use Rattle.rules.specs.Refusals.{alike_side}
use Rattle.theory.specs.Sides.{side_positive}
use Rattle.theory.specs.Steps.{next_side_lem, previous_side_lem}
use Rattle.theory.specs.FitRows.{Fit}
use Rattle.theory.specs.Pairings.{means_alike, means_opposed, means_no_alike, partner_opposed, the_pairing}
use Rattle.theory.specs.Triangles.{Around, itself, after, before, around, next_runs, previous_runs}
use Rattle.theory.specs.Refining.{Cut, Half, Place, stayed, near, far, Refined}
use Rattle.theory.specs.Orders.{Good, lone}
use Rattle.theory.specs.Counterparts.{Diamond}
use Rattle.theory.specs.Diamonds.{one_corner, runs_differ, thirds_differ}
use Rattle.theory.specs.RefinedSides.{Spoke, along, across, Away, home, home_old, home_twin, Same, Out, Into, Kind, out, into, same, kind}

module _ {n : ℕ} {L L' : List ℕ} {s : ℕ} (fit : Fit n L) (x : Refined n L L' s) where
  -- the new vertex is no corner of L
  not_new : (r : ℕ) → Side L r → origin L r ≡ n + 1 → ⊥
  not_new r a e = omega (arith, fit.to r a)

  bounds : (q : ℕ) → Side L' q → (1 ≤ origin L' q) × (origin L' q ≤ n + 1)
  bounds q a = go (kind x q a)
    where
      old : (r : ℕ) → Side L r → origin L' q ≡ origin L r → (1 ≤ origin L' q) × (origin L' q ≤ n + 1)
      old r b e = omega (arith, fit.from r b, fit.to r b)

      go : Kind x q → (1 ≤ origin L' q) × (origin L' q ≤ n + 1)
      go (out e k) = omega arith
      go (into e (along r c i o)) = old r c.side o
      go (into e (across r c i o)) = old (previous L r) (previous_side_lem L r c.side) o
      go (same r k) = old r k.side k.runs.from

  -- the corners of either half of a triangle differ
  module _ (r : ℕ) (c : Cut L s r) where
    h : Half L L' (n + 1) r (x.twin r)
    h = x.halves r c

    next_old : origin L (next L r) ≡ n + 1 → ⊥
    next_old = not_new (next L r) (next_side_lem L r c.side)

    third_old : origin L (previous L r) ≡ n + 1 → ⊥
    third_old = not_new (previous L r) (previous_side_lem L r c.side)

    one_near : (q w : ℕ) → Side L' q → Side L' w → q / 8 ≡ r / 8 → w / 8 ≡ r / 8 → origin L' q ≡ origin L' w → q ≡ w
    one_near =
        one_corner h.near (not_new r c.side) (λ e. third_old (sym e)) (runs_differ fit (previous_runs h.old))

    one_far : (q w : ℕ) → Side L' q → Side L' w → q / 8 ≡ x.twin r / 8 → w / 8 ≡ x.twin r / 8 → origin L' q ≡ origin L' w → q ≡ w
    one_far =
        one_corner h.far (λ e. next_old (sym e)) (runs_differ fit (next_runs h.old)) third_old

  differ : (q w : ℕ) → Side L' q → Side L' w → q / 8 ≡ w / 8 → origin L' q ≡ origin L' w → q ≡ w
  differ q w a b e o = go (x.place q a) (x.place w b)
    where
      go : Place L s x.twin q → Place L s x.twin w → q ≡ w
      go (near r c i) k = one_near r c q w a b i (sym e ∙ i) o
      go (far r c i) k = one_far r c q w a b i (sym e ∙ i) o
      go (stayed i d) (near r c j) = one_near r c q w a b (e ∙ j) j o
      go (stayed i d) (far r c j) = one_far r c q w a b (e ∙ j) j o
      go (stayed i d) (stayed j f) = fit.differ q w i j e (sym (x.kept q i d).from ∙ o ∙ (x.kept w j f).from)

  pub refined_fit : Fit (n + 1) L'
  refined_fit =
      record {
        vertices = x.vertices;
        size = x.size;
        fours = x.fours;
        from = λ q a. (bounds q a).0;
        to = λ q a. (bounds q a).1;
        differ = differ;
      }

  -- a side with the new vertex for one end has an old corner for the other
  old_end : {end half new : ℕ → ℕ} {q y : ℕ} → ((r : ℕ) → Side L r → end r ≡ n + 1 → ⊥) → Spoke L s end half new q y → y ≡ n + 1 → ⊥
  old_end f (along r c i o) e = f r c.side (sym o ∙ e)
  old_end f (across r c i o) e = third_old r c (sym o ∙ e)

  pub begins_old : {r q : ℕ} → Same x r q → origin L' q ≡ n + 1 → ⊥
  begins_old {r} k e = not_new r k.side (sym k.runs.from ∙ e)

  pub ends_old : {r q : ℕ} → Same x r q → destination L' q ≡ n + 1 → ⊥
  ends_old {r} k e = not_new (next L r) (next_side_lem L r k.side) (sym k.runs.to ∙ e)

  -- the sides that begin at the new vertex, and those that end there
  pub is_out : (q : ℕ) → Side L' q → origin L' q ≡ n + 1 → Out x q (destination L' q)
  is_out q a e = elim (kind x q a) [
    | out i k ↦ k
    | into i k ↦ absurd (old_end not_new k e)
    | same r k ↦ absurd (begins_old k e)
  ]

  pub is_into : (q : ℕ) → Side L' q → destination L' q ≡ n + 1 → Into x q (origin L' q)
  is_into q a e = elim (kind x q a) [
    | out i k ↦ absurd (old_end (λ r b. not_new (next L r) (next_side_lem L r b)) k e)
    | into i k ↦ k
    | same r k ↦ absurd (ends_old k e)
  ]

  -- q and w are the sides with the third corner of a halved triangle for origin, w next to q
  pub record Over (q w : ℕ) : Type 0 where
    pub cut : ℕ
    pub is : Cut L s cut
    pub after : q ≡ previous L' (x.twin cut)
    pub before : w ≡ previous L' cut

  -- an element of L' is one of L, or a half of one
  data Piece (q : ℕ) : Type 0 where
    unbroken : Away L s q → home x (q / 8) ≡ q / 8 → Piece q
    broken : (r : ℕ) → Cut L s r → home x (q / 8) ≡ r / 8 → (q / 8 ≡ r / 8) ⊎ (q / 8 ≡ x.twin r / 8) → Piece q

  piece : (q : ℕ) → Side L' q → Piece q
  piece q a = elim (x.place q a) [
    | stayed b d ↦ unbroken d (home_old x q b)
    | near r c e ↦ broken r c (ap (home x) e ∙ home_old x r c.side) (inl e)
    | far r c e ↦ broken r c (ap (home x) e ∙ home_twin x r c) (inr e)
  ]

  -- sides of the two halves of a triangle with one old origin
  halves_meet : (q w : ℕ) → Side L' q → Side L' w → origin L' q ≡ origin L' w → (origin L' q ≡ n + 1 → ⊥) → (r : ℕ) → Cut L s r
      → q / 8 ≡ r / 8 → w / 8 ≡ x.twin r / 8 → Over w q
  halves_meet q w a b o d r c e f =
      go (at_near (around L' r i.near.runs.side i.near.triangle q a e))
      (at_far (around L' (x.twin r) i.far.runs.side i.far.triangle w b f))
    where
      i : Half L L' (n + 1) r (x.twin r)
      i = h r c

      at_near : Around L' r q → (q ≡ previous L' r) ⊎ (origin L' q ≡ origin L r)
      at_near (itself k) = inr (ap (origin L') k ∙ i.near.runs.from)
      at_near (after k) = absurd (d (ap (origin L') k ∙ i.near.runs.to))
      at_near (before k) = inl k

      at_far : Around L' (x.twin r) w → (w ≡ previous L' (x.twin r)) ⊎ (origin L' w ≡ destination L r)
      at_far (itself k) = absurd (d (o ∙ ap (origin L') k ∙ i.far.runs.from))
      at_far (after k) = inr (ap (origin L') k ∙ i.far.runs.to)
      at_far (before k) = inl k

      go : (q ≡ previous L' r) ⊎ (origin L' q ≡ origin L r) → (w ≡ previous L' (x.twin r)) ⊎ (origin L' w ≡ destination L r) → Over w q
      go (inl k) (inl l) = record { cut = r; is = c; after = l; before = k }
      go (inl k) (inr l) = absurd (runs_differ fit (next_runs i.old) (sym l ∙ sym o ∙ ap (origin L') k ∙ i.near.third))
      go (inr k) (inl l) = absurd (runs_differ fit (previous_runs i.old) (sym (ap (origin L') l ∙ i.far.third) ∙ sym o ∙ k))
      go (inr k) (inr l) = absurd (runs_differ fit i.old.runs (sym k ∙ o ∙ l))

  -- two sides with one old origin, of what was one element
  pub meet : (q w : ℕ) → Side L' q → Side L' w → origin L' q ≡ origin L' w → (origin L' q ≡ n + 1 → ⊥) → home x (q / 8) ≡ home x (w / 8)
      → (q ≡ w) ⊎ (Over q w ⊎ Over w q)
  meet q w a b o d e = go (piece q a) (piece w b)
    where
      halves : (r : ℕ) → Cut L s r → (q / 8 ≡ r / 8) ⊎ (q / 8 ≡ x.twin r / 8) → (w / 8 ≡ r / 8) ⊎ (w / 8 ≡ x.twin r / 8)
          → (q ≡ w) ⊎ (Over q w ⊎ Over w q)
      halves r c (inl i) (inl j) = inl (differ q w a b (i ∙ sym j) o)
      halves r c (inl i) (inr j) = inr (inr (halves_meet q w a b o d r c i j))
      halves r c (inr i) (inl j) = inr (inl (halves_meet w q b a (sym o) (λ k. d (o ∙ k)) r c j i))
      halves r c (inr i) (inr j) = inl (differ q w a b (i ∙ sym j) o)

      go : Piece q → Piece w → (q ≡ w) ⊎ (Over q w ⊎ Over w q)
      go (unbroken i f) (unbroken j g) = inl (differ q w a b (sym f ∙ e ∙ g) o)
      go (unbroken i f) (broken r c g k) = absurd (i r c (sym f ∙ e ∙ g))
      go (broken r c f k) (unbroken j g) = absurd (j r c (sym g ∙ sym e ∙ f))
      go (broken r c f k) (broken t i g j) = let one = x.apart r t c i (sym f ∙ e ∙ g) in halves r c k (rw one j)

-- the two ends of a side that is cut
module _ {n : ℕ} {L L' : List ℕ} {s : ℕ} (old : Good n L) (meeting : Conformal L) (x : Refined n L L' s) where
  fit : Fit n L
  fit = old.fit

  -- two that are cut are one, or partners
  pub cut_faces : (r w : ℕ) → Cut L s r → Cut L s w → (r ≡ w) ⊎ (partner L r ≡ w)
  cut_faces r w c d = go c.is d.is
    where
      go : (r ≡ s) ⊎ (r ≡ partner L s) → (w ≡ s) ⊎ (w ≡ partner L s) → (r ≡ w) ⊎ (partner L r ≡ w)
      go (inl i) (inl j) = inl (i ∙ sym j)
      go (inl i) (inr j) = inr (ap (partner L) i ∙ sym j)
      go (inr i) (inl j) =
          let z : partner L s ≡ 0 → ⊥ = λ z. side_positive L r c.side (i ∙ z) in
          inr (ap (partner L) i ∙ (old.pairing.mutually s x.side z).1 ∙ sym j)
      go (inr i) (inr j) = inl (i ∙ sym j)

  module _ (r w : ℕ) (c : Cut L s r) (d : Cut L s w) (e : partner L r ≡ w) where
    crossed : (origin L r ≡ destination L w) × (destination L r ≡ origin L w)
    crossed =
        (means_opposed L r w).says (rw e at (partner_opposed L r (λ z. side_positive L w d.side (sym e ∙ z))).1)

    diamond : Diamond L r w (origin L r) (origin L w) (origin L (previous L r)) (origin L (previous L w))
    diamond =
        let (i, j) = crossed in
        let z : partner L r ≡ 0 → ⊥ = λ z. side_positive L w d.side (sym e ∙ z) in
        record {
          one = rw j at (x.halves r c).old;
          other = rw i (x.halves w d).old;
          apart = λ k. (old.pairing.opposite r c.side z).0 (e ∙ sym (x.apart r w c d k));
        }

  thirds : (r w : ℕ) → Cut L s r → Cut L s w → origin L (previous L r) ≡ origin L (previous L w) → r ≡ w
  thirds r w c d e = elim (cut_faces r w c d) [ inl i ↦ i | inr i ↦ absurd (thirds_differ fit (diamond r w c d i) meeting e) ]

  -- `end` is one of the two ends: it belongs to one side that is cut, is the other end of its partner only, and no third corner
  pub record CutEnd (end other : ℕ → ℕ) : Type 0 where
    pub one : (r w : ℕ) → Cut L s r → Cut L s w → end r ≡ end w → r ≡ w
    pub facing : (r w : ℕ) → Cut L s r → Cut L s w → end w ≡ other r → partner L r ≡ w
    pub no_third : (r w : ℕ) → Cut L s r → Cut L s w → end w ≡ origin L (previous L r) → ⊥

  cut_end : (end other : ℕ → ℕ) → ((r : ℕ) → Cut L s r → end r ≡ other r → ⊥) → ((r : ℕ) → Cut L s r → end r ≡ origin L (previous L r) → ⊥)
      → ((r : ℕ) → Cut L s r → other r ≡ origin L (previous L r) → ⊥)
      → ((r w : ℕ) → Cut L s r → Cut L s w → partner L r ≡ w → other r ≡ end w) → CutEnd end other
  cut_end end other f g h k =
      record {
        one = λ r w c d e. elim (cut_faces r w c d) [ inl i ↦ i | inr i ↦ absurd (f r c (e ∙ sym (k r w c d i))) ];
        facing = λ r w c d e. elim (cut_faces r w c d) [ inl i ↦ absurd (f r c (ap end i ∙ e)) | inr i ↦ i ];
        no_third = λ r w c d e. elim (cut_faces r w c d) [ inl i ↦ g r c (ap end i ∙ e) | inr i ↦ h r c (k r w c d i ∙ e) ];
      }

  pub cut_origin : CutEnd (origin L) (λ r. destination L r)
  cut_origin =
      cut_end (origin L) (λ r. destination L r) (λ r c. runs_differ fit (x.halves r c).old.runs)
      (λ r c e. runs_differ fit (previous_runs (x.halves r c).old) (sym e)) (λ r c. runs_differ fit (next_runs (x.halves r c).old))
      (λ r w c d e. (crossed r w c d e).1)

  pub cut_destination : CutEnd (λ r. destination L r) (origin L)
  cut_destination =
      cut_end (λ r. destination L r) (origin L) (λ r c e. runs_differ fit (x.halves r c).old.runs (sym e))
      (λ r c. runs_differ fit (next_runs (x.halves r c).old)) (λ r c e. runs_differ fit (previous_runs (x.halves r c).old) (sym e))
      (λ r w c d e. (crossed r w c d e).0)

  -- of the sides that begin, or end, at the new vertex only one has a given other end
  one_spoke : {end other half new : ℕ → ℕ} {q w y z : ℕ} → CutEnd end other → Spoke L s end half new q y → Spoke L s end half new w z → y ≡ z
      → q ≡ w
  one_spoke {half = half} k (along r c i o) (along t d j e) f = i ∙ ap half (k.one r t c d (sym o ∙ f ∙ e)) ∙ sym j
  one_spoke k (along r c i o) (across t d j e) f = absurd (k.no_third t r d c (sym o ∙ f ∙ e))
  one_spoke k (across r c i o) (along t d j e) f = absurd (k.no_third r t c d (sym e ∙ sym f ∙ o))
  one_spoke {new = new} k (across r c i o) (across t d j e) f = i ∙ ap new (thirds r t c d (sym o ∙ f ∙ e)) ∙ sym j

  -- of those that run as old ones too, for of the two sides that begin at a third corner in what was one triangle one ends at the new vertex
  one_same : {r t q w : ℕ} → Same x r q → Same x t w → origin L' q ≡ origin L' w → destination L' q ≡ destination L' w → q ≡ w
  one_same {r} {t} {q} {w} i j o e =
      let k = i.runs in
      let l = j.runs in
      let one = lone n L old r t i.side j.side (sym k.from ∙ o ∙ l.from) (sym k.to ∙ e ∙ l.to) in
      let home_one = i.stands ∙ ap (λ (u : ℕ). u / 8) one ∙ sym j.stands in
      elim (meet fit x q w k.side l.side o (begins_old fit x i) home_one) [
        | inl f ↦ f
        | inr f ↦ absurd (elim f [ inl g ↦ over g i | inr g ↦ over g j ])
      ]
    where
      over : {r q w : ℕ} → Over fit x q w → Same x r q → ⊥
      over g k = ends_old fit x k (ap (λ (u : ℕ). destination L' u) g.after ∙ (previous_runs (x.halves g.cut g.is).far).to)

  no_alike : (q w : ℕ) → Side L' q → Side L' w → T (alike L' q w) → q ≡ w
  no_alike q w a b z = go (kind x q a)
    where
      ends : (origin L' q ≡ origin L' w) × (destination L' q ≡ destination L' w)
      ends = (means_alike L' q w).says z

      go : Kind x q → q ≡ w
      go (out e k) = one_spoke cut_destination k (is_out fit x w b (sym ends.0 ∙ e)) ends.1
      go (into e k) = one_spoke cut_origin k (is_into fit x w b (sym ends.1 ∙ e)) ends.0
      go (same r k) = elim (kind x w b) [
        | out e l ↦ absurd (begins_old fit x k (ends.0 ∙ e))
        | into e l ↦ absurd (ends_old fit x k (ends.1 ∙ e))
        | same t l ↦ one_same k l ends.0 ends.1
      ]

  pub refined_pairing : Pairing L' (partner L')
  refined_pairing =
      the_pairing (n + 1) L' (refined_fit fit x) ((means_eq (alike_side L') 0).says ((means_no_alike L').shows no_alike))
