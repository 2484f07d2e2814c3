-- The border loop of a border of built tables: it returns to its start within k steps.
-- Assumes nothing.
use Rattle.std.specs.Prelude.{◌≡◌, refl, List, ℕ, ◌*◌, ◌-◌, ◌/◌, ◌≤◌, length}
use Rattle.std.proofs.Math.Path.{ap}
use Rattle.std.proofs.Common.{sym, ◌∙◌}
use Rattle.std.proofs.Math.Logic.{inl, inr}
use Rattle.std.proofs.Math.Option.{some}
use native.Mathlib.Omega.{arith}
use Rattle.lists.specs.TestLaws.{decide, means_eq}
use Rattle.lists.specs.Search.{at}
use Rattle.rules.specs.Elements.{Side, origin, destination}
use Rattle.rules.specs.Tables.{partner, border_number, borders, b2e, v2e}
use Rattle.rules.specs.Queries.{is_border_code, border_next, next_border, loop_next, border_loop}
use Rattle.theory.specs.Entries.{length_b2e, number_from, number_to, number_inj, numbered_border, VertexEntry, rim, inner, unused, vertex_entry}
use Rattle.theory.specs.Orders.{Good}
use Rattle.theory.specs.Follows.{Steady, followed}
use Rattle.theory.specs.Built.{built, border_code_lem, read_valid, read_border_side_lem, read_origin_lem}
use Rattle.theory.specs.Reads.{and_then_lem}
use Rattle.theory.specs.Reaching.{loop_back, loop_on}
use Rattle.theory.specs.Rims.{BorderInto, border_leads, one_border_from}

-- b is a border number
abbrev pub Border : List ℕ → ℕ → Type 0
Border L b = (1 ≤ b) × (b ≤ borders L)

-- what comes after border x in the loop of b
data Onward (n : ℕ) (L : List ℕ) (b x : ℕ) : Type 0 where
  back : loop_next (built n L) b x ≡ some 0 → Onward n L b x
  on : (s r : ℕ) → Side L s → partner L s ≡ 0 → border_number L s ≡ x → BorderInto L (origin L s) r → (border_number L r ≡ b → ⊥) → loop_next (built n L) b x ≡ some (border_number L r) → Onward n L b x

module _ (n : ℕ) (L : List ℕ) (g : Good n L) where
  -- next of the border of s is that of the border side that ends where s begins
  pub border_next_lem : (s : ℕ) → Side L s → partner L s ≡ 0 → (r : ℕ) × BorderInto L (origin L s) r × (border_next (built n L) (8 * border_number L s) ≡ some (8 * border_number L r))
  unfolding border_next
  border_next_lem s a z = go (vertex_entry n L (origin L s) (g.fit.from s a) (g.fit.to s a))
    where
      go : VertexEntry L (origin L s) (at (v2e n L) (origin L s - 1)) → (r : ℕ) × BorderInto L (origin L s) r × (border_next (built n L) (8 * border_number L s) ≡ some (8 * border_number L r))
      go (rim r b y d e) = (
        r,
        (b, y, d),
        and_then_lem _ (read_border_side_lem n L s a z)
            ∙ and_then_lem _ (read_origin_lem n L g.fit s a)
            ∙ rw e (read_valid (is_border_code (built n L)) (8 * border_number L r) (border_code_lem n L r b y)),
      )
      go (unused f e) = absurd (f s (a, refl))
      go (inner f c q) =
          let (o, x) = g.orders (origin L s) (g.fit.from s a) (g.fit.to s a) in
          let (r, (b, y, d)) = border_leads L g.pairing (origin L s) o x s (a, refl) z in
          absurd (f r b y d)

  onward : (b x : ℕ) → Border L x → Onward n L b x
  unfolding next_border
  onward b x (h, k) =
      let (s, a, z, e) = numbered_border L x h k in
      let (r, q, f) = border_next_lem s a z in
      let c : 8 * border_number L r / 8 ≡ border_number L r = omega arith in
      let g : next_border (built n L) x ≡ some (border_number L r) = and_then_lem _ (rw e at f) ∙ ap some c in
      elim (decide (means_eq (border_number L r) b)) [
        | inl i ↦ back (loop_back (built n L) b x _ g i)
        | inr d ↦ on s r a z e q d (loop_on (built n L) b x _ g d)
      ]

  -- one border side begins at a vertex at most, so two borders with the same next one are one
  onward_inj : (b x y z : ℕ) → 1 ≤ z → loop_next (built n L) b x ≡ some z → loop_next (built n L) b y ≡ some z → Onward n L b x → Onward n L b y → x ≡ y
  onward_inj b x y z h e f (back p) w = let q : z ≡ 0 = cc in absurd (omega arith)
  onward_inj b x y z h e f (on s r a w i c d p) (back q) = let q' : z ≡ 0 = cc in absurd (omega arith)
  onward_inj b x y z h e f (on s r a w i (c, j, k) d p) (on s' r' a' w' i' (c', j', k') d' p') =
      let q : border_number L r ≡ border_number L r' = cc in
      let t : r ≡ r' = number_inj L r r' c j c' j' q in
      let (o, m) = g.orders (origin L s) (g.fit.from s a) (g.fit.to s a) in
      let u = sym k' ∙ ap (λ (v : ℕ). destination L v) (sym t) ∙ k in
      sym i ∙ ap (border_number L) (one_border_from L g.pairing (origin L s) o m s s' (a, refl) w (a', u) w') ∙ i'

  loop_steady : (b : ℕ) → Border L b → Steady (Border L) (loop_next (built n L) b) (length (b2e L)) b (λ x. x)
  loop_steady b h =
      record {
        begins = h;
        goes = λ x k. goes x (onward b x k);
        positive = λ x k e. omega arith;
        injective = λ x y z k l m e f. onward_inj b x y z m.0 e f (onward b x k) (onward b y l);
        away = λ x k e. away x e (onward b x k);
        keys = λ x k. (k.0, omega (arith, length_b2e L));
        apart = λ x y k l e. e;
      }
    where
      goes : (x : ℕ) → Onward n L b x → (y : ℕ) × (loop_next (built n L) b x ≡ some y) × ((y ≡ 0 → ⊥) → Border L y)
      goes x (back p) = (0, p, λ d. absurd (d refl))
      goes x (on s r a w i (c, j, k) d p) = (border_number L r, p, λ e. (number_from L r, number_to L r c j))

      away : (x : ℕ) → loop_next (built n L) b x ≡ some b → Onward n L b x → ⊥
      away x e (back p) = let q : b ≡ 0 = cc in omega arith
      away x e (on s r a w i c d p) = let q : border_number L r ≡ b = cc in d q

  -- theorem 6: on built tables the loop of b comes back
  pub border_loop_lem : (b : ℕ) → Border L b → (bs : List ℕ) × (border_loop (built n L) b ≡ some bs)
  unfolding border_loop
  border_loop_lem b h =
      let (bs, e, f) = followed (Border L) (loop_next (built n L) b) (length (b2e L)) b (λ x. x) (loop_steady b h) in (bs, e)
