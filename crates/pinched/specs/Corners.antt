-- The sides of an element by the corners of its row, and the end of a side that it joins to a vertex.
-- Assumes nothing.
use Rattle.std.specs.Prelude.{◌≡◌, ◌⊎◌, List, ℕ, ◌+◌, ◌*◌, ◌/◌, ◌%◌, ◌≤◌, ◌<◌}
use Rattle.std.proofs.Common.{ap, sym, ◌∙◌, inl, inr, arith}
use Rattle.lists.specs.TestLaws.{zero_or}
use Rattle.rules.specs.Elements.{row, sides, origin, next, next_number}
use Rattle.rules.specs.Pairing.{Element}
use Rattle.theory.specs.Steps.{wraps, grows, NextNumber, next_number_lem, next_numbered, next_side_lem}
use Rattle.theory.specs.FitRows.{Fit}
use Rattle.theory.specs.Links.{AtCorner, at_corner}
use Rattle.theory.specs.Meeting.{few}
use Rattle.theory.specs.Triangles.{Runs}
use Rattle.halfedge.specs.Rows.{row_of, corner_of, sides_of, row_sides, row_corner}
use Rattle.pinched.specs.Marks.{Marked, Itself, Joined, marked_by, marked_range}

-- of x and y one is a and the other v
abbrev pub Ends : ℕ → ℕ → ℕ → ℕ → Type 0
Ends x y a v = ((x ≡ a) × (y ≡ v)) ⊎ ((x ≡ v) × (y ≡ a))

-- r is the other one of x and y where one of them is a, else 0
pub record Other (x y a r : ℕ) : Type 0 where
  pub says : (v : ℕ) → 1 ≤ v → Ends x y a v → v ≡ r
  pub shows : 1 ≤ r → Ends x y a r

-- by the numbers p and q that were read for x and y
module _ {x y p q : ℕ} (a : ℕ) (ex : p ≡ x) (ey : q ≡ y) where
  pub other_last : p ≡ a → Other x y a q
  other_last e = record { says = λ v h t. elim t [ inl (b, c) ↦ omega arith | inr (b, c) ↦ omega arith ]; shows = λ h. inl (omega arith, omega arith) }

  pub other_first : (p ≡ a → ⊥) → q ≡ a → Other x y a p
  other_first d e =
      record {
        says = λ v h t. elim t [ inl (b, c) ↦ absurd (d (omega arith)) | inr (b, c) ↦ omega arith ];
        shows = λ h. inr (omega arith, omega arith);
      }

  pub other_none : (p ≡ a → ⊥) → (q ≡ a → ⊥) → Other x y a 0
  other_none d e =
      record {
        says = λ v h t. elim t [ inl (b, c) ↦ absurd (d (omega arith)) | inr (b, c) ↦ absurd (e (omega arith)) ];
        shows = λ h. absurd (omega arith);
      }

-- side s runs from x to y, and r is the other end where one is a
module _ {n : ℕ} {L : List ℕ} (fit : Fit n L) {s x y a r : ℕ} (runs : Runs L s x y) (other : Other x y a r) where
  ends_fit : (v : ℕ) → Ends x y a v → (1 ≤ v) × (v ≤ n)
  ends_fit v (inl (e, f)) =
      let t = next_side_lem L s runs.side in omega (arith, runs.to, fit.from (next L s) t, fit.to (next L s) t)
  ends_fit v (inr (e, f)) = omega (arith, runs.from, fit.from s runs.side, fit.to s runs.side)

  pub other_fits : r ≤ n
  other_fits = elim (zero_or r) [ inl z ↦ omega arith | inr d ↦ (ends_fit r (other.shows (omega arith))).1 ]

  pub joined_itself : (v : ℕ) → Joined L s (s + 1) a v → Itself r v
  joined_itself v j =
      let e : j.side ≡ s = omega (arith, j.from, j.below) in
      let t = ends (rw e at j.runs) in
      let (b, c) = ends_fit v t in (b, other.says v b t)
    where
      ends : Runs L s a v ⊎ Runs L s v a → Ends x y a v
      ends (inl q) = inl (sym runs.from ∙ q.from, sym runs.to ∙ q.to)
      ends (inr q) = inr (sym runs.from ∙ q.from, sym runs.to ∙ q.to)

  pub itself_joined : (v : ℕ) → Itself r v → Joined L s (s + 1) a v
  itself_joined v (b, e) =
      record { side = s; from = omega arith; below = omega arith; runs = rw e (run (other.shows (omega arith))) }
    where
      run : Ends x y a r → Runs L s a r ⊎ Runs L s r a
      run (inl (p, q)) = inl (record { side = runs.side; from = runs.from ∙ p; to = runs.to ∙ q })
      run (inr (p, q)) = inr (record { side = runs.side; from = runs.from ∙ p; to = runs.to ∙ q })

  -- with it, what the sides from lo up to s join to a is marked
  pub marked_next : {lo hi : ℕ} {M N O : List ℕ} → Marked (Joined L lo s a) M N → Marked (Itself r) N O → lo ≤ s → hi ≡ s + 1
      → Marked (Joined L lo hi a) M O
  marked_next p q h e = rw e (marked_range p (marked_by q itself_joined joined_itself) h (omega arith) (omega arith))

-- what the row r of element f, with k sides, tells of its sides: every side but the last runs to the corner that follows, the last to the first
pub record Read (L : List ℕ) (f : ℕ) (r : List ℕ) (k : ℕ) : Type 0 where
  pub counted : k ≡ sides L f
  pub from : 3 ≤ k
  pub to : k ≤ 4
  pub runs_on : (i : ℕ) → 1 ≤ i → i < k → Runs L (8 * f + i) (corner_of r i) (corner_of r (i + 1))
  pub runs_back : Runs L (8 * f + k) (corner_of r k) (corner_of r 1)

module _ (L : List ℕ) (f : ℕ) (el : Element L f) {r : List ℕ} (is : r ≡ row_of (row L f)) where
  at_number : (i : ℕ) → 1 ≤ i → i ≤ sides L f → AtCorner L f i
  at_number i a b = at_corner L f i el.0 el.1 a (omega (arith, few L f)) b

  origin_read : (i : ℕ) → 1 ≤ i → i ≤ sides L f → origin L (8 * f + i) ≡ corner_of r i
  origin_read i a b =
      (at_number i a b).its_origin ∙ sym (row_corner L f i a (omega (arith, few L f))) ∙ ap (λ (p : List ℕ). corner_of p i) (sym is)

  -- side i runs from corner i to corner j, where j is the number that follows
  runs_read : (i j : ℕ) → 1 ≤ i → i ≤ sides L f → 1 ≤ j → j ≤ sides L f → next_number (sides L f) i ≡ j
      → Runs L (8 * f + i) (corner_of r i) (corner_of r j)
  runs_read i j a b c d e =
      let x = at_number i a b in
      let y = next_numbered L (8 * f + i) x.is_side_lem in
      let g : (8 * f + i) % 8 ≡ i = omega (arith, few L f) in
      let h : next_number (sides L ((8 * f + i) / 8)) ((8 * f + i) % 8) ≡ j = rw (x.its_element, g) e in
      let q : next L (8 * f + i) ≡ 8 * f + j = omega (arith, y.same, y.index, x.its_element) in
      record { side = x.is_side_lem; from = origin_read i a b; to = ap (origin L) q ∙ origin_read j c d }

  pub read : {k : ℕ} → k ≡ sides_of r → Read L f r k
  read {k} q =
      record {
        counted = e;
        from = omega (arith, e, few L f);
        to = omega (arith, e, few L f);
        runs_on = λ i a b. runs_read i (i + 1) a (omega (arith, e)) (omega arith) (omega (arith, e)) (on i b (next_number_lem (sides L f) i));
        runs_back = runs_read k 1 (omega (arith, e, few L f)) (omega (arith, e)) (omega arith) (omega (arith, few L f)) (back (next_number_lem (sides L f) k));
      }
    where
      e : k ≡ sides L f
      e = q ∙ ap sides_of is ∙ row_sides L f

      on : (i : ℕ) → i < k → {j : ℕ} → NextNumber (sides L f) i j → j ≡ i + 1
      on i b (wraps z g) = absurd (omega (arith, e))
      on i b (grows z g) = g

      back : {j : ℕ} → NextNumber (sides L f) k j → j ≡ 1
      back (wraps z g) = g
      back (grows z g) = absurd (z e)
