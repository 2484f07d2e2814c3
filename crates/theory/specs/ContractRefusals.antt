-- A list with an edge contracted, document 02, point 8, whose ends a and b have no common neighbours but third corners: its rows are fit and its
-- sides are paired, so that of the checks before 9 it is refused only by 8, no turn order, or by 18, two elements that clash.
-- Assumes nothing.
use Rattle.std.specs.Prelude.{◌≡◌, refl, false, ◌⊎◌, List, ℕ, ◌+◌, ◌-◌, ◌/◌, ◌%◌, ◌≤◌, ◌<◌, min, max, T}
use Rattle.std.proofs.Common.{ap, ◌∙◌, arith}
use Rattle.std.proofs.Math.Path.{sym}
use Rattle.std.proofs.Math.Logic.{inl, inr}
use Rattle.lists.specs.TestLaws.{decide, means_eq}
use Rattle.lists.specs.SearchLaws.{le_or_lt}
use Rattle.rules.specs.Elements.{elements, sides, Side, next_number, origin, next, destination}
use Rattle.rules.specs.Pairing.{alike, is_corner, Element, Pairing, Accepted}
use Rattle.rules.specs.Tables.{partner}
use Rattle.rules.specs.Refusals.{refused, alike_side, unordered_vertex, clashing, list_answer}
use Rattle.edit_rules.specs.Swap.{third}
use Rattle.edit_rules.specs.Contract.{pinches}
use Rattle.theory.specs.Sides.{side_facts}
use Rattle.theory.specs.Steps.{NextNumber, wraps, grows, next_number_lem, Numbered, next_numbered, next_side_lem, previous_numbered}
use Rattle.theory.specs.FitRows.{Fit, means_fit, ends_differ}
use Rattle.theory.specs.Links.{Diagonal, low, high, low_by, high_by}
use Rattle.theory.specs.Pairings.{means_alike, means_opposed, means_joins, means_no_alike, partner_opposed, pairing_exists, the_pairing}
use Rattle.theory.specs.Meeting.{few, element_of, diagonal_clashes}
use Rattle.theory.specs.Triangles.{Runs, TriangleSide, next_runs, previous_runs}
use Rattle.theory.specs.Orders.{Good, good, lone}
use Rattle.theory.specs.Diamonds.{corners}
use Rattle.theory.specs.Refining.{Cut}
use Rattle.theory.specs.Splitting.{Splittable, triangle_of}
use Rattle.theory.specs.Answers.{check_clear, refused_here, fit_rows_clear, gives_refused}
use Rattle.theory.specs.Renaming.{Instead, becomes, stays, instead_is}
use Rattle.theory.specs.ContractTests.{Third, means_third, means_pinches}
use Rattle.theory.specs.Coarsening.{Stays, Coarsened, merged_to, renumbered}

-- u and v are one, or the two ends of the edge
pub data Merged (a b u v : ℕ) : Type 0 where
  equal : u ≡ v → Merged a b u v
  forth : u ≡ a → v ≡ b → Merged a b u v
  back : u ≡ b → v ≡ a → Merged a b u v

-- two numbers that become one are those of the ends
same_merged : {a b u v k l : ℕ} → Instead b a u k → Instead b a v l → k ≡ l → Merged a b u v
same_merged (becomes e f) (becomes g h) z = equal (omega arith)
same_merged (becomes e f) (stays g h) z = back e (omega arith)
same_merged (stays e f) (becomes g h) z = forth (omega arith) g
same_merged (stays e f) (stays g h) z = equal (omega arith)

-- number b is free when the last vertex takes it
not_merged : {a b u k : ℕ} → (a ≡ b → ⊥) → Instead b a u k → k ≡ b → ⊥
not_merged d (becomes e f) z = omega arith
not_merged d (stays e f) z = omega arith

same_last : {n b u v k l : ℕ} → (u ≡ b → ⊥) → (v ≡ b → ⊥) → Instead n b u k → Instead n b v l → k ≡ l → u ≡ v
same_last c d (becomes e f) (becomes g h) z = omega arith
same_last c d (becomes e f) (stays g h) z = omega arith
same_last c d (stays e f) (becomes g h) z = omega arith
same_last c d (stays e f) (stays g h) z = omega arith

-- what is from 1 to n
abbrev Vertex : ℕ → ℕ → Type 0
Vertex n u = (1 ≤ u) × (u ≤ n)

-- the new numbers are 1 to n - 1
one_less : {n a b u k l : ℕ} → (a ≡ b → ⊥) → Vertex n a → Vertex n b → Vertex n u → Instead b a u k → Instead n b k l → Vertex (n - 1) l
one_less d i j v (becomes e f) (becomes g h) = omega arith
one_less d i j v (becomes e f) (stays g h) = omega arith
one_less d i j v (stays e f) (becomes g h) = omega arith
one_less d i j v (stays e f) (stays g h) = omega arith

-- two sides of an element, the first one before the second: neighbours, or opposite ones
data Apart (L : List ℕ) (q r : ℕ) : Type 0 where
  follows : r ≡ next L q → Apart L q r
  leads : q ≡ next L r → Apart L q r
  opposite : sides L (q / 8) ≡ 4 → r ≡ q + 2 → Apart L q r

two_sides : (L : List ℕ) (q r : ℕ) → Side L q → Side L r → q / 8 ≡ r / 8 → q < r → Apart L q r
two_sides L q r c d e h = elim (decide (means_eq r (q + 1))) [
  | inl i ↦ follows (go_on i (next_number_lem (sides L (q / 8)) (q % 8)))
  | inr i ↦ elim (decide (means_eq (r + 1) (q + sides L (q / 8)))) [
    | inl j ↦ leads (go_round j (next_number_lem (sides L (r / 8)) (r % 8)))
    | inr j ↦ opposite (omega (arith, facts, few L (q / 8))) (omega (arith, facts, few L (q / 8)))
  ]
]
  where
    x : Numbered L q (next_number (sides L (q / 8)) (q % 8)) (next L q)
    x = next_numbered L q c

    y : Numbered L r (next_number (sides L (r / 8)) (r % 8)) (next L r)
    y = next_numbered L r d

    facts : (1 ≤ q % 8) × (r % 8 ≤ sides L (q / 8))
    facts = ((side_facts L q c).number_from, rw e (side_facts L r d).number_to)

    go_on : r ≡ q + 1 → NextNumber (sides L (q / 8)) (q % 8) (next_number (sides L (q / 8)) (q % 8)) → r ≡ next L q
    go_on i (wraps j k) = absurd (omega (arith, facts))
    go_on i (grows j k) = omega (arith, x.same, x.index)

    go_round : r + 1 ≡ q + sides L (q / 8) → NextNumber (sides L (r / 8)) (r % 8) (next_number (sides L (r / 8)) (r % 8)) → q ≡ next L r
    go_round i (wraps j k) = omega (arith, facts, few L (q / 8), y.same, y.index)
    go_round i (grows j k) = absurd (omega (arith, facts, ap (sides L) e))

module _ (n : ℕ) (L N : List ℕ) (old : Accepted n L) (s : ℕ) (x : Splittable L s) where
  abbrev a : ℕ
  a = origin L s

  abbrev b : ℕ
  b = destination L s

  g : Good n L
  g = good n L old

  fit : Fit n L
  fit = g.fit

  ends : a ≡ b → ⊥
  ends = ends_differ n L fit s x.side

  mine : Cut L s s
  mine = record { side = x.side; is = inl refl }

  one : TriangleSide L s a b (third L s)
  unfolding third
  one = triangle_of L s x.side x.triangle

  -- the triangle beyond the edge
  module _ (z : partner L s ≡ 0 → ⊥) where
    across : Side L (partner L s) × (a ≡ destination L (partner L s)) × (b ≡ origin L (partner L s))
    across =
        let (c, o) = partner_opposed L s z in
        let (e, f) = (means_opposed L s (partner L s)).says o in (c, e, f)

    other_triangle : TriangleSide L (partner L s) b a (third L (partner L s))
    unfolding third
    other_triangle =
        let (c, e, f) = across in
        let three : sides L (partner L s / 8) ≡ 3 = elim x.across [ inl i ↦ absurd (z i) | inr i ↦ i ] in
        record { runs = record { side = c; from = sym f; to = sym e }; third = refl; triangle = three }

    other_cut : Cut L s (partner L s)
    other_cut = record { side = across.0; is = inr refl }

  -- a side that joins a and b is of a triangle on the edge
  pub no_edge : (r : ℕ) → Runs L r a b ⊎ Runs L r b a → Stays L s (r / 8) → ⊥
  no_edge r (inl y) k = k s mine (ap (λ (u : ℕ). u / 8) (lone n L g r s y.side x.side y.from y.to))
  no_edge r (inr y) k =
      let d : s ≡ r → ⊥ = λ e. ends (ap (origin L) e ∙ y.from) in
      let o = (means_opposed L s r).shows (sym y.to, sym y.from) in
      let e = g.pairing.paired s r x.side y.side d ((means_joins L s r).shows (inr o)) in
      k r (record { side = y.side; is = inr (sym e) }) refl

  -- a diagonal between a and b would cross the edge
  no_diagonal : (d : ℕ) → Diagonal L d → Stays L s (d / 8) → (low L d ≡ min a b) × (high L d ≡ max a b) → ⊥
  no_diagonal d z k (l, h) =
      let (p, q, _) = corners one in
      let (e, f) : Element L (d / 8) × Element L (s / 8) = ((z.element_from, z.element_to), element_of L s x.side) in
      let (i, j) : T (is_corner L (s / 8) (min a b)) × T (is_corner L (s / 8) (max a b)) = elim (le_or_lt a b) [
        | inl h ↦ let (u, v) : (min a b ≡ a) × (max a b ≡ b) = omega arith in (rw u p, rw v q)
        | inr h ↦ let (u, v) : (min a b ≡ b) × (max a b ≡ a) = omega arith in (rw u q, rw v p)
      ] in
      diagonal_clashes n L fit (d / 8) (s / 8) e f d z refl (rw l i) (rw h j) (old.meeting (d / 8) (s / 8) e f (k s mine))

  -- q and r begin at a and b, in one order or the other
  abbrev Ends : ℕ → ℕ → Type 0
  Ends q r = ((origin L q ≡ a) × (origin L r ≡ b)) ⊎ ((origin L q ≡ b) × (origin L r ≡ a))

  turned : (q r : ℕ) → Ends q r → Ends r q
  turned q r (inl (i, j)) = inr (j, i)
  turned q r (inr (i, j)) = inl (j, i)

  no_next : (q r : ℕ) → Side L q → r ≡ next L q → Stays L s (q / 8) → Ends q r → ⊥
  no_next q r c e k (inl (i, j)) = no_edge q (inl (record { side = c; from = i; to = sym (ap (origin L) e) ∙ j })) k
  no_next q r c e k (inr (i, j)) = no_edge q (inr (record { side = c; from = i; to = sym (ap (origin L) e) ∙ j })) k

  no_opposite : (q r : ℕ) → Side L q → Side L r → q / 8 ≡ r / 8 → sides L (q / 8) ≡ 4 → r ≡ q + 2 → Stays L s (q / 8) → Ends q r → ⊥
  no_opposite q r c d e four f k w =
      let m = side_facts L q c in
      let l = side_facts L r d in
      let o : (q + 4) / 8 ≡ q / 8 = omega arith in
      let (u, v) : (q + 4 - 4 ≡ q) × (q + 4 - 2 ≡ r) = omega arith in
      let (from, to) : (1 ≤ (q + 4) / 8) × ((q + 4) / 8 ≤ elements L) = omega arith in
      let (five, six) : (5 ≤ (q + 4) % 8) × ((q + 4) % 8 ≤ 6) = omega arith in
      let z : Diagonal L (q + 4) =
      record { element_from = from; element_to = to; number_from = five; number_to = six; quadrilateral = rw o four } in
      let h = rw (u, v) at (low_by L (q + 4) z) in
      let h' = rw (u, v) at (high_by L (q + 4) z) in
      no_diagonal (q + 4) z (rw o k) (elim w [ inl (i, j) ↦ omega arith | inr (i, j) ↦ omega arith ])

  -- so an element that stays hasn't both for corners
  no_two : (q r : ℕ) → Side L q → Side L r → q / 8 ≡ r / 8 → q < r → Stays L s (q / 8) → Ends q r → ⊥
  no_two q r c d e h k w = elim (two_sides L q r c d e h) [
    | follows f ↦ no_next q r c f k w
    | leads f ↦ no_next r q d f (rw (← e) k) (turned q r w)
    | opposite four f ↦ no_opposite q r c d e four f k w
  ]

  not_both : (q r : ℕ) → Side L q → Side L r → q / 8 ≡ r / 8 → Stays L s (q / 8) → Ends q r → ⊥
  not_both q r c d e k w = elim (decide (means_eq q r)) [
    | inl z ↦ elim w [ inl (i, j) ↦ ends (sym i ∙ ap (origin L) z ∙ j) | inr (i, j) ↦ ends (sym j ∙ ap (origin L) (sym z) ∙ i) ]
    | inr z ↦ elim (le_or_lt q r) [ inl h ↦ no_two q r c d e (omega arith) k w | inr h ↦ no_two r q d c (sym e) h (rw (← e) k) (turned q r w) ]
  ]

  -- two vertices that get one number
  pub one_number : (u v : ℕ) → renumbered n L s u ≡ renumbered n L s v → Merged a b u v
  one_number u v e =
      let (p, q) : Instead b a u (merged_to L s u) × Instead b a v (merged_to L s v) = (instead_is b a u, instead_is b a v) in
      same_merged p q (same_last (not_merged ends p) (not_merged ends q) (instead_is n b (merged_to L s u)) (instead_is n b (merged_to L s v)) e)

  vertex : (r : ℕ) → Side L r → Vertex n (origin L r)
  vertex r c = (fit.from r c, fit.to r c)

  -- a corner gets a number from 1 to n - 1
  number_in : (r : ℕ) → Side L r → Vertex (n - 1) (renumbered n L s (origin L r))
  number_in r c =
      let u = origin L r in
      let end = vertex (next L s) (next_side_lem L s x.side) in
      one_less ends (vertex s x.side) end (vertex r c) (instead_is b a u) (instead_is n b (merged_to L s u))

  -- a side that runs as one of a triangle on the edge is that one, so its element goes
  goes : {r q c d : ℕ} → Cut L s r → q / 8 ≡ r / 8 → Runs L q c d → (w : ℕ) → Runs L w c d → Stays L s (w / 8) → ⊥
  goes {r} {q} k e z w y i =
      i r k (ap (λ (u : ℕ). u / 8) (lone n L g w q y.side z.side (y.from ∙ sym z.from) (y.to ∙ sym z.to)) ∙ e)

  module _ (y : Coarsened L N s (renumbered n L s)) (free : pinches n L s ≡ false) where
    -- a common neighbour of a and b is a third corner
    is_third_lem : (v q w : ℕ) → Vertex n v → Runs L q a v ⊎ Runs L q v a → Runs L w b v ⊎ Runs L w v b → Third L s v
    is_third_lem v q w (i, j) k l = elim (decide (means_third L s v)) [
      | inl t ↦ t
      | inr t ↦
          let c = (means_pinches n L s).shows (v, record { from = i; to = j; of_origin = (q, k); of_destination = (w, l); no_third = t }) in
          absurd (rw free at c)
    ]

    -- of a side from a and one from b to the same vertex one goes
    none_from : (v q w : ℕ) → Runs L q a v → Runs L w b v → Stays L s (q / 8) → Stays L s (w / 8) → ⊥
    none_from v q w o z k l =
        elim (is_third_lem v q w (rw o.to at (vertex (next L q) (next_side_lem L q o.side))) (inl o) (inl z)) [
          | inl e ↦ goes mine (next_numbered L s x.side).same (next_runs one) w (rw e at z) l
          | inr (p, e) ↦
              let c = other_cut p in
              goes c (next_numbered L (partner L s) c.side).same (next_runs (other_triangle p)) q (rw e at o) k
        ]

    -- and of a side to a and one to b from the same vertex
    none_to : (v q w : ℕ) → Runs L q v a → Runs L w v b → Stays L s (q / 8) → Stays L s (w / 8) → ⊥
    none_to v q w o z k l =
        elim (is_third_lem v q w (rw o.from at (vertex q o.side)) (inr o) (inr z)) [
          | inl e ↦ goes mine (previous_numbered L s x.side).same (previous_runs one) q (rw e at o) k
          | inr (p, e) ↦
              let c = other_cut p in
              goes c (previous_numbered L (partner L s) c.side).same (previous_runs (other_triangle p)) w (rw e at z) l
        ]

    abbrev was : ℕ → ℕ
    was = y.old

    ends_at : (q : ℕ) → Side N q → destination N q ≡ renumbered n L s (destination L (was q))
    ends_at q c = y.from (next N q) (next_side_lem N q c) ∙ ap (λ (r : ℕ). renumbered n L s (origin L r)) (y.follows q c)

    pub contracted_fit : Fit (n - 1) N
    contracted_fit =
        record {
          vertices = omega (arith, fit.vertices);
          size = omega (arith, fit.size, y.fewer);
          fours = y.fours;
          from = λ q c. rw (y.from q c) (number_in (was q) (y.side q c)).0;
          to = λ q c. rw (y.from q c) (number_in (was q) (y.side q c)).1;
          differ = differ;
        }
      where
        differ : (q w : ℕ) → Side N q → Side N w → q / 8 ≡ w / 8 → origin N q ≡ origin N w → q ≡ w
        differ q w c d e o =
            let (i, j) : Side L (was q) × Side L (was w) = (y.side q c, y.side w d) in
            let k = y.together q w c d e in
            elim (one_number _ _ (sym (y.from q c) ∙ o ∙ y.from w d)) [
              | equal z ↦ y.one q w c d (fit.differ _ _ i j k z)
              | forth u v ↦ absurd (not_both _ _ i j k (y.stays q c) (inl (u, v)))
              | back u v ↦ absurd (not_both _ _ i j k (y.stays q c) (inr (u, v)))
            ]

    -- no two sides run alike
    no_alike : (q w : ℕ) → Side N q → Side N w → T (alike N q w) → q ≡ w
    no_alike q w c d t =
        let (o, e) = (means_alike N q w).says t in
        go (one_number _ _ (sym (y.from q c) ∙ o ∙ y.from w d)) (one_number _ _ (sym (ends_at q c) ∙ e ∙ ends_at w d))
      where
        runs : {u v : ℕ} (q : ℕ) → Side N q → origin L (was q) ≡ u → destination L (was q) ≡ v → Runs L (was q) u v
        runs q c i j = record { side = y.side q c; from = i; to = j }

        go : Merged a b (origin L (was q)) (origin L (was w)) → Merged a b (destination L (was q)) (destination L (was w)) → q ≡ w
        go (equal i) (equal j) = y.one q w c d (lone n L g _ _ (y.side q c) (y.side w d) i j)
        go (equal i) (forth j k) = absurd (none_to _ _ _ (runs q c i j) (runs w d refl k) (y.stays q c) (y.stays w d))
        go (equal i) (back j k) = absurd (none_to _ _ _ (runs w d refl k) (runs q c i j) (y.stays w d) (y.stays q c))
        go (forth i k) (equal j) = absurd (none_from _ _ _ (runs q c i j) (runs w d k refl) (y.stays q c) (y.stays w d))
        go (back i k) (equal j) = absurd (none_from _ _ _ (runs w d k refl) (runs q c i j) (y.stays w d) (y.stays q c))
        go (forth i k) (forth j l) = absurd (ends_differ n L fit _ (y.side q c) (i ∙ sym j))
        go (forth i k) (back j l) = absurd (no_edge _ (inl (runs q c i j)) (y.stays q c))
        go (back i k) (forth j l) = absurd (no_edge _ (inr (runs q c i j)) (y.stays q c))
        go (back i k) (back j l) = absurd (ends_differ n L fit _ (y.side q c) (i ∙ sym j))

    pub contracted_pairing : Pairing N (partner N)
    contracted_pairing = the_pairing (n - 1) N contracted_fit ((means_eq (alike_side N) 0).says ((means_no_alike N).shows no_alike))

    -- past checks 3, 4, 6 and 7 only 8 and 18 are left; 9 comes after them
    pub contracted_refused : {r p q : ℕ} → list_answer (n - 1) N ≡ refused r p q → (r ≡ 8) ⊎ (r ≡ 18)
    unfolding list_answer
    contracted_refused {r} {p} {q} e =
        let (crowded, same) = (pairing_exists (n - 1) N contracted_fit).0 (partner N, contracted_pairing) in
        let past = fit_rows_clear (n - 1) N ((means_fit (n - 1) N).shows contracted_fit) _ ∙ check_clear _ _ _ crowded ∙ check_clear _ _ _ same in
        elim (refused_here (unordered_vertex (n - 1) N) 8 _ _ r p q _ (sym past ∙ e)) [
          | inl i ↦ inl i
          | inr (z, f) ↦ elim (refused_here (clashing N) 18 _ _ r p q _ f) [ inl i ↦ inr i | inr (k, h) ↦ absurd (gives_refused h) ]
        ]
