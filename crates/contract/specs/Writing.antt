-- The new list and its tables, points, n and m; or what was there.
-- Assumes nothing.
use Rattle.std.specs.Prelude.{◌≡◌, refl, ◌⊎◌, ℕ, ◌+◌, ◌*◌, ◌-◌, ◌%◌, ◌≤◌, Float, take, drop}
use Rattle.std.proofs.Math.Path.{ap, sym}
use Rattle.std.proofs.Common.{◌∙◌, arith, take-append-drop}
use mathlib.Core.List.{List, [], ◌∷◌, ◌++◌}
use Rattle.std.proofs.Math.ListN.{length, get_or}
use Rattle.lists.specs.Search.{at}
use Rattle.rules.specs.Elements.{max_border, elements, Side, slot, next}
use Rattle.rules.specs.Tables.{wide, e2e, v2e}
use Rattle.rules.specs.Refusals.{Answer, gives, refused, after, onto}
use Rattle.edit_rules.specs.Edits.{becomes, Lent, with_work, held, over_old, written}
use Rattle.edit_rules.specs.Contract.{contracted, contract, without_point}
use Rattle.theory.specs.Steps.{next_side_lem}
use Rattle.theory.specs.FitRows.{Fit, means_fit}
use Rattle.theory.specs.Entries.{length_v2e}
use Rattle.theory.specs.Columns.{three_or_four, few_entries, length_e2e}
use Rattle.theory.specs.Edits.{past_new, onto_front, onto_length, over_again}
use Rattle.theory.specs.Splitting.{Splittable, means_splittable}
use Rattle.theory.specs.ContractTests.{becomes_contracted}
use Rattle.theory.specs.Contracting.{contracted_columns}
use Rattle.edits.specs.Holding.{lent_edit, lent_sized, more_entries}
use Rattle.edits.specs.Leaving.{after_refusal, after_answer}
use Rattle.edits.specs.HeldRows.{held_length, held_elements}
use Rattle.gaps.specs.Closing.{fewer_by, fewer_fits}
use Rattle.contract.specs.Edges.{Ends}
use Rattle.contract.specs.Stages.{Contractible, padded, Roomy, Tried, ToWrite, Closable, Closed, Written}
use Rattle.contract.specs.Replacing.{padded_long, to_close, new_long, new_size, fewer, last_there}

-- n - 1 and n as indices are i and j, and the columns, m' and m are k, l and h
module _ {n m m' c b : ℕ} {V2e E2e : List ℕ} {P : List Float} (x : Closable n m m' c b V2e E2e P) {k l h : ℕ} (columned : k ≡ c)
    (new : l ≡ m') (old : h ≡ m) where
  pub few : (k * l ≤ max_border) × (k * h ≤ max_border)
  few = (
    few_entries c l x.columned columned (omega (arith, x.fewer, x.size)),
    few_entries c h x.columned columned (omega (arith, x.size)),
  )

  entries : (k * l ≡ c * m') × (k * h ≡ c * m)
  entries = ((λ i. columned i * new i), (λ i. columned i * old i))

  pub entries_inside : (k * l ≤ k * h) × (k * h ≤ length E2e)
  entries_inside =
      let (e, f) = entries in
      (omega (arith, e, f, more_entries c x.columned x.fewer), omega (arith, f, x.e2e_long))

  pub closes : {i j : ℕ} {V2e' E2e' : List ℕ} {P' : List Float} → i ≡ n - 1 → j ≡ n → V2e' ≡ over_old j (take i V2e) V2e
      → E2e' ≡ over_old (k * h) (take (k * l) E2e) E2e → P' ≡ without_point n b P → Closed n m m' c b V2e E2e P ((n - 1) ∷ m' ∷ []) V2e' E2e' P'
  closes last some v e p =
      record {
        size = refl;
        vertices = v ∙ (λ i. over_old (some i) (take (last i) V2e) V2e);
        opposites = e ∙ (λ i. over_old (entries.1 i) (take (entries.0 i) E2e) E2e);
        points = p;
      }

-- the new rows, with 0 after them, stand where the old ones, up to p, stood
padded_back : (m : ℕ) (xs list : List ℕ) {p : ℕ} {ys : List ℕ} → p ≡ 4 * m → length xs ≤ 4 * m → ys ≡ padded (4 * m) xs
    → ys ++ drop p list ≡ over_old (4 * m) xs list
unfolding over_old onto
padded_back m xs list rows h e = λ i. e i ++ drop ((rows ∙ sym (padded_long (4 * m) xs h)) i) list

-- what was put at the start of a buffer, and 0 after it
cleared_past : (old : ℕ) (xs buffer : List ℕ) {k : ℕ} {ys zs : List ℕ} → length xs ≡ k → ys ≡ onto xs buffer → zs ≡ over_old old (take k ys) ys
    → zs ≡ over_old old xs buffer
cleared_past old xs buffer {k} long is e =
    e
    ∙ (λ i. over_old old (take k (is i)) (is i))
    ∙ ap (λ (X : List ℕ). over_old old X (onto xs buffer)) (onto_front xs buffer long)
    ∙ over_again old xs buffer

-- the rows that are held end at p
module _ (w : Lent) (P : List Float) {s t c : ℕ} (x : ToWrite w P s t c) {p : ℕ} (rows : p ≡ 4 * w.m) where
  abbrev L : List ℕ
  L = held w

  abbrev L' : List ℕ
  L' = contracted w.n L s

  abbrev w₀ : Lent
  w₀ = with_work w []

  size : w.m ≡ elements L
  size = sym (held_elements w.m w.list x.list)

  fit : Fit w.n L
  fit = (means_fit w.n L).says x.contractible.accepted.rows

  splittable : Splittable L s
  splittable = (means_splittable L s).says (rw x.contractible.fit tt)

  pub edge_there : Side (take p w.list) s × (t ≡ at (wide (take p w.list)) (slot s))
  edge_there = rw rows (splittable.side, x.contractible.entry)

  pub fewer_there : (1 ≤ w.m) × ((t % 8 ≡ 0 → ⊥) → 2 ≤ w.m)
  fewer_there = fewer_fits (to_close x.contractible size)

  module _ {a b d f : ℕ} (ends : Ends (take p w.list) s a b d f) where
    edge : Ends L s a b d f
    edge = rw rows at ends

    pub to_try : (Contractible w.n (take p w.list) s t × (w.m ≡ elements (take p w.list)) × Ends (take p w.list) s a b d f)
        × (Roomy w.n c (take p w.list) w.vertices w.opposites × (w.n + 16 * w.m ≤ length w.work))
    to_try =
        rw rows (
          (x.contractible, size, edge),
          (record { columned = x.columned; vertices = x.vertices; opposites = rw (sym size) x.opposites }, x.room),
        )

    -- the new list was tried in place of these rows
    module _ {r : Answer} {V2e E2e B2e L₁ : List ℕ}
        (result : Tried w.n (take p w.list) s r w.vertices w.opposites w.border V2e E2e B2e
        × (L₁ ≡ after r (padded (length (take p w.list)) (contracted w.n (take p w.list) s)) (take p w.list))) where
      tried : Tried w.n L s r w.vertices w.opposites w.border V2e E2e B2e × (L₁ ≡ after r (padded (length L) L') L)
      tried = rw rows at result

      abbrev list₁ : List ℕ
      list₁ = L₁ ++ drop p w.list

      -- it is refused
      pub none_written : {i j k : ℕ} → r ≡ refused i j k → Written w₀ P s r (lent_edit w.n w.m list₁ V2e E2e B2e []) P
      none_written e =
          let (y, l) = tried in
          let stays : list₁ ≡ w.list =
          (λ i. (l ∙ after_refusal (padded (length L) L') L e) i ++ drop (rows i) w.list) ∙ take-append-drop (4 * w.m) w.list in
          let v = y.vertices ∙ after_refusal _ w.vertices e in
          let o = y.opposites ∙ after_refusal _ w.opposites e in
          let h = y.border ∙ after_refusal _ w.border e in
          record {
            left =
                record {
                  answer = y.answer;
                  leaves = (λ i. lent_edit w.n w.m (stays i) (v i) (o i) (h i) []) ∙ sym (after_refusal _ w₀ e);
                };
            points = sym (after_refusal _ P e);
          }

      -- or accepted
      module _ {i j : ℕ} (gave : r ≡ gives i j) where
        edit : contract w.n L s ≡ becomes (w.n - 1) L'
        edit =
            let (n', N, e, u, h) = past_new (length w.border) (contract w.n L s) (sym tried.0.answer ∙ gave) in
            let y = becomes_contracted w.n L s e in e ∙ (λ k. becomes (sym y.same_n k) (sym y.same_list k))

        v2e_is_lem : V2e ≡ onto (v2e (w.n - 1) L') w.vertices
        v2e_is_lem = tried.0.vertices ∙ after_answer _ w.vertices gave

        e2e_is_lem : E2e ≡ onto (e2e L') w.opposites
        e2e_is_lem = tried.0.opposites ∙ after_answer _ w.opposites gave

        -- the new m was worked out
        module _ {m' : ℕ} (counted : m' ≡ fewer_by w.m t) where
          new_m : m' ≡ elements L'
          new_m = counted ∙ sym (new_size x.contractible size)

          few_rows : m' ≤ w.m
          few_rows = omega (arith, counted, fewer x.contractible size)

          three_four : (c ≡ 3) ⊎ (c ≡ 4)
          three_four = rw x.columned (three_or_four L)

          e2e_long : length (e2e L') ≡ c * m'
          e2e_long = length_e2e L' ∙ (λ k. (contracted_columns w.n L fit s splittable ∙ sym x.columned) k * sym new_m k)

          e2e_below : c * m' ≤ length w.opposites
          e2e_below = omega (arith, more_entries c three_four few_rows, x.opposites)

          pub closable : Closable w.n w.m m' c b V2e E2e P
          closable =
              let to = next_side_lem L s splittable.side in
              let v = onto_length (v2e (w.n - 1) L') w.vertices (omega (arith, length_v2e L' (w.n - 1), x.vertices)) in
              let o = onto_length (e2e L') w.opposites (omega (arith, e2e_long, e2e_below)) in
              record {
                some = last_there x.contractible size;
                vertices = fit.vertices;
                size = omega (arith, size, fit.size);
                fewer = few_rows;
                columned = three_four;
                v2e_long = omega (arith, ap length v2e_is_lem, v, x.vertices);
                e2e_long = omega (arith, ap length e2e_is_lem, o, x.opposites);
                points = x.points;
                from = rw edge.to (fit.from (next L s) to);
                to = rw edge.to (fit.to (next L s) to);
              }

          pub all_written : {size' V2e' E2e' : List ℕ} {P' : List Float} → Closed w.n w.m m' c b V2e E2e P size' V2e' E2e' P'
              → Written w₀ P s r (lent_sized size' list₁ V2e' E2e' B2e []) P'
          unfolding written
          all_written {size'} {V2e'} {E2e'} {P'} z =
              let n_is = ap (λ (y : List ℕ). get_or y 0 0) z.size in
              let m_is = ap (λ (y : List ℕ). get_or y 1 0) z.size ∙ new_m in
              let l = padded_back w.m L' w.list rows (new_below) (tried.1 ∙ after_answer _ L gave ∙ ap (λ (k : ℕ). padded k L') held_long) in
              let v = cleared_past w.n (v2e (w.n - 1) L') w.vertices (length_v2e L' (w.n - 1)) v2e_is_lem z.vertices in
              let o = cleared_past (c * w.m) (e2e L') w.opposites e2e_long e2e_is_lem z.opposites
              ∙ ap (λ (k : ℕ). over_old (k * w.m) (e2e L') w.opposites) x.columned in
              let h = tried.0.border ∙ after_answer _ w.border gave in
              record {
                left =
                    record {
                      answer = tried.0.answer;
                      leaves =
                          (λ i. lent_edit (n_is i) (m_is i) (l i) (v i) (o i) (h i) [])
                          ∙ ap (written w₀) (sym edit)
                          ∙ sym (after_answer _ w₀ gave);
                    };
                points = z.points ∙ ap (λ (k : ℕ). without_point w.n k P) edge.to ∙ sym (after_answer _ P gave);
              }
            where
              held_long : length L ≡ 4 * w.m
              held_long = held_length w.m w.list x.list

              new_below : length L' ≤ 4 * w.m
              new_below = omega (arith, new_long x.contractible size, fewer x.contractible size)
