-- Buffers of fit lengths, and the lines by cases.
-- Assumes nothing.
use Rattle.std.specs.Prelude.{true, Result, Ok, Err, List, ◌++◌, ℕ, ◌+◌, ◌*◌, ◌/◌, ◌≤◌, ◌⊎◌, take}
use Rattle.std.proofs.Math.Path.{◌≡◌, refl, ap, sym}
use Rattle.std.proofs.Common.{subst, ◌∙◌, arith, eq-eqb, ne_eqb, inl, inr, length-drop, take_all, length-take-le}
use Rattle.std.proofs.Math.ListN.{length, drop, length-append}
use Rattle.std.proofs.Math.Seq.{take_at}
use Rattle.lists.specs.TestLaws.{true_of, means_both, means_eq, means_le, decide}
use Rattle.lists.specs.SearchLaws.{length_tab}
use Rattle.rules.specs.Elements.{elements}
use Rattle.rules.specs.Pairing.{sizes_fit}
use Rattle.rules.specs.Tables.{borders, v2e, columns, e2e, b2e}
use Rattle.rules.specs.Refusals.{Answer, gives, refused, Buffers, call_lengths, build_lengths, length_checks, room_check, list_answer, build_answer, build_leaves, after, onto}
use Rattle.theory.specs.Answers.{room_enough}
use Rattle.theory.specs.Built.{borders_bound}
use Rattle.theory.specs.Entries.{length_v2e, length_b2e}
use Rattle.theory.specs.Columns.{three_or_four, length_e2e}
use Rattle.theory.specs.FitRows.{means_sizes}
use Rattle.build.specs.Building.{counts_are, lent}
use Rattle.text.specs.Form.{first_bad, the_n, the_m, the_list, the_number}
use Rattle.text.specs.FormLaws.{head_bounds, form_head}
use Rattle.text.specs.FirstBytes.{first_bytes, form_short}
use Rattle.text.specs.Reading.{size_in, parsed, list_after, parsed_bad, parsed_form}
use Rattle.text.specs.declared.Size.{Size}
use Rattle.text.specs.declared.ParseError.{ParseError}
use Rattle.text.specs.declared.ParseError.TheVariants.{Bad, Short}
use Rattle.print.specs.Lines.{Written, table_lines, refusal_line, width_of, has_room, shown_if, shown_tables, shown_refusal}
use Rattle.print.specs.LineLaws.{width_three, width_four, has_room_lem}
use Rattle.listed.specs.Listing.{answer_lines, mesh_lines, listing}

-- a mesh of at most 200 vertices and 200 elements, with buffers of fit lengths and room for every border side
pub record Fits (n : ℕ) (L : List ℕ) (w : Buffers) : Type 0 where
  pub few : n ≤ 200
  pub small : elements L ≤ 200
  pub fours : length L ≡ 4 * elements L
  pub vertices : length w.vertices ≡ n
  pub opposites : length w.opposites ≡ columns L * elements L
  pub border : length L ≤ length w.border
  pub work : n + 16 * elements L ≤ length w.work

module _ {n : ℕ} {L : List ℕ} {w : Buffers} (fit : Fits n L w) where
  sized : sizes_fit n L ≡ true
  sized =
      let few : n ≤ 1_000_000 = omega (arith, fit.few) in
      let small : elements L ≤ 1_000_000 = omega (arith, fit.small) in
      true_of _ ((means_sizes n L).shows (few, (small, fit.fours)))

  lengthened : build_lengths n L w ≡ true
  unfolding build_lengths call_lengths
  lengthened =
      true_of _
      ((means_both (means_eq (length w.vertices) n)
      (means_both (means_eq (length w.opposites) (columns L * elements L)) (means_le (n + 16 * elements L) (length w.work)))).shows
      (fit.vertices, (fit.opposites, fit.work)))

  roomy : room_check (length w.border) (list_answer n L) ≡ list_answer n L
  unfolding room_check
  roomy = go (list_answer n L) refl
    where
      go : (a : Answer) → list_answer n L ≡ a → room_check (length w.border) a ≡ a
      go (gives k e) g = room_enough (length w.border) k e (omega (arith, counts_are n L k e g, borders_bound L, fit.border))
      go (refused r a b) g = refl

  -- of build's refusals only 3 to 8 can come
  pub fit_answer : build_answer n L w ≡ list_answer n L
  unfolding build_answer length_checks
  fit_answer =
      let e : build_answer n L w ≡ room_check (length w.border) (list_answer n L) = rw (sized, lengthened, length_checks) in e ∙ roomy

  -- a refusal is shown as it is
  pub refusal_shown : {size r a b : ℕ} → 22_022 ≤ size → refused r a b ≡ build_answer n L w → shown_refusal size r a b ≡ mesh_lines n L
  unfolding mesh_lines answer_lines
  refusal_shown {size} {r} {a} {b} h e =
      ap (λ x. shown_if x (refusal_line r a b)) (has_room_lem size 0 3 (omega arith)) ∙ ap (answer_lines n L) (e ∙ fit_answer)

  -- after counts the tables are in their buffers
  module _ {k e : ℕ} {V2e E2e B2e work : List ℕ} (given : gives k e ≡ build_answer n L w) (left : lent V2e E2e B2e work ≡ build_leaves n L w) where
    count : k ≡ borders L
    count = counts_are n L k e (sym fit_answer ∙ sym given)

    vertices_are : V2e ≡ v2e n L
    unfolding build_leaves after
    vertices_are = ap (λ (x : Buffers). x.vertices) left ∙ ap (λ (a : Answer). after a (v2e n L) w.vertices) (sym given)

    opposites_are : E2e ≡ e2e L
    unfolding build_leaves after
    opposites_are = ap (λ (x : Buffers). x.opposites) left ∙ ap (λ (a : Answer). after a (e2e L) w.opposites) (sym given)

    border_is : B2e ≡ b2e L ++ drop (length (b2e L)) w.border
    unfolding build_leaves after onto
    border_is = ap (λ (x : Buffers). x.border) left ∙ ap (λ (a : Answer). after a (onto (b2e L) w.border) w.border) (sym given)

    pub border_long : k ≤ length B2e
    border_long = rw (border_is, length-append) (omega (arith, count, length_b2e L))

    cut : take k B2e ≡ b2e L
    cut = ap (take k) border_is ∙ take_at (b2e L) (drop (length (b2e L)) w.border) k (length_b2e L ∙ sym count)

    lines : table_lines (columns L) V2e E2e (take k B2e) ≡ mesh_lines n L
    unfolding mesh_lines answer_lines
    lines = rw (vertices_are, opposites_are, cut) (ap (answer_lines n L) (given ∙ fit_answer))

    -- the rows of E2e are the elements
    rows : length E2e / columns L ≡ elements L
    rows = ap (λ (X : List ℕ). length X / columns L) opposites_are ∙ ap (λ (l : ℕ). l / columns L) (length_e2e L) ∙ go (three_or_four L)
      where
        go : (columns L ≡ 3) ⊎ (columns L ≡ 4) → columns L * elements L / columns L ≡ elements L
        go (inl e) = rw e (omega arith)
        go (inr e) = rw e (omega arith)

    -- c is the number of the list's columns
    pub tables_shown : {size c : ℕ} → 22_022 ≤ size → c ≡ columns L → shown_tables size (width_of c) V2e E2e (take k B2e) ≡ mesh_lines n L
    tables_shown {size} {c} h e =
        let v : length V2e ≡ n = ap length vertices_are ∙ length_v2e L n in
        let b : length (take k B2e) ≡ borders L = ap length cut ∙ length_b2e L in
        let numbers = length V2e + length (take k B2e) + 5 * (length E2e / columns L) + 1 in
        let room : has_room size 0 numbers ≡ true = has_room_lem size 0 numbers (omega (arith, rows, borders_bound L, fit.few, fit.small, fit.fours)) in
        ap (λ (i : ℕ). shown_tables size i V2e E2e (take k B2e)) (ap width_of e ∙ own (three_or_four L))
        ∙ ap (λ x. shown_if x (table_lines (columns L) V2e E2e (take k B2e))) room
        ∙ lines
      where
        own : (columns L ≡ 3) ⊎ (columns L ≡ 4) → width_of (columns L) ≡ columns L
        own (inl e) = width_three e ∙ sym e
        own (inr e) = let d : columns L ≡ 3 → ⊥ = λ z. omega arith in width_four d ∙ sym e

-- the lines of a text by cases
module _ (t : List ℕ) where
  pub listing_bad : (first_bad t ≡ 0 → ⊥) → listing t ≡ refusal_line 14 (first_bad t) 0
  unfolding listing
  listing_bad d = rw (ne_eqb (first_bad t) 0 d, listing)

  pub listing_form : first_bad t ≡ 0 → listing t ≡ mesh_lines (the_n t) (the_list t)
  unfolding listing
  listing_form e = rw (eq-eqb (first_bad t) 0 e, listing)

  pub length_list : length (the_list t) ≡ 4 * the_m t
  unfolding the_list
  length_list = length_tab (4 * the_m t) (the_number t)

-- a mesh that was read into the list L: its rows are the first e entries, and v is n as an index
pub record Read (t L : List ℕ) (n v e : ℕ) : Type 0 where
  pub form : first_bad t ≡ 0
  pub few : n ≤ 200
  pub vertices : n ≡ the_n t
  pub wide : v ≡ n
  pub small : e ≤ 800
  pub fours : e ≡ 4 * (e / 4)
  pub rows : take e L ≡ the_list t
  pub many : length (the_list t) ≡ e
  pub long : length L ≡ 800

-- with room for 800 entries a text in form gives a mesh, and any other its first bad line
module _ (t L : List ℕ) {p : Result Size ParseError} (room : length L ≡ 800) (said : p ≡ parsed t (length L)) where
  form_or_bad : ((first_bad t ≡ 0) × (p ≡ Ok (size_in t))) ⊎ ((first_bad t ≡ 0 → ⊥) × (p ≡ Err (Bad (first_bad t))))
  form_or_bad = elim (decide (means_eq (first_bad t) 0)) [
    | inl e ↦ inl (e, said ∙ parsed_form t (length L) (omega arith) e)
    | inr d ↦ inr (d, said ∙ parsed_bad t (length L) d)
  ]

  pub read_mesh : {s : Size} {v e : ℕ} {L' : List ℕ} → p ≡ Ok s → L' ≡ list_after p t L → v ≡ s.n → e ≡ 4 * s.m → Read t L' s.n v e
  unfolding list_after
  read_mesh {s} {v} {e} {L'} is f wide rows = go form_or_bad
    where
      go : ((first_bad t ≡ 0) × (p ≡ Ok (size_in t))) ⊎ ((first_bad t ≡ 0 → ⊥) × (p ≡ Err (Bad (first_bad t)))) → Read t L' s.n v e
      go (inr (d, g)) = let z : ◌≡◌ {A = ℕ} 0 1 = cc in absurd (omega arith)
      go (inl (z, g)) =
          let h = head_bounds t (form_head t z) in
          let same : s ≡ size_in t = cc in
          let a : s.n ≡ the_n t = ap (λ (x : Size). x.n) same in
          let b : s.m ≡ the_m t = ap (λ (x : Size). x.m) same in
          let l : length (the_list t) ≡ e = length_list t ∙ ap (λ (i : ℕ). 4 * i) (sym b) ∙ sym rows in
          let r : L' ≡ the_list t ++ drop e L = f ∙ ap (λ (q : Result Size ParseError). list_after q t L) is ∙ ap (λ (i : ℕ). the_list t ++ drop i L) (sym rows) in
          record {
            form = z;
            few = omega (arith, h);
            vertices = a;
            wide = wide;
            small = omega (arith, h);
            fours = omega arith;
            rows = ap (take e) r ∙ take_at (the_list t) (drop e L) e l;
            many = l;
            long = rw (r, length-append, length-drop) (omega (arith, h));
          }

  pub bad_shown : {size line : ℕ} → 22_022 ≤ size → p ≡ Err (Bad line) → shown_refusal size 14 line 0 ≡ listing t
  bad_shown {size} {line} h e = go form_or_bad
    where
      go : ((first_bad t ≡ 0) × (p ≡ Ok (size_in t))) ⊎ ((first_bad t ≡ 0 → ⊥) × (p ≡ Err (Bad (first_bad t)))) → shown_refusal size 14 line 0 ≡ listing t
      go (inl (z, g)) = let z : ◌≡◌ {A = ℕ} 0 1 = cc in absurd (omega arith)
      go (inr (d, g)) =
          let a : line ≡ first_bad t = cc in
          ap (λ x. shown_if x (refusal_line 14 line 0)) (has_room_lem size 0 3 (omega arith))
          ∙ ap (λ (i : ℕ). refusal_line 14 i 0) a
          ∙ sym (listing_bad t d)

  pub never_short : p ≡ Err Short → ⊥
  never_short e = go form_or_bad
    where
      go : ((first_bad t ≡ 0) × (p ≡ Ok (size_in t))) ⊎ ((first_bad t ≡ 0 → ⊥) × (p ≡ Err (Bad (first_bad t)))) → ⊥
      go (inl (z, g)) = let z : ◌≡◌ {A = ℕ} 0 1 = cc in omega arith
      go (inr (d, g)) = let z : ◌≡◌ {A = ℕ} 0 1 = cc in omega arith

-- the mesh that was read, with parts v, e and o long of buffers for the largest mesh
module _ {t L : List ℕ} {n v e : ℕ} (k : Read t L n v e) where
  pub mesh_is : mesh_lines n (take e L) ≡ listing t
  mesh_is = ap (mesh_lines n) k.rows ∙ ap (λ (i : ℕ). mesh_lines i (the_list t)) k.vertices ∙ sym (listing_form t k.form)

  pub read_long : length (take e L) ≡ e
  read_long = ap length k.rows ∙ k.many

  -- E2e has at most 800 entries
  pub few_entries : (m : ℕ) {c o : ℕ} → c ≡ columns (take e L) → o ≡ c * m → e ≡ 4 * m → (o ≡ columns (take e L) * m) × (o ≤ 800)
  few_entries m {c} {o} f g h = (g ∙ ap (λ (i : ℕ). i * m) f, go (three_or_four (take e L)))
    where
      go : (columns (take e L) ≡ 3) ⊎ (columns (take e L) ≡ 4) → o ≤ 800
      go (inl z) = rw (g ∙ ap (λ (i : ℕ). i * m) (f ∙ z)) (omega (arith, k.small))
      go (inr z) = rw (g ∙ ap (λ (i : ℕ). i * m) (f ∙ z)) (omega (arith, k.small))

  pub fits : (V2e E2e B2e work : List ℕ) (m : ℕ) {c o : ℕ} → length V2e ≡ 200 → length E2e ≡ 800 → length B2e ≡ 800 → length work ≡ 3_400
      → c ≡ columns (take e L) → o ≡ c * m → e ≡ 4 * m → Fits n (take e L) (lent (take v V2e) (take o E2e) B2e work)
  fits V2e E2e B2e work m {c} {o} a b d w f g h =
      let l = read_long in
      let (long, few) = few_entries m f g h in
      let rows : elements (take e L) ≡ m = omega arith in
      record {
        few = k.few;
        small = omega (arith, k.small);
        fours = omega (arith, k.fours);
        vertices = length-take-le v V2e (omega (arith, k.few, k.wide)) ∙ k.wide;
        opposites = length-take-le o E2e (omega arith) ∙ long ∙ ap (λ (i : ℕ). columns (take e L) * i) (sym rows);
        border = omega (arith, k.small);
        work = omega (arith, k.small, k.few);
      }

-- what is written is what was to be
pub written_as : (l : List ℕ) {w s v : List ℕ} {r : ℕ} → s ≡ v → Written l 0 s w r → Written l 0 v w r
written_as l {w} {r} e h = subst (λ (x : List ℕ). Written l 0 x w r) e h

-- the first 8,192 bytes of a text tell what is printed for it, so the program reads no more
pub listing_first_bytes : (t : List ℕ) → listing (take 8192 t) ≡ listing t
listing_first_bytes t = elim (decide (means_eq (first_bad t) 0)) [
  | inl e ↦ ap listing (take_all 8192 t (omega (arith, form_short t e)))
  | inr d ↦ listing_bad (take 8192 t) (λ z. d (sym (first_bytes t) ∙ z)) ∙ ap (λ (i : ℕ). refusal_line 14 i 0) (first_bytes t) ∙ sym (listing_bad t d)
]
