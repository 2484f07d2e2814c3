-- What runs of the reader of OFF texts say.
-- Assumes nothing.
use Rattle.std.proofs.Math.Path.{◌≡◌}
use Rattle.std.proofs.Common.{ap, sym, ◌∙◌, arith, take_at, drop_at}
use Rattle.std.specs.Prelude.{true, false, not, List, ◌++◌, ℕ, ◌*◌, ◌≤◌, T, leb, eqb, length, take, drop}
use borrow.Author.Tests.{eq-eqb, le-leb}
use Rattle.lists.specs.Tests.{within}
use Rattle.lists.specs.SearchLaws.{length_tab}
use Rattle.lists.specs.TestLaws.{Test, pass, fail, test, Means, means_both, means_eq, means_le, true_of}
use Rattle.rules.specs.Elements.{max_vertex, max_element}
use Rattle.rules.specs.Pairing.{sizes_fit}
use Rattle.rules.specs.Refusals.{Answer, gives, refused, check_found, after, onto}
use Rattle.theory.specs.Least.{FirstNumber, first_number_lem}
use Rattle.theory.specs.FitRows.{means_sizes}
use Rattle.answer.specs.Packing.{Fits}
use Rattle.off_rules.specs.Off.{Item, items, the_n, the_m, corners, in_form, bad_line, counts_fit, unfit_face, corner_entry, element_list, items_answer, off_answer, off_leaves, SameFaces}
use Rattle.off.specs.Writing.{Sound, sound_form}
use Rattle.off.specs.Same as faces
use Rattle.runs.specs.Runs.{OffRun}

-- what an answer asks: a text in form, counts within their maxima, triangles and quadrilaterals, and room
pub record Readable (x : List Item) (room : ℕ) : Type 0 where
  pub form : in_form x ≡ true
  pub counts : (the_n x ≤ max_vertex) × (the_m x ≤ max_element)
  pub faces : unfit_face x ≡ 0
  pub room_for : 4 * the_m x ≤ room

means_counts : (x : List Item) → Means (counts_fit x) ((the_n x ≤ max_vertex) × (the_m x ≤ max_element))
means_counts x = means_both (means_le (the_n x) max_vertex) (means_le (the_m x) max_element)

-- every answer, by the checks before it
answered : (x : List Item) (room : ℕ) → (P : Answer → Type 0) → (in_form x ≡ false → P (refused 16 (bad_line x) 0)) →
    P (refused 1 0 0) → (T (counts_fit x) → P (refused 17 (unfit_face x) 0)) → (T (counts_fit x) → P (refused 13 (4 * the_m x) 0)) →
    (Readable x room → P (gives (the_n x) (the_m x))) → P (items_answer x room)
unfolding items_answer check_found
answered x room P bad many unfit short good = go (test (in_form x)) (test (counts_fit x)) (test (eqb (unfit_face x) 0)) (test (leb (4 * the_m x) room))
  where
    go : Test (in_form x) → Test (counts_fit x) → Test (eqb (unfit_face x) 0) → Test (leb (4 * the_m x) room) → P (items_answer x room)
    go (fail t e) c o r = rw (e, items_answer) (bad e)
    go (pass t e) (fail u f) o r = rw (e, items_answer, f) many
    go (pass t e) (pass u f) (fail v g) r = rw (e, items_answer, f, g, check_found) (unfit u)
    go (pass t e) (pass u f) (pass v g) (fail w h) = rw (e, items_answer, f, g, check_found, h) (short u)
    go (pass t e) (pass u f) (pass v g) (pass w h) =
        rw (e, items_answer, f, g, check_found, h)
        (good
        (record {
          form = e;
          counts = (means_counts x).says u;
          faces = (means_eq (unfit_face x) 0).says v;
          room_for = (means_le (4 * the_m x) room).says w;
        }))

unfit_bound : (x : List Item) → unfit_face x ≤ the_m x
unfolding unfit_face
unfit_bound x = go (first_number_lem (the_m x) (λ f. not (within 3 4 (corners x f))))
  where
    go : {r : ℕ} → FirstNumber (the_m x) (λ f. not (within 3 4 (corners x f))) r → r ≤ the_m x
    go (FirstNumber.nobody e f) = omega arith
    go (FirstNumber.somebody a b u f) = b

-- the numbers of every answer have room in the packed number
pub off_fits : (t L : List ℕ) → Fits (off_answer t L)
unfolding off_answer bad_line
off_fits t L =
    let x = items t in
    answered x (length L) Fits (λ e. omega arith) (omega arith) (λ u. let h = (means_counts x).says u in omega (arith, unfit_bound x))
    (λ u. let h = (means_counts x).says u in omega arith) (λ g. let h = g.counts in omega arith)

-- a run on the text t and the list L
module _ (t L : List ℕ) (a : Answer) (L' : List ℕ) (run : OffRun t L a L') where
  abbrev x : List Item
  x = items t

  -- "left as it was"
  pub refusal_keeps : {r p q : ℕ} → a ≡ refused r p q → L' ≡ L
  unfolding off_leaves after
  refusal_keeps e = run.leaves ∙ rw (sym run.answer ∙ e)

  -- it answers exactly where nothing is wrong
  pub answers : Readable x (length L) → a ≡ gives (the_n x) (the_m x)
  unfolding off_answer items_answer check_found
  answers g =
      let fit = true_of (counts_fit x) ((means_counts x).shows g.counts) in
      run.answer
      ∙ rw (g.form, items_answer, fit, eq-eqb (unfit_face x) 0 g.faces, check_found, le-leb (4 * the_m x) (length L) g.room_for)

  -- n and m were answered
  module _ {n m : ℕ} (gave : a ≡ gives n m) where
    pub answers_only : Readable x (length L) × (n ≡ the_n x) × (m ≡ the_m x)
    unfolding off_answer
    answers_only =
        answered x (length L) (λ b. b ≡ gives n m → Readable x (length L) × (n ≡ the_n x) × (m ≡ the_m x)) (λ e f. differ f) (λ f. differ f)
        (λ u f. differ f) (λ u f. differ f) (λ g f. (g, (cc), (cc))) (sym run.answer ∙ gave)
      where
        differ : {r p q : ℕ} → refused r p q ≡ gives n m → Readable x (length L) × (n ≡ the_n x) × (m ≡ the_m x)
        differ f = let z : ◌≡◌ {A = ℕ} 0 1 = cc in absurd (omega arith)

    long : length (element_list x) ≡ 4 * m
    unfolding element_list
    long = length_tab (4 * the_m x) (corner_entry x) ∙ omega (arith, answers_only.2)

    written : L' ≡ element_list x ++ drop (4 * m) L
    unfolding off_leaves after onto
    written = run.leaves ∙ rw (sym run.answer ∙ gave, long)

    -- the faces are the first 4m entries, and what lies past them stays
    pub list_read : take (4 * m) L' ≡ element_list x
    list_read = ap (take (4 * m)) written ∙ take_at (element_list x) (drop (4 * m) L) (4 * m) long

    pub rest_kept : drop (4 * m) L' ≡ drop (4 * m) L
    rest_kept = ap (drop (4 * m)) written ∙ drop_at (element_list x) (drop (4 * m) L) (4 * m) long

    -- n and the list are fit to be handed to build: check 1 finds nothing
    pub read_sized : T (sizes_fit n (take (4 * m) L'))
    read_sized =
        let (g, v, f) = answers_only in
        let l = ap length list_read ∙ long in
        (means_sizes n (take (4 * m) L')).shows (omega (arith, g.counts), (omega (arith, g.counts), omega arith))

    sound : Sound x
    sound = let g = answers_only.0 in sound_form x g.form g.faces

-- two runs that answered
module _ {t L L' u M M' : List ℕ} {a b : Answer} {n m k l : ℕ}
    (run : OffRun t L a L') (gave : a ≡ gives n m) (other : OffRun u M b M') (gave_too : b ≡ gives k l) where
  -- "Two texts read without refusal whose counts, edges apart, and faces are equal as numbers give equal lists, whatever else differs"
  pub same_lists : SameFaces (items t) (items u) → (a ≡ b) × (take (4 * m) L' ≡ take (4 * l) M')
  same_lists s =
      let (x, v, f) = answers_only t L a L' run gave in
      let (y, w, g) = answers_only u M b M' other gave_too in
      let p : n ≡ k = v ∙ s.vertices ∙ sym w in
      let q : m ≡ l = f ∙ s.faces ∙ sym g in
      ((cc), list_read t L a L' run gave ∙ faces.same_lists (items t) (items u) s ∙ sym (list_read u M b M' other gave_too))

  -- and no others do
  pub same_faces : a ≡ b → take (4 * m) L' ≡ take (4 * l) M' → SameFaces (items t) (items u)
  same_faces e s =
      let (x, v, f) = answers_only t L a L' run gave in
      let (y, w, g) = answers_only u M b M' other gave_too in
      let p : n ≡ k = cc in
      let q : m ≡ l = cc in
      faces.same_faces (items t) (items u) (sound t L a L' run gave) (sound u M b M' other gave_too) (sym v ∙ p ∙ w) (sym f ∙ q ∙ g)
      (sym (list_read t L a L' run gave) ∙ s ∙ list_read u M b M' other gave_too)
