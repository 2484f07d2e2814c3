-- What a split makes of the list that is held, by its three tests: whether the half-edge is there (11), may be split (15), and is there room (19).
-- Assumes nothing.
use Rattle.std.specs.Prelude.{◌≡◌, true, false, ◌⊎◌, List, ℕ, ◌+◌, ◌*◌, ◌≤◌, Float, length}
use Rattle.std.proofs.Common.{sym, ◌∙◌, inl, inr, arith}
use Rattle.lists.specs.TestLaws.{Test, pass, fail, test, Means, means_both, means_le}
use Rattle.rules.specs.Elements.{max_vertex, max_element, elements}
use Rattle.rules.specs.Tables.{columns}
use Rattle.edit_rules.specs.Edits.{becomes, refuses, Lent, is_there, counts_fit, held, has_room}
use Rattle.edit_rules.specs.Split.{split_at, is_splittable, has_points, can_hold, split}
use Rattle.theory.specs.Splitting.{Splittable, means_splittable}

-- 19 finds nothing: n vertices and m elements are no more than may be, and fit into the points and buffers that are lent
pub record Holds (w : Lent) (P : List Float) (n m : ℕ) : Type 0 where
  pub vertices : n ≤ max_vertex
  pub size : m ≤ max_element
  pub points : 3 * n ≤ length P
  pub list : 4 * m ≤ length w.list
  pub v2e : n ≤ length w.vertices
  pub e2e : columns (held w) * m ≤ length w.opposites
  pub work : n + 16 * m ≤ length w.work

pub means_hold : (w : Lent) (P : List Float) (n : ℕ) (L : List ℕ) → Means (can_hold w P n L) (Holds w P n (elements L))
unfolding can_hold counts_fit has_points has_room
means_hold w P n L =
    let m = elements L in
    let room =
    means_both (means_le (4 * m) (length w.list))
    (means_both (means_le n (length w.vertices))
    (means_both (means_le (columns (held w) * m) (length w.opposites)) (means_le (n + 16 * m) (length w.work)))) in
    let all = means_both (means_both (means_le n max_vertex) (means_le m max_element)) (means_both (means_le (3 * n) (length P)) room) in
    record {
      says = λ t.
          let ((a, b), (p, (l, (d, (f, g))))) = all.says t in
          record { vertices = a; size = b; points = p; list = l; v2e = d; e2e = f; work = g };
      shows = λ x. all.shows ((x.vertices, x.size), (x.points, (x.list, (x.v2e, (x.e2e, x.work)))));
    }

-- the new vertex, and the new list
abbrev pub vertex : Lent → ℕ
vertex w = w.n + 1

abbrev pub new : Lent → ℕ → List ℕ
new w s = split_at (held w) s (vertex w)

module _ (w : Lent) (P : List Float) (s : ℕ) where
  pub gone : is_there (held w) s ≡ false → split w P s ≡ refuses 11
  unfolding split
  gone e = rw (e, split)

  module _ (there : is_there (held w) s ≡ true) where
    pub unfit : is_splittable (held w) s ≡ false → split w P s ≡ refuses 15
    unfolding split
    unfit e = rw (there, e, split)

    module _ (fit : is_splittable (held w) s ≡ true) where
      pub full : can_hold w P (vertex w) (new w s) ≡ false → split w P s ≡ refuses 19
      unfolding split
      full e = rw (there, fit, e, split)

      pub splits : can_hold w P (vertex w) (new w s) ≡ true → split w P s ≡ becomes (vertex w) (new w s)
      unfolding split
      splits e = rw (there, fit, e, split)

  -- it refuses by 11, 15 or 19, and a list comes only of a side that may be split, where there is room
  pub refuses_by : {r : ℕ} → split w P s ≡ refuses r → (r ≡ 11) ⊎ ((r ≡ 15) ⊎ (r ≡ 19))
  refuses_by {r} e = go (test (is_there (held w) s)) (test (is_splittable (held w) s)) (test (can_hold w P (vertex w) (new w s)))
    where
      go : Test (is_there (held w) s) → Test (is_splittable (held w) s) → Test (can_hold w P (vertex w) (new w s)) → (r ≡ 11) ⊎ ((r ≡ 15) ⊎ (r ≡ 19))
      go (fail t f) b c = let d = sym (gone f) ∙ e in inl cc
      go (pass t f) (fail u g) c = let d = sym (unfit f g) ∙ e in inr (inl cc)
      go (pass t f) (pass u g) (fail v h) = let d = sym (full f g h) ∙ e in inr (inr cc)
      go (pass t f) (pass u g) (pass v h) = let d = sym (splits f g h) ∙ e in let z : ◌≡◌ {A = ℕ} 0 1 = cc in absurd (omega arith)

  pub record Splits (n : ℕ) (L : List ℕ) : Type 0 where
    pub splittable : Splittable (held w) s
    pub holds : Holds w P (vertex w) (elements (new w s))
    pub same_n : vertex w ≡ n
    pub same_list : new w s ≡ L

  pub becomes_split : {n : ℕ} {L : List ℕ} → split w P s ≡ becomes n L → Splits n L
  becomes_split {n} {L} e = go (test (is_there (held w) s)) (test (is_splittable (held w) s)) (test (can_hold w P (vertex w) (new w s)))
    where
      none : {r : ℕ} → split w P s ≡ refuses r → Splits n L
      none f = let g = sym f ∙ e in let z : ◌≡◌ {A = ℕ} 0 1 = cc in absurd (omega arith)

      go : Test (is_there (held w) s) → Test (is_splittable (held w) s) → Test (can_hold w P (vertex w) (new w s)) → Splits n L
      go (fail t f) b c = none (gone f)
      go (pass t f) (fail u g) c = none (unfit f g)
      go (pass t f) (pass u g) (fail v h) = none (full f g h)
      go (pass t f) (pass u g) (pass v h) =
          let d = sym (splits f g h) ∙ e in
          record {
            splittable = (means_splittable (held w) s).says u;
            holds = (means_hold w P (vertex w) (new w s)).says v;
            same_n = cc;
            same_list = cc;
          }
