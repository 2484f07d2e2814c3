-- The parts of a text as they are passed: the head, the faces, and the whole.
-- Assumes nothing.
use Rattle.std.specs.Prelude.{◌≡◌, Option, Some, None, Result, Ok, Err, Bool, true, false, List, ℕ, suc, ◌+◌, ◌*◌, ◌-◌, ◌≤◌, ◌<◌, T, length, drop}
use Rattle.std.proofs.Math.Path.{refl, ap}
use Rattle.std.proofs.Common.{sym, subst, ◌∙◌, inl, inr, add-one, arith}
use Rattle.std.proofs.Math.Bool.{not}
use Rattle.lists.specs.Tests.{within}
use Rattle.lists.specs.SearchLaws.{lt_or_eq}
use Rattle.lists.specs.TestLaws.{Test, pass, fail, test}
use Rattle.theory.specs.Least.{FirstNumber, number_is}
use Rattle.off_rules.specs.Off.{Item, items, word, number_of, the_n, the_m, face_item, corners, is_good, in_form, unfit_face}
use Rattle.off_items.specs.Parting.{rest}
use Rattle.off_items.specs.Reading.{is_of, value_of, IsNext, NoNext, Passes, Stops}
use Rattle.off_items.specs.declared.Kind.TheVariants.{Whole, Decimal}
use Rattle.off_items.specs.declared.Found.{Found}
use Rattle.off.specs.Passing.{one_passed, one_stopped, pass_cut, pass_join, pass_join_cut}
use Rattle.off.specs.Judging.{Read, BadAt, first_left, read_on, read_bad, face_least, face_later, good_decimal, good_whole}
use Rattle.off.specs.declared.Head.{Head}
use Rattle.off.specs.declared.Faces.{Faces}
use Rattle.off.specs.declared.Judged.{Judged}

-- a corner count and as many corners
pub record IsFace (t : List ℕ) (p : ℕ) (f : Found) : Type 0 where
  pub passed : Passes Whole t p (1 + number_of (word (rest t p) 0)) f.end
  pub value : f.value ≡ number_of (word (rest t p) 0)

abbrev pub FaceRead : List ℕ → ℕ → Result Found ℕ → Type 0
FaceRead t p (Ok f) = IsFace t p f
FaceRead t p (Err q) = Stops Whole t p (1 + number_of (word (rest t p) 0)) q

-- the first unfit face, with one face more
unfoldable pub unfit_after : Option ℕ → ℕ → ℕ → Option ℕ
unfit_after None f corners = elim (within 3 4 corners) [ true ↦ None | false ↦ Some f ]
unfit_after (Some g) f corners = Some g

-- the first unfit face of f faces
abbrev pub Unfit : ℕ → (ℕ → Bool) → Option ℕ → Type 0
Unfit f p None = FirstNumber f p 0
Unfit f p (Some g) = (1 ≤ g) × FirstNumber f p g

-- and of a text
abbrev pub IsUnfit : List Item → Option ℕ → Type 0
IsUnfit x None = unfit_face x ≡ 0
IsUnfit x (Some g) = (1 ≤ g) × (g ≡ unfit_face x)

-- what is said of the head, of the faces and of the text, where all their items are good
pub record HeadRead (t : List ℕ) (r : Head) : Type 0 where
  pub read : Read t 4 r.end
  pub n : (r.n ≡ the_n (items t)) × (r.n < 10_000_000)
  pub m : r.m ≡ the_m (items t)

pub record FacesRead (t : List ℕ) (r : Faces) : Type 0 where
  pub read : Read t (face_item (items t) (the_m (items t))) r.end
  pub unfit : IsUnfit (items t) r.unfit

-- a text in form
pub record Form (t : List ℕ) (r : Judged) : Type 0 where
  pub form : in_form (items t) ≡ true
  pub n : r.n ≡ the_n (items t)
  pub m : r.m ≡ the_m (items t)
  pub unfit : IsUnfit (items t) r.unfit
  pub inside : r.faces ≤ length t
  pub left : rest t r.faces ≡ drop (face_item (items t) 0) (items t)

-- a corner count that is no whole number
pub face_bad : {t : List ℕ} {p q : ℕ} → NoNext Whole t p q → Stops Whole t p (1 + number_of (word (rest t p) 0)) q
face_bad y = pass_cut (one_stopped y) (omega arith)

-- one that is, and as many corners
module _ {t : List ℕ} {p : ℕ} {count : Found} (y : IsNext Whole t p count) where
  counted : count.value ≡ number_of (word (rest t p) 0)
  unfolding value_of
  counted = y.value

  pub face_on : {a : ℕ} → Passes Whole t count.end count.value a → IsFace t p (record { value = count.value; end = a })
  face_on {a} x =
      record { passed = pass_join (one_passed y) (subst (λ (k : ℕ). Passes Whole t count.end k a) counted x); value = counted }

  pub face_cut : {q : ℕ} → Stops Whole t count.end count.value q → Stops Whole t p (1 + number_of (word (rest t p) 0)) q
  face_cut {q} x = pass_join_cut (one_passed y) (subst (λ (k : ℕ). Stops Whole t count.end k q) counted x)

-- an unfit face
abbrev pub is_unfit : List Item → ℕ → Bool
is_unfit x f = not (within 3 4 (corners x f))

module _ (x : List Item) (f : ℕ) {c : ℕ} (next : c ≡ corners x (f + 1)) where
  -- nobody up to f, and f + 1 by its corners
  more : ((v : ℕ) → 1 ≤ v → v ≤ f → T (not (is_unfit x v))) → is_unfit x (f + 1) ≡ false → (v : ℕ) → 1 ≤ v → v ≤ f + 1 → T (not (is_unfit x v))
  more none e v l h = elim (lt_or_eq v (f + 1) (omega arith)) [ inl m ↦ none v l (omega arith) | inr q ↦ rw (q, e) tt ]

  told : is_unfit x (f + 1) ≡ not (within 3 4 c)
  told = ap (λ (k : ℕ). not (within 3 4 k)) (sym next)

  pub unfit_more : (unfit : Option ℕ) → Unfit f (is_unfit x) unfit → Unfit (f + 1) (is_unfit x) (unfit_after unfit (f + 1) c)
  unfolding unfit_after
  unfit_more (Some g) (l, FirstNumber.somebody a b u none) = (l, FirstNumber.somebody a (omega arith) u none)
  unfit_more (Some g) (l, FirstNumber.nobody z none) = absurd (omega arith)
  unfit_more None (FirstNumber.somebody a b u none) = absurd (omega arith)
  unfit_more None (FirstNumber.nobody z none) = go (test (within 3 4 c))
    where
      go : Test (within 3 4 c) → Unfit (f + 1) (is_unfit x) (unfit_after None (f + 1) c)
      go (pass u e) = rw (e, unfit_after) (FirstNumber.nobody refl (more none (told ∙ ap not e)))
      go (fail u e) =
          rw (e, unfit_after)
          (omega arith, FirstNumber.somebody (omega arith) (omega arith) (rw (told ∙ ap not e) tt) (λ v l h. none v l (omega arith)))

-- face f + 1 of a text was read
module _ {t : List ℕ} {f p : ℕ} (x : Read t (face_item (items t) f) p) (h : f < the_m (items t)) where
  count_there : number_of (word (rest t p) 0) ≡ number_of (word (items t) (face_item (items t) f))
  count_there = ap (λ (i : Item). number_of i.bytes) (first_left x)

  next_face : face_item (items t) f + (1 + number_of (word (rest t p) 0)) ≡ face_item (items t) (suc f)
  unfolding face_item
  next_face = omega (arith, count_there)

  within_faces : face_item (items t) (suc f) ≤ face_item (items t) (the_m (items t))
  within_faces = face_later (items t) (suc f) (the_m (items t)) h

  whole : (j : ℕ) → j < 1 + number_of (word (rest t p) 0) →
      is_good (items t) (face_item (items t) f + j) ≡ is_of Whole (word (items t) (face_item (items t) f + j))
  unfolding is_of
  whole j l =
      let least = face_least (items t) f in
      good_whole (items t) (face_item (items t) f + j) (omega arith) (inr (omega arith)) (omega (arith, next_face, within_faces))

  pub faces_bad : {q : ℕ} → Stops Whole t p (1 + number_of (word (rest t p) 0)) q → BadAt t q
  faces_bad y = read_bad x Whole whole y (omega (arith, next_face, within_faces))

  module _ {r : Found} (y : IsFace t p r) where
    pub faces_on : Read t (face_item (items t) (f + 1)) r.end
    faces_on = rw (add-one, ← next_face) (read_on x Whole whole y.passed)

    pub faces_count : r.value ≡ corners (items t) (f + 1)
    faces_count =
        let z : f ≡ f + 1 - 1 = omega arith in
        y.value ∙ count_there ∙ ap (λ (i : ℕ). number_of (word (items t) (face_item (items t) i))) z

pub unfit_none : (x : List Item) → Unfit 0 (is_unfit x) None
unfit_none x = FirstNumber.nobody refl (λ v l h. absurd (omega arith))

-- all faces were read
pub unfit_read : (x : List Item) {f : ℕ} (unfit : Option ℕ) → f ≡ the_m x → Unfit f (is_unfit x) unfit → IsUnfit x unfit
unfolding unfit_face
unfit_read x {f} None all y = rw (← all) (number_is f (is_unfit x) 0 y)
unfit_read x {f} (Some g) all y = (y.0, rw (← all) (sym (number_is f (is_unfit x) g y.1)))

pub faces_read : {t : List ℕ} {f p : ℕ} (unfit : Option ℕ) → f ≡ the_m (items t) → Read t (face_item (items t) f) p → Unfit f (is_unfit (items t)) unfit →
    FacesRead t (record { unfit = unfit; end = p })
faces_read {t} unfit all x y = record { read = rw (← all) x; unfit = unfit_read (items t) unfit all y }

-- the numbers of the vertices
module _ {t : List ℕ} {p n : ℕ} (x : Read t 4 p) (count : n ≡ the_n (items t)) where
  decimal : (j : ℕ) → j < 3 * n → is_good (items t) (4 + j) ≡ is_of Decimal (word (items t) (4 + j))
  unfolding is_of
  decimal j l = good_decimal (items t) (4 + j) (omega arith) (omega arith)

  pub vertices_read : {a : ℕ} → Passes Decimal t p (3 * n) a → Read t (face_item (items t) 0) a
  unfolding face_item
  vertices_read y = rw (← count) (read_on x Decimal decimal y)

  pub vertices_bad : {q : ℕ} → Stops Decimal t p (3 * n) q → BadAt t q
  vertices_bad y = read_bad x Decimal decimal y (omega (arith, face_least (items t) (the_m (items t))))
