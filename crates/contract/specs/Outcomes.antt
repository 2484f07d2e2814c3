-- What follows checks 1 and 2: the old list was tried in the work buffer, which has become W.
-- Assumes nothing.
use Rattle.std.specs.Prelude.{◌≡◌, refl, List, [], ℕ, ◌*◌, ◌≤◌, Float, length, take}
use Rattle.std.proofs.Math.Path.{ap}
use Rattle.std.proofs.Common.{sym, ◌∙◌, arith}
use Rattle.rules.specs.Refusals.{Answer, gives, refused}
use Rattle.edit_rules.specs.Edits.{Edited, Lent, with_work, held, new_answer}
use Rattle.edit_rules.specs.Contract.{contract}
use Rattle.theory.specs.Answers.{gives_refused, given_accepted}
use Rattle.tabulate.specs.Results.{Scratched}
use Rattle.edits.specs.Trying.{number, tabled}
use Rattle.edits.specs.Fronts.{Ready, fitting, checked_front}
use Rattle.edits.specs.Pointed.{old_refused, edit_refused, edit_tried}
use Rattle.contract.specs.Stages.{Admissible, Contractible, Admitted, denied, allowed, ToWrite, Written, closed, Outcome}

-- the front of the list, to p, is what is held
module _ (w : Lent) (P : List Float) (s : ℕ) {c : ℕ} (x : Ready w c × (3 * w.n ≤ length P)) {p : ℕ} (rows : p ≡ 4 * w.m) {t : Answer} {W : List ℕ}
    (tried : Scratched w.n (take p w.list) t w.work W) where
  abbrev w₀ : Lent
  w₀ = with_work w []

  abbrev L : List ℕ
  L = held w

  abbrev edit : Edited
  edit = contract w.n L s

  scratch : Scratched w.n L t w.work W
  scratch = rw rows at tried

  -- the old list is refused
  pub old_denied : {r i j : ℕ} → t ≡ refused r i j → Outcome w P s t w₀ P × (length W ≡ length w.work)
  old_denied e = (old_refused w P edit (closed w P s) scratch.stated e, scratch.long)

  -- or accepted
  module _ {k e : ℕ} (counts : t ≡ gives k e) where
    pub admissible : Admissible w.n k (take p w.list) W
    admissible =
        let y = checked_front w (fitting w x.0) in
        rw rows
        (record {
          accepted = given_accepted w.n L y.sizes (sym scratch.stated ∙ counts);
          number = number y scratch counts;
          tabled = tabled y scratch counts refl;
        })

    -- 11, 15 and 20 are tried, and the work buffer has become W'
    module _ {a : Answer} (admitted : Admitted w.n (take p w.list) s a) {l : ℕ} (long : l ≡ length W) where
      same : l ≡ length w.work
      same = long ∙ scratch.long

      pub new_denied : {r i j : ℕ} → a ≡ refused r i j → Outcome w P s a w₀ P × (l ≡ length w.work)
      unfolding new_answer
      new_denied f = (
        elim as_held [
          | denied d says ↦
              edit_refused w P edit (closed w P s) scratch.stated counts (d ∙ ap (new_answer (length w.border)) (sym says)) f
          | allowed g y ↦ absurd (gives_refused (sym g ∙ f))
        ],
        same,
      )
        where
          as_held : Admitted w.n L s a
          as_held = rw rows at admitted

      -- they find nothing
      may : {i j : ℕ} → a ≡ gives i j → Admitted w.n L s a → Contractible w.n L s i
      may f (denied d says) = absurd (gives_refused (sym f ∙ d))
      may {i} {j} f (allowed {t = u} g y) = let h : gives i j ≡ gives u 0 = sym f ∙ g in let first : i ≡ u = cc in rw first y

      pub new_allowed : {i j : ℕ} {W' : List ℕ} → a ≡ gives i j → l ≡ length W' → ToWrite (with_work w W') P s i c
      new_allowed f e =
          let z = x.0.long in
          record {
            contractible = may f (rw rows at admitted);
            list = z.list;
            columned = z.columned;
            vertices = z.vertices;
            opposites = z.opposites;
            room = omega (arith, z.room, same);
            points = x.1;
          }

  pub all_done : {k e : ℕ} → t ≡ gives k e → {a : Answer} {w' : Lent} {P' : List Float} → Written w₀ P s a w' P' → Outcome w P s a w' P'
  all_done counts z = edit_tried w P edit (closed w P s) scratch.stated counts z.left.answer z.left.leaves z.points
