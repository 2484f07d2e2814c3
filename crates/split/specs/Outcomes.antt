-- What follows checks 1 and 2: the old list was tried in the work buffer, which has become W.
-- Assumes nothing.
use Rattle.std.specs.Prelude.{◌≡◌, refl, Bool, List, [], ℕ, ◌*◌, Float, length, take}
use Rattle.std.proofs.Math.Path.{ap, sym}
use Rattle.std.proofs.Common.{◌∙◌}
use Rattle.lists.specs.TestLaws.{Test, pass, fail, test}
use Rattle.rules.specs.Elements.{elements}
use Rattle.rules.specs.Tables.{columns}
use Rattle.rules.specs.Refusals.{Answer, gives, refused}
use Rattle.edit_rules.specs.Edits.{Lent, with_work, new_answer, is_there, held, written}
use Rattle.edit_rules.specs.Split.{is_splittable, can_hold, split, placed}
use Rattle.theory.specs.Answers.{gives_refused, given_accepted}
use Rattle.theory.specs.SplitTests.{vertex, new, gone, unfit, full, splits}
use Rattle.tabulate.specs.Results.{Scratched}
use Rattle.edits.specs.Trying.{number, tabled}
use Rattle.edits.specs.Pointed.{old_refused, edit_refused, edit_made}
use Rattle.edits.specs.Fronts.{Ready, fitting, checked_front}
use Rattle.split.specs.Testing.{holds_by, can_hold_by}
use Rattle.split.specs.Stages.{Admissible, ToWrite, Admitted, denied, allowed, Written, Outcome}

-- of the work buffer, the edit reads the length only
module _ (w : Lent) (P : List Float) (s : ℕ) (W : List ℕ) (long : length W ≡ length w.work) where
  can_hold_alike : (n : ℕ) (L : List ℕ) → can_hold (with_work w W) P n L ≡ can_hold w P n L
  can_hold_alike n L =
      let test = holds_by n (elements L) (columns (held w)) (length w.list) (length w.vertices) (length w.opposites) (length P) in
      sym (can_hold_by (with_work w W) P n L refl refl) ∙ ap test long ∙ can_hold_by w P n L refl refl

  split_alike : split (with_work w W) P s ≡ split w P s
  split_alike = go (test (is_there (held w) s)) (test (is_splittable (held w) s)) (test (can_hold w P (vertex w) (new w s)))
    where
      same : {b : Bool} → can_hold w P (vertex w) (new w s) ≡ b → can_hold (with_work w W) P (vertex w) (new w s) ≡ b
      same e = can_hold_alike (vertex w) (new w s) ∙ e

      go : Test (is_there (held w) s) → Test (is_splittable (held w) s) → Test (can_hold w P (vertex w) (new w s)) → split (with_work w W) P s ≡ split w P s
      go (fail t f) b c = gone (with_work w W) P s f ∙ sym (gone w P s f)
      go (pass t f) (fail u g) c = unfit (with_work w W) P s f g ∙ sym (unfit w P s f g)
      go (pass t f) (pass u g) (fail v h) = full (with_work w W) P s f g (same h) ∙ sym (full w P s f g h)
      go (pass t f) (pass u g) (pass v h) = splits (with_work w W) P s f g (same h) ∙ sym (splits w P s f g h)

-- the front of the list, to p, is what is held
module _ (w : Lent) (P : List Float) (s : ℕ) {c : ℕ} (x : Ready w c) {p : ℕ} (rows : p ≡ 4 * w.m) {t : Answer} {W : List ℕ}
    (tried : Scratched w.n (take p w.list) t w.work W) where
  abbrev w₀ : Lent
  w₀ = with_work w []

  scratch : Scratched w.n (held w) t w.work W
  scratch = rw rows at tried

  -- the old list is refused
  pub old_denied : {r i j : ℕ} → t ≡ refused r i j → Outcome w P s t w₀ P × (length W ≡ length w.work)
  old_denied e = (old_refused w P (split w P s) (placed w P s) scratch.stated e, scratch.long)

  -- or accepted
  module _ {k e : ℕ} (counts : t ≡ gives k e) where
    pub admissible : Admissible w.n w.m c k w.list W
    admissible =
        let y = checked_front w (fitting w x) in
        record {
          accepted = given_accepted w.n (held w) y.sizes (sym scratch.stated ∙ counts);
          inside = x.long.list;
          number = number y scratch counts;
          tabled = tabled y scratch counts refl;
          columned = x.long.columned;
        }

    abbrev w₁ : Lent
    w₁ = with_work w W

    same_edit : split w₁ P s ≡ split w P s
    same_edit = split_alike w P s W scratch.long

    -- what is said then is said of the edit
    by_edit : {a : Answer} → a ≡ new_answer (length w.border) (split w₁ P s) → a ≡ new_answer (length w.border) (split w P s)
    by_edit e = e ∙ ap (new_answer (length w.border)) same_edit

    -- 11, 15, 19 or 9
    pub new_denied : {a : Answer} {r i j : ℕ} → a ≡ refused r i j → Admitted w₁ P s a → Outcome w P s a w₀ P × (length W ≡ length w.work)
    new_denied f (denied d said) = (edit_refused w P (split w P s) (placed w P s) scratch.stated counts (by_edit said) f, scratch.long)
    new_denied f (allowed g y) = absurd (gives_refused (sym g ∙ f))

    -- none of these
    pub new_allowed : {a : Answer} {i j : ℕ} → a ≡ gives i j → Admitted w₁ P s a → ToWrite w₁ P s i j
    new_allowed f (denied d said) = absurd (gives_refused (sym f ∙ d))
    new_allowed {i = i} {j = j} f (allowed {t = u} {m' = m'} g y) =
        let h : gives i j ≡ gives u m' = sym f ∙ g in
        let first : i ≡ u = cc in
        let second : j ≡ m' = cc in rw (first, second) y

    pub all_done : {i j : ℕ} → ToWrite w₁ P s i j → {a : Answer} {w' : Lent} {P' : List Float} → Written w₀ P s a w' P' → Outcome w P s a w' P'
    unfolding new_answer
    all_done y z =
        let edit = sym same_edit ∙ y.edit in
        edit_made w P (split w P s) (placed w P s) scratch.stated counts (z.stated ∙ ap (new_answer (length w.border)) (sym edit))
        z.answer (z.leaves ∙ ap (written w₀) (sym edit)) z.points
