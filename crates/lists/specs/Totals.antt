-- Counting by what is counted: the counts of the values of a function add up, and a list that names each of some numbers once is as long as
-- they are many.
-- Assumes nothing.
use Rattle.std.specs.Prelude.{◌≡◌, Bool, true, not, ◌⊎◌, List, [], ◌∷◌, ◌++◌, T, eqb, length}
use Rattle.std.proofs.Math.Path.{refl}
use Rattle.std.proofs.Common.{ap, sym, ◌∙◌, arith, T_not}
use Rattle.std.proofs.Math.Logic.{inl, inr}
use Prim.Native.Nat.{ℕ, zero, suc, ◌+◌, ◌-◌, ◌≤◌, ◌<◌}
use Rattle.std.proofs.Math.Dec.{not_T}
use Rattle.lists.specs.Tests.{both, within}
use Rattle.lists.specs.TestLaws.{Test, pass, fail, test, false_of, Means, means_both, means_not, means_itself, means_eq, means_within}
use Rattle.lists.specs.Search.{at, count, tab, total}
use Rattle.lists.specs.SearchLaws.{lt_or_eq, count_pass, count_fail, count_le, count_all, count_gap, count_drop, Met}

-- what passes p passes exactly one of q and r
module _ (p q r : ℕ → Bool) where
  pub record Parted (i : ℕ) : Type 0 where
    pub whole : Means (p i) (T (q i) ⊎ T (r i))
    pub once : T (q i) → T (r i) → ⊥

  pub count_parted : (n : ℕ) → ((i : ℕ) → i < n → Parted i) → count p n ≡ count q n + count r n
  unfolding count
  count_parted zero f = refl
  count_parted (suc n) f = go (test (p n)) (test (q n)) (test (r n)) (f n (omega arith)) (count_parted n (λ i h. f i (omega arith)))
    where
      go : Test (p n) → Test (q n) → Test (r n) → Parted n → count p n ≡ count q n + count r n → count p (suc n) ≡ count q (suc n) + count r (suc n)
      go a (pass u e) (pass v f) x h = absurd (x.once u v)
      go (pass t d) (pass u e) (fail v f) x h = omega (arith, count_pass p n t, count_pass q n u, count_fail r n v)
      go (pass t d) (fail u e) (pass v f) x h = omega (arith, count_pass p n t, count_fail q n u, count_pass r n v)
      go (fail t d) (fail u e) (fail v f) x h = omega (arith, count_fail p n t, count_fail q n u, count_fail r n v)
      go (fail t d) (pass u e) (fail v f) x h = absurd (T_not (p n) t (x.whole.shows (inl u)))
      go (fail t d) (fail u e) (pass v f) x h = absurd (T_not (p n) t (x.whole.shows (inr v)))
      go (pass t d) (fail u e) (fail v f) x h = elim (x.whole.says t) [ inl w ↦ absurd (T_not (q n) u w) | inr w ↦ absurd (T_not (r n) v w) ]

-- where every place passes one of two tests, they count no more than the places exactly where none passes both
module _ (p q : ℕ → Bool) where
  count_cover : (n : ℕ) → ((i : ℕ) → i < n → T (p i) ⊎ T (q i)) → n ≤ count p n + count q n
  count_cover zero f = omega arith
  count_cover (suc n) f = go (f n (omega arith)) (count_cover n (λ i h. f i (omega arith)))
    where
      go : T (p n) ⊎ T (q n) → n ≤ count p n + count q n → suc n ≤ count p (suc n) + count q (suc n)
      go (inl t) r = omega (arith, r, count_pass p n t, count_le q n (suc n) (omega arith))
      go (inr t) r = omega (arith, r, count_pass q n t, count_le p n (suc n) (omega arith))

  pub count_apart : (n : ℕ) → ((i : ℕ) → i < n → T (p i) ⊎ T (q i)) → count p n + count q n ≤ n → (i : ℕ) → i < n → T (p i) → T (q i) → ⊥
  count_apart (suc n) f e i h t u =
      go (lt_or_eq i n h) (count_cover n below) (λ l k. count_apart n below l i k t u) (f n (omega arith))
    where
      below : (i : ℕ) → i < n → T (p i) ⊎ T (q i)
      below i h = f i (omega arith)

      go : (i < n) ⊎ (i ≡ n) → n ≤ count p n + count q n → (count p n + count q n ≤ n → i < n → ⊥) → T (p n) ⊎ T (q n) → ⊥
      go (inr z) r rest s = omega (arith, count_pass p n (rw z at t), count_pass q n (rw z at u))
      go (inl k) r rest (inl s) = rest (omega (arith, count_pass p n s, count_le q n (suc n) (omega arith))) k
      go (inl k) r rest (inr s) = rest (omega (arith, count_pass q n s, count_le p n (suc n) (omega arith))) k
  count_apart zero f e i h t u = omega arith

  pub count_parts : (n : ℕ) → ((i : ℕ) → i < n → T (p i) ⊎ T (q i)) → ((i : ℕ) → i < n → T (p i) → T (q i) → ⊥) → count p n + count q n ≡ n
  count_parts n f g =
      sym (count_parted (λ i. true) p q n (λ i h. record { whole = record { says = λ t. f i h; shows = λ t. tt }; once = g i h }))
      ∙ count_all (λ i. true) n (λ i h. tt)

pub total_last : (xs : List ℕ) (x : ℕ) → total (xs ++ (x ∷ [])) ≡ total xs + x
unfolding total
total_last [] x = omega arith
total_last (y ∷ xs) x = omega (arith, total_last xs x)

-- how often each of 1 to h is a value of f below n: together, how often one of them is
pub count_by : (f : ℕ → ℕ) (n h : ℕ) → total (tab h (λ i. count (λ j. eqb (f j) (i + 1)) n)) ≡ count (λ j. within 1 h (f j)) n
unfolding tab total count
count_by f n zero = sym (count_gap (λ j. within 1 0 (f j)) 0 n (omega arith) (λ j a b t. omega (arith, (means_within 1 0 (f j)).says t)))
count_by f n (suc h) =
    total_last (tab h (λ i. count (λ j. eqb (f j) (i + 1)) n)) (count (λ j. eqb (f j) (h + 1)) n)
    ∙ ap (λ (x : ℕ). x + count (λ j. eqb (f j) (h + 1)) n) (count_by f n h)
    ∙ sym (count_parted (λ j. within 1 (suc h) (f j)) (λ j. within 1 h (f j)) (λ j. eqb (f j) (h + 1)) n (λ j l. parted j))
  where
    parted : (j : ℕ) → Parted (λ j. within 1 (suc h) (f j)) (λ j. within 1 h (f j)) (λ j. eqb (f j) (h + 1)) j
    parted j =
        record {
          whole = record { says = λ t. says ((means_within 1 (suc h) (f j)).says t); shows = shows };
          once = λ t u. omega (arith, (means_within 1 h (f j)).says t, (means_eq (f j) (h + 1)).says u);
        }
      where
        says : (1 ≤ f j) × (f j ≤ suc h) → T (within 1 h (f j)) ⊎ T (eqb (f j) (h + 1))
        says (a, b) =
            elim (lt_or_eq (f j) (suc h) (omega arith))
            [ inl l ↦ inl ((means_within 1 h (f j)).shows (a, omega arith)) | inr e ↦ inr ((means_eq (f j) (h + 1)).shows (omega arith)) ]

        shows : T (within 1 h (f j)) ⊎ T (eqb (f j) (h + 1)) → T (within 1 (suc h) (f j))
        shows (inl t) = (means_within 1 (suc h) (f j)).shows (omega (arith, (means_within 1 h (f j)).says t))
        shows (inr t) = (means_within 1 (suc h) (f j)).shows (omega (arith, (means_eq (f j) (h + 1)).says t))

-- bs names each of the numbers 1 to k with the test t, and no other, and none twice
pub record Names (k : ℕ) (t : ℕ → Bool) (bs : List ℕ) : Type 0 where
  pub once : (i j : ℕ) → i < length bs → j < length bs → at bs i ≡ at bs j → i ≡ j
  pub passing : (c : ℕ) → Met bs c → ((1 ≤ c) × (c ≤ k)) × T (t c)
  pub all : (c : ℕ) → (1 ≤ c) × (c ≤ k) → T (t c) → Met bs c

pub names_count : (k : ℕ) (t : ℕ → Bool) (bs : List ℕ) → Names k t bs → length bs ≡ count (λ j. t (j + 1)) k
unfolding count
names_count k t [] x =
    sym (count_gap (λ j. t (j + 1)) 0 k (omega arith)
    (λ j a b u. let (i, h, e) = x.all (j + 1) (omega arith, omega arith) u in omega arith))
names_count k t (b ∷ bs) x =
    ap suc (names_count k others bs rest)
    ∙ count_drop (λ j. t (j + 1)) (λ j. others (j + 1)) k (b - 1) (omega (arith, here.0)) (rw back here.1) (rw back left) same
  where
    others : ℕ → Bool
    others c = both (not (eqb c b)) (t c)

    here : ((1 ≤ b) × (b ≤ k)) × T (t b)
    here = x.passing b (0, omega arith, refl)

    back : b - 1 + 1 ≡ b
    back = omega (arith, here.0)

    means_others : (c : ℕ) → Means (others c) ((c ≡ b → ⊥) × T (t c))
    means_others c = means_both (means_not (means_eq c b)) (means_itself (t c))

    left : T (not (others b))
    left = not_T (others b) (λ u. ((means_others b).says u).0 refl)

    same : (j : ℕ) → (j ≡ b - 1 → ⊥) → t (j + 1) ≡ others (j + 1)
    same j d = rw (false_of (eqb (j + 1) b) ((means_not (means_eq (j + 1) b)).shows (λ e. d (omega (arith, back))))) refl

    rest : Names k others bs
    rest =
        record {
          once = λ i j h l e. let z = x.once (suc i) (suc j) (omega arith) (omega arith) e in omega arith;
          passing = λ c (i, h, e).
              let (n, u) = x.passing c (suc i, omega arith, e) in
              (n, (means_others c).shows ((λ f. omega (arith, x.once (suc i) 0 (omega arith) (omega arith) (e ∙ f))), u));
          all = λ c n u. let (d, v) = (means_others c).says u in other c d (x.all c n v);
        }
      where
        other : (c : ℕ) → (c ≡ b → ⊥) → Met (b ∷ bs) c → Met bs c
        other c d (zero, h, e) = absurd (d (sym e))
        other c d (suc i, h, e) = (i, omega arith, e)
