-- Laws of searching, counting and listing below a bound.
-- Assumes nothing.
use Rattle.std.specs.Prelude.{◌≡◌, refl, Bool, true, false, not, ◌⊎◌, List, [], ◌∷◌, ◌++◌, ℕ, zero, suc, ◌≤◌, ◌<◌, T, ltb, eqb, length, set, replicate}
use Rattle.std.proofs.Common.{ap, sym, subst, ◌∙◌, inl, inr, arith, T_not, nltb→le, length-append, length-set, get_or-set_same, get_or-set_other, ext_get_or}
use Rattle.std.proofs.lemmas.List.{length-replicate, get_or_at}
use Rattle.std.proofs.Math.ListN.{get_or-append}
use Rattle.lists.specs.TestLaws.{Test, pass, fail, test, true_of, false_of, Means, means_lt, means_eq, means_not, means_either, decide}
use Rattle.lists.specs.Tests.{has}
use Rattle.lists.specs.Search.{at, least, count, upto, tab, zeros}

pub lt_or_eq : (j n : ℕ) → j < suc n → (j < n) ⊎ (j ≡ n)
lt_or_eq j n h = go (test (ltb j n))
  where
    go : Test (ltb j n) → (j < n) ⊎ (j ≡ n)
    go (pass t e) = inl ((means_lt j n).says t)
    go (fail t e) = inr (omega (arith, nltb→le j n t))

pub le_not_lt : (a b : ℕ) → (b < a → ⊥) → a ≤ b
le_not_lt a b f = go (test (ltb b a))
  where
    go : Test (ltb b a) → a ≤ b
    go (pass t e) = absurd (f ((means_lt b a).says t))
    go (fail t e) = nltb→le b a t

pub le_or_lt : (a b : ℕ) → (a ≤ b) ⊎ (b < a)
le_or_lt a b = go (test (ltb b a))
  where
    go : Test (ltb b a) → (a ≤ b) ⊎ (b < a)
    go (pass t e) = inr ((means_lt b a).says t)
    go (fail t e) = inl (nltb→le b a t)

-- what holds below n and at n holds below n + 1
pub below_last : (P : ℕ → Type 0) (n : ℕ) → ((j : ℕ) → j < n → P j) → P n → (j : ℕ) → j < suc n → P j
below_last P n f x j h = elim (lt_or_eq j n h) [ inl k ↦ f j k | inr e ↦ subst P (sym e) x ]

-- r is the least number below n with p, or n
pub record Least (p : ℕ → Bool) (n r : ℕ) : Type 0 where
  pub bound : r ≤ n
  pub before : (j : ℕ) → j < r → T (not (p j))
  pub found : r < n → T (p r)

-- one more place: what was found stays; else the new place is tried
least_stays : (p : ℕ → Bool) (n : ℕ) → ltb (least p n) n ≡ true → least p (suc n) ≡ least p n
unfolding least
least_stays p n e = rw (e, least)

least_tried : (p : ℕ → Bool) (n : ℕ) → ltb (least p n) n ≡ false → p n ≡ true → least p (suc n) ≡ n
unfolding least
least_tried p n e f = rw (e, f, least)

least_none : (p : ℕ → Bool) (n : ℕ) → ltb (least p n) n ≡ false → p n ≡ false → least p (suc n) ≡ suc n
unfolding least
least_none p n e f = rw (e, f, least)

least_more : (p : ℕ → Bool) (n : ℕ) → Least p n (least p n) → Least p (suc n) (least p (suc n))
least_more p n l = go (test (ltb (least p n) n)) (test (p n))
  where
    go : Test (ltb (least p n) n) → Test (p n) → Least p (suc n) (least p (suc n))
    go (pass t e) u =
        let h : least p n < n = (means_lt (least p n) n).says t in
        rw (least_stays p n e) (record { bound = omega arith; before = l.before; found = λ k. l.found h })
    go (fail t e) (pass u f) =
        let h : least p n ≡ n = omega (arith, nltb→le (least p n) n t, l.bound) in
        rw (least_tried p n e f) (record { bound = omega arith; before = rw h at l.before; found = λ k. u })
    go (fail t e) (fail u f) =
        let h : least p n ≡ n = omega (arith, nltb→le (least p n) n t, l.bound) in
        let g : (j : ℕ) → j < n → T (not (p j)) = rw h at l.before in
        rw (least_none p n e f)
        (record { bound = omega arith; before = below_last (λ i. T (not (p i))) n g u; found = λ k. absurd (omega arith) })

pub least_is : (p : ℕ → Bool) (n : ℕ) → Least p n (least p n)
unfolding least
least_is p zero = record { bound = omega arith; before = λ j h. absurd (omega arith); found = λ h. absurd (omega arith) }
least_is p (suc n) = least_more p n (least_is p n)

-- two least ones are one
pub least_one : (p : ℕ → Bool) (n a b : ℕ) → Least p n a → Least p n b → a ≡ b
least_one p n a b x y = omega (arith, once a b x y, once b a y x)
  where
    once : (a b : ℕ) → Least p n a → Least p n b → a ≤ b
    once a b x y = le_not_lt a b (λ h. T_not (p b) (x.before b h) (y.found (omega (arith, x.bound))))

-- one more place: counting, listing
pub count_pass : (p : ℕ → Bool) (n : ℕ) → T (p n) → count p (suc n) ≡ suc (count p n)
unfolding count
count_pass p n t = rw (true_of (p n) t, count)

pub count_fail : (p : ℕ → Bool) (n : ℕ) → T (not (p n)) → count p (suc n) ≡ count p n
unfolding count
count_fail p n t = rw (false_of (p n) t, count)

pub upto_pass : (p : ℕ → Bool) (f : ℕ → ℕ) (n : ℕ) → T (p n) → upto p f (suc n) ≡ upto p f n ++ (f n ∷ [])
unfolding upto
upto_pass p f n t = rw (true_of (p n) t, upto)

pub upto_fail : (p : ℕ → Bool) (f : ℕ → ℕ) (n : ℕ) → T (not (p n)) → upto p f (suc n) ≡ upto p f n
unfolding upto
upto_fail p f n t = rw (false_of (p n) t, upto)

-- a larger bound counts no less, and more past a place that passes
pub count_le : (p : ℕ → Bool) (m n : ℕ) → m ≤ n → count p m ≤ count p n
count_le p m zero h = let e : m ≡ 0 = omega arith in rw e (omega arith)
count_le p m (suc n) h = go (test (p n)) (lt_or_eq m (suc n) (omega arith)) (λ k. count_le p m n k)
  where
    go : Test (p n) → (m < suc n) ⊎ (m ≡ suc n) → (m ≤ n → count p m ≤ count p n) → count p m ≤ count p (suc n)
    go t (inr e) r = rw e (omega arith)
    go (pass t e) (inl k) r = omega (arith, r (omega arith), count_pass p n t)
    go (fail t e) (inl k) r = omega (arith, r (omega arith), count_fail p n t)

pub count_lt : (p : ℕ → Bool) (m n : ℕ) → m < n → T (p m) → count p m < count p n
count_lt p m n h t = omega (arith, count_le p (suc m) n h, count_pass p m t)

pub count_bound : (p : ℕ → Bool) (n : ℕ) → count p n ≤ n
unfolding count
count_bound p zero = omega arith
count_bound p (suc n) = go (test (p n)) (count_bound p n)
  where
    go : Test (p n) → count p n ≤ n → count p (suc n) ≤ suc n
    go (pass t e) h = omega (arith, count_pass p n t)
    go (fail t e) h = omega (arith, count_fail p n t)

-- places that pass have numbers of their own
pub count_inj : (p : ℕ → Bool) (i j : ℕ) → T (p i) → T (p j) → count p i ≡ count p j → i ≡ j
count_inj p i j t u e =
    let a : i ≤ j = le_not_lt i j (λ h. omega (arith, count_lt p j i h u)) in
    let b : j ≤ i = le_not_lt j i (λ h. omega (arith, count_lt p i j h t)) in
    omega arith

-- what passes is counted last: the last place that passes
pub count_last : (p : ℕ → Bool) (n : ℕ) → 0 < count p n → (i : ℕ) × (i < n) × T (p i) × (suc (count p i) ≡ count p n)
unfolding count
count_last p zero h = absurd (omega arith)
count_last p (suc n) h = go (test (p n)) (λ k. count_last p n k)
  where
    go : Test (p n) → (0 < count p n → (i : ℕ) × (i < n) × T (p i) × (suc (count p i) ≡ count p n)) → (i : ℕ) × (i < suc n) × T (p i) × (suc (count p i) ≡ count p (suc n))
    go (pass t e) r = (n, (omega arith), t, sym (count_pass p n t))
    go (fail t e) r =
        let f = count_fail p n t in
        let (i, k, u, q) = r (omega arith) in (i, (omega arith), u, (q ∙ sym f))

-- each number below the count is that of a place that passes
pub count_find : (p : ℕ → Bool) (n k : ℕ) → k < count p n → (i : ℕ) × (i < n) × T (p i) × (count p i ≡ k)
unfolding count
count_find p zero k h = absurd (omega arith)
count_find p (suc n) k h = go (test (p n)) (λ g. count_find p n k g)
  where
    go : Test (p n) → (k < count p n → (i : ℕ) × (i < n) × T (p i) × (count p i ≡ k)) → (i : ℕ) × (i < suc n) × T (p i) × (count p i ≡ k)
    go (fail t e) r =
        let f = count_fail p n t in let (i, g, u, q) = r (omega arith) in (i, (omega arith), u, q)
    go (pass t e) r =
        elim (lt_or_eq k (count p n) (omega (arith, count_pass p n t)))
        [ inl g ↦ let (i, l, u, q) = r g in (i, (omega arith), u, q) | inr g ↦ (n, (omega arith), t, sym g) ]

-- where nothing passes from a to b, nothing more is counted
pub count_gap : (p : ℕ → Bool) (a b : ℕ) → a ≤ b → ((i : ℕ) → a ≤ i → i < b → T (p i) → ⊥) → count p b ≡ count p a
count_gap p a b h f =
    let more : count p a ≤ count p b = count_le p a b h in
    let less : count p b ≤ count p a =
    le_not_lt (count p b) (count p a) (λ l.
    let (i, k, t, e) = count_find p b (count p a) l in
    f i (le_not_lt a i (λ m. omega (arith, count_lt p i a m t))) k t) in
    omega arith

-- all places pass
pub count_all : (p : ℕ → Bool) (n : ℕ) → ((i : ℕ) → i < n → T (p i)) → count p n ≡ n
count_all p zero f = omega (arith, count_bound p zero)
count_all p (suc n) f = count_pass p n (f n (omega arith)) ∙ ap suc (count_all p n (λ i h. f i (omega arith)))

-- tests that agree below n count alike and list alike
pub count_same : (p q : ℕ → Bool) (n : ℕ) → ((i : ℕ) → i < n → p i ≡ q i) → count p n ≡ count q n
unfolding count
count_same p q zero h = refl
count_same p q (suc n) h = go (test (q n)) (h n (omega arith)) (count_same p q n (λ i k. h i (omega arith)))
  where
    go : Test (q n) → p n ≡ q n → count p n ≡ count q n → count p (suc n) ≡ count q (suc n)
    go (pass t e) f r = rw (count_pass q n t, count_pass p n (rw f t)) (ap suc r)
    go (fail t e) f r = rw (count_fail q n t, count_fail p n (rw f t)) r

-- a place that no longer passes is counted no longer
pub count_drop : (p q : ℕ → Bool) (n i : ℕ) → i < n → T (p i) → T (not (q i)) → ((j : ℕ) → (j ≡ i → ⊥) → p j ≡ q j) → suc (count q n) ≡ count p n
count_drop p q zero i h t u f = absurd (omega arith)
count_drop p q (suc n) i h t u f = go (test (q n)) (lt_or_eq i n h) (λ k. count_drop p q n i k t u f)
  where
    go : Test (q n) → (i < n) ⊎ (i ≡ n) → (i < n → suc (count q n) ≡ count p n) → suc (count q (suc n)) ≡ count p (suc n)
    go w (inr e) r =
        let same = count_same p q n (λ j k. f j (λ z. omega arith)) in
        rw (count_pass p n (rw e at t), count_fail q n (rw e at u), same)
    go (pass w e) (inl k) r =
        let g = f n (λ z. omega arith) in rw (count_pass q n w, count_pass p n (rw g w)) (ap suc (r k))
    go (fail w e) (inl k) r =
        let g = f n (λ z. omega arith) in rw (count_fail q n w, count_fail p n (rw g w)) (r k)

-- filling an empty place leaves one empty place less
pub zeros_set : (W : List ℕ) (i v : ℕ) → i < length W → at W i ≡ 0 → (v ≡ 0 → ⊥) → suc (zeros (set W i v)) ≡ zeros W
unfolding zeros
zeros_set W i v h z d =
    rw (length-set W i v)
    (count_drop (λ j. eqb (at W j) 0) (λ j. eqb (at (set W i v) j) 0) (length W) i h
    ((means_eq (at W i) 0).shows z)
    ((means_not (means_eq (at (set W i v) i) 0)).shows (λ e. d (sym (get_or-set_same W i v 0 h) ∙ e)))
    (λ j k. ap (λ (x : ℕ). eqb x 0) (sym (get_or-set_other W i j v 0 k))))

pub no_zeros : (W : List ℕ) (i : ℕ) → zeros W ≡ 0 → i < length W → at W i ≡ 0 → ⊥
unfolding zeros
no_zeros W i e h z =
    omega (arith, count_lt (λ j. eqb (at W j) 0) i (length W) h ((means_eq (at W i) 0).shows z))

pub length_upto : (p : ℕ → Bool) (f : ℕ → ℕ) (n : ℕ) → length (upto p f n) ≡ count p n
unfolding upto count
length_upto p f zero = refl
length_upto p f (suc n) = go (test (p n)) (length_upto p f n)
  where
    go : Test (p n) → length (upto p f n) ≡ count p n → length (upto p f (suc n)) ≡ count p (suc n)
    go (pass t e) r = rw (upto_pass p f n t, count_pass p n t, length-append) (omega arith)
    go (fail t e) r = rw (upto_fail p f n t, count_fail p n t) r

-- where a place that passes is listed
pub at_upto : (p : ℕ → Bool) (f : ℕ → ℕ) (n i : ℕ) → i < n → T (p i) → at (upto p f n) (count p i) ≡ f i
at_upto p f zero i h t = absurd (omega arith)
at_upto p f (suc n) i h t = go (test (p n)) (lt_or_eq i n h) (λ k. at_upto p f n i k t)
  where
    go : Test (p n) → (i < n) ⊎ (i ≡ n) → (i < n → at (upto p f n) (count p i) ≡ f i) → at (upto p f (suc n)) (count p i) ≡ f i
    go (pass u e) (inl k) r =
        rw (upto_pass p f n u, get_or-append (upto p f n) (f n ∷ []) 0 (count p i) (omega (arith, count_lt p i n k t, length_upto p f n))) (r k)
    go (pass u e) (inr k) r =
        rw (upto_pass p f n u) (get_or_at (upto p f n) (f n) [] 0 (count p i) (length_upto p f n ∙ ap (count p) (sym k)) ∙ ap f (sym k))
    go (fail u e) (inl k) r = rw (upto_fail p f n u) (r k)
    go (fail u e) (inr k) r = absurd (T_not (p n) u (subst (λ (j : ℕ). T (p j)) k t))

pub length_tab : (n : ℕ) (f : ℕ → ℕ) → length (tab n f) ≡ n
unfolding tab
length_tab zero f = refl
length_tab (suc n) f = rw (length-append, length_tab n f) (omega arith)

pub at_tab : (n : ℕ) (f : ℕ → ℕ) (i : ℕ) → i < n → at (tab n f) i ≡ f i
unfolding tab
at_tab zero f i h = absurd (omega arith)
at_tab (suc n) f i h = go (lt_or_eq i n h) (λ k. at_tab n f i k)
  where
    go : (i < n) ⊎ (i ≡ n) → (i < n → at (tab n f) i ≡ f i) → at (tab n f ++ (f n ∷ [])) i ≡ f i
    go (inl k) r = rw (get_or-append (tab n f) (f n ∷ []) 0 i (omega (arith, length_tab n f))) (r k)
    go (inr k) r = get_or_at (tab n f) (f n) [] 0 i (length_tab n f ∙ sym k) ∙ ap f (sym k)

-- a list with these entries is the table, and functions that agree below n make one table
pub is_tab : (n : ℕ) (f : ℕ → ℕ) (xs : List ℕ) → length xs ≡ n → ((i : ℕ) → i < n → at xs i ≡ f i) → xs ≡ tab n f
is_tab n f xs l h =
    ext_get_or 0 xs (tab n f) (l ∙ sym (length_tab n f)) (λ i k. h i (omega arith) ∙ sym (at_tab n f i (omega arith)))

pub tab_same : (n : ℕ) (f g : ℕ → ℕ) → ((i : ℕ) → i < n → f i ≡ g i) → tab n f ≡ tab n g
tab_same n f g h = is_tab n g (tab n f) (length_tab n f) (λ i l. at_tab n f i l ∙ h i l)

-- x stands in the list o; it does or it doesn't
abbrev pub Met : List ℕ → ℕ → Type 0
Met o x = (i : ℕ) × (i < length o) × (at o i ≡ x)

pub member : (o : List ℕ) (x : ℕ) → Met o x ⊎ ((i : ℕ) → i < length o → at o i ≡ x → ⊥)
member [] x = inr (λ i h e. omega arith)
member (y ∷ o) x = go (decide (means_eq y x)) (member o x)
  where
    go : (y ≡ x) ⊎ (y ≡ x → ⊥) → Met o x ⊎ ((i : ℕ) → i < length o → at o i ≡ x → ⊥) → Met (y ∷ o) x ⊎ ((i : ℕ) → i < suc (length o) → at (y ∷ o) i ≡ x → ⊥)
    go (inl e) r = inl (0, (omega arith), e)
    go (inr d) (inl (i, h, e)) = inl (suc i, (omega arith), e)
    go (inr d) (inr f) = inr (λ i. elim i as (λ j. j < suc (length o) → at (y ∷ o) j ≡ x → ⊥) [ zero ↦ λ h e. d e | suc j ↦ λ h e. f j (omega arith) e ])

pub means_has : (o : List ℕ) (x : ℕ) → Means (has o x) (Met o x)
unfolding has
means_has [] x = record { says = λ t. absurd t; shows = λ (i, h, e). absurd (omega arith) }
means_has (y ∷ o) x =
    let first = means_either (means_eq y x) (means_has o x) in
    record { says = λ t. says (first.says t); shows = λ (i, h, e). first.shows (shows i h e) }
  where
    says : (y ≡ x) ⊎ Met o x → Met (y ∷ o) x
    says (inl e) = (0, (omega arith), e)
    says (inr (i, h, e)) = (suc i, (omega arith), e)

    shows : (i : ℕ) → i < suc (length o) → at (y ∷ o) i ≡ x → (y ≡ x) ⊎ Met o x
    shows zero h e = inl e
    shows (suc i) h e = inr (i, (omega arith), e)

pub at_blank : (n i : ℕ) → at (replicate n 0) i ≡ 0
at_blank zero i = refl
at_blank (suc n) zero = refl
at_blank (suc n) (suc i) = at_blank n i

pub zeros_blank : (k : ℕ) → zeros (replicate k 0) ≡ k
unfolding zeros
zeros_blank k =
    rw (length-replicate {A = ℕ} k 0)
    (count_all (λ i. eqb (at (replicate k 0) i) 0) k (λ i h. (means_eq (at (replicate k 0) i) 0).shows (at_blank k i)))
