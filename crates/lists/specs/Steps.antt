-- A search, and the filling of a list, place by place, as a loop makes them.
-- Assumes nothing.
use Rattle.std.specs.Prelude.{◌≡◌, Bool, true, false, not, List, [], ◌∷◌, ◌++◌, ℕ, suc, ◌+◌, ◌≤◌, ◌<◌, T, length, get_or, set, drop}
use Rattle.std.proofs.Common.{ap, sym, ◌∙◌, add-one, arith, drop-cons}
use Rattle.std.proofs.lemmas.List.{set_at}
use Rattle.std.proofs.Math.Seq.{append_snoc}
use Rattle.std.proofs.lemmas.List.Edits.{sets}
use Rattle.lists.specs.Search.{at, least, tab}
use Rattle.lists.specs.SearchLaws.{least_is, least_one, below_last, length_tab}

-- no place below i has p
abbrev pub None : (ℕ → Bool) → ℕ → Type 0
None p i = (j : ℕ) → j < i → T (not (p j))

pub none_yet : (p : ℕ → Bool) → None p 0
none_yet p j h = absurd (omega arith)

module _ (p : ℕ → Bool) {i : ℕ} (none : None p i) where
  pub none_more : p i ≡ false → None p (i + 1)
  none_more e = rw add-one (below_last (λ j. T (not (p j))) i none (rw e tt))

  -- the search ends at a place that has p, or at its bound
  ends : {n : ℕ} → i ≤ n → (i < n → T (p i)) → i ≡ least p n
  ends {n} h f = least_one p n i (least p n) (record { bound = h; before = none; found = f }) (least_is p n)

  pub found_here : (n : ℕ) → i < n → p i ≡ true → i ≡ least p n
  found_here n h e = ends (omega arith) (λ k. rw e tt)

  pub found_none : (n : ℕ) → i ≡ n → i ≡ least p n
  found_none n h = ends (omega arith) (λ k. absurd (omega arith))

-- tests that agree below n find alike
pub least_same : (p q : ℕ → Bool) (n : ℕ) → ((i : ℕ) → i < n → p i ≡ q i) → least p n ≡ least q n
least_same p q n h =
    let l = least_is q n in
    sym
    (least_one p n (least q n) (least p n)
    (record { bound = l.bound; before = λ j k. rw (h j (omega (arith, l.bound))) (l.before j k); found = λ k. rw (h (least q n) k) (l.found k) })
    (least_is p n))

-- one more entry of a list whose first i entries are those of f
pub tab_set : (f : ℕ → ℕ) (L : List ℕ) (i : ℕ) {W : List ℕ} {v : ℕ} → i < length L → W ≡ tab i f ++ drop i L → v ≡ f i → set W i v ≡ tab (i + 1) f ++ drop (i + 1) L
unfolding tab
tab_set f L i {v} h e g =
    rw (e, g, add-one, drop-cons L i 0)
    (set_at (tab i f) (get_or L i 0) (drop (suc i) L) (f i) i (length_tab i f) ∙ sym (append_snoc (tab i f) (f i) (drop (suc i) L)))

-- several entries more
pub tab_sets : (f : ℕ → ℕ) (L vs : List ℕ) (i : ℕ) {W : List ℕ} → i + length vs ≤ length L → W ≡ tab i f ++ drop i L →
    ((j : ℕ) → j < length vs → at vs j ≡ f (i + j)) → sets W i vs ≡ tab (i + length vs) f ++ drop (i + length vs) L
tab_sets f L [] i h e g = let z : i + 0 ≡ i = omega arith in rw z e
tab_sets f L (v ∷ vs) i h e g =
    let z : suc i + length vs ≡ i + suc (length vs) = omega arith in
    let first : v ≡ f i = let u : i + 0 ≡ i = omega arith in g 0 (omega arith) ∙ ap f u in
    let one = rw add-one at (tab_set f L i (omega arith) e first) in
    tab_sets f L vs (suc i) (omega arith) one (λ j k. let u : i + suc j ≡ suc i + j = omega arith in g (suc j) (omega arith) ∙ ap f u)
    ∙ ap (λ (k : ℕ). tab k f ++ drop k L) z
