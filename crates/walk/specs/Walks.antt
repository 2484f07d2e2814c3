-- The walk in the work buffer, vertex by vertex.
-- Assumes nothing.
use Rattle.std.specs.Prelude.{◌≡◌, List, ◌++◌, length, take, drop}
use Rattle.std.proofs.Math.Path.{refl, ap}
use Rattle.std.proofs.Common.{sym, ◌∙◌, get_or-take, take-take}
use Prim.Native.Nat.{ℕ, suc, ◌+◌, ◌*◌, ◌-◌, ◌≤◌, ◌<◌}
use native.Mathlib.Omega.{arith}
use Rattle.std.proofs.Math.Numerals.{add-one}
use Rattle.std.proofs.Math.ListN.{replicate}
use Rattle.std.proofs.lemmas.List.{length-replicate}
use Rattle.lists.specs.Search.{at}
use Rattle.lists.specs.Parts.{part, length_part, put_take, put_drop, put_length}
use Rattle.rules.specs.Recovery.{side_of_border, walk_start, walk_to}
use Rattle.walk.specs.Layout.{Sizes, tables, written, v2e_in, e2e_in, Linked, Traced, Walking}
use Rattle.walk.specs.Sides.{e_length}
use Rattle.walk.specs.Traces.{e_kept}

module _ (n m : ℕ) (w w' : List ℕ) (z : Sizes n m w) (long : length w' ≡ length w) (kept : tables n m w' ≡ tables n m w) where
  pub kept_at : (i : ℕ) → i < n + 8 * m → at w' i ≡ at w i
  kept_at i h = sym (get_or-take (n + 8 * m) w' i 0 h) ∙ ap (λ (l : List ℕ). at l i) kept ∙ get_or-take (n + 8 * m) w i 0 h

  pub kept_linked : Linked n m w → Linked n m w'
  kept_linked f b from to =
      kept_at (n + 4 * m + b - 1) (omega arith) ∙ f b from to ∙ ap (λ (E : List ℕ). side_of_border E (8 * b)) (sym (e_kept n m w w' z long kept))

-- on the way, with the vertices 1 to v walked about
pub record Walks (n m v : ℕ) (w w' : List ℕ) : Type 0 where
  pub sizes : Sizes n m w'
  pub linked : Linked n m w'
  pub walked : Walking n m v w w'
  pub in_range : v ≤ n

module _ {n m v : ℕ} {w w' : List ℕ} (k : Walks n m v w w') where
  same : e2e_in n m w' ≡ e2e_in n m w
  same = sym (e_kept n m w' w k.sizes (sym k.walked.long) (sym k.walked.kept))

  -- the entry of the next vertex
  entry : v < n → at w' v ≡ at (v2e_in n w) v
  entry h =
      sym (kept_at n m w' w k.sizes (sym k.walked.long) (sym k.walked.kept) v (omega arith))
      ∙ sym (get_or-take n w v 0 h)

  pub walks_on : v < n → {s : ℕ} {w'' : List ℕ} → s ≡ walk_start (e2e_in n m w') (at w' (v + 1 - 1)) → Traced n m (v + 1) s w' w'' → Walks n m (v + 1) w w''
  unfolding walk_to
  walks_on h {s} {w''} q t =
      let one : v + 1 ≡ suc v = add-one v in
      let i : v + 1 - 1 ≡ v = omega arith in
      let start : s ≡ walk_start (e2e_in n m w) (at (v2e_in n w) v) = q ∙ rw (same, i, entry h) in
      let z = k.sizes in
      record {
        sizes = record { vertices = z.vertices; elements = z.elements; long = t.long ∙ z.long };
        linked = kept_linked n m w' w'' z t.long t.kept k.linked;
        walked =
            record {
              kept = t.kept ∙ k.walked.kept;
              new = t.new ∙ rw (same, k.walked.new, start, one, walk_to);
              long = t.long ∙ k.walked.long;
            };
        in_range = omega arith;
      }

-- the walk begins with the places it writes cleared
pub record Cleared (n m : ℕ) (w w' : List ℕ) : Type 0 where
  pub sizes : Sizes n m w
  pub linked : Linked n m w
  pub kept : tables n m w' ≡ tables n m w
  pub long : length w' ≡ length w
  pub clear : written n m w' ≡ replicate (4 * m) 0

module _ {n m : ℕ} {w : List ℕ} (z : Sizes n m w) (linked : Linked n m w) where
  abbrev rest : ℕ
  rest = length w - (n + 8 * m)

  pub cleared : {ys : List ℕ} → ys ≡ replicate (length (part (n + 8 * m) rest w)) 0
      → Cleared n m w (tables n m w ++ (ys ++ drop rest (written n m w)))
  cleared {ys} e =
      let inside : n + 8 * m ≤ length w = omega (arith, z.long) in
      let many : rest ≡ 4 * m = omega (arith, z.long) in
      let zeroed : ys ≡ replicate (4 * m) 0 = e ∙ ap (λ (k : ℕ). replicate k 0) (length_part (n + 8 * m) rest w (omega arith) ∙ many) in
      record {
        sizes = z;
        linked = linked;
        kept = put_take (n + 8 * m) w ys inside rest;
        long = put_length (n + 8 * m) w ys inside (ap length zeroed ∙ length-replicate (4 * m) 0 ∙ sym many);
        clear = put_drop (n + 8 * m) w ys inside ∙ zeroed;
      }

module _ {n m : ℕ} {w w' : List ℕ} (k : Cleared n m w w') where
  pub walks_start : Sizes n m w' × Linked n m w' × Walking n m 0 w' w'
  unfolding walk_to
  walks_start =
      let z = k.sizes in
      let z' : Sizes n m w' = record { vertices = z.vertices; elements = z.elements; long = k.long ∙ z.long } in
      let new : written n m w' ≡ replicate (length (e2e_in n m w')) 0 = k.clear ∙ ap (λ (j : ℕ). replicate j 0) (sym (e_length n m w' z')) in
      (z', kept_linked n m w w' z k.long k.kept k.linked, record { kept = refl; new = new; long = refl })

  pub walked_from : {w'' : List ℕ} → Walking n m n w' w'' → Walking n m n w w''
  walked_from t =
      let vertices : v2e_in n w' ≡ v2e_in n w =
      sym (take-take n (n + 8 * m) w' (omega arith)) ∙ ap (take n) k.kept ∙ take-take n (n + 8 * m) w (omega arith) in
      record {
        kept = t.kept ∙ k.kept;
        new = t.new ∙ rw (vertices, e_kept n m w w' k.sizes k.long k.kept);
        long = t.long ∙ k.long;
      }
