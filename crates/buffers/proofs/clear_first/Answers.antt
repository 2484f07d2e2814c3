-- `buffers::clear_first` meets its contract: the part before n is cleared, and the rest of the buffer follows it.
-- Assumes nothing.
use mathlib.Core.Path.{◌≡◌, ap, ◌∙◌}
use mathlib.Core.List.{List, ◌++◌}
use Prim.Native.Nat.{ℕ, ◌-◌, ◌≤◌, ◌<◌}
use native.Mathlib.Omega.{arith}
use lib.ListN.{length, take, drop, replicate, length-replicate, length-take}
use Rattle.lists.specs.Search.{at}
use Rattle.lists.specs.SearchLaws.{at_blank}
use Rattle.lists.specs.Stores.{Kept, front_kept, front_at}
use Rattle.buffers.proofs.clear_first.Goals as goal

module _ (n : ℕ) (w part : List ℕ) (h : n ≤ length w) (e : part ≡ replicate (length (take n w)) 0) where
  zeros : part ≡ replicate n 0
  zeros = let k : length (take n w) ≡ n = simp length-take (omega arith) in e ∙ ap (λ (j : ℕ). replicate j 0) k

  many : length part ≡ n
  many = ap length zeros ∙ length-replicate n 0

  all : n - 0 ≡ n
  all = omega arith

  kept : Kept n w (part ++ drop n w)
  kept = rw all at (front_kept n w part h many)

  cleared : (i : ℕ) → i < n → at (part ++ drop n w) i ≡ 0
  cleared i l = let e : at (part ++ drop n w) i ≡ at part i = rw all at (front_at n w part h many i l) in
      e ∙ ap (λ (x : List ℕ). at x i) zeros ∙ at_blank n i

pub returns : goal.returns
returns c =
    let done = c.before.before in
    let begun = done.before.before.before in
    let n = begun.args.n in
    let w = begun.args.out.now in
    record {
      kept = kept n w done.clear.new.out begun.requires done.clear.ensures;
      by_index = cleared n w done.clear.new.out begun.requires done.clear.ensures;
    }
