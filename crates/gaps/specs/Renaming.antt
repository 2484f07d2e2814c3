-- One number becomes another in every entry of a list, and in the part of a longer one that holds the rows that stay.
-- Assumes nothing.
use Rattle.std.specs.Prelude.{◌≡◌, List, ◌++◌, ℕ, ◌+◌, ◌*◌, ◌-◌, ◌≤◌, ◌<◌, drop, set}
use Rattle.std.proofs.Math.Path.{ap}
use Rattle.std.proofs.Common.{◌∙◌, arith}
use Rattle.std.proofs.Math.ListN.{length, take, length-append, length-drop}
use Rattle.std.proofs.Math.Seq.{length-take-le, take_at}
use Rattle.lists.specs.Search.{at}
use Rattle.lists.specs.SearchLaws.{is_tab}
use Rattle.lists.specs.Stores.{by_set, Kept, kept_itself, kept_set, kept_later}
use Rattle.rules.specs.Elements.{origin, destination}
use Rattle.edit_rules.specs.Contract.{without_edge, instead, renamed, merged}
use Rattle.theory.specs.Renaming.{renamed_length}
use Rattle.gaps.specs.Closing.{fewer_by, ToClose, fewer_below}

-- W is the list U with the entries before p renamed
pub record Begun (old new : ℕ) (U W : List ℕ) (p : ℕ) : Type 0 where
  pub bound : p ≤ length U
  pub done : (j : ℕ) → j < p → at W j ≡ instead old new (at U j)
  pub kept : Kept p U W

module _ (old new : ℕ) (U : List ℕ) where
  pub not_begun : Begun old new U U 0
  not_begun = record { bound = omega arith; done = λ j h. absurd (omega arith); kept = kept_itself 0 U }

  module _ {W : List ℕ} {p : ℕ} (x : Begun old new U W p) where
    -- one entry more
    pub one_more : {c : ℕ} → p < length W → c ≡ instead old new (at W p) → Begun old new U (set W p c) (p + 1)
    one_more {c} h e =
        let long = x.kept.long in
        let f = e ∙ ap (instead old new) (x.kept.entries p (omega arith)) in
        record {
          bound = omega arith;
          done = by_set (λ j. instead old new (at U j)) W p c h f x.done;
          kept = kept_set p c (kept_later x.kept (omega arith)) (omega arith);
        }

    pub all_renamed : length W ≤ p → W ≡ renamed old new U
    unfolding renamed
    all_renamed h =
        let long = x.kept.long in is_tab (length U) (λ j. instead old new (at U j)) W long (λ j k. x.done j (omega arith))

-- M is the list once the rows on the edge have gone, and its front, to `end`, is renamed
module _ {m : ℕ} {list : List ℕ} {s t : ℕ} (x : ToClose m list s t) {a b : ℕ} (from : a ≡ origin (take (4 * m) list) s)
    (to : b ≡ destination (take (4 * m) list) s) (M : List ℕ) (long : length M ≡ length list)
    (is : take (4 * fewer_by m t) M ≡ without_edge (take (4 * m) list) s) {end : ℕ} (ends : end ≡ 4 * fewer_by m t) where
  pub end_inside : end ≤ length M
  end_inside = omega (arith, ends, fewer_below x, x.inside, long)

  pub front_renamed : {part : List ℕ} → part ≡ renamed b a (take (end - 0) M)
      → (length (part ++ drop (end - 0) M) ≡ length list) × (take (4 * fewer_by m t) (part ++ drop (end - 0) M) ≡ merged (take (4 * m) list) s)
  unfolding merged
  front_renamed {part} e =
      let L = take (4 * m) list in
      let whole : end - 0 ≡ 4 * fewer_by m t = omega (arith, ends) in
      let many : length part ≡ end - 0 = ap length e ∙ renamed_length b a (take (end - 0) M) ∙ length-take-le (end - 0) M (omega (arith, end_inside)) in
      let rows : take (end - 0) M ≡ without_edge L s = ap (λ (k : ℕ). take k M) whole ∙ is in (
        omega (arith, length-append part (drop (end - 0) M), length-drop (end - 0) M, many, end_inside, long),
        take_at part (drop (end - 0) M) (4 * fewer_by m t) (many ∙ whole) ∙ e ∙ (λ i. renamed (to i) (from i) (rows i)),
      )
