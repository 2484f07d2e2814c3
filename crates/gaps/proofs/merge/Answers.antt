-- `gaps::merge` meets its contract.
-- Assumes nothing.
use Rattle.std.proofs.Common.{arith, ◌≡◌, ap, sym, ◌∙◌, ◌-◌, ◌*◌, ℕ, take}
use Rattle.std.proofs.lemmas.List.{length-take-le}
use Rattle.edit_rules.specs.Contract.{renamed}
use Rattle.gaps.specs.Closing.{fewer_fits}
use Rattle.gaps.specs.Renaming.{end_inside, front_renamed}
use Rattle.gaps.proofs.merge.Goals as goal

pub fewer-requires : goal.fewer-requires
fewer-requires c = fewer_fits c.requires.0

pub slice_bounds-rename-end : goal.slice_bounds-rename-end
slice_bounds-rename-end c =
    let (x, from, to) = c.requires in
    let (long, is) = c.without_edge.ensures in
    end_inside x from to c.without_edge.new.list long is (ap (λ (k : ℕ). 4 * k) (c.wide-rows.ensures ∙ c.fewer.ensures))

pub slice_bounds-rename-end-2 : goal.slice_bounds-rename-end-2
slice_bounds-rename-end-2 c =
    let (x, from, to) = c.requires in
    let (long, is) = c.without_edge.ensures in
    sym (length-take-le _ _ (end_inside x from to c.without_edge.new.list long is (ap (λ (k : ℕ). 4 * k) (c.wide-rows.ensures ∙ c.fewer.ensures))))

pub returns : goal.returns
returns c =
    let (x, from, to) = c.requires in
    let (long, is) = c.without_edge.ensures in
    let M = c.without_edge.new.list in
    let end : ℕ = 4 * c.wide-rows.result in
    let z : end - 0 ≡ end = omega arith in
    rw z at (front_renamed x from to M long is {end = end} (ap (λ (k : ℕ). 4 * k) (c.wide-rows.ensures ∙ c.fewer.ensures)) (c.rename.ensures ∙ ap (λ (k : ℕ). renamed c.args.b c.args.a (take k M)) (sym z)))
