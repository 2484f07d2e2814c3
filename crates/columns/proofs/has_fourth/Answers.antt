-- `columns::has_fourth` meets its contract: where no row passed the test, the run went over all of them.
-- Assumes nothing.
use Rattle.std.proofs.Common.{rules, ◌≡◌, ◌/◌, arith, Option, Some, None, IfSome, refl, slice_index_or, length, ap, ◌∙◌}
use Rattle.std.specs.Option.{option_map}
use Rattle.std.specs.Slice.Iter.{chunks_exact_rest, chunks_exact_size}
use Rattle.std.proofs.lemmas.Grind.{common_steps}
use Rattle.columns.proofs.has_fourth.Goals as goal

is_there : {A : Type 0} (o : Option A) (y : A) (P : A → Type 0) → option_map (λ x. x) o ≡ Some y → IfSome o P → P y
is_there None y P e h = cc
is_there (Some x) y P e h = let z : x ≡ y = cc in rw (← z) h

pub returns-clause-none : goal.returns-clause-none
returns-clause-none c f k h =
    let p = c.any.ensures.runs.0 in
    let m = rw f at c.any.ensures.runs.2 in
    let rest : p.from.rest.now ≡ c.args.list.now = ap chunks_exact_rest c.any.ensures.runs.1 ∙ c.chunks_exact.ensures.rest in
    let size : p.from.size ≡ 4 = ap chunks_exact_size c.any.ensures.runs.1 ∙ c.chunks_exact.ensures.size in
    let rows = rw (rest, size) at (c.chunks_exact.ensures.runs p p.seen (omega arith)) in
    let whole : p.len ≡ length c.args.list.now / 4 = rows.1 (search rules) in
    let x = slice_index_or p.items k c.args.list in
    let gave = is_there (p.at k) x _ (p.reads k c.args.list (omega arith)) (m.1 (λ a r f' e. refl) k) in
    let row = is_there (p.at k) x _ (p.reads k c.args.list (omega arith)) (rows.2 k) in
    grind (arith, common_steps, gave, row)
