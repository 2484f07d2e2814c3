-- `edits::is_there` meets its contract: each way out goes by the tests before it.
-- Assumes nothing.
use mathlib.Core.Path.{◌≡◌, refl, sym, ◌∙◌}
use Rattle.lists.specs.Tests.{within}
use Rattle.edits.specs.Holding.{there_by}
use native.Mathlib.Omega.{arith}
use Rattle.std.proofs.lemmas.Grind.{common_steps}
use Rattle.edits.proofs.is_there.Goals as goal

pub returns-then-is_side : goal.returns-then-is_side
returns-then-is_side c = c.if-is_side.true ∙ sym (there_by _ _ c.if-is_side.ensures refl refl c.requires)

pub returns-then-is_border : goal.returns-then-is_border
returns-then-is_border c =
    let v = rw (c.new.ensures.start, c.new.ensures.exhausted, c.new.ensures.end) at c.contains.ensures.value in
    let inside : c.contains.result ≡ within 1 c.args.k c.element_of.result = grind (arith, common_steps, v) in
    inside ∙ sym (there_by _ _ c.if-is_side.ensures c.if-is_border.ensures c.element_of.ensures c.requires)

pub returns-else-is_border : goal.returns-else-is_border
returns-else-is_border c =
    c.if-is_border.false ∙ sym (there_by _ _ c.if-is_side.ensures c.if-is_border.ensures refl c.requires)
