-- `sibling_map::write` meets its contract.
-- Assumes nothing.
use mathlib.Core.Path.{refl}
use Rattle.sibling_map.specs.Mapping.{vertices_are, map_is}
use Rattle.sibling_map.proofs.write.Goals as goal

pub returns-clause-v2e_after : goal.returns-clause-v2e_after
returns-clause-v2e_after c =
    let (fit, v2e, map, room) = c.requires in
    (vertices_are fit v2e c.first_sides.ensures, map_is fit c.siblings.ensures.0 c.args.sibhe.now room map refl c.copy.ensures)
