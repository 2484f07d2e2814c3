-- `links::link_places` meets its contract: the places from p on are done.
-- Assumes nothing.
use Rattle.links.specs.Links.{Linking}
use Rattle.links.proofs.link_places.Given as goal

abbrev pub invariant-loop-p : goal.invariant-loop-p
invariant-loop-p l = Linking l.n l.m l.p l.initial.work l.work
