-- `search::walk_to_nearest_neighbor` meets its contract. The invariant: to go on from here is to go on from vertex 0. The
-- measure is the number of vertices that are closer. Assumes nothing.
use mathlib.Core.Path.{◌∙◌}
use mir.Facts.{to_z-of_z}
use mir.Syntax.{w64}
use borrow.Author.Rules.{rules, sfits_of}
use Rattle.search.specs.Nearing.{first-there, first_range, nearing-start, nearing-spokes, nearing-on, nearing-less, nearing-end}
use Rattle.search.proofs.walk_to_nearest_neighbor.Goals as goal

pub position-start-requires : goal.position-start-requires
position-start-requires c = first-there c.requires

pub distance_2-distance-requires : goal.distance_2-distance-requires
distance_2-distance-requires c =
    first_range c.requires c.position-start.ensures

pub loop-w-init : goal.loop-w-init
loop-w-init c =
    nearing-start c.requires c.position-start.ensures (to_z-of_z {w = w64} (sfits_of c.distance_2-distance.type_inv) ∙ c.distance_2-distance.ensures)

pub first_closer-requires : goal.first_closer-requires
first_closer-requires c = nearing-spokes c.loop-w.invariant

pub loop-w-smaller : goal.loop-w-smaller
loop-w-smaller c =
    nearing-less c.loop-w.invariant c.first_closer.ensures c.in-Some.is

pub loop-w-preserved : goal.loop-w-preserved
loop-w-preserved c =
    nearing-on c.loop-w.invariant c.first_closer.ensures c.in-Some.is (search rules)

pub returns : goal.returns
returns c =
    nearing-end c.loop-w.invariant c.first_closer.ensures c.in_default.is
