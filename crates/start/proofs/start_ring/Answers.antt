-- `start::start_ring` meets its contract. Assumes nothing.
use borrow.Author.Rules.{rules}
use Rattle.start.specs.StartLaws.{started-face, started-size, started-build, ring-started}
use Rattle.start.proofs.start_ring.Goals as goal

pub adjacent-start-requires : goal.adjacent-start-requires
adjacent-start-requires c = started-face c.requires.start

pub convex_hull_size-size-requires : goal.convex_hull_size-size-requires
convex_hull_size-size-requires c = started-size c.requires.start

pub from_triangulation-requires : goal.from_triangulation-requires
from_triangulation-requires c = started-build c.requires c.adjacent-start.ensures c.convex_hull_size-size.ensures

pub returns : goal.returns
returns c =
    ring-started c.requires c.adjacent-start.ensures c.convex_hull_size-size.ensures c.from_triangulation.ensures c.from_triangulation.auto.nodes c.from_triangulation.auto.buckets
