-- `locate::place_at` meets its contract. Assumes nothing.
use borrow.Author.Rules.{rules}
use Rattle.locate.proofs.PlaceLaws.{asked-rows, asked-place}
use Rattle.locate.proofs.place_at.Goals as goal

pub from_triangulation-ring-requires : goal.from_triangulation-ring-requires
from_triangulation-ring-requires c = c.requires.build

pub get-found-requires : goal.get-found-requires
get-found-requires c =
    asked-rows c.requires c.from_triangulation-ring.ensures c.from_triangulation-ring.auto.nodes c.from_triangulation-ring.auto.buckets

pub returns : goal.returns
returns c =
    let P = c.requires in
    asked-place P.build c.from_triangulation-ring.ensures c.from_triangulation-ring.auto.nodes c.from_triangulation-ring.auto.buckets _ P.angle c.get-found.ensures
