-- `grow::inserted_by` meets its contract: on a vertex, and at each other kind of place. Assumes nothing.
use Rattle.std.proofs.Common.{inl, inr}
use Rattle.skipped.specs.Insert.{is_new, position_vertex}
use Rattle.grow.proofs.inserted_by.Goals as goal

pub returns-in-OnVertex : goal.returns-in-OnVertex
unfolding is_new position_vertex
returns-in-OnVertex c = rw c.in-OnVertex.is c.grown_by.ensures

pub returns-in-OnEdge : goal.returns-in-OnEdge
unfolding is_new position_vertex
returns-in-OnEdge c = elim c.in-OnEdge.is [
  | inl p ↦ rw p.1 c.grown_by-in-OnEdge.ensures
  | inr r ↦ elim r [ inl p ↦ rw p.1 c.grown_by-in-OnEdge.ensures | inr p ↦ rw p.1 c.grown_by-in-OnEdge.ensures ]
]
