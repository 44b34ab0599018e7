-- A mesh while faces are added to it, and the closing of one corner of its boundary. Definitions only; the laws are in `CornerLaws`.
use Rattle.std.specs.Prelude.{Bool, ℕ, suc}
use Rattle.legalize.specs.Legalize.{legalize_edges_after_removal}
use Rattle.math.specs.declared.Point.{Point}
use Rattle.mesh.specs.declared.Counts.{Counts}
use Rattle.mesh.specs.Mesh.{Links}
use Rattle.mesh.specs.Operations.{create_single_face_between_edge_and_next, with_face}

-- the mesh, the faces added and the flips made so far, and whether a flip's pushes would have overfilled the pending list
pub record Extended : Type 0 where
  pub counts : Counts
  pub links : Links
  pub faces : ℕ
  pub flips : ℕ
  pub full : Bool

-- `create_single_face_between_edge_and_next` of the half-edge e; then `legalize_edges_after_removal` of two edges, pushed in this order
unfoldable pub close_corner : ℕ → (ℕ → Point) → Extended → ℕ → ℕ → ℕ → Extended
close_corner room p m e first second =
    let C = with_face m.counts in
    let K = create_single_face_between_edge_and_next m.links m.counts e in
    let g = legalize_edges_after_removal room C p K m.flips first second in
    record { counts = C; links = g.links; faces = suc m.faces; flips = g.flips; full = g.full }
