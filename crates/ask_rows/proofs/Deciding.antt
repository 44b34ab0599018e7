-- The decision by the edge that the look round the boundary finds: what it asks, and what it answers. Assumes nothing.
use mathlib.Core.List.{List}
use mathlib.Core.Path.{◌≡◌}
use Prim.Native.Nat.{ℕ, ◌-◌, ◌*◌}
use lib.IntN.{ℤ}
use lib.Ieee.{Float}
use Rattle.angle.specs.declared.Point2.{Point2}
use Rattle.std.specs.Prelude.{Option, Some}
use Rattle.angle.specs.Angle.{IsAngle, turns}
use Rattle.angle.specs.Answer.{vertex_angle}
use Rattle.dcel.specs.MeshRows.{mesh_rows, links_in, places_in}
use Rattle.dcel.specs.Rows.{halves_of, row_of}
use Rattle.decide.specs.declared.Decision.{Decision}
use Rattle.decide.specs.Decide.{decided}
use Rattle.decide.specs.Located.{DecidesAt, LocatedRows, ToDecideAt}
use Rattle.decide.specs.SweepRows.{Decides}
use Rattle.decide.proofs.VertexAngles.{angle-is, decided-located}
use Rattle.hull.specs.Boundary.{AngleAt}
use Rattle.locate.specs.Start.{AcceptedStart}
use Rattle.math.specs.declared.Point.{Point}
use Rattle.mesh.specs.declared.Counts.{Counts}
use Rattle.start.specs.Start.{point_row}
use Rattle.ask.specs.AskRows.{edge_holding, ToQuote}
use Rattle.ask.proofs.AskRowsLaws.{held-located, quote-located, quote-ends}

module _ (v : Point) (center : Point2) {r : Option Float} {x y : ℤ} (is : r ≡ vertex_angle x y center.x center.y)
    (x-is : x ≡ v.x) (y-is : y ≡ v.y) {g : Float} (z : r ≡ Some g) (A : IsAngle g) {C : Counts} {q : List ℤ} {h a : List ℕ}
    {start size e : ℕ} (s : start ≡ row_of a 0) (n : size ≡ 2 * C.edges - 3 * (C.faces - 1))
    (found : e ≡ edge_holding q h center.x center.y start size (turns g)) where
  located : {o : List ℕ} → AcceptedStart (point_row v) C (mesh_rows q o h a) center
      → LocatedRows C q o h a center.x center.y e size C.vertices v g
  located S = quote-located S s n A (angle-is v center.x center.y is x-is y-is z).1 found

  pub asks_at : {d : ℕ} → d ≡ (halves_of h).next e
      → {from to : Float} → AngleAt q h center.x center.y e from → AngleAt q h center.x center.y d to
      → ToQuote C q h a center v → ToDecideAt q h center.x center.y e from to size C.vertices v g
  asks_at d F G T =
      let K = located T.start in
      record { counts = C; outs = T.outs; faces = a; located = K; ends = quote-ends T.start K.in_use d F G }

  pub at-located : {d : Decision}
      → ((B : Counts) (o f : List ℕ) → LocatedRows B q o h f center.x center.y e size C.vertices v g
      → DecidesAt B q o h f center.x center.y e v g d)
      → (o : List ℕ) → AcceptedStart (point_row v) C (mesh_rows q o h a) center
      → (let m = mesh_rows q o h a in
      Decides C (links_in m) (places_in m) center.x center.y v
      (decided center.x center.y C (links_in m) (places_in m) v) d)
  at-located D o S =
      decided-located v center.x center.y is x-is y-is z (held-located S s n (turns g) found) (D C o a (located S))
