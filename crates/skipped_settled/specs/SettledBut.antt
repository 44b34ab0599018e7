-- A mesh that keeps the circle rule but for the edges at one vertex and those that are still to be tested, and where a point goes in that leaves
-- such a mesh. Definitions only; the laws are in `TurnLaws`, `LegalizeLaws` and `InsertSettled`.
use Rattle.std.specs.Prelude.{Bool, true, false, List, ◌≢◌, ◌≡◌, ℕ, ◌<◌, pos, ◌≤ℤ◌}
use Rattle.location.specs.declared.PositionInTriangulation.{PositionInTriangulation}
use Rattle.location.specs.declared.PositionInTriangulation.TheVariants.{OnVertex, OnFace, OnEdge, OutsideOfConvexHull}
use Rattle.math.specs.declared.Point.{Point}
use Rattle.mesh.specs.declared.Counts.{Counts}
use Rattle.mesh.specs.Mesh.{Links, In, to}
use Rattle.mesh.specs.Area.{circle_at}
use Rattle.mesh.specs.Good.{Good}
use Rattle.sums.proofs.Cases.{All, None, Distinct}
use Rattle.sums.specs.Half.{rev}

-- the half-edge e keeps the rule: a neighbour's far vertex, where both sides have one, is not strictly inside the circle of e's triangle
pub record KeepsCircle (L : Links) (p : ℕ → Point) (e : ℕ) : Type 0 where
  pub outside : 0 < L.face e → 0 < L.face (rev e) → circle_at L p e ≤ℤ pos 0

-- the half-edge e is in use, and v is its far vertex
pub record Across (C : Counts) (L : Links) (v e : ℕ) : Type 0 where
  pub used : In C e
  pub far : L.origin (L.prev e) ≡ v

-- a good mesh in which each edge keeps the rule that is not at the vertex v and not of the list, whose half-edges lie across from v
pub record SettledBut (C : Counts) (L : Links) (p : ℕ → Point) (v : ℕ) (l : List ℕ) : Type 0 where
  pub good : Good C L p
  pub across : All (Across C L v) l
  pub distinct : Distinct l
  pub keeps : {x : ℕ} → In C x → L.origin x ≢ v → to L x ≢ v → None x l → None (rev x) l → KeepsCircle L p x

-- whether a point goes into a triangle or on an edge
unfoldable pub is_inside : PositionInTriangulation → Bool
is_inside (OnFace f) = true
is_inside (OnEdge e) = true
is_inside (OutsideOfConvexHull e) = false
is_inside (OnVertex w) = false
