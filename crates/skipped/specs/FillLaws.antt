-- All skipped points of a list go into a good mesh, by induction: it stays good, the vertices that were there keep their
-- positions, each point's vertex is at the point, also after all that follow, and the vertices are numbered and counted; a
-- refused flip names the point at which it was met. Assumes nothing.
use Rattle.std.specs.Prelude.{Bool, not, ◌&&◌, ◌≡◌, T}
use Rattle.std.proofs.Math.Bool.{true, false, cond}
use Rattle.std.proofs.lemmas.Bool.{false≢true}
use Rattle.std.proofs.Math.Path.{refl, ap₂}
use Rattle.std.proofs.Common.{sym, ◌∙◌, ap, subst}
use Prim.Native.Nat.{ℕ, zero, suc, ◌+◌, ◌<◌, ◌≤◌}
use Rattle.std.proofs.Math.Decide.{ℕ_discrete}
use native.Mathlib.Omega.{arith}
use Rattle.corner.specs.Untouched.{Untouched, Grown, untouched-none, untouched-join}
use Rattle.location.specs.declared.PositionInTriangulation.{PositionInTriangulation}
use Rattle.location.specs.declared.PositionInTriangulation.TheVariants.{OnVertex, OnFace, OnEdge, OutsideOfConvexHull}
use Rattle.math.specs.declared.Point.{Point}
use Rattle.math.specs.Determinant.{InRange}
use Rattle.mesh.specs.declared.Counts.{Counts}
use Rattle.mesh.specs.Mesh.{Links}
use Rattle.mesh.specs.Good.{Good}
use Rattle.sums.specs.Bit.{bit}
use Rattle.sums.specs.Bounded.{count}
use Rattle.skipped.specs.Insert.{Inserting, position_vertex, is_new}
use Rattle.skipped.specs.InsertLaws.{PointIn}
use Rattle.skipped.specs.Fill.{Filling, insert_on, filled_by, passed_by, fill_point, fill_after, inserted_at, inserted_vertex, enters}

-- ---- one point of the list: from s to r, where b says whether it was skipped
pub record Filled (room : ℕ) (s : Filling) (b : Bool) (v : Point) (r : Filling) : Type 0 where
  pub good : Good r.counts r.links r.positions
  pub kept : (u : ℕ) → u < s.counts.vertices → r.positions u ≡ s.positions u
  pub past : (u : ℕ) → r.counts.vertices ≤ u → r.positions u ≡ s.positions u
  pub vertices : r.counts.vertices ≡ s.counts.vertices + bit (not s.full && (b && is_new (insert_on room s v).place))
  pub grown : Grown s.counts r.counts
  -- 01: "mesh .. entries past the counts in use are untouched"
  pub untouched : Untouched r.counts s.links r.links
  pub used : s.full ≡ false → T b → position_vertex s.counts (insert_on room s v).place < r.counts.vertices
  pub here : s.full ≡ false → T b → r.positions (position_vertex s.counts (insert_on room s v).place) ≡ v
