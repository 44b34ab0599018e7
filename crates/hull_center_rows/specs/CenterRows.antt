-- What the functions ask of the rows, and what the corners of a triangle are. Assumes nothing.
use Rattle.std.specs.Prelude.{List, ◌≡◌, ℕ, ◌+◌, ◌*◌, ◌<◌, ◌≤◌, ℤ, length}
use Rattle.std.proofs.Common.{arith}
use Rattle.circle_test.specs.GoodRows.{GoodRows, held}
use Rattle.dcel.specs.MeshHeld.{MeshHeld}
use Rattle.dcel.specs.Rows.{halves_of, position_of, There, Placed}
use Rattle.hull_center.specs.declared.PositionSum.{PositionSum}
use Rattle.hull_center.proofs.ExactLaws.{sum-small}
use Rattle.hull_center.specs.HullCenter.{last_three, SmallSum}
use Rattle.mesh.specs.declared.Counts.{Counts}
use Rattle.mesh.proofs.CountsLaws.{vertices-least}
use Rattle.mesh.specs.Mesh.{In}
use Rattle.hull_center_rows.specs.declared.Corners.{Corners}

-- ---- the centre
-- there are three vertices, with positions in the row, and the last three add up to little
pub record LastThreeIn (C : Counts) (q : List ℤ) : Type 0 where
  pub least : 3 ≤ C.vertices
  pub positions : 2 * C.vertices ≤ length q
  pub small : SmallSum (last_three C (position_of q))

-- as in a good mesh
pub last-three-in : {C : Counts} {q : List ℤ} {o h a : List ℕ} → GoodRows C q o h a → LastThreeIn C q
last-three-in G = record { least = vertices-least G.good.wf; positions = G.positions; small = sum-small G.good }

-- ---- the mesh
-- the rows hold a good mesh, with some row of out edges
pub record MeshIn (C : Counts) (q : List ℤ) (h a : List ℕ) : Type 0 where
  pub outs : List ℕ
  pub rows : GoodRows C q outs h a

-- what `is_ready` asks: of a line of points, nothing
abbrev pub CenterReady : Counts → List ℤ → List ℕ → List ℕ → Type 0
CenterReady C q h a = 1 < C.faces → MeshIn C q h a

-- and the sum is that of the last three positions
pub record HoldReady (C : Counts) (q : List ℤ) (h a : List ℕ) (sum : PositionSum) : Type 0 where
  pub mesh : MeshIn C q h a
  pub sum_is : sum ≡ last_three C (position_of q)

-- ---- one triangle
-- three half-edges along next from a are in the row, and their origins have positions
pub record CornersIn (q : List ℤ) (h : List ℕ) (a : ℕ) : Type 0 where
  pub here : There h a
  pub next : There h ((halves_of h).next a)
  pub last : There h ((halves_of h).next ((halves_of h).next a))
  pub u : 2 * (halves_of h).origin a + 1 < length q
  pub v : 2 * (halves_of h).origin ((halves_of h).next a) + 1 < length q
  pub w : 2 * (halves_of h).origin ((halves_of h).next ((halves_of h).next a)) + 1 < length q

pub record CornersOf (s : List ℤ) (h : List ℕ) (a : ℕ) (k : Corners) : Type 0 where
  pub p : k.p ≡ position_of s ((halves_of h).origin a)
  pub q : k.q ≡ position_of s ((halves_of h).origin ((halves_of h).next a))
  pub r : k.r ≡ position_of s ((halves_of h).origin ((halves_of h).next ((halves_of h).next a)))

-- a is in an inner face of some mesh whose positions and half-edges the rows hold
pub record TriangleIn (q : List ℤ) (h : List ℕ) (a : ℕ) : Type 0 where
  pub counts : Counts
  pub outs : List ℕ
  pub faces : List ℕ
  pub rows : GoodRows counts q outs h faces
  pub used : In counts a
  pub inner : 0 < (halves_of h).face a

-- ---- what the mesh gives
module _ {C : Counts} {q : List ℤ} {h a : List ℕ} (M : MeshIn C q h a) where
  pub mesh-held : MeshHeld C M.outs h a
  mesh-held = held M.rows

pub placed-in : {C : Counts} {q : List ℤ} {o h a : List ℕ} → GoodRows C q o h a → {v : ℕ} → v < C.vertices → Placed q v
placed-in G l = record { there = let k = G.positions in omega arith; range = G.good.range l }
