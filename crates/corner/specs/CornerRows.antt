-- Rows and counts as a mesh that is extended, and what closing a corner asks of them. Definitions only.
use Rattle.std.specs.Prelude.{List, ◌≡◌, ℕ, ◌*◌, ◌^◌, ◌<◌, ◌≤◌, ℤ, length}
use Rattle.circle_test.specs.GoodRows.{GoodRows}
use Rattle.conflicts.specs.FlipsWithin.{FlipsWithin}
use Rattle.dcel.specs.Rows.{links_of, position_of}
use Rattle.mesh.specs.Mesh.{In}
use Rattle.corner.specs.declared.Extension.{Extension}
use Rattle.corner.specs.Corner.{Extended}
use Rattle.corner.specs.CornerLaws.{LeftCorner}

-- the links that the rows hold, with what was added
unfoldable pub extended_of : List ℕ → List ℕ → List ℕ → Extension → Extended
extended_of o h a g = record { counts = g.counts; links = links_of o h a; faces = g.faces; flips = g.flips; full = g.full }

-- the rows are sized for the vertices, as 01 has it for N of them: 6N half-edges of four numbers each, 2N faces, at least 8 pending entries
pub record MeshRoom (vertices : ℕ) (h a row : List ℕ) : Type 0 where
  pub halves : 24 * vertices ≤ length h
  pub faces : 2 * vertices ≤ length a
  pub pending : 8 ≤ length row
  pub small : vertices ≤ 2 ^ 24

-- the rows hold a good mesh that faces can be added to, with a count of flips that can go on
pub record Ready (q : List ℤ) (o h a row : List ℕ) (g : Extension) : Type 0 where
  pub rows : GoodRows g.counts q o h a
  pub sized : MeshRoom g.counts.vertices h a row
  pub flips : FlipsWithin g.counts (links_of o h a) (position_of q) g.flips
  pub faces : g.faces ≤ g.counts.faces

-- the corner at the end of the boundary edge e turns left, and two edges are in use
pub record CloseReady (q : List ℤ) (o h a row : List ℕ) (g : Extension) (e first second : ℕ) : Type 0 where
  pub ready : Ready q o h a row g
  pub edge : In g.counts e
  pub outer : (links_of o h a).face e ≡ 0
  pub left : LeftCorner (links_of o h a) (position_of q) e
  pub first-in : first < g.counts.edges
  pub second-in : second < g.counts.edges
