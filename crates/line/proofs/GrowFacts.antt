-- Laws of specs/Grow.antt.
use Rattle.std.specs.Prelude.{cond, ℕ, zero, suc, ltb}
use Rattle.corner.specs.Corner.{Extended}
use Rattle.math.specs.declared.Point.{Point}
use Rattle.mesh.specs.declared.Counts.{Counts}
use Rattle.mesh.specs.Mesh.{Links}
use Rattle.skipped.specs.Insert.{unflipped, insert_outside, is_new, position_vertex, insert_point}
use Rattle.sums.specs.Put.{put}
use Rattle.line.specs.Operations.{setup_initial_two_vertices, extend_line, split_edge_when_all_vertices_on_line, with_line_vertex, two_vertices}
use Rattle.line.specs.Order.{is_same_of}
use Rattle.line.specs.declared.PositionWhenAllVerticesOnLine.{PositionWhenAllVerticesOnLine}
use Rattle.line.specs.declared.PositionWhenAllVerticesOnLine.TheVariants.{OnEdge, OnVertex, NotOnLine, ExtendingLine}
use Rattle.line.specs.Locate.{locate_when_all_vertices_on_line}
use Rattle.line.specs.Grow.{Growing}

-- nothing yet. C6.4: "None: 0, 0, 0"
abbrev pub nothing : Links → (ℕ → Point) → Growing
nothing L p = record { fate = 0; vertex = 0; positions = p; mesh = unflipped (record { vertices = 0; edges = 0; faces = 0 }) L 0 }
