-- 02, Change 6: a line "may hold one vertex (its links 0)". Assumes nothing.
use Rattle.std.specs.Prelude.{Bool, true, false, cond, ◌⊎◌, ◌≡◌, refl, ℕ, zero, suc, ◌+◌, ◌<◌, ◌≤◌}
use Rattle.std.proofs.Common.{inl, inr, sym, ◌∙◌, ap, arith, lt-ltb, le-ltb}
use Rattle.std.proofs.Math.Decide.{dec_lt}
use Rattle.line.specs.Grow.{Growing, one_vertex, insert_first_vertex, insert_second_vertex, insert_by_count, grow_point, grow_on}
use Rattle.line.specs.GrowLaws.{Phase, none, one, line, mesh, PointAt}
use Rattle.line.proofs.GrowLawsFacts.{grow-at}
use Rattle.line.specs.Operations.{setup_initial_two_vertices, two_vertices}
use Rattle.line.specs.Order.{is_same_of}
use Rattle.math.specs.declared.Point.{Point}
use Rattle.math.specs.Determinant.{InRange}
use Rattle.mesh.specs.declared.Counts.{Counts}
use Rattle.mesh.specs.Mesh.{Links}
use Rattle.mesh.proofs.CountsLaws.{vertices-least}
use Rattle.skipped.specs.Insert.{unflipped}
use Rattle.sums.specs.Put.{put}
use Rattle.sums.proofs.PutLaws.{put_same}

-- one vertex has links 0
abbrev pub OneZero : Growing → Type 0
OneZero g = g.mesh.counts ≡ one_vertex → (g.mesh.links.out 0 ≡ 0) × (g.mesh.links.adjacent 0 ≡ 0)
