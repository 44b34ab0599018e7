-- What an accepted call of `locate` answers: the boundary edge whose segment, from the angle at its origin to the angle at its end, holds the given angle, and the only one. Angles are floats
-- here, compared as floats. Assumes nothing.
use Rattle.std.specs.Prelude.{◌≡◌, refl, ◌≢◌, List, [], ℕ, ◌<◌, T, Float, ℤ}
use Rattle.std.proofs.Common.{sym, ◌∙◌, ap, arith}
use Rattle.std.proofs.Math.Path.{subst}
use Rattle.std.specs.Float.{binary64}
use Rattle.std.specs.Float.Ieee.{fits}
use Rattle.ring_rows.specs.RingRows.{RingRows}
use Rattle.angle.specs.declared.Point2.{Point2}
use Rattle.angle.specs.Angle.{IsAngle, angle_about, turns, valid_angle}
use Rattle.dcel.specs.MeshRows.{MeshRows, links_in, places_in}
use Rattle.math.specs.declared.Point.{Point}
use Rattle.mesh.specs.declared.Counts.{Counts}
use Rattle.mesh.specs.Mesh.{Links, In, to}
use Rattle.mesh.specs.Area.{boundary_length}
use Rattle.mesh.proofs.BoundaryLaws.{first<, first-outer}
use Rattle.mesh.specs.Wf.{Wf}
use Rattle.mesh_check.specs.Check.{and_then}
use Rattle.mesh_check.specs.Checked.{Checked}
use Rattle.ring.specs.Ring.{proper, at_ends, edge_angle, boundary_edges, is_strict_ring, located}
use Rattle.ring.proofs.Boundary.{outer-on, edge-end, strict-ring, strict-nodes, located<, located-outer, located-ends, located-sole}
use Rattle.ring.specs.Center.{turns_about}
use Rattle.ring.proofs.CenterLaws.{boundary-angle}
use Rattle.ring.proofs.InsertLaws.{all-proper}
use Rattle.ring.proofs.SegmentsLaws.{proper→}
use Rattle.segment.specs.declared.Segment.{Segment}
use Rattle.segment.specs.Arc.{holds}
use Rattle.segment.specs.Segment.{segment_of, contains_angle}
use Rattle.segment.proofs.Laws.{contains-turns, segment-good, segment-holds}
use Rattle.locate.specs.declared.Place.{Place}
use Rattle.locate.specs.Locate.{ring_short, check_start, check_angle, place_at_of, locate_outcome, locate_of}
use Rattle.locate.specs.Start.{AcceptedStart}

-- the angle of a vertex about the centre
abbrev pub angle_of_vertex : (ℕ → Point) → Float → Float → ℕ → Float
angle_of_vertex p cx cy v = angle_about (p v).x (p v).y cx cy

-- the segment of a boundary edge
abbrev pub edge_segment : Links → (ℕ → Point) → Float → Float → ℕ → Segment
edge_segment L p cx cy e = segment_of (angle_of_vertex p cx cy (L.origin e)) (angle_of_vertex p cx cy (to L e))

-- e is the boundary edge at the angle x
pub record EdgeAtAngle (C : Counts) (L : Links) (p : ℕ → Point) (cx cy x : Float) (e : ℕ) : Type 0 where
  pub in_use : In C e
  pub outer : L.face e ≡ 0
  pub contains : T (contains_angle (edge_segment L p cx cy e) x)
  pub sole : {d : ℕ} → In C d → L.face d ≡ 0 → T (contains_angle (edge_segment L p cx cy d) x) → d ≡ e
