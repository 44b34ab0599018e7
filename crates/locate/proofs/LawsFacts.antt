-- Laws of specs/Laws.antt.
use Rattle.std.specs.Prelude.{◌≡◌, refl, ◌≢◌, List, [], ℕ, ◌<◌, T, Float, ℤ, Ok, Err}
use Rattle.std.proofs.Common.{sym, ◌∙◌, ap, arith}
use Rattle.std.proofs.Math.Path.{subst}
use Rattle.std.specs.Float.{binary64}
use Rattle.std.specs.Float.Ieee.{fits}
use Rattle.ring_rows.specs.RingRows.{RingRows}
use Rattle.angle.specs.declared.Point2.{Point2}
use Rattle.angle.specs.Angle.{IsAngle, angle_about, turns, valid_angle}
use Rattle.dcel.specs.MeshRows.{MeshRows, links_in, places_in}
use Rattle.math.specs.declared.Point.{Point}
use Rattle.mesh.specs.declared.Counts.{Counts}
use Rattle.mesh.specs.Mesh.{Links, In, to}
use Rattle.mesh.specs.Area.{boundary_length}
use Rattle.mesh.proofs.BoundaryLaws.{first<, first-outer}
use Rattle.mesh.specs.Wf.{Wf}
use Rattle.mesh_check.specs.Check.{and_then}
use Rattle.mesh_check.specs.Checked.{Checked}
use Rattle.ring.specs.Ring.{proper, at_ends, edge_angle, boundary_edges, is_strict_ring, located}
use Rattle.ring.proofs.Boundary.{outer-on, edge-end, strict-ring, strict-nodes, located<, located-outer, located-ends, located-sole}
use Rattle.ring.specs.Center.{turns_about}
use Rattle.ring.proofs.CenterLaws.{boundary-angle}
use Rattle.ring.proofs.InsertLaws.{all-proper}
use Rattle.ring.proofs.SegmentsLaws.{proper→}
use Rattle.segment.specs.declared.Segment.{Segment}
use Rattle.segment.specs.Arc.{holds}
use Rattle.segment.specs.Segment.{segment_of, contains_angle}
use Rattle.segment.proofs.Laws.{contains-turns, segment-good, segment-holds}
use Rattle.locate.specs.declared.Place.{Place}
use Rattle.locate.specs.Locate.{ring_short, check_start, check_angle, place_at_of, locate_outcome, locate_of}
use Rattle.locate.specs.Start.{AcceptedStart}
use Rattle.locate.proofs.Call.{locate-start, locate-angle}
use Rattle.locate.specs.Laws.{angle_of_vertex, edge_segment, EdgeAtAngle}

-- in a strict ring the two ends of a boundary edge have different angles
strict_apart : {C : Counts} {L : Links} (W : Wf C L) (α : ℕ → ℕ) → T (is_strict_ring C L α) → {d : ℕ} → In C d → L.face d ≡ 0 → edge_angle L α d ≢ α (to L d)
unfolding boundary_edges
strict_apart {C} {L} W α t {d} l o =
    let r = outer-on W (first< W) (first-outer W) l o in
    let n : edge_angle L α d ≢ edge_angle L α (L.next d) = subst (λ (e : ℕ). edge_angle L α e ≢ edge_angle L α (L.next e)) r.2
    (proper→ _ _ (all-proper (at_ends proper L.next (edge_angle L α)) L.next (boundary_length C L) (L.adjacent 0) (strict-nodes W α t) r.0 r.1)) in
    λ z. n (z ∙ sym (edge-end W α l))

-- every f64 is a binary64 number
abbrev pub Fits : Point2 → Type 0
Fits center = T (fits binary64 center.x) × T (fits binary64 center.y)

module _ {points : List ℤ} {C : Counts} {m : MeshRows} {center : Point2} (A : AcceptedStart points C m center) (fit : Fits center)
    (x : Float) (v : T (valid_angle x)) where
  abbrev L : Links
  L = links_in m

  abbrev q : ℕ → Point
  q = places_in m

  abbrev cx : Float
  cx = center.x

  abbrev cy : Float
  cy = center.y

  -- a boundary edge's segment holds x exactly when the arc of its whole numbers does
  segment-arc : {d : ℕ} → In C d → L.face d ≡ 0 → contains_angle (edge_segment L q cx cy d) x ≡ holds (turns x) (turns_about cx cy q (L.origin d)) (turns_about cx cy q (to L d))
  unfolding turns_about
  segment-arc {d} l f =
      let W = A.mesh.good.wf in
      let from = boundary-angle W q (λ u m. A.mesh.good.range m) cx cy fit.0 fit.1 A.center l f in
      let end = subst (λ (w : ℕ). IsAngle (angle_of_vertex q cx cy w)) (W.links.origin-next l)
      (boundary-angle W q (λ u m. A.mesh.good.range m) cx cy fit.0 fit.1 A.center (W.ranges.next< l) (W.links.face-next l ∙ f)) in
      contains-turns (edge_segment L q cx cy d) x (segment-good _ _ from end) v
      ∙ segment-holds _ _ (strict_apart W (turns_about cx cy q) A.strict l f) (turns x)

  pub edge-at-angle : EdgeAtAngle C L q cx cy x (located C L (turns_about cx cy q) (turns x))
  edge-at-angle =
      let W = A.mesh.good.wf in
      let α = turns_about cx cy q in
      let t = strict-ring W α A.strict in
      record {
        in_use = located< W α t (turns x);
        outer = located-outer W α t (turns x);
        contains = subst T (sym (segment-arc (located< W α t (turns x)) (located-outer W α t (turns x)))) (located-ends W α t (turns x));
        sole = λ {d} l f c.
            located-sole W α t (turns x) l f (subst (λ (b : ℕ). T (holds (turns x) (edge_angle L α d) b)) (sym (edge-end W α l)) (subst T (segment-arc l f) c));
      }

-- AN ACCEPTED CALL
pub located-edge : (C : Counts) (m : MeshRows) (ring : RingRows) (center : Point2) (x : Float) → Fits center
    → {r : Place} → (locate_of C m ring center x).answer ≡ Ok r
    → EdgeAtAngle C (links_in m) (places_in m) center.x center.y x r.edge
unfolding locate_of locate_outcome place_at_of
located-edge C m ring center x fit {r} e =
    let short = ring_short C.vertices ring in
    let g = go (and_then (check_start [] short C m center) (check_angle x))
    (place_at_of C (links_in m) (turns_about center.x center.y (places_in m)) (turns x)) e in
    let A = locate-start C m _ _ _ center x refl g.0 in
    let v = locate-angle C m _ _ _ center x refl g.0 in
    subst (EdgeAtAngle C (links_in m) (places_in m) center.x center.y x) (ap (λ (s : Place). s.edge) g.1) (edge-at-angle A fit x v)
  where
    go : (c : Checked) (s : Place) → (locate_outcome c s ring).answer ≡ Ok r → (c ≡ Ok tt) × (s ≡ r)
    go (Ok tt) s e = (refl, cc)
    go (Err w) s e = absurd (let z : ◌≡◌ {A = ℕ} 0 1 = cc in omega arith)
