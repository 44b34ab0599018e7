-- A mesh that rows 1 to 7 accept, as a decision by its boundary asks for it: the edge that is looked for is the located one. Assumes
-- nothing.
use Rattle.std.specs.Prelude.{List, ◌≡◌, ℕ, ◌+◌, ◌-◌, ◌*◌, T, Float, ℤ}
use Rattle.std.proofs.Math.Path.{refl, sym, ap}
use Rattle.std.proofs.Common.{◌∙◌, subst, arith}
use Rattle.angle.specs.declared.Point2.{Point2}
use Rattle.angle.specs.Angle.{IsAngle, angle_about, turns, valid_center}
use Rattle.dcel.specs.MeshHeld.{MeshHeld}
use Rattle.dcel.specs.MeshRows.{mesh_rows}
use Rattle.dcel.specs.Rows.{halves_of, links_of, position_of, row_of}
use Rattle.decide.specs.Located.{LocatedRows, EndAngles}
use Rattle.hull.proofs.Along.{next-at, angled}
use Rattle.hull.specs.Boundary.{AngledBoundary, Angled, AngleAt, origin_turns}
use Rattle.hull.proofs.Ready.{size_is, angled-boundary}
use Rattle.locate.specs.Start.{AcceptedStart}
use Rattle.locate.proofs.StartLaws.{accepted-held, accepted-placed}
use Rattle.math.specs.declared.Point.{Point}
use Rattle.math.specs.Determinant.{InRange}
use Rattle.mesh.specs.declared.Counts.{Counts}
use Rattle.mesh.specs.Mesh.{In}
use Rattle.mesh.specs.Area.{boundary_length}
use Rattle.mesh.proofs.BoundaryLaws.{first<, first-outer}
use Rattle.mesh_check.specs.Check.{point_count}
use Rattle.ring.proofs.Boundary.{edge-end, located<, located-outer, located-holds, outer-on, outer-round, strict-ring, strict-nodes}
use Rattle.ring.specs.Center.{turns_about}
use Rattle.ring.specs.Node.{nodes as node_count}
use Rattle.ring.specs.Ring.{at_ends, boundary_edges, edge_angle, is_sound_ring, located, proper}
use Rattle.start.specs.Start.{point_row}
use Rattle.start.specs.StartLaws.{accepted-rows}
use Rattle.sums.specs.Bounded.{first_below}
use Rattle.sums.proofs.TallyLaws.{tally-at}
use Rattle.ask.specs.AskRows.{edge_holds, edge_holding}

module _ {v : Point} {C : Counts} {q : List ℤ} {o h a : List ℕ} {center : Point2}
    (A : AcceptedStart (point_row v) C (mesh_rows q o h a) center) where
  abbrev cx : Float
  cx = center.x

  abbrev cy : Float
  cy = center.y

  abbrev α : ℕ → ℕ
  α = turns_about cx cy (position_of q)

  pub quote-range : InRange v
  unfolding point_count position_of
  quote-range = A.mesh.range {i = 0} (omega arith)

  held : MeshHeld C o h a
  held = accepted-held A.mesh

  pub quote-boundary : {start : ℕ} → start ≡ row_of a 0 → AngledBoundary q h cx cy start
  quote-boundary e =
      subst (AngledBoundary q h cx cy) (sym e) (angled-boundary held q (accepted-placed A.mesh) cx cy A.center)

  pub quote-center : T (valid_center cx cy)
  quote-center = (quote-boundary refl).valid

  sound : T (is_sound_ring C (links_of o h a) α)
  sound = strict-ring held.rules α A.strict

  -- in a strict ring every boundary edge has a node
  node-count : {d e : ℕ} → In C d → (links_of o h a).face d ≡ 0 → e ≡ d
      → node_count (links_of o h a).next (edge_angle (links_of o h a) α) (boundary_length C (links_of o h a)) e ≡ boundary_length C (links_of o h a)
  unfolding boundary_edges
  node-count l f y =
      let W = held.rules in
      let L = links_of o h a in
      let r = outer-on W (first< W) (first-outer W) l f in
      ap (node_count L.next (edge_angle L α) (boundary_length C L)) (y ∙ sym r.2)
      ∙ tally-at (at_ends proper L.next (edge_angle L α)) L.next (boundary_length C L) (L.adjacent 0)
      (outer-round W (first< W) (first-outer W)) r.0
      ∙ strict-nodes W α A.strict

  module _ {start size e : ℕ} (s : start ≡ row_of a 0) (z : size ≡ 2 * C.edges - 3 * (C.faces - 1)) (x : ℕ)
      (is : e ≡ edge_holding q h cx cy start size x) where
    whole : size ≡ boundary_length C (links_of o h a)
    whole = z ∙ size_is held

    pub held-located : e ≡ located C (links_of o h a) α x
    unfolding located links_of
    held-located = is ∙ rw (s, whole) refl

  -- the edge that is found has an angle at its origin, and the next one too
  pub found-angled : (start size x : ℕ) {e : ℕ} → start ≡ row_of a 0 → e ≡ edge_holding q h cx cy start size x → Angled q h cx cy e
  found-angled start size x s is = angled (first_below size (edge_holds q h cx cy start x)) (quote-boundary s) is

  pub next-angled : (start size x : ℕ) {e n : ℕ} → start ≡ row_of a 0 → e ≡ edge_holding q h cx cy start size x → n ≡ (halves_of h).next e
      → Angled q h cx cy n
  next-angled start size x s is d =
      let k = first_below size (edge_holds q h cx cy start x) in
      angled (k + 1) (quote-boundary s) (next-at h start k is d)

  -- those are the angles of its ends
  pub quote-ends : {e n : ℕ} → In C e → n ≡ (halves_of h).next e → {from to : Float} → AngleAt q h cx cy e from → AngleAt q h cx cy n to
      → EndAngles q h cx cy e from to
  unfolding links_of
  quote-ends l d A B = record {
    from-angle = A;
    to-angle = record {
      is-angle = B.is-angle;
      turns-are = B.turns-are ∙ ap (origin_turns q h cx cy) d ∙ edge-end held.rules α l;
    };
  }

  pub quote-located : {start size e : ℕ} → start ≡ row_of a 0 → size ≡ 2 * C.edges - 3 * (C.faces - 1)
      → {g : Float} → IsAngle g → g ≡ angle_about v.x v.y cx cy → e ≡ edge_holding q h cx cy start size (turns g)
      → LocatedRows C q o h a cx cy e size C.vertices v g
  quote-located {e = e} s z {g} i k is =
      let W = held.rules in
      let y = held-located s z (turns g) is in
      record {
        mesh = accepted-rows A.mesh;
        center = A.center;
        sound = sound;
        in_use = subst (λ (d : ℕ). In C d) (sym y) (located< W α sound (turns g));
        outer = ap (links_of o h a).face y ∙ located-outer W α sound (turns g);
        at = rw y (located-holds W α sound (turns g));
        count = node-count (located< W α sound (turns g)) (located-outer W α sound (turns g)) y ∙ sym (z ∙ size_is held);
        vertex = refl;
        range = quote-range;
        is-angle = i;
        angle = ap turns k;
      }
