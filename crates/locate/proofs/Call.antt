-- The call `locate` row by row, as it is met: a refusal leaves everything as it was, and an accepted call's ring is asked. Assumes nothing.
use Rattle.std.specs.Prelude.{◌≡◌, refl, Bool, true, false, cond, ℕ, ◌-◌, ◌*◌, ◌<◌, ◌≤◌, ◌^◌, T, Float, ℤ, length, Ok, Err}
use Rattle.std.proofs.Common.{sym, ◌∙◌, subst, arith}
use Rattle.std.proofs.Math.Path.{ap, ap₂}
use mathlib.Core.List.{List, []}
use Rattle.ring_rows.specs.RingRows.{RingRows, ring_zeros}
use Rattle.angle.specs.declared.Point2.{Point2}
use Rattle.angle.specs.Angle.{valid_angle, turns}
use Rattle.dcel.specs.MeshRows.{MeshRows, links_in, places_in}
use Rattle.dcel.specs.Rows.{row_of}
use Rattle.hull.specs.Boundary.{ToBuild}
use Rattle.hull.proofs.Ready.{angled-boundary, to-build, size_is, size-asks}
use Rattle.mesh.specs.declared.Counts.{Counts}
use Rattle.mesh_check.specs.Checked.{Checked}
use Rattle.mesh_check.specs.declared.Refusal.{Refusal}
use Rattle.mesh_check.specs.Check.{refused, and_then}
use Rattle.mesh_check.proofs.CheckLawsFacts.{then-accepts}
use Rattle.ring.specs.Center.{turns_about}
use Rattle.sums.proofs.BitLaws.{from-true}
use Rattle.locate.specs.Located.{Located}
use Rattle.locate.specs.declared.Place.{Place}
use Rattle.locate.specs.Locate.{ring_rows_short, ring_short, check_start, check_angle, place_at_of, located_with, locate_outcome, locate_of}
use Rattle.locate.specs.Rows.{BoundaryOf, ToAsk, PlaceOnBoundary}
use Rattle.locate.specs.Start.{RingRoom, AcceptedStart}
use Rattle.locate.proofs.StartLaws.{ring-room, accepted-held, accepted-placed, start-accepts}

pub angle-accepts : (x : Float) → check_angle x ≡ Ok tt → T (valid_angle x)
unfolding check_angle
angle-accepts x e = from-true (go (valid_angle x) e)
  where
    go : (t : Bool) → cond t (Ok tt) (refused 8 0) ≡ Ok tt → t ≡ true
    go true e = refl
    go false e = absurd (let z : ◌≡◌ {A = ℕ} 0 1 = cc in omega arith)

-- what building asks of an accepted start
module _ {points : List ℤ} {C : Counts} {m : MeshRows} {center : Point2} (A : AcceptedStart points C m center)
    {start size : ℕ} (s : start ≡ row_of m.faces 0) (z : size ≡ 2 * C.edges - 3 * (C.faces - 1)) where
  pub accepted-boundary : BoundaryOf C m.outs m.halves m.faces start size
  accepted-boundary = let M = accepted-held A.mesh in record { rules = M.rules; first = s; whole = z ∙ size_is M }

  pub accepted-build : {nodes buckets : ℕ} → C.vertices ≤ nodes → 8 ≤ buckets
      → ToBuild m.positions m.halves center.x center.y start size nodes buckets
  accepted-build {nodes} {buckets} u v =
      let M = accepted-held A.mesh in
      let P = accepted-placed A.mesh in
      let B = angled-boundary M m.positions P center.x center.y A.center in
      subst (λ (x : ℕ). ToBuild m.positions m.halves center.x center.y x size nodes buckets) (sym s)
      (to-build M m.positions P center.x center.y (z ∙ size_is M) B A.strict u v)

-- rows 1 to 8 let pass; the ring's rows have these lengths
module _ (C : Counts) (m : MeshRows) (nodes freed buckets : ℕ) (center : Point2) (x : Float)
    {short : Bool} (s : short ≡ ring_rows_short C.vertices nodes freed buckets)
    (e : and_then (check_start [] short C m center) (check_angle x) ≡ Ok tt) where
  accepted : AcceptedStart [] C m center × (short ≡ false)
  accepted = start-accepts [] short C m center (then-accepts (check_start [] short C m center) (check_angle x) e).0

  pub locate-start : AcceptedStart [] C m center
  locate-start = accepted.0

  locate-room : RingRoom C.vertices nodes freed buckets
  locate-room = ring-room C.vertices nodes freed buckets (sym s ∙ accepted.1)

  pub locate-angle : T (valid_angle x)
  locate-angle = angle-accepts x (then-accepts (check_start [] short C m center) (check_angle x) e).1

  -- what `adjacent`, `convex_hull_size` and `place_at` ask
  pub locate-face : 0 < length m.faces
  locate-face = let M = accepted-held locate-start.mesh in let f = M.rules.some in let g = M.room.faces in omega arith

  pub locate-size : (2 * C.edges < 2 ^ 32) × (1 ≤ C.faces) × (3 * (C.faces - 1) ≤ 2 * C.edges)
  locate-size = size-asks (accepted-held locate-start.mesh)

  pub locate-asks : {start size : ℕ} → start ≡ row_of m.faces 0 → size ≡ 2 * C.edges - 3 * (C.faces - 1)
      → ToAsk m.positions m.halves center.x center.y start size nodes buckets x
  locate-asks t z = record {
    counts = C;
    outs = m.outs;
    faces = m.faces;
    boundary = accepted-boundary locate-start t z;
    build = accepted-build locate-start t z (let r = locate-room.nodes-fit in omega arith) (let r = locate-room.sixteen in omega arith);
    angle = locate-angle;
  }

module _ (C : Counts) (m : MeshRows) (ring : RingRows) (center : Point2) (x : Float) {short : Bool}
    (s : short ≡ ring_short C.vertices ring) where
  abbrev place : Place
  place = place_at_of C (links_in m) (turns_about center.x center.y (places_in m)) (turns x)

  -- c is what the checks answer
  outcome-is : {c : Checked} → and_then (check_start [] short C m center) (check_angle x) ≡ c
      → locate_outcome c place ring ≡ locate_of C m ring center x
  unfolding locate_of
  outcome-is e =
      ap (λ (c : Checked). locate_outcome c place ring)
      (sym e ∙ ap (λ (t : Bool). and_then (check_start [] t C m center) (check_angle x)) s)

  pub locate-refused : {r : Refusal} → and_then (check_start [] short C m center) (check_angle x) ≡ Err r
      → located_with (Err r) ring ≡ locate_of C m ring center x
  unfolding locate_outcome
  locate-refused e = outcome-is e

  -- the rows are cleared as they were left
  pub locate-found : and_then (check_start [] short C m center) (check_angle x) ≡ Ok tt
      → {start size : ℕ} → start ≡ row_of m.faces 0 → size ≡ 2 * C.edges - 3 * (C.faces - 1)
      → {r : Place} → PlaceOnBoundary m.positions m.halves center.x center.y start size x r
      → {ring' : RingRows} → ring' ≡ ring_zeros ring → located_with (Ok r) ring' ≡ locate_of C m ring center x
  unfolding locate_outcome
  locate-found e t z P k =
      ap₂ (λ (p : Place) (w : RingRows). located_with (Ok p) w)
      (P C m.outs m.faces (accepted-boundary (locate-start C m _ _ _ center x s e) t z)) k
      ∙ outcome-is e
