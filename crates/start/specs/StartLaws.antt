-- A call that the checks let pass has a good mesh with a strict ring about its centre, and rows with room (`sweep-accepts`); building from
-- it leaves the mesh with its ring in the rows (`ring-started`). Assumes nothing.
use Rattle.std.specs.Prelude.{Bool, false, ◌||◌, List, ◌≡◌, ℕ, ◌-◌, ◌*◌, ◌<◌, ◌≤◌, ◌^◌, ltb, ℤ, length, Ok}
use Rattle.std.proofs.Common.{◌∙◌, subst, arith, ltb-false}
use Rattle.angle.specs.declared.Point2.{Point2}
use Rattle.circle_test.specs.GoodRows.{GoodRows}
use Rattle.dcel.specs.MeshRows.{MeshRows, mesh_rows, links_in}
use Rattle.dcel.specs.Rows.{row_of}
use Rattle.decide.specs.SweepRows.{SweepRows}
use Rattle.hull.specs.Boundary.{ToBuild}
use Rattle.hull.proofs.Build.{built-held}
use Rattle.hull.specs.Held.{FromBoundary}
use Rattle.hull.proofs.Ready.{size_is, size-asks, strict-size}
use Rattle.locate.proofs.Call.{accepted-build}
use Rattle.locate.specs.Locate.{ring_rows_short}
use Rattle.locate.specs.Start.{RingRoom, AcceptedStart}
use Rattle.locate.proofs.StartLaws.{ring-room, start-accepts, accepted-held, accepted-placed, start-numbered}
use Rattle.mesh.specs.declared.Counts.{Counts}
use Rattle.mesh.specs.Area.{boundary_length}
use Rattle.mesh_check.specs.Accepted.{AcceptedWith}
use Rattle.mesh_check.proofs.AcceptedLaws.{or-false}
use Rattle.mesh_check.specs.Check.{vertex_count}
use Rattle.mesh_check.specs.CheckLaws.{NumberedTo}
use Rattle.ring_rows.specs.declared.Node.{Node}
use Rattle.ring_rows.specs.declared.Hull.{Hull}
use Rattle.start.specs.Start.{sweep_rows_short, sweep_checked}
use Rattle.start.specs.StartRows.{ToStart, Started}

-- ---- the checks
-- rows 1 to 7 let pass
pub record AcceptedSweep (points : List ℤ) (short : Bool) (C : Counts) (m : MeshRows) (nodes freed buckets pending : ℕ)
    (center : Point2) : Type 0 where
  pub start : AcceptedStart points C m center
  pub ring-rows : RingRoom (vertex_count C points) nodes freed buckets
  pub pending-rows : 8 ≤ pending
  pub others : short ≡ false

pub sweep-accepts : {points : List ℤ} {short : Bool} {C : Counts} {m : MeshRows} {nodes freed buckets pending : ℕ} {center : Point2}
    → sweep_checked points short C m nodes freed buckets pending center ≡ Ok tt
    → AcceptedSweep points short C m nodes freed buckets pending center
unfolding sweep_checked sweep_rows_short
sweep-accepts {points} {short} {C} {m} {nodes} {freed} {buckets} {pending} {center} e =
    let n = vertex_count C points in
    let s = start-accepts points (short || (ring_rows_short n nodes freed buckets || ltb pending 8)) C m center e in
    let x = or-false short (ring_rows_short n nodes freed buckets || ltb pending 8) s.1 in
    let y = or-false (ring_rows_short n nodes freed buckets) (ltb pending 8) x.1 in
    record { start = s.0; ring-rows = ring-room n nodes freed buckets y.0; pending-rows = ltb-false pending 8 y.1; others = x.0 }

-- a refusal has one of the numbers 1 to 7
pub sweep-numbered : (points : List ℤ) (short : Bool) (C : Counts) (m : MeshRows) (nodes freed buckets pending : ℕ) (center : Point2)
    → NumberedTo 7 (sweep_checked points short C m nodes freed buckets pending center)
unfolding sweep_checked
sweep-numbered points short C m nodes freed buckets pending center = start-numbered points _ C m center

-- ---- the rows of an accepted mesh
pub accepted-rows : {points : List ℤ} {C : Counts} {m : MeshRows} → AcceptedWith points C m
    → GoodRows C m.positions m.outs m.halves m.faces
accepted-rows A = record { room = (accepted-held A).room; positions = accepted-placed A; good = A.good }

module _ {points : List ℤ} {C : Counts} {m : MeshRows} {center : Point2} (A : AcceptedStart points C m center) where
  -- what `adjacent` and `convex_hull_size` ask
  pub started-face : 0 < length m.faces
  started-face = let M = accepted-held A.mesh in let f = M.rules.some in let g = M.room.faces in omega arith

  pub started-size : (2 * C.edges < 2 ^ 32) × (1 ≤ C.faces) × (3 * (C.faces - 1) ≤ 2 * C.edges)
  started-size = size-asks (accepted-held A.mesh)

  -- a strict boundary has no more edges than the mesh has vertices
  pub ring-most : boundary_length C (links_in m) ≤ C.vertices
  ring-most = strict-size (accepted-held A.mesh) m.positions (accepted-placed A.mesh) center.x center.y A.strict

-- THE RING IS BUILT: for every row of out edges and every row for freed nodes
module _ {C : Counts} {q : List ℤ} {h a : List ℕ} {n b : ℕ} {center : Point2} (T : ToStart C q h a n b center) {start size : ℕ}
    (s : start ≡ row_of a 0) (z : size ≡ 2 * C.edges - 3 * (C.faces - 1)) where
  pub started-build : ToBuild q h center.x center.y start size n b
  started-build = accepted-build T.start s z T.node-room T.bucket-room

  pub ring-started : {nodes : List Node} {buckets : List ℕ} {r : Hull} → FromBoundary q h center.x center.y start size nodes buckets r
      → length nodes ≡ n → length buckets ≡ b → Started C q h a nodes buckets r center
  ring-started {nodes} {buckets} {r} F u v = record {
    sweep = λ {points} {o} {freed} A l. held A l;
    nodes-most =
        let most = ring-most T.start in
        let whole = size_is (accepted-held T.start.mesh) in
        let used = F.used in
        omega arith;
  }
    where
      held : {points : List ℤ} {o freed : List ℕ} → AcceptedStart points C (mesh_rows q o h a) center → C.vertices ≤ length freed
          → SweepRows C q o h a nodes freed buckets r center.x center.y
      held {points} {o} {freed} A l =
          let M = accepted-held A.mesh in
          let most = ring-most A in
          let whole = z ∙ size_is M in
          record {
            mesh = accepted-rows A.mesh;
            center = A.center;
            ring = built-held o a M.rules (subst (λ (x : ℕ). ToBuild q h center.x center.y x size n b) s started-build) whole
                (subst (λ (x : ℕ). FromBoundary q h center.x center.y x size nodes buckets r) s F)
                (let k = T.node-room in omega arith) (omega arith) (let k = T.bucket-room in omega arith);
          }
