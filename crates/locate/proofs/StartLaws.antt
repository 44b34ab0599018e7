-- Laws of specs/Start.antt.
use Rattle.std.proofs.Math.Path.{◌≡◌, sym, ap, ap₂, subst}
use Rattle.std.specs.Prelude.{refl, Bool, not, ◌||◌, List, ℕ, ◌+◌, ◌-◌, ◌*◌, ◌<◌, ◌≤◌, ◌^◌, T, ltb, Float, ℤ, length, Ok, Err}
use Rattle.std.proofs.Common.{◌∙◌, arith, T_not, ltb-false}
use Rattle.std.proofs.Math.Bool.{true, false, cond}
use Rattle.angle.specs.declared.Point2.{Point2}
use Rattle.dcel.specs.MeshHeld.{MeshHeld}
use Rattle.dcel.specs.MeshRows.{MeshRows, links_in, places_in}
use Rattle.dcel.specs.Rows.{row_of, links_of, position_of}
use Rattle.hull.specs.Boundary.{edge_at}
use Rattle.hull.proofs.Ready.{boundary-rows, boundary-closed, strict-test, center-test, size_is, size-asks}
use Rattle.math.specs.declared.Point.{Point}
use Rattle.mesh.specs.declared.Counts.{Counts}
use Rattle.mesh.specs.Mesh.{Links}
use Rattle.mesh.specs.Area.{boundary_length}
use Rattle.mesh.proofs.BoundaryLaws.{next-inverse, first<, boundary-period}
use Rattle.mesh.proofs.CountsLaws.{count-edges, faces-fit, halves-fit}
use Rattle.mesh_check.specs.Checked.{Checked}
use Rattle.mesh_check.specs.declared.Refusal.{Refusal}
use Rattle.mesh_check.specs.Accepted.{AcceptedWith}
use Rattle.mesh_check.proofs.AcceptedLaws.{with-accepts, or-false}
use Rattle.mesh_check.specs.Check.{refused, check_with, vertex_count}
use Rattle.mesh_check.specs.CheckLaws.{NumberedTo, accepts}
use Rattle.mesh_check.proofs.CheckLawsFacts.{numbered_more, numbered-cond, check-numbered, then_next, then-refused, then-accepts, then-numbered}
use Rattle.ring.specs.Ring.{is_strict_ring}
use Rattle.ring.specs.Center.{turns_about, refuses_center, refuses_ring}
use Rattle.sums.proofs.BitLaws.{from_false, sure}
use Rattle.sums.proofs.IterateLaws.{reach-on}
use Rattle.locate.specs.Locate.{ring_rows_short, check_ring, check_start}
use Rattle.locate.specs.Rows.{ClosedBoundary, ring_checked}
use Rattle.locate.specs.Start.{RingRoom, AcceptedStart}

pub ring-room : (n nodes freed buckets : ℕ) → ring_rows_short n nodes freed buckets ≡ false → RingRoom n nodes freed buckets
unfolding ring_rows_short
ring-room n nodes freed buckets e =
    let x = or-false (ltb nodes (n + 1)) (ltb freed (n + 1) || (ltb buckets 16 || ltb buckets n)) e in
    let y = or-false (ltb freed (n + 1)) (ltb buckets 16 || ltb buckets n) x.1 in
    let z = or-false (ltb buckets 16) (ltb buckets n) y.1 in
    record { nodes-fit = ltb-false nodes (n + 1) x.0; freed-fit = ltb-false freed (n + 1) y.0; sixteen = ltb-false buckets 16 z.0; buckets-fit = ltb-false buckets n z.1 }

-- ---- rows 6 and 7
-- the rows of an accepted mesh hold it
pub accepted-held : {points : List ℤ} {C : Counts} {m : MeshRows} → AcceptedWith points C m → MeshHeld C m.outs m.halves m.faces
unfolding vertex_count
accepted-held {points} {C} {m} A =
    let W = A.good.wf in
    record {
      room = record {
        outs = let r = A.rows.outs in omega arith;
        halves = let r = A.rows.halves in let f = halves-fit W {N = C.vertices} (omega arith) in omega arith;
        faces = let r = A.rows.faces in let f = faces-fit W {N = C.vertices} (omega arith) in omega arith;
        small = let m = A.most in let e = count-edges W in omega arith;
      };
      rules = W;
    }

pub accepted-placed : {points : List ℤ} {C : Counts} {m : MeshRows} → AcceptedWith points C m → 2 * C.vertices ≤ length m.positions
unfolding vertex_count
accepted-placed A = let r = A.rows.positions in omega arith

module _ {C : Counts} (p : List ℤ) {o h a : List ℕ} (M : MeshHeld C o h a) (placed : 2 * C.vertices ≤ length p) {start size : ℕ} (s : start ≡ row_of a 0) (z : size ≡ boundary_length C (links_of o h a)) where
  pub closed-boundary : ClosedBoundary p h start size
  unfolding links_of
  closed-boundary = subst (λ (x : ℕ). ClosedBoundary p h x size) (sym s) (record { rows = boundary-rows M p placed; closed = boundary-closed M z; round = λ k. meets k })
    where
      meets : (k : ℕ) → (j : ℕ) × (j < size) × (edge_at h (row_of a 0) j ≡ edge_at h (row_of a 0) k)
      meets k = let r = reach-on (next-inverse M.rules) (first< M.rules) (boundary-period M.rules) (k, refl) in (r.0, (let l = r.1 in omega arith), r.2)

  pub ring-checked : (cx cy : Float) → ring_checked p h cx cy start size ≡ check_ring C (links_of o h a) (position_of p) cx cy
  unfolding ring_checked check_ring refuses_ring
  ring-checked cx cy =
      ap (λ (x : ℕ). ring_checked p h cx cy x size) s
      ∙ ap₂ (λ (t u : Bool). cond t (refused 6 0) (cond (not u) (refused 7 0) (Ok tt))) (center-test M p placed cx cy z) (strict-test M p placed cx cy z)

-- ---- what is met
module _ (C : Counts) (L : Links) (p : ℕ → Point) (cx cy : Float) where
  pub ring-accepts : check_ring C L p cx cy ≡ Ok tt → (refuses_center C L p cx cy ≡ false) × (refuses_ring C L p cx cy ≡ false)
  unfolding check_ring
  ring-accepts e = go (refuses_center C L p cx cy) (refuses_ring C L p cx cy) e
    where
      go : (t u : Bool) → cond t (refused 6 0) (cond u (refused 7 0) (Ok tt)) ≡ Ok tt → (t ≡ false) × (u ≡ false)
      go true u e = absurd (let z : ◌≡◌ {A = ℕ} 0 1 = cc in omega arith)
      go false true e = absurd (let z : ◌≡◌ {A = ℕ} 0 1 = cc in omega arith)
      go false false e = (refl, refl)

module _ (points : List ℤ) (short : Bool) (C : Counts) (m : MeshRows) (center : Point2) where
  abbrev ring : Checked
  ring = check_ring C (links_in m) (places_in m) center.x center.y

  pub start-accepts : check_start points short C m center ≡ Ok tt → AcceptedStart points C m center × (short ≡ false)
  unfolding check_start refuses_ring
  start-accepts e =
      let t = then-accepts (check_with points short C m) ring e in
      let w = with-accepts {points = points} {short = short} {C = C} {m = m} t.0 in
      let r = ring-accepts C (links_in m) (places_in m) center.x center.y t.1 in
      let S = is_strict_ring C (links_in m) (turns_about center.x center.y (places_in m)) in
      (record { mesh = w.0; center = from_false r.0; strict = sure S (T_not (not S) (from_false r.1)) }, w.1)

  -- a refusal has one of the numbers 1 to 7
  pub start-numbered : NumberedTo 7 (check_start points short C m center)
  unfolding check_start check_with check_ring
  start-numbered =
      then-numbered (numbered_more (omega arith) (check-numbered _ _ _ _ _))
      (numbered-cond (refuses_center C (links_in m) (places_in m) center.x center.y) 6 0 (omega arith) (omega arith)
      (numbered-cond (refuses_ring C (links_in m) (places_in m) center.x center.y) 7 0 (omega arith) (omega arith) accepts))

  -- the table goes on where rows 1 to 5 let pass, and stops where they do not
  pub start-refused : {r : Refusal} → check_with points short C m ≡ Err r → Err r ≡ check_start points short C m center
  unfolding check_start
  start-refused e = sym (then-refused ring e)

module _ (points : List ℤ) (short : Bool) (C : Counts) (m : MeshRows) (e : check_with points short C m ≡ Ok tt) where
  pub start-mesh : AcceptedWith points C m
  start-mesh = (with-accepts {points = points} {short = short} {C = C} {m = m} e).0

  pub start-face : 0 < length m.faces
  start-face = let r = accepted-held start-mesh in let f = r.rules.some in let g = r.room.faces in omega arith

  pub start-size : (2 * C.edges < 2 ^ 32) × (1 ≤ C.faces) × (3 * (C.faces - 1) ≤ 2 * C.edges)
  start-size = size-asks (accepted-held start-mesh)

  module _ {start size : ℕ} (s : start ≡ row_of m.faces 0) (z : size ≡ 2 * C.edges - 3 * (C.faces - 1)) where
    pub start-boundary : ClosedBoundary m.positions m.halves start size
    start-boundary = let M = accepted-held start-mesh in closed-boundary m.positions M (accepted-placed start-mesh) s (z ∙ size_is M)

    pub start-goes-on : (center : Point2) {r : Checked} → r ≡ ring_checked m.positions m.halves center.x center.y start size
        → r ≡ check_start points short C m center
    unfolding check_start
    start-goes-on center q =
        let M = accepted-held start-mesh in
        q ∙ ring-checked m.positions M (accepted-placed start-mesh) s (z ∙ size_is M) center.x center.y
        ∙ sym (then_next (check_ring C (links_in m) (places_in m) center.x center.y) e)
