-- Each of the three operations keeps a mesh good under its condition: the far vertex not outside the circle, a
-- corner that turns strictly left, a new point strictly left of the edge. And what each does to the boundary's length.
-- Assumes nothing.
use Rattle.std.specs.Prelude.{◌≡◌, refl, ◌≢◌, ℕ, ◌+◌, ◌*◌, ◌/◌, ◌<◌, ℤ, pos, nat_abs, ◌<ℤ◌, ◌≤ℤ◌}
use Rattle.std.proofs.Common.{sym, ◌∙◌, ap, arith}
use Rattle.std.proofs.Math.Decide.{ℕ_discrete}
use Rattle.algebra.proofs.Order.{lt-le}
use Rattle.math.specs.declared.Point.{Point}
use Rattle.math.specs.Determinant.{orient2d, InRange}
use Rattle.math.proofs.Plane.{orient2d-next}
use Rattle.sums.specs.Half.{rev}
use Rattle.sums.proofs.HalfLaws.{rev-rev, rev-even, rev-below}
use Rattle.mesh.specs.declared.Counts.{Counts}
use Rattle.mesh.specs.Mesh.{Links, In, to}
use Rattle.mesh.specs.Operations.{flip_cw, create_single_face_between_edge_and_next, create_new_face_adjacent_to_edge, with_face, with_vertex}
use Rattle.mesh.specs.Wf.{Wf}
use Rattle.mesh.specs.Flip.{Flippable}
use Rattle.mesh.proofs.FlipLaws.{flip-keeps}
use Rattle.mesh.proofs.SingleFaceLaws.{single-face-keeps, single-face-frame}
use Rattle.mesh.proofs.NewFaceLaws.{new-face-keeps, new-face-frame}
use Rattle.mesh.specs.Area.{boundary_length, circle_at, height_sum}
use Rattle.mesh.proofs.CountsLaws.{count-edges}
use Rattle.mesh.proofs.LeftLaws.{faces-differ, corner-four}
use Rattle.mesh.specs.HeightLaws.{FaceAdded}
use Rattle.mesh.proofs.HeightLawsFacts.{added-left, even-half, circle-half, flip-falls, flip-keeps-left}
use Rattle.mesh.specs.Good.{Good}

-- ---- the flip
-- an inner edge of a good mesh can be flipped: its two faces differ
pub flippable : {C : Counts} {L : Links} {p : ℕ → Point} → Good C L p → {u : ℕ} → u < C.edges → 0 < L.face (2 * u)
    → 0 < L.face (2 * u + 1) → Flippable C L u
flippable {L = L} G {u} l i j = record {
  edge = l;
  inner-left = i;
  inner-right = j;
  differ = λ q. faces-differ G.wf G.turning {e = 2 * u} (omega arith) i (q ∙ ap L.face (sym (rev-even u)));
}

pub flip-good : {C : Counts} {L : Links} {p : ℕ → Point} → Good C L p → {u : ℕ} → Flippable C L u
    → pos 0 ≤ℤ circle_at L p (2 * u) → Good C (flip_cw L u) p
flip-good {p = p} G {u} B h = record { wf = flip-keeps G.wf u B; turning = flip-keeps-left G.wf B p G.turning h; range = G.range }

-- the same by a half-edge e of the edge, e / 2
pub flippable-at : {C : Counts} {L : Links} {p : ℕ → Point} → Good C L p → {e : ℕ} → In C e → 0 < L.face e
    → 0 < L.face (rev e) → Flippable C L (e / 2)
flippable-at {L = L} G {e} l i j = flippable G (omega arith) (even-half (λ x. 0 < L.face x) e i j)
    (rw (rev-even (e / 2)) at (even-half (λ x. 0 < L.face (rev x)) e j (rw (rev-rev e) i)))

pub flip-good-at : {C : Counts} {L : Links} {p : ℕ → Point} → Good C L p → {e : ℕ} → In C e → 0 < L.face e
    → 0 < L.face (rev e) → pos 0 ≤ℤ circle_at L p e
    → Good C (flip_cw L (e / 2)) p
flip-good-at {L = L} {p = p} G {e} l i j h = flip-good G (flippable-at G l i j) (rw (circle-half L p e) h)

-- each such flip brings the height sum's absolute value down
pub flip-good-falls : {C : Counts} {L : Links} {p : ℕ → Point} → Good C L p → {u : ℕ} → Flippable C L u → pos 0 <ℤ circle_at L p (2 * u)
    → nat_abs (height_sum C (flip_cw L u) p) < nat_abs (height_sum C L p)
flip-good-falls {p = p} G B h = flip-falls G.wf B p (flip-good G B (lt-le h)).turning h

pub flip-length : {C : Counts} {L : Links} → Wf C L → {u : ℕ} → Flippable C L u → boundary_length C (flip_cw L u) ≡ boundary_length C L
flip-length W {u} B = let a = count-edges W in let b = count-edges (flip-keeps W u B) in omega arith

-- ---- the face between an outer edge and the next
module _ {C : Counts} {L : Links} {p : ℕ → Point} (G : Good C L p) {e : ℕ} (l : In C e) (o : L.face e ≡ 0)
    (h : pos 0 <ℤ orient2d (p (L.origin e)) (p (to L e)) (p (to L (L.next e)))) where
  four : L.prev e ≢ L.next (L.next e)
  four = corner-four G.wf G.turning l o h

  pub single-face-added : FaceAdded C (with_face C) L (create_single_face_between_edge_and_next L C e) p p
      (to L (L.next e)) (L.origin e) (L.origin (L.next e))
  single-face-added = let F = single-face-frame G.wf l o four in
      record { faces = refl; corners = F.corners-new; others = F.others; positions = λ v _. refl }

  pub single-face-wf : Wf (with_face C) (create_single_face_between_edge_and_next L C e)
  single-face-wf = single-face-keeps G.wf l o four

  pub single-face-good : Good (with_face C) (create_single_face_between_edge_and_next L C e) p
  single-face-good = record {
    wf = single-face-wf;
    turning = added-left G.wf single-face-wf single-face-added G.turning
        (rw (orient2d-next (p (to L (L.next e))) (p (L.origin e)) (p (L.origin (L.next e))), G.wf.links.origin-next l) h);
    range = G.range;
  }

  pub single-face-length : boundary_length (with_face C) (create_single_face_between_edge_and_next L C e) + 1 ≡ boundary_length C L
  single-face-length = let a = count-edges G.wf in let b = count-edges single-face-wf in omega arith

-- ---- the face of an outer edge and a new vertex
module _ {C : Counts} {L : Links} {p p' : ℕ → Point} (G : Good C L p) {e : ℕ} (l : In C e) (o : L.face e ≡ 0)
    (same : (v : ℕ) → v < C.vertices → p' v ≡ p v) (r : InRange (p' C.vertices))
    (h : pos 0 <ℤ orient2d (p (L.origin e)) (p (to L e)) (p' C.vertices)) where
  pub new-face-added : FaceAdded C (with_vertex C) L (create_new_face_adjacent_to_edge L C e) p p' (L.origin e) (to L e) C.vertices
  new-face-added = let F = new-face-frame G.wf l o in
      record { faces = refl; corners = F.corners-new; others = F.others; positions = same }

  pub new-face-good : Good (with_vertex C) (create_new_face_adjacent_to_edge L C e) p'
  new-face-good = record {
    wf = new-face-keeps G.wf l o;
    turning = added-left G.wf (new-face-keeps G.wf l o) new-face-added G.turning
        (rw (same (L.origin e) (G.wf.ranges.origin< l), same (to L e) (G.wf.ranges.origin< (rev-below C.edges l))) h);
    range = λ {v} m. at m (ℕ_discrete v C.vertices);
  }
    where
      at : {v : ℕ} → v < C.vertices + 1 → Dec (v ≡ C.vertices) → InRange (p' v)
      at m (yes q) = rw q r
      at {v} m (no n) = let k : v < C.vertices = omega arith in rw (same v k) (G.range k)

pub new-face-length : {C : Counts} {L : Links} → Wf C L → {e : ℕ} → In C e → L.face e ≡ 0
    → boundary_length (with_vertex C) (create_new_face_adjacent_to_edge L C e) ≡ boundary_length C L + 1
new-face-length W l o = let a = count-edges W in let b = count-edges (new-face-keeps W l o) in omega arith
