-- A mesh that keeps the rules and whose inner faces all turn strictly left: the two sides of an inner edge are
-- different faces, the boundary's area is positive, and a boundary of three has no corner that turns left. Assumes
-- nothing.
use Rattle.std.specs.Prelude.{◌≡◌, ◌≢◌, [], ◌∷◌, ℕ, suc, ◌-◌, ◌<◌, ◌≤◌, ℤ, pos, neg_ℤ, ◌<ℤ◌}
use Rattle.std.proofs.Common.{sym, ◌∙◌, ap, subst, arith}
use Rattle.algebra.proofs.Order.{neg-<0}
use Rattle.algebra.specs.Ring.{⊝◌}
use Rattle.algebra.proofs.RingLaws.{v0}
use Rattle.algebra.proofs.Sign.{pos-in, weak, ◌+⁺◌, refute}
use Rattle.math.specs.declared.Point.{Point}
use Rattle.math.specs.Determinant.{orient2d}
use Rattle.math.proofs.Plane.{orient2d-next, orient2d-swap, orient2d-aab}
use Rattle.sums.specs.Half.{rev}
use Rattle.sums.proofs.HalfLaws.{rev-rev, rev-below}
use Rattle.sums.proofs.SumLaws.{sum-positive}
use Rattle.mesh.specs.declared.Counts.{Counts}
use Rattle.mesh.specs.Mesh.{Links, In, to}
use Rattle.mesh.specs.Wf.{Wf}
use Rattle.mesh.specs.Triangle.{two-faces}
use Rattle.mesh.specs.Area.{boundary_length, boundary_area, at_corners, over_faces, area_total, LeftTurning}
use Rattle.mesh.proofs.BoundaryLaws.{boundary-least, outer-period}
use Rattle.mesh.proofs.AreaCorners.{face-at}
use Rattle.mesh.proofs.CountsLaws.{faces-least}
use Rattle.mesh.proofs.AreaLaws.{area-theorem, outer-three}

-- what is positive is not 0
pub positive-ne : {z : ℤ} → pos 0 <ℤ z → z ≢ pos 0
positive-ne h e = (subst (λ (z : ℤ). pos 0 <ℤ z) e h).lt

module _ {C : Counts} {L : Links} (W : Wf C L) {p : ℕ → Point} (T : LeftTurning C L p) where
  -- from any half-edge of an inner face
  pub left_at : {e : ℕ} → In C e → 0 < L.face e → pos 0 <ℤ orient2d (p (L.origin e)) (p (to L e)) (p (L.origin (L.prev e)))
  left_at l i = subst (λ (z : ℤ). pos 0 <ℤ z) (face-at W orient2d p orient2d-next l i) (T.left i (W.ranges.face< l))

  -- no side of an inner face joins a vertex to itself
  pub sides-differ : {e : ℕ} → In C e → 0 < L.face e → L.origin e ≢ L.origin (L.next e)
  sides-differ {e} l i q = positive-ne (left_at l i)
      (ap (λ (v : ℕ). orient2d (p (L.origin e)) (p v) (p (L.origin (L.prev e)))) (sym (W.links.origin-next l) ∙ sym q) ∙ orient2d-aab (p (L.origin e)) (p (L.origin (L.prev e))))

  -- so the two sides of an inner edge are different faces
  pub faces-differ : {e : ℕ} → In C e → 0 < L.face e → L.face e ≢ L.face (rev e)
  faces-differ l i = two-faces W l i (λ x m q. sides-differ m (rw q i))

  -- `legalize_edges_after_removal` asks of an edge with one outer side e whether the far vertex f, from and to are
  -- ordered counterclockwise: they are not
  pub hull-edge : {e : ℕ} → In C e → L.face e ≡ 0 → orient2d (p (L.origin (L.prev (rev e)))) (p (L.origin e)) (p (to L e)) <ℤ pos 0
  hull-edge {e} l o =
      let a = p (L.origin e) in let b = p (to L e) in let f = p (L.origin (L.prev (rev e))) in
      let h : pos 0 <ℤ orient2d b a f = subst (λ (x : ℕ). pos 0 <ℤ orient2d b (p (L.origin x)) f) (rev-rev e) (left_at (rev-below C.edges l) (W.faces.side l o)) in
      subst (λ (z : ℤ). z <ℤ pos 0) (sym (orient2d-swap a f b ∙ ap neg_ℤ (sym (orient2d-next b a f)))) (neg-<0 h)

  -- ---- areas
  pub area-positive : pos 0 <ℤ area_total C L p
  unfolding over_faces
  area-positive = let n = faces-least W in
      sum-positive (C.faces - 1) (λ f. at_corners orient2d L p (L.adjacent (suc f))) (omega arith) (λ f l. T.left (omega arith) (omega arith))

  pub boundary-positive : pos 0 <ℤ boundary_area C L p
  boundary-positive = subst (λ (z : ℤ). pos 0 <ℤ z) (area-theorem W p) area-positive

  -- ---- a boundary of three has no corner that turns left
  -- 01: "a corner is the origins of e, of next(e) and of the one after, for each e of face 0."
  pub left-corner : {e : ℕ} → In C e → L.face e ≡ 0 → pos 0 <ℤ at_corners orient2d L p e → L.next (L.next (L.next e)) ≢ e
  left-corner {e} l o h q =
      let ρ = area_total C L p ∷ [] in
      refute (pos-in ρ (⊝ v0) (subst (λ (z : ℤ). pos 0 <ℤ z) (outer-three W p l o q) h) +⁺ weak (pos-in ρ v0 area-positive)) tt

  -- the same by the ends of e and of next e, as `create_single_face_between_edge_and_next` has the corner
  corner-ends : {e : ℕ} → In C e → pos 0 <ℤ orient2d (p (L.origin e)) (p (to L e)) (p (to L (L.next e)))
      → pos 0 <ℤ at_corners orient2d L p e
  corner-ends {e} l h = rw (W.links.origin-next (W.ranges.next< l), W.links.origin-next l) h

  pub corner-four : {e : ℕ} → In C e → L.face e ≡ 0 → pos 0 <ℤ orient2d (p (L.origin e)) (p (to L e)) (p (to L (L.next e)))
      → L.prev e ≢ L.next (L.next e)
  corner-four l o h q = left-corner l o (corner-ends l h) (sym (ap L.next q) ∙ W.links.next-prev l)

  pub corner-length : {e : ℕ} → In C e → L.face e ≡ 0 → pos 0 <ℤ orient2d (p (L.origin e)) (p (to L e)) (p (to L (L.next e)))
      → 4 ≤ boundary_length C L
  corner-length {e} l o h =
      let n = boundary-least W in
      let three : boundary_length C L ≢ 3 = λ q. left-corner l o (corner-ends l h) (rw q at (outer-period W l o)).back in
      omega arith
