-- The directions of a boundary whose inner faces turn left: none is 0, so a corner that is straight goes on ahead where
-- it does not go back. Assumes nothing.
use Rattle.std.specs.Prelude.{◌≡◌, ℕ, ℤ, pos, ◌<ℤ◌}
use Rattle.std.proofs.Common.{sym, ◌∙◌, subst}
use Rattle.std.proofs.Math.Path.{ap}
use Rattle.math.specs.declared.Point.{Point}
use Rattle.math.specs.Determinant.{orient2d}
use Rattle.math.proofs.Plane.{orient2d-swap}
use Rattle.math.specs.Vector.{difference, cross_of, dot_of}
use Rattle.sums.specs.Half.{rev}
use Rattle.sums.proofs.HalfLaws.{rev-rev, rev-below}
use Rattle.mesh.specs.declared.Counts.{Counts}
use Rattle.mesh.specs.Mesh.{Links, In, to}
use Rattle.mesh.specs.Wf.{Wf}
use Rattle.mesh.specs.Area.{LeftTurning, at_corners}
use Rattle.mesh.proofs.LeftLaws.{left_at}
use Rattle.outline.specs.Outline.{direction}
use Rattle.outline.proofs.VectorLaws.{cross-end, cross-along, cross-not-0}

module _ {C : Counts} {L : Links} (W : Wf C L) {p : ℕ → Point} (turning : LeftTurning C L p) where
  pub edge-not-0 : {e : ℕ} → In C e → L.face e ≡ 0 → let u = difference (p (to L e)) (p (L.origin e)) in pos 0 <ℤ dot_of u u
  edge-not-0 {e} l o =
      let a = p (L.origin e) in let b = p (to L e) in let c = p (L.origin (L.prev (rev e))) in
      cross-not-0 (difference b a) (difference b c) (subst (λ (z : ℤ). pos 0 <ℤ z) (orient2d-swap a b c ∙ sym (cross-end a b c))
      (subst (λ (d : ℕ). pos 0 <ℤ orient2d b (p (L.origin d)) c) (rev-rev e) (left_at W turning (rev-below C.edges l) (W.faces.side l o))))

  -- the directions about a corner turn as its three vertices do
  corner-cross : {e : ℕ} → In C e → cross_of (direction L p e) (direction L p (L.next e)) ≡ at_corners orient2d L p e
  unfolding direction
  corner-cross {e} l =
      ap (λ (v : ℕ). cross_of (difference (p v) (p (L.origin e))) (difference (p (to L (L.next e))) (p (L.origin (L.next e))))) (sym (W.links.origin-next l))
      ∙ cross-along (p (L.origin e)) (p (L.origin (L.next e))) (p (to L (L.next e)))
      ∙ ap (λ (v : ℕ). orient2d (p (L.origin e)) (p (L.origin (L.next e))) (p v)) (sym (W.links.origin-next (W.ranges.next< l)))
