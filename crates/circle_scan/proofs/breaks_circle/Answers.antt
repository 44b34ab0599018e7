-- `circle_scan::breaks_circle` meets its contract. Assumes nothing.
use mathlib.Core.Path.{subst⁻¹}
use Rattle.circle_test.specs.BreaksLaws.{outer-e, outer-t, inner}
use Rattle.dcel.specs.Rows.{Placed}
use Rattle.circle_scan.proofs.breaks_circle.Goals as goal
use Rattle.circle_scan.proofs.breaks_circle.Goals.{then-face-eq0-via-then-face-eq0, then-face-eq0-via-else-face-eq0+then-face-eq0-2}

pub returns-then-face-eq0 : goal.returns-then-face-eq0
returns-then-face-eq0 c = elim c.then-face-eq0.branch [
  | then-face-eq0-via-then-face-eq0 w ↦ outer-e _ _ _ c.face.ensures w.if-face-eq0.true
  | then-face-eq0-via-else-face-eq0+then-face-eq0-2 w ↦ outer-t _ _ _ w.face-else-face-eq0.ensures w.if-face-eq0-2.true
]

pub is_inside-requires : goal.is_inside-requires
is_inside-requires c =
    let s = c.requires in (
      subst⁻¹ (Placed _) c.origin-a.ensures s.0.e.origin,
      subst⁻¹ (Placed _) c.origin-b.ensures s.0.t.origin,
      subst⁻¹ (Placed _) s.1 s.0.e.far,
      subst⁻¹ (Placed _) s.2 s.0.t.far,
    )

pub returns : goal.returns
returns c =
    let s = c.requires in
    inner _ _ _ c.face.ensures c.if-face-eq0.false c.face-else-face-eq0.ensures c.if-face-eq0-2.false
    c.origin-a.ensures c.origin-b.ensures s.1 s.2 c.is_inside.ensures
