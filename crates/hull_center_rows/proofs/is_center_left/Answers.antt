-- `hull_center_rows::is_center_left` meets its contract: the two cross products make the doubled area (`center-side`).
-- Assumes nothing.
use mathlib.Core.Path.{◌≡◌, sym, ◌∙◌, ap, ap₂, subst}
use Prim.Native.Nat.{◌≤◌}
use borrow.Author.Rules.{sfits_of}
use lib.IntN.{ℤ, pos, nat_abs, ◌+ℤ◌, ◌*ℤ◌}
use lib.Signed.{lt_z}
use mir.Facts.{to_z-of_z}
use mir.Syntax.{w64}
use mir.Val.{to_z, of_z}
use Rattle.math.proofs.VectorLaws.{short}
use Rattle.hull_center_rows.specs.Side.{WideSum, cross_sum, small-wide, less-three-wide, cross-small, center-side}
use Rattle.hull_center_rows.proofs.is_center_left.Goals as goal

pub cross-high-requires : goal.cross-high-requires
cross-high-requires c =
    let p = c.requires in
    (short c.sub-d.ensures p.1 p.0, subst WideSum (sym c.less_three.ensures) (less-three-wide p.2 p.0))

pub cross-low-requires : goal.cross-low-requires
cross-low-requires c =
    let p = c.requires in
    (short c.sub-d.ensures p.1 p.0, small-wide p.2)

pub is_positive-requires : goal.is_positive-requires
is_positive-requires c =
    let low-is : to_z w64 (of_z w64 c.cross-low.result) ≡ cross_sum c.sub-d.result c.args.sum = to_z-of_z {w = w64} (sfits_of c.cross-low.type_inv) ∙ c.cross-low.ensures in
    let p = c.requires in
    subst (λ (z : ℤ). nat_abs z ≤ 3377699720527872) (sym (low-is)) (cross-small (short c.sub-d.ensures p.1 p.0) p.2)

pub returns : goal.returns
returns c =
    let low-is : to_z w64 (of_z w64 c.cross-low.result) ≡ cross_sum c.sub-d.result c.args.sum = to_z-of_z {w = w64} (sfits_of c.cross-low.type_inv) ∙ c.cross-low.ensures in
    let a = c.args in
    c.is_positive.ensures
    ∙ ap₂ (λ (x y : ℤ). lt_z (pos 0) (x *ℤ pos 33554432 +ℤ y))
    (to_z-of_z {w = w64} (sfits_of c.cross-high.type_inv) ∙ c.cross-high.ensures ∙ ap₂ cross_sum c.sub-d.ensures c.less_three.ensures)
    (low-is ∙ ap (λ v. cross_sum v a.sum) c.sub-d.ensures)
    ∙ center-side a.a a.b a.sum
