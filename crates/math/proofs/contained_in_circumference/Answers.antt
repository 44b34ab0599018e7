-- `math::contained_in_circumference` meets its contract: the two products add up to the determinant, of which the answer has the sign.
-- Assumes nothing.
use mathlib.Core.Path.{◌≡◌, sym, ◌∙◌, ap, ap₂, subst}
use Prim.Native.Nat.{◌≤◌}
use lib.IntN.{ℤ, pos, nat_abs, ◌+ℤ◌, ◌*ℤ◌}
use lib.Signed.{lt_z}
use mir.Syntax.{w64}
use mir.Facts.{to_z-of_z}
use borrow.Author.Rules.{sfits_of}
use Rattle.math.specs.declared.Vector.{Vector}
use Rattle.math.specs.Determinant.{incircle}
use Rattle.math.specs.Vector.{Short, dot_of, cross_of}
use Rattle.math.proofs.VectorLaws.{short, dot-small, cross-small, incircle-by}
use Rattle.math.specs.Wide.{AtMost51, sgn}
use Rattle.math.proofs.WideLaws.{sgn-test}
use Rattle.math.proofs.contained_in_circumference.Goals as goal

small : {r z : ℤ} → r ≡ z → nat_abs z ≤ 2251799813685248 → AtMost51 r
small e h = record { abs = subst (λ (z : ℤ). nat_abs z ≤ 2251799813685248) (sym e) h }

pub cross-requires : goal.cross-requires
cross-requires c =
    let u : Vector = c.sub-u.result in
    let v : Vector = c.sub-v.result in
    let s : Vector = c.sub-s.result in
    let t : Vector = c.sub-t.result in
    let shorts : Short u × Short v × Short s × Short t = let p = c.requires in (short c.sub-u.ensures p.0 p.2, short c.sub-v.ensures p.1 p.2, short c.sub-s.ensures p.0 p.3, short c.sub-t.ensures p.1 p.3) in
    let h = shorts in (h.1, h.0)

pub dot-requires : goal.dot-requires
dot-requires c =
    let u : Vector = c.sub-u.result in
    let v : Vector = c.sub-v.result in
    let s : Vector = c.sub-s.result in
    let t : Vector = c.sub-t.result in
    let shorts : Short u × Short v × Short s × Short t = let p = c.requires in (short c.sub-u.ensures p.0 p.2, short c.sub-v.ensures p.1 p.2, short c.sub-s.ensures p.0 p.3, short c.sub-t.ensures p.1 p.3) in
    let h = shorts in (h.2, h.3)

pub dot-requires-2 : goal.dot-requires-2
dot-requires-2 c =
    let u : Vector = c.sub-u.result in
    let v : Vector = c.sub-v.result in
    let s : Vector = c.sub-s.result in
    let t : Vector = c.sub-t.result in
    let shorts : Short u × Short v × Short s × Short t = let p = c.requires in (short c.sub-u.ensures p.0 p.2, short c.sub-v.ensures p.1 p.2, short c.sub-s.ensures p.0 p.3, short c.sub-t.ensures p.1 p.3) in
    let h = shorts in (h.0, h.1)

pub cross-requires-2 : goal.cross-requires-2
cross-requires-2 c =
    let u : Vector = c.sub-u.result in
    let v : Vector = c.sub-v.result in
    let s : Vector = c.sub-s.result in
    let t : Vector = c.sub-t.result in
    let shorts : Short u × Short v × Short s × Short t = let p = c.requires in (short c.sub-u.ensures p.0 p.2, short c.sub-v.ensures p.1 p.2, short c.sub-s.ensures p.0 p.3, short c.sub-t.ensures p.1 p.3) in
    let h = shorts in (h.2, h.3)

pub sum_sign-requires : goal.sum_sign-requires
sum_sign-requires c =
    let u : Vector = c.sub-u.result in
    let v : Vector = c.sub-v.result in
    let s : Vector = c.sub-s.result in
    let t : Vector = c.sub-t.result in
    let shorts : Short u × Short v × Short s × Short t = let p = c.requires in (short c.sub-u.ensures p.0 p.2, short c.sub-v.ensures p.1 p.2, short c.sub-s.ensures p.0 p.3, short c.sub-t.ensures p.1 p.3) in
    let h = shorts in (
      small (to_z-of_z {w = w64} (sfits_of c.cross.type_inv) ∙ c.cross.ensures) (cross-small h.1 h.0),
      small (to_z-of_z {w = w64} (sfits_of c.dot.type_inv) ∙ c.dot.ensures) (dot-small h.2 h.3),
      small (to_z-of_z {w = w64} (sfits_of c.dot-2.type_inv) ∙ c.dot-2.ensures) (dot-small h.0 h.1),
      small (to_z-of_z {w = w64} (sfits_of c.cross-2.type_inv) ∙ c.cross-2.ensures) (cross-small h.2 h.3),
    )

pub returns : goal.returns
returns c =
    let u : Vector = c.sub-u.result in
    let v : Vector = c.sub-v.result in
    let s : Vector = c.sub-s.result in
    let t : Vector = c.sub-t.result in
    let whole : let a = c.args in cross_of v u *ℤ dot_of s t +ℤ dot_of u v *ℤ cross_of s t ≡ incircle a.v1 a.v2 a.v3 a.p = let a = c.args in incircle-by a.v1 a.v2 a.v3 a.p c.sub-u.ensures c.sub-v.ensures c.sub-s.ensures c.sub-t.ensures in
    let a = c.args in
    ap (lt_z (pos 0)) {y = c.sum_sign.result} (to_z-of_z {w = w64} (sfits_of c.sum_sign.type_inv))
    ∙ sgn-test c.sum_sign.result (incircle a.v1 a.v2 a.v3 a.p)
    (c.sum_sign.ensures
    ∙ ap sgn (ap₂ ◌+ℤ◌ (ap₂ ◌*ℤ◌ (to_z-of_z {w = w64} (sfits_of c.cross.type_inv) ∙ c.cross.ensures) (to_z-of_z {w = w64} (sfits_of c.dot.type_inv) ∙ c.dot.ensures)) (ap₂ ◌*ℤ◌ (to_z-of_z {w = w64} (sfits_of c.dot-2.type_inv) ∙ c.dot-2.ensures) (to_z-of_z {w = w64} (sfits_of c.cross-2.type_inv) ∙ c.cross-2.ensures)) ∙ whole))
