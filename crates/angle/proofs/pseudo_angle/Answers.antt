-- MIR has each literal by its bit pattern, so `of_bits` is unfolded to see that the body is `pseudo_angle`; that is an angle by the law of `specs/Laws.antt`.
use Rattle.std.specs.Prelude.{◌≡◌, refl, false, Float}
use Rattle.std.proofs.Common.{sym, ◌∙◌, subst}
use Rattle.std.proofs.lemmas.Float.{T_from_true}
use Rattle.std.specs.Float.{nan, inf, fin, float_with_sign}
use Rattle.std.specs.Float.Ieee.{of_bits}
use Rattle.angle.specs.Angle.{pseudo_angle, of_diff, slope, absolute_of, IsAngle}
use Rattle.angle.proofs.Laws.{pseudo-is-angle}
use Rattle.angle.proofs.pseudo_angle.Goals as goal
use Rattle.angle.proofs.pseudo_angle.Goals.{then-y, else-y}

-- what `abs` ensures, in this crate's word
absolute : (x : Float) → float_with_sign false x ≡ absolute_of x
unfolding float_with_sign absolute_of
absolute nan = refl
absolute (inf s) = refl
absolute (fin s m e) = refl

pub returns-clause-is : goal.returns-clause-is
unfolding of_bits pseudo_angle of_diff slope
returns-clause-is c =
    let x-size = c.abs.ensures.value ∙ absolute _ in
    let y-size = c.abs-2.ensures.value ∙ absolute _ in
    elim c.if-y.branch [ then-y w ↦ simp w.if-y.true cc | else-y w ↦ simp w.if-y.false cc ]

pub returns-clause-angle : goal.returns-clause-angle
returns-clause-angle c =
    subst IsAngle (sym (returns-clause-is c)) (search (pseudo-is-angle, T_from_true, c.requires))
