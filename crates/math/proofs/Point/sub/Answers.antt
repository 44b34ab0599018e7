-- `math::Point::sub` meets its contract: coordinates in range are widened and subtracted without overflow.
-- Assumes nothing.
use mathlib.Core.Path.{◌∙◌, ap₂}
use mathlib.Core.List.{[], ◌∷◌}
use lib.IntN.{ℤ, ◌-ℤ◌}
use mir.Syntax.{w32}
use mir.Val.{to_z, of_z}
use mir.Facts.{to_z-of_z}
use Rattle.algebra.specs.Ring.{◌⊖◌}
use Rattle.algebra.proofs.RingLaws.{v0, v1, v2, v3}
use Rattle.algebra.proofs.Bound.{Env, []ᵉ, ◌∷ᵉ◌, fits64, reads64, small-fits, small-read}
use Rattle.math.specs.Determinant.{InRange}
use Rattle.math.specs.Vector.{difference}
use Rattle.math.specs.declared.Point.{Point}
use Rattle.math.proofs.Point.sub.Goals as goal

-- a coordinate as the machine reads it
abbrev rd : ℤ → ℤ
rd z = to_z w32 (of_z w32 z)

read : (a b : Point) → InRange a → InRange b → Env (rd a.x ∷ rd b.x ∷ rd a.y ∷ rd b.y ∷ []) (16777216 ∷ 16777216 ∷ 16777216 ∷ 16777216 ∷ [])
read a b p q = small-read w32 a.x p.x tt ∷ᵉ small-read w32 b.x q.x tt ∷ᵉ small-read w32 a.y p.y tt ∷ᵉ small-read w32 b.y q.y tt ∷ᵉ []ᵉ

pub overflow_cast-result : goal.overflow_cast-result
overflow_cast-result c = fits64 (read c.args.self c.args.other c.requires.0 c.requires.1) v0 tt

pub overflow_cast-result-2 : goal.overflow_cast-result-2
overflow_cast-result-2 c = fits64 (read c.args.self c.args.other c.requires.0 c.requires.1) v1 tt

pub overflow_sub-result : goal.overflow_sub-result
overflow_sub-result c = fits64 (read c.args.self c.args.other c.requires.0 c.requires.1) (v0 ⊖ v1) tt

pub overflow_cast-result-3 : goal.overflow_cast-result-3
overflow_cast-result-3 c = fits64 (read c.args.self c.args.other c.requires.0 c.requires.1) v2 tt

pub overflow_cast-result-4 : goal.overflow_cast-result-4
overflow_cast-result-4 c = fits64 (read c.args.self c.args.other c.requires.0 c.requires.1) v3 tt

pub overflow_sub-result-2 : goal.overflow_sub-result-2
overflow_sub-result-2 c = fits64 (read c.args.self c.args.other c.requires.0 c.requires.1) (v2 ⊖ v3) tt

pub returns : goal.returns
unfolding difference
returns c =
    let a = c.args in
    let p = c.requires.0 in
    let q = c.requires.1 in
    let env = read a.self a.other p q in
    ap₂ (λ (x y : ℤ). record { x = x; y = y })
    (reads64 env (v0 ⊖ v1) tt ∙ ap₂ ◌-ℤ◌ (to_z-of_z (small-fits w32 {z = a.self.x} p.x tt)) (to_z-of_z (small-fits w32 {z = a.other.x} q.x tt)))
    (reads64 env (v2 ⊖ v3) tt ∙ ap₂ ◌-ℤ◌ (to_z-of_z (small-fits w32 {z = a.self.y} p.y tt)) (to_z-of_z (small-fits w32 {z = a.other.y} q.y tt)))
