-- `hull_center_rows::add_three` meets its contract: three numbers of 32 bits add up without overflow. Assumes nothing.
use mathlib.Core.List.{[], ◌∷◌}
use mathlib.Core.Path.{◌≡◌, ◌∙◌}
use lib.IntN.{ℤ}
use mir.Syntax.{w32}
use mir.Val.{SFits, to_z, of_z}
use mir.Facts.{to_z-of_z}
use Rattle.algebra.specs.Ring.{◌⊕◌}
use Rattle.algebra.proofs.RingLaws.{v0, v1, v2}
use Rattle.algebra.proofs.Bound.{Env, []ᵉ, ◌∷ᵉ◌, fits64, reads64}
use Rattle.hull_center_rows.proofs.Numbers.{read-abs, sums}
use Rattle.hull_center_rows.proofs.add_three.Goals as goal

-- a coordinate as the machine reads it
abbrev rd : ℤ → ℤ
rd z = to_z w32 (of_z w32 z)

two : {a b r s : ℤ} → SFits w32 a → SFits w32 b → r ≡ rd a → s ≡ rd b → Env (r ∷ s ∷ []) (2147483648 ∷ 2147483648 ∷ [])
two f g x y = read-abs x f ∷ᵉ read-abs y g ∷ᵉ []ᵉ

three : {a b c r s t : ℤ} → SFits w32 a → SFits w32 b → SFits w32 c → r ≡ rd a → s ≡ rd b → t ≡ rd c
    → Env (r ∷ s ∷ t ∷ []) (2147483648 ∷ 2147483648 ∷ 2147483648 ∷ [])
three f g h x y z = read-abs x f ∷ᵉ read-abs y g ∷ᵉ read-abs z h ∷ᵉ []ᵉ

pub overflow_add-result : goal.overflow_add-result
overflow_add-result c =
    fits64 (two c.ranges.a c.ranges.b c.from.ensures c.from-2.ensures) (v0 ⊕ v1) tt

pub overflow_add-result-2 : goal.overflow_add-result-2
overflow_add-result-2 c =
    fits64 (three c.ranges.a c.ranges.b c.ranges.c c.from.ensures c.from-2.ensures c.from-3.ensures) (v0 ⊕ v1 ⊕ v2) tt

pub returns : goal.returns
returns c =
    let f = c.ranges in
    reads64 (three f.a f.b f.c c.from.ensures c.from-2.ensures c.from-3.ensures) (v0 ⊕ v1 ⊕ v2) tt
    ∙ sums (c.from.ensures ∙ to_z-of_z f.a) (c.from-2.ensures ∙ to_z-of_z f.b) (c.from-3.ensures ∙ to_z-of_z f.c)
