-- `math::Vector::cross` meets its contract: no operation overflows.
-- Assumes nothing.
use mathlib.Core.List.{[], ◌∷◌}
use Rattle.algebra.specs.Ring.{◌⊖◌, ◌⊗◌}
use Rattle.algebra.proofs.RingLaws.{v0, v1, v2, v3}
use Rattle.algebra.proofs.Bound.{Env, []ᵉ, ◌∷ᵉ◌, fits64, reads64}
use Rattle.math.specs.Vector.{cross_of}
use Rattle.math.proofs.Vector.cross.Goals as goal

pub overflow_mul-result : goal.overflow_mul-result
overflow_mul-result c =
    let env : let a = c.args in Env (a.self.x ∷ a.self.y ∷ a.other.x ∷ a.other.y ∷ []) (33554432 ∷ 33554432 ∷ 33554432 ∷ 33554432 ∷ []) = let p = c.requires.0 in let q = c.requires.1 in p.x ∷ᵉ p.y ∷ᵉ q.x ∷ᵉ q.y ∷ᵉ []ᵉ in
    fits64 (env) (v0 ⊗ v3) tt

pub overflow_mul-result-2 : goal.overflow_mul-result-2
overflow_mul-result-2 c =
    let env : let a = c.args in Env (a.self.x ∷ a.self.y ∷ a.other.x ∷ a.other.y ∷ []) (33554432 ∷ 33554432 ∷ 33554432 ∷ 33554432 ∷ []) = let p = c.requires.0 in let q = c.requires.1 in p.x ∷ᵉ p.y ∷ᵉ q.x ∷ᵉ q.y ∷ᵉ []ᵉ in
    fits64 (env) (v1 ⊗ v2) tt

pub overflow_sub-result : goal.overflow_sub-result
overflow_sub-result c =
    let env : let a = c.args in Env (a.self.x ∷ a.self.y ∷ a.other.x ∷ a.other.y ∷ []) (33554432 ∷ 33554432 ∷ 33554432 ∷ 33554432 ∷ []) = let p = c.requires.0 in let q = c.requires.1 in p.x ∷ᵉ p.y ∷ᵉ q.x ∷ᵉ q.y ∷ᵉ []ᵉ in
    fits64 (env) (v0 ⊗ v3 ⊖ v1 ⊗ v2) tt

pub returns : goal.returns
unfolding cross_of
returns c =
    let env : let a = c.args in Env (a.self.x ∷ a.self.y ∷ a.other.x ∷ a.other.y ∷ []) (33554432 ∷ 33554432 ∷ 33554432 ∷ 33554432 ∷ []) = let p = c.requires.0 in let q = c.requires.1 in p.x ∷ᵉ p.y ∷ᵉ q.x ∷ᵉ q.y ∷ᵉ []ᵉ in
    reads64 (env) (v0 ⊗ v3 ⊖ v1 ⊗ v2) tt
