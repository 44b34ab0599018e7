-- `math::Vector::dot` meets its contract: no operation overflows.
-- Assumes nothing.
use mathlib.Core.List.{[], ◌∷◌}
use Rattle.algebra.specs.Ring.{◌⊕◌, ◌⊗◌}
use Rattle.algebra.proofs.RingLaws.{v0, v1, v2, v3}
use Rattle.algebra.proofs.Bound.{Env, []ᵉ, ◌∷ᵉ◌, fits64, reads64}
use Rattle.math.specs.Vector.{dot_of}
use Rattle.math.proofs.Vector.dot.Goals as goal

pub overflow_mul-result : goal.overflow_mul-result
overflow_mul-result c =
    let env : let a = c.args in Env (a.self.x ∷ a.self.y ∷ a.other.x ∷ a.other.y ∷ []) (33554432 ∷ 33554432 ∷ 33554432 ∷ 33554432 ∷ []) = let p = c.requires.0 in let q = c.requires.1 in p.x ∷ᵉ p.y ∷ᵉ q.x ∷ᵉ q.y ∷ᵉ []ᵉ in
    fits64 (env) (v0 ⊗ v2) tt

pub overflow_mul-result-2 : goal.overflow_mul-result-2
overflow_mul-result-2 c =
    let env : let a = c.args in Env (a.self.x ∷ a.self.y ∷ a.other.x ∷ a.other.y ∷ []) (33554432 ∷ 33554432 ∷ 33554432 ∷ 33554432 ∷ []) = let p = c.requires.0 in let q = c.requires.1 in p.x ∷ᵉ p.y ∷ᵉ q.x ∷ᵉ q.y ∷ᵉ []ᵉ in
    fits64 (env) (v1 ⊗ v3) tt

pub overflow_add-result : goal.overflow_add-result
overflow_add-result c =
    let env : let a = c.args in Env (a.self.x ∷ a.self.y ∷ a.other.x ∷ a.other.y ∷ []) (33554432 ∷ 33554432 ∷ 33554432 ∷ 33554432 ∷ []) = let p = c.requires.0 in let q = c.requires.1 in p.x ∷ᵉ p.y ∷ᵉ q.x ∷ᵉ q.y ∷ᵉ []ᵉ in
    fits64 (env) (v0 ⊗ v2 ⊕ v1 ⊗ v3) tt

pub returns : goal.returns
unfolding dot_of
returns c =
    let env : let a = c.args in Env (a.self.x ∷ a.self.y ∷ a.other.x ∷ a.other.y ∷ []) (33554432 ∷ 33554432 ∷ 33554432 ∷ 33554432 ∷ []) = let p = c.requires.0 in let q = c.requires.1 in p.x ∷ᵉ p.y ∷ᵉ q.x ∷ᵉ q.y ∷ᵉ []ᵉ in
    reads64 (env) (v0 ⊗ v2 ⊕ v1 ⊗ v3) tt
