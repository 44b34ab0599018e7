-- `math::wide::middle` meets its contract: no operation overflows.
-- Assumes nothing.
use Rattle.algebra.specs.Ring.{◌⊕◌, ◌⊗◌}
use Rattle.algebra.proofs.RingLaws.{v0, v1, v2, v3, v4, v5, v6, v7}
use Rattle.algebra.proofs.Bound.{Env, fits64, reads64}
use Rattle.math.specs.Wide.{middle_of}
use Rattle.math.proofs.WideLaws.{digits, limits, factors}
use Rattle.math.proofs.wide.middle.Goals as goal

pub overflow_mul-result : goal.overflow_mul-result
overflow_mul-result c =
    let env : let a = c.args in Env (digits a.x a.y a.z a.w) limits = let p = c.requires in factors p.0 p.1 p.2 p.3 in
    fits64 (env) (v0 ⊗ v3) tt

pub overflow_mul-result-2 : goal.overflow_mul-result-2
overflow_mul-result-2 c =
    let env : let a = c.args in Env (digits a.x a.y a.z a.w) limits = let p = c.requires in factors p.0 p.1 p.2 p.3 in
    fits64 (env) (v1 ⊗ v2) tt

pub overflow_add-result : goal.overflow_add-result
overflow_add-result c =
    let env : let a = c.args in Env (digits a.x a.y a.z a.w) limits = let p = c.requires in factors p.0 p.1 p.2 p.3 in
    fits64 (env) (v0 ⊗ v3 ⊕ v1 ⊗ v2) tt

pub overflow_mul-result-3 : goal.overflow_mul-result-3
overflow_mul-result-3 c =
    let env : let a = c.args in Env (digits a.x a.y a.z a.w) limits = let p = c.requires in factors p.0 p.1 p.2 p.3 in
    fits64 (env) (v4 ⊗ v7) tt

pub overflow_mul-result-4 : goal.overflow_mul-result-4
overflow_mul-result-4 c =
    let env : let a = c.args in Env (digits a.x a.y a.z a.w) limits = let p = c.requires in factors p.0 p.1 p.2 p.3 in
    fits64 (env) (v5 ⊗ v6) tt

pub overflow_add-result-2 : goal.overflow_add-result-2
overflow_add-result-2 c =
    let env : let a = c.args in Env (digits a.x a.y a.z a.w) limits = let p = c.requires in factors p.0 p.1 p.2 p.3 in
    fits64 (env) (v4 ⊗ v7 ⊕ v5 ⊗ v6) tt

pub overflow_add-result-3 : goal.overflow_add-result-3
overflow_add-result-3 c =
    let env : let a = c.args in Env (digits a.x a.y a.z a.w) limits = let p = c.requires in factors p.0 p.1 p.2 p.3 in
    fits64 (env) (v0 ⊗ v3 ⊕ v1 ⊗ v2 ⊕ (v4 ⊗ v7 ⊕ v5 ⊗ v6)) tt

pub returns : goal.returns
unfolding middle_of
returns c =
    let env : let a = c.args in Env (digits a.x a.y a.z a.w) limits = let p = c.requires in factors p.0 p.1 p.2 p.3 in
    reads64 (env) (v0 ⊗ v3 ⊕ v1 ⊗ v2 ⊕ (v4 ⊗ v7 ⊕ v5 ⊗ v6)) tt
