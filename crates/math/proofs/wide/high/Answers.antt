-- `math::wide::high` meets its contract: no operation overflows.
-- Assumes nothing.
use Rattle.algebra.specs.Ring.{◌⊕◌, ◌⊗◌}
use Rattle.algebra.proofs.RingLaws.{v0, v2, v4, v6}
use Rattle.algebra.proofs.Bound.{Env, fits64, reads64}
use Rattle.math.specs.Wide.{high_of}
use Rattle.math.proofs.WideLaws.{digits, limits, factors}
use Rattle.math.proofs.wide.high.Goals as goal

pub overflow_mul-result : goal.overflow_mul-result
overflow_mul-result c =
    let env : let a = c.args in Env (digits a.x a.y a.z a.w) limits = let p = c.requires in factors p.0 p.1 p.2 p.3 in
    fits64 (env) (v0 ⊗ v2) tt

pub overflow_mul-result-2 : goal.overflow_mul-result-2
overflow_mul-result-2 c =
    let env : let a = c.args in Env (digits a.x a.y a.z a.w) limits = let p = c.requires in factors p.0 p.1 p.2 p.3 in
    fits64 (env) (v4 ⊗ v6) tt

pub overflow_add-result : goal.overflow_add-result
overflow_add-result c =
    let env : let a = c.args in Env (digits a.x a.y a.z a.w) limits = let p = c.requires in factors p.0 p.1 p.2 p.3 in
    fits64 (env) (v0 ⊗ v2 ⊕ v4 ⊗ v6) tt

pub returns : goal.returns
unfolding high_of
returns c =
    let env : let a = c.args in Env (digits a.x a.y a.z a.w) limits = let p = c.requires in factors p.0 p.1 p.2 p.3 in
    reads64 (env) (v0 ⊗ v2 ⊕ v4 ⊗ v6) tt
