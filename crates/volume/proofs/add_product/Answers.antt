-- `volume::add_product` meets its contract: nothing overflows. Assumes nothing.
use mathlib.Core.List.{[], ◌∷◌}
use Prim.Native.Nat.{ℕ, ◌^◌}
use lib.IntN.{ℤ, pos}
use Rattle.algebra.specs.Ring.{◌⊕◌, ◌⊗◌}
use Rattle.algebra.proofs.RingLaws.{v0, v1, v2}
use Rattle.algebra.proofs.Bound.{Env, []ᵉ, ◌∷ᵉ◌, fits64, reads64}
use Rattle.volume.specs.DigitSums.{SmallProduct}
use Rattle.volume.proofs.add_product.Goals as goal

env : {s : ℤ} {d : ℕ} {t : ℤ} → SmallProduct s d t → Env (s ∷ pos d ∷ t ∷ []) (2 ^ 61 ∷ 131072 ∷ 6291456 ∷ [])
env p = p.sum ∷ᵉ p.digit ∷ᵉ p.above ∷ᵉ []ᵉ

pub overflow_mul-result : goal.overflow_mul-result
overflow_mul-result c =
    fits64 (env c.requires) (v1 ⊗ v2) tt

pub overflow_add-result : goal.overflow_add-result
overflow_add-result c =
    fits64 (env c.requires) (v0 ⊕ v1 ⊗ v2) tt

pub returns : goal.returns
returns c =
    reads64 (env c.requires) (v0 ⊕ v1 ⊗ v2) tt
