-- A store for each of the first n numbers that passes a test, in order: number i puts its value at its place. The last store at a place
-- stands. Assumes nothing.
use Rattle.std.specs.Prelude.{Bool, ◌≢◌, ◌≡◌, T}
use Rattle.std.proofs.Math.Bool.{true, false, cond}
use Rattle.std.proofs.lemmas.Bool.{false≢true}
use Rattle.std.proofs.Math.Path.{refl, ap}
use Rattle.std.proofs.Common.{sym, ◌∙◌}
use Prim.Native.Nat.{ℕ, zero, suc, ◌<◌, ◌≤◌}
use Rattle.std.proofs.Math.Decide.{ℕ_discrete}
use native.Mathlib.Omega.{arith}
use Rattle.sums.proofs.BitLaws.{from-true, is_true}
use Rattle.sums.specs.Put.{put}
use Rattle.sums.proofs.PutLaws.{put_same, put_other}

unfoldable pub put_each : {A : Type 0} → (ℕ → Bool) → (ℕ → ℕ) → (ℕ → A) → (ℕ → A) → ℕ → ℕ → A
put_each test place value f zero = f
put_each test place value f (suc n) =
    cond (test n) (put (put_each test place value f n) (place n) (value n)) (put_each test place value f n)
