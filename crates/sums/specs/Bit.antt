-- Tests that compute, as facts and as the numbers 0 and 1: `T t` says that the test t passes (`lib.Dec`), and `bit t`
-- is 1 where it does and 0 where not.
-- `Tells t P Q` is what a test tells by passing and by failing: a proof by cases on a test takes t as a variable and
-- `Tells t P Q` beside it.
-- Assumes nothing.
use Rattle.std.specs.Prelude.{◌≡◌, refl, ◌≢◌, ◌⊎◌, Bool, true, false, not, ◌&&◌, ◌||◌, ℕ, ◌<◌, ◌≤◌, T, ltb, leb, eqb}
use Rattle.std.proofs.Common.{sym, subst, inl, inr, arith, ltb→lt, nltb→le, leb→le, eqb→eq, T_not}
use Rattle.std.proofs.Math.Dec.{nleb→lt, eqb_refl, not_T}
-- two tests that pass alike are equal
pub use Rattle.algebra.proofs.Test.{test-ext}

abbrev pub bit : Bool → ℕ
bit true = 1
bit false = 0

abbrev pub implies : Bool → Bool → Bool
implies a b = not a || b
