-- `put f a v` is f with the value v at a: a store, of a row that is seen as a function. Assumes nothing.
use Rattle.std.specs.Prelude.{◌≡◌, refl, ◌≢◌, cond, ℕ, eqb}
use Rattle.std.proofs.Common.{sym, ◌∙◌, eq-eqb, ne_eqb}
use Rattle.std.proofs.Math.Path.{fun_ext}
use Rattle.std.proofs.Math.Decide.{ℕ_discrete}

unfoldable pub put : {A : Type 0} → (ℕ → A) → ℕ → A → ℕ → A
put f a v x = cond (eqb x a) v (f x)
