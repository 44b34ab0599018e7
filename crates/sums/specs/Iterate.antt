-- Iterates of a function on numbers: `iter k f a` is f applied k times to a, and `Reach f a b` says that some number of
-- steps leads from a to b.
-- Where f has an inverse below n (`Inverse`), each walk comes back: the least positive period (`Period`), and the
-- iterates before it are a list of different numbers.
-- Walks survive where a number is taken out of f's path or put into it, and where places are renamed. Assumes nothing.
use Rattle.std.specs.Prelude.{◌≡◌, refl, ◌≢◌, ◌⊎◌, false, ◌||◌, [], ◌∷◌, T, ℤ, ◌+ℤ◌}
use Rattle.std.proofs.Common.{sym, ◌∙◌, ap, subst, inl, inr, suc-add, zero-add, arith, eqb→eq}
use Rattle.std.proofs.Math.Bool.{Bool}
use Prim.Native.Nat.{ℕ, zero, suc, ◌+◌, ◌-◌, ◌<◌, ◌≤◌}
use Rattle.std.proofs.Math.Decide.{ℕ_discrete, dec_lt}
use Rattle.std.proofs.Math.Dec.{eqb}
use Rattle.algebra.specs.Ring.{◌⊕◌}
use Rattle.algebra.proofs.RingLaws.{v0, v1, v2}
use Rattle.algebra.proofs.Sign.{eq-in, eq-by}
use Rattle.sums.specs.Bit.{implies}
use Rattle.sums.specs.Bounded.{all_below, first_below}
use Rattle.sums.specs.Listed.{Listed, pigeonhole}
use Rattle.sums.specs.Sum.{sum}

-- the first step first
abbrev pub iter : ℕ → (ℕ → ℕ) → ℕ → ℕ
iter zero f a = a
iter (suc k) f a = iter k f (f a)

-- ---- reachability as a test: y is met within fewer than n steps from x
unfoldable pub reaches : ℕ → (ℕ → ℕ) → ℕ → ℕ → Bool
reaches zero f x y = false
reaches (suc n) f x y = eqb x y || reaches n f (f x) y

-- every two numbers below n that the test t names are joined by fewer than n steps
unfoldable pub joined : ℕ → (ℕ → ℕ → Bool) → (ℕ → ℕ) → Bool
joined n t f = all_below n (λ x. all_below n (λ y. implies (t x y) (reaches n f x y)))

-- ---- f and g undo one another on the numbers below n
pub record Inverse (n : ℕ) (f g : ℕ → ℕ) : Type 0 where
  pub there : (a : ℕ) → a < n → f a < n
  pub here : (a : ℕ) → a < n → g a < n
  pub gf : (a : ℕ) → a < n → g (f a) ≡ a
  pub fg : (a : ℕ) → a < n → f (g a) ≡ a

-- h is the least positive number of steps that lead from a back to a
pub record Period (f : ℕ → ℕ) (a h : ℕ) : Type 0 where
  pub positive : zero < h
  pub back : iter h f a ≡ a
  pub least : (k : ℕ) → zero < k → k < h → iter k f a ≢ a

-- the period, computed: the least positive number of steps up to n that leads back
unfoldable pub period_below : ℕ → (ℕ → ℕ) → ℕ → ℕ
period_below n f a = suc (first_below n (λ k. eqb (iter (suc k) f a) a))
