-- A loop along a round of f from a, that stops at the first place that passes a test, or where the round ends. It keeps
-- no count: where it is says how many steps it has made. m is at least n, below which f is a permutation. Assumes nothing.
use Rattle.std.specs.Prelude.{Bool, true, false, ◌≢◌, ◌≡◌, refl, T}
use Rattle.std.proofs.Math.Path.{sym, ap}
use Rattle.std.proofs.Common.{◌∙◌, subst, eqb→eq}
use Prim.Native.Nat.{ℕ, suc, ◌+◌, ◌-◌, ◌<◌, ◌≤◌}
use Rattle.std.proofs.Math.Decide.{ℕ_discrete, dec_lt}
use native.Mathlib.Omega.{arith}
use Rattle.std.proofs.Math.Dec.{eqb}
use Rattle.sums.proofs.BitLaws.{eq_test, from-true}
use Rattle.sums.specs.Bounded.{first_below}
use Rattle.sums.proofs.BoundedLaws.{up_to, first-below-is, first-below-before}
use Rattle.sums.specs.Iterate.{iter, Inverse, Period, period_below}
use Rattle.sums.proofs.IterateLaws.{iter-last, iter-add, iter-below, period-is, period-le, period-listed}

-- how many steps lead from a to e
unfoldable pub steps_to : ℕ → (ℕ → ℕ) → ℕ → ℕ → ℕ
steps_to m f a e = first_below m (λ k. eqb (iter k f a) e)

-- the walk meets e, and nothing before it passes
pub record Passing (m : ℕ) (f : ℕ → ℕ) (t : ℕ → Bool) (a e : ℕ) : Type 0 where
  pub at : iter (steps_to m f a e) f a ≡ e
  pub none : (j : ℕ) → j < steps_to m f a e → T (t (iter j f a)) → ⊥

-- where the first that passes stands
abbrev pub first_passing : ℕ → (ℕ → ℕ) → (ℕ → Bool) → ℕ → ℕ
first_passing n f t a = first_below (period_below n f a) (λ k. t (iter k f a))

module _ {n : ℕ} {f g : ℕ → ℕ} (inv : Inverse n f g) (t : ℕ → Bool) {a : ℕ} (l : a < n) {m : ℕ} (more : n ≤ m) where
  h : ℕ
  h = period_below n f a

  P : Period f a h
  unfolding h
  P = period-is inv l

  h-most : h ≤ n
  h-most = period-le inv l P

  -- the steps before the round ends lead to different places
  steps-is : {k e : ℕ} → k < h → iter k f a ≡ e → steps_to m f a e ≡ k
  unfolding steps_to
  steps-is {k} {e} u q =
      first-below-is m (λ j. eqb (iter j f a) e) (let b = h-most in omega arith) (λ v. eq_test q)
      (λ j v w. let z = (period-listed inv l P).once j k (omega arith) u (eqb→eq (iter j f a) e w ∙ sym q) in omega arith)

  pub passing-start : Passing m f t a a
  passing-start =
      let z = steps-is {k = 0} P.positive refl in
      record { at = ap (λ (k : ℕ). iter k f a) z; none = λ j u w. omega arith }

  module _ {e : ℕ} (K : Passing m f t a e) where
    pub passing-below : e < n
    passing-below = subst (λ (z : ℕ). z < n) K.at (iter-below inv (steps_to m f a e) l)

    within : steps_to m f a e < h
    unfolding steps_to
    within = go (dec_lt (steps_to m f a e) h)
      where
        go : Dec (steps_to m f a e < h) → first_below m (λ j. eqb (iter j f a) e) < h
        go (yes u) = u
        go (no u) =
            let k = first_below m (λ j. eqb (iter j f a) e) in
            let p = P.positive in
            let s : k ≡ h + (k - h) = omega arith in
            absurd (first-below-before m (λ j. eqb (iter j f a) e) (k - h) (omega arith)
            (eq_test (ap (iter (k - h) f) (sym P.back) ∙ sym (iter-add h (k - h) f a) ∙ ap (λ (j : ℕ). iter j f a) (sym s) ∙ K.at)))

    last : iter (suc (steps_to m f a e)) f a ≡ f e
    last = iter-last (steps_to m f a e) f a ∙ ap f K.at

    -- what the test says of e
    none-to : t e ≡ false → (j : ℕ) → j < suc (steps_to m f a e) → T (t (iter j f a)) → ⊥
    none-to q = up_to {P = λ j. T (t (iter j f a)) → ⊥} (steps_to m f a e) K.none (λ w. subst T (ap t K.at ∙ q) w)

    next-within : f e ≢ a → suc (steps_to m f a e) < h
    next-within d = go (ℕ_discrete (suc (steps_to m f a e)) h)
      where
        go : Dec (suc (steps_to m f a e) ≡ h) → suc (steps_to m f a e) < h
        go (yes z) = absurd (d (sym last ∙ ap (λ (k : ℕ). iter k f a) z ∙ P.back))
        go (no z) = let w = within in omega arith

    next-steps : f e ≢ a → steps_to m f a (f e) ≡ suc (steps_to m f a e)
    next-steps d = steps-is (next-within d) last

    pub passing-on : t e ≡ false → f e ≢ a → Passing m f t a (f e)
    passing-on q d = let z = next-steps d in record {
      at = ap (λ (k : ℕ). iter k f a) z ∙ last;
      none = λ j u. none-to q j (omega arith);
    }

    -- the loop's measure
    pub passing-less : f e ≢ a → m - steps_to m f a (f e) < m - steps_to m f a e
    passing-less d = let z = next-steps d in let w = next-within d in let b = h-most in omega arith

    -- the test passes: this is the first
    hit : t e ≡ true → first_passing n f t a ≡ steps_to m f a e
    unfolding h
    hit q =
        first-below-is h (λ k. t (iter k f a)) (let w = within in omega arith) (λ u. from-true (ap t K.at ∙ q)) K.none

    pub passing-hit : t e ≡ true → iter (first_passing n f t a) f a ≡ e
    passing-hit q = ap (λ (k : ℕ). iter k f a) (hit q) ∙ K.at

    pub passing-hit-below : t e ≡ true → first_passing n f t a < period_below n f a
    unfolding h
    passing-hit-below q = let z = hit q in let w = within in omega arith

    -- it does not, and the round ends: there is none
    pub passing-none : t e ≡ false → f e ≡ a → first_passing n f t a ≡ period_below n f a
    unfolding h
    passing-none q z = first-below-is h (λ k. t (iter k f a)) (omega arith) (λ u. absurd (omega arith)) (λ j u. none-to q j (let w = ends in omega arith))
      where
        ends : h ≤ suc (steps_to m f a e)
        ends = go (dec_lt (suc (steps_to m f a e)) h)
          where
            go : Dec (suc (steps_to m f a e) < h) → h ≤ suc (steps_to m f a e)
            go (yes u) = absurd (P.least (suc (steps_to m f a e)) (omega arith) u (last ∙ z))
            go (no u) = omega arith
