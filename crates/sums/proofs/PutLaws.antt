-- Laws of specs/Put.antt.
use Rattle.std.specs.Prelude.{◌≡◌, refl, ◌≢◌, cond, ℕ, eqb}
use Rattle.std.proofs.Common.{sym, ◌∙◌, eq-eqb, ne_eqb}
use Rattle.std.proofs.Math.Path.{fun_ext}
use Rattle.std.proofs.Math.Decide.{ℕ_discrete}
use Rattle.sums.specs.Put.{put}

module _ {A : Type 0} (f : ℕ → A) where
  pub put_same : (a : ℕ) (v : A) → put f a v a ≡ v
  unfolding put
  put_same a v = rw (eq-eqb a a refl)

  pub put_other : (a : ℕ) (v : A) (x : ℕ) → x ≢ a → put f a v x ≡ f x
  unfolding put
  put_other a v x n = rw (ne_eqb x a n)

-- `search stores` finds the value of nested updates at a place, from facts a ≢ b in scope
pub ruleset stores = (put_same, put_other)

-- ---- equations of functions
module _ {A : Type 0} (f : ℕ → A) where
  -- a store of what was there already
  pub put_id : (a : ℕ) → put f a (f a) ≡ f
  put_id a = fun_ext (λ x. go x (ℕ_discrete x a))
    where
      go : (x : ℕ) → Dec (x ≡ a) → put f a (f a) x ≡ f x
      go x (yes e) = rw e (put_same f a (f a))
      go x (no n) = put_other f a (f a) x n

  -- the later of two stores at one place, and two stores at different places in either order
  pub put-put : (a : ℕ) (u v : A) → put (put f a u) a v ≡ put f a v
  put-put a u v = fun_ext (λ x. go x (ℕ_discrete x a))
    where
      go : (x : ℕ) → Dec (x ≡ a) → put (put f a u) a v x ≡ put f a v x
      go x (yes e) = rw e (put_same (put f a u) a v ∙ sym (put_same f a v))
      go x (no n) = put_other (put f a u) a v x n ∙ put_other f a u x n ∙ sym (put_other f a v x n)

  pub put-comm : (a b : ℕ) (u v : A) → a ≢ b → put (put f a u) b v ≡ put (put f b v) a u
  put-comm a b u v d = fun_ext (λ x. go x (ℕ_discrete x a) (ℕ_discrete x b))
    where
      go : (x : ℕ) → Dec (x ≡ a) → Dec (x ≡ b) → put (put f a u) b v x ≡ put (put f b v) a u x
      go x (yes p) (yes q) = absurd (d (sym p ∙ q))
      go x (yes p) (no m) = put_other (put f a u) b v x m ∙ rw p (put_same f a u ∙ sym (put_same (put f b v) a u))
      go x (no n) (yes q) = rw (put_other (put f b v) a u x n, q) (put_same (put f a u) b v ∙ sym (put_same f b v))
      go x (no n) (no m) = put_other (put f a u) b v x m ∙ put_other f a u x n ∙ sym (put_other (put f b v) a u x n ∙ put_other f b v x m)
