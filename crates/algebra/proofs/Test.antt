-- What a branch on signed numbers tells. The logic has the test of two locals as an equation of a flag,
-- `lt_z u v ≡ true`, over what the machine reads of them, u and v; each lemma takes that these are a and b
-- (`to_z-of_z c.fits.x`, `reads64 env e tt`), and gives the fact about a and b.
-- `x > 0` is `0 < x`, and `x >= y` is `y <= x`. And two tests that pass alike are equal, as `x <= y` and `!(y < x)` are.
-- Assumes nothing.
use Rattle.std.specs.Prelude.{◌≡◌, refl, Bool, true, false, not, T, ℤ, ◌<ℤ◌, ◌≤ℤ◌}
use Rattle.std.proofs.Common.{sym, ◌∙◌, ap, subst, subst₂, le→leb}
use Rattle.std.specs.Int.Signed.{lt_z, le_z, lt_z_yes, lt_z_no, le_z_yes, clash_ℤ}
use Rattle.algebra.proofs.Order.{le_z-no}

module _ {u v a b : ℤ} (p : u ≡ a) (q : v ≡ b) where
  pub lt-taken : lt_z u v ≡ true → a <ℤ b
  lt-taken t = subst₂ (λ (x y : ℤ). x <ℤ y) p q (lt_z_yes (subst T (sym t) tt))

  pub lt-left : lt_z u v ≡ false → b ≤ℤ a
  lt-left t = subst₂ (λ (x y : ℤ). y ≤ℤ x) p q (lt_z_no (subst (λ (f : Bool). T (not f)) (sym t) tt))

  pub le-taken : le_z u v ≡ true → a ≤ℤ b
  le-taken t = subst₂ (λ (x y : ℤ). x ≤ℤ y) p q (le_z_yes (subst T (sym t) tt))

  pub le_left : le_z u v ≡ false → b <ℤ a
  le_left t = subst₂ (λ (x y : ℤ). y <ℤ x) p q (le_z-no (subst (λ (f : Bool). T (not f)) (sym t) tt))

-- two tests that pass alike
pub test-ext : (a b : Bool) → (T a → T b) → (T b → T a) → a ≡ b
test-ext true true f g = refl
test-ext true false f g = absurd (f tt)
test-ext false true f g = absurd (g tt)
test-ext false false f g = refl

-- at most is not above
pub le_not_lt : (a b : ℤ) → le_z a b ≡ not (lt_z b a)
le_not_lt a b = test-ext (le_z a b) (not (lt_z b a)) (λ t. go (lt_z b a) (λ u. clash_ℤ {a = b} {b = a} (lt_z_yes u) (le_z_yes t))) (λ t. (lt_z_no {a = b} {b = a} t).le)
  where
    go : (f : Bool) → (T f → ⊥) → T (not f)
    go true n = absurd (n tt)
    go false n = tt

-- so that a branch on the one tells of the other
pub le_read : (a b : ℤ) {t : Bool} → le_z a b ≡ t → lt_z b a ≡ not t
le_read a b k = go (lt_z b a) (sym (le_not_lt a b) ∙ k)
  where
    go : (f : Bool) {t : Bool} → not f ≡ t → f ≡ not t
    go true k = ap not k
    go false k = ap not k
